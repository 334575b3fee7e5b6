use Rattle.sound.proofs.Whole.{bad-length, too_many, sound-is}
use Rattle.sound.proofs.table_sound.Goals as goal

pub returns-then-t-ne-TABLE_BYTES : goal.returns-then-t-ne-TABLE_BYTES
returns-then-t-ne-TABLE_BYTES c = bad-length _ c.if-t-ne-TABLE_BYTES.true

pub returns-then-n-gt-MAX_RECORDS : goal.returns-then-n-gt-MAX_RECORDS
returns-then-n-gt-MAX_RECORDS c = too_many _ _ c.count-n.ensures c.if-n-gt-MAX_RECORDS.true

pub returns : goal.returns
returns c =
    sound-is c.args.t.now c.count-n.result c.count-n.ensures c.issued.result _ _ _ _ c.if-t-ne-TABLE_BYTES.false c.if-n-gt-MAX_RECORDS.false c.issued.ensures.0 c.issued.ensures.1 c.place.ensures
    c.each_sound.ensures c.all_friends.ensures c.is_blank.ensures
