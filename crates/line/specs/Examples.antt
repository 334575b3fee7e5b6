-- Lines of each kind.
use Rattle.std.specs.Prelude.{◌≡◌, refl, false, [], ◌∷◌, map, Some, None}
use Rattle.locks.specs.declared.Message.TheVariants.{Request, Acknowledge, Downgrade, Release}
use Rattle.line.specs.Format.{bytes, read_digits, read_number, read_field, read_fields, by_letter, read_line}

-- "no leading zeros except 0 itself, at most 2^64 - 1"; fields too few, too many, empty; another letter; a CR that is no part of a break
pub lines-say :
    map (λ l. read_line (bytes l))
    ("R,1,2,3,4,5" ∷ "A,0,10" ∷ "D,63,0" ∷ "F,18446744073709551615,1"
    ∷ "F,18446744073709551616,1" ∷ "F,01,1" ∷ "F,1,00" ∷ "F,1" ∷ "F,1,1,1" ∷ "F,,1" ∷ "G,1,1" ∷ "" ∷ "F,1,1\r" ∷ [])
    ≡ Some (Request 1 2 3 4 5 false) ∷ Some (Acknowledge 0 10) ∷ Some (Downgrade 63 0) ∷ Some (Release 18446744073709551615 1)
    ∷ None ∷ None ∷ None ∷ None ∷ None ∷ None ∷ None ∷ None ∷ None ∷ []
unfolding read_digits read_number read_field read_fields by_letter read_line
lines-say = refl
