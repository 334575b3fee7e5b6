use mathlib.Core.Path.{refl}
use Rattle.table.proofs.Removing.{taken-out}
use Rattle.table.proofs.Table.remove.Goals as goal

pub invariant_of-self : goal.invariant_of-self
invariant_of-self c =
    record {
      shape = (taken-out c.args.self.now.n c.args.i _ _ _ _ _ c.args.self.now.bytes.now _ _ _ c.args.self.now.shape c.requires c.place.ensures c.place-2.ensures c.place-3.ensures c.place-4.ensures c.place-5.ensures
          c.copy_within.ensures.len c.copy_within.ensures.by_index (c.fill.ensures.after (λ y e. e)) c.put_number.ensures).shape;
    }

pub returns : goal.returns
returns c = (
  taken-out c.args.self.now.n c.args.i _ _ _ _ _ c.args.self.now.bytes.now _ _ _ c.args.self.now.shape c.requires c.place.ensures c.place-2.ensures c.place-3.ensures c.place-4.ensures c.place-5.ensures
      c.copy_within.ensures.len c.copy_within.ensures.by_index (c.fill.ensures.after (λ y e. e)) c.put_number.ensures,
  refl,
  refl,
)
