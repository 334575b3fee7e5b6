use mathlib.Core.Bool.{not}
use mathlib.Core.Path.{ap, ◌∙◌}
use Rattle.sound.proofs.Left.{cmp-leb}
use Rattle.sound.proofs.Fields.{wrong-field, right-fields}
use Rattle.sound.proofs.Candidate.is_valid.Goals as goal

pub returns-then-not-fields : goal.returns-then-not-fields
returns-then-not-fields c =
    wrong-field _ _ _ _ _ _ _ _ (c.le.ensures ∙ cmp-leb 1 c.args.l.handle.0) (c.le-2.ensures ∙ cmp-leb c.args.l.handle.0 c.args.self.now.issued) c.known_mode.ensures c.known_state.ensures c.is_well_marked.ensures (ap not c.if-not-fields.true)

pub returns : goal.returns
returns c =
    right-fields _ _ _ _ _ _ _ _ (c.le.ensures ∙ cmp-leb 1 c.args.l.handle.0) (c.le-2.ensures ∙ cmp-leb c.args.l.handle.0 c.args.self.now.issued) c.known_mode.ensures c.known_state.ensures c.is_well_marked.ensures _ c.is_numbered.ensures (ap not c.if-not-fields.false)
