-- `note`: each answer is the first rule that is broken; the map is drawn in scratch, and log and map change only where it fits.
use native.Mathlib.Omega.{arith}
use mathlib.Core.Path.{◌≡◌, refl, sym, subst}
use Rattle.std.proofs.lemmas.Grind.{common_steps}
use Rattle.common.specs.Refusals.{answer_of}
use Rattle.runs.specs.Valid.{Valid}
use Rattle.note.proofs.Noting.{note-12, note-13, note-own, unrefused, entry, note-16, note-17, note-0}
use Rattle.note.proofs.Replacing.{drawn-tail}
use Rattle.note.proofs.note.Goals as goal

pub returns-in_err-runs : goal.returns-in_err-runs
returns-in_err-runs c =
    let a : answer_of c.from_residual.result ≡ 12 = grind (arith, common_steps) in
    rw a (note-12 _ _ _ _ (grind (arith, common_steps)))

pub returns-in_err-entries : goal.returns-in_err-entries
returns-in_err-entries c =
    let a : answer_of c.from_residual-in_err-entries.result ≡ 13 = grind (arith, common_steps) in
    rw a (note-13 _ _ _ _ (grind (arith, common_steps)) (grind (arith, common_steps)))

pub returns-in_err-place : goal.returns-in_err-place
returns-in_err-place c =
    let e : answer_of c.from_residual-in_err-place.result ≡ answer_of c.of-3.result = grind (arith, common_steps) in
    let n : answer_of c.of-3.result ≡ 0 → ⊥ = grind (arith, common_steps) in
    rw e (note-own _ _ _ _ (grind (arith, common_steps)) (grind (arith, common_steps)) _ c.of-3.ensures.refusal n)

pub raised-raised-requires : goal.raised-raised-requires
raised-raised-requires c =
    let p = unrefused c.args.map.now c.args.log.now c.args.e c.args.image (grind (arith, common_steps)) (grind (arith, common_steps)) c.in_ok-place.ensures.refusal in
    let q = entry _ _ _ _ p _ _ _ c.in_ok-place.ensures.ok in
    subst Valid (sym q) p.valid

pub returns-then-raised-gt-MAX_RUNS : goal.returns-then-raised-gt-MAX_RUNS
returns-then-raised-gt-MAX_RUNS c =
    let p = unrefused c.args.map.now c.args.log.now c.args.e c.args.image (grind (arith, common_steps)) (grind (arith, common_steps)) c.in_ok-place.ensures.refusal in
    let q = entry _ _ _ _ p _ _ _ c.in_ok-place.ensures.ok in
    let b : c.in_ok-runs.runs.bytes.now ≡ c.args.map.now = grind (arith, common_steps) in
    note-16 _ _ _ _ p _ q _ _ _ (rw b at c.raised-raised.ensures) c.if-raised-gt-MAX_RUNS.true

pub returns-then-count-ge-MAX_ENTRIES : goal.returns-then-count-ge-MAX_ENTRIES
returns-then-count-ge-MAX_ENTRIES c =
    let p = unrefused c.args.map.now c.args.log.now c.args.e c.args.image (grind (arith, common_steps)) (grind (arith, common_steps)) c.in_ok-place.ensures.refusal in
    let q = entry _ _ _ _ p _ _ _ c.in_ok-place.ensures.ok in
    let b : c.in_ok-runs.runs.bytes.now ≡ c.args.map.now = grind (arith, common_steps) in
    note-17 _ _ _ _ p _ q _ _ _ (rw b at c.raised-raised.ensures) c.if-raised-gt-MAX_RUNS.false (grind (arith, common_steps))

pub append-requires : goal.append-requires
append-requires c =
    let p = unrefused c.args.map.now c.args.log.now c.args.e c.args.image (grind (arith, common_steps)) (grind (arith, common_steps)) c.in_ok-place.ensures.refusal in
    (p.log.long, grind (arith, common_steps))

pub replace-requires : goal.replace-requires
replace-requires c =
    let p = unrefused c.args.map.now c.args.log.now c.args.e c.args.image (grind (arith, common_steps)) (grind (arith, common_steps)) c.in_ok-place.ensures.refusal in
    (p.mapped, c.if-raised-gt-MAX_RUNS.false, drawn-tail _ _ _ c.raised-raised.ensures c.if-raised-gt-MAX_RUNS.false)

pub returns : goal.returns
returns c =
    let p = unrefused c.args.map.now c.args.log.now c.args.e c.args.image (grind (arith, common_steps)) (grind (arith, common_steps)) c.in_ok-place.ensures.refusal in
    let q = entry _ _ _ _ p _ _ _ c.in_ok-place.ensures.ok in
    let b : c.in_ok-runs.runs.bytes.now ≡ c.args.map.now = grind (arith, common_steps) in
    note-0 _ _ _ _ p _ q _ _ _ (rw b at c.raised-raised.ensures) c.if-raised-gt-MAX_RUNS.false _ _ (grind (arith, common_steps)) refl c.replace.ensures c.append.ensures
