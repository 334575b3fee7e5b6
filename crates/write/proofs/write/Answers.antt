-- `write`: each refusal is a law of the rules, and an accepted call stores the piece's stretch.
use Rattle.std.proofs.Common.{◌≡◌, ◌+◌, ◌-◌, length, arith, true, false}
use native.Mathlib.Nat.{add-sub_cancel_left}
use Rattle.common.specs.Refusals.{answer_of}
use Rattle.runs.specs.Bytes.{sound_map_bytes}
use Rattle.stripe.specs.Piece.{piece}
use Rattle.stripe.specs.Refusals.{behind}
use Rattle.runs.specs.Ages.{value_of}
use Rattle.common.specs.Counters.{width}
use Rattle.runs.specs.Bytes.{runs_of}
use Rattle.std.proofs.lemmas.Grind.{common_steps}
use Rattle.write.proofs.Outcome.{write-unsound, write-unplaced, write-behind, write-accepted}
use Rattle.write.proofs.write.Goals as goal

pub returns-in_err-map : goal.returns-in_err-map
returns-in_err-map c =
    let a = c.args in
    let s : sound_map_bytes a.map.now ≡ false = grind (arith, common_steps) in
    let e : answer_of c.from_residual.result ≡ 12 = grind (arith, common_steps) in
    rw e (write-unsound a.map.now (piece a.first a.bytes.now a.age.number.0 a.age.pass.0) a.image.now s)

pub returns-in_err-piece : goal.returns-in_err-piece
returns-in_err-piece c =
    let a = c.args in
    let s : sound_map_bytes a.map.now ≡ true = grind (arith, common_steps) in
    let e : answer_of c.from_residual-in_err-piece.result ≡ answer_of c.of-2.result = grind (arith, common_steps) in
    let n : answer_of c.of-2.result ≡ 0 → ⊥ = grind (arith, common_steps) in
    rw e (write-unplaced a.map.now (piece a.first a.bytes.now a.age.number.0 a.age.pass.0) a.image.now s _ c.of-2.ensures.refusal n)

pub returns-then-is_behind : goal.returns-then-is_behind
returns-then-is_behind c =
    let a = c.args in
    let s : sound_map_bytes a.map.now ≡ true = grind (arith, common_steps) in
    let b : behind (runs_of width a.map.now) (value_of a.age) a.first (length a.bytes.now) ≡ true = grind (arith, common_steps) in
    write-behind a.map.now (piece a.first a.bytes.now a.age.number.0 a.age.pass.0) a.image.now s c.in_ok-piece.ensures.refusal b

pub returns : goal.returns
returns c =
    let a = c.args in
    let s : sound_map_bytes a.map.now ≡ true = grind (arith, common_steps) in
    let b : behind (runs_of width a.map.now) (value_of a.age) a.first (length a.bytes.now) ≡ false = grind (arith, common_steps) in
    write-accepted a.map.now (piece a.first a.bytes.now a.age.number.0 a.age.pass.0) a.image.now s c.in_ok-piece.ensures.refusal b
    (a.first + length a.bytes.now - a.first) c.store.new.part (add-sub_cancel_left a.first (length a.bytes.now)) (grind (arith, common_steps))
