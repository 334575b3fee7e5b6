-- The seam: the write grants of a stripe are numbered 1, 2, 3, .., so the later grant's number is the greater, and demand 3 decides, in pairs.
use Prim.Native.Nat.{ℕ, zero, suc, ◌+◌, ◌≤◌, ◌<◌}
use native.Mathlib.Omega.{arith}
use mathlib.Core.Path.{◌≡◌, refl, sym, ap, ◌∙◌}
use mathlib.Core.Logic.{◌⊎◌, inl, inr}
use mathlib.Core.List.{List}
use lib.ListN.{length, get_or, replicate}
use Rattle.common.specs.Counters.{width}
use Rattle.common.specs.Tests.{up_from}
use Rattle.table.specs.Table.{Table, empty, last_of}
use Rattle.table.specs.Bytes.{table_size}
use Rattle.table.proofs.Zeros.{zeros-empty, zeros-sound}
use Rattle.locks.specs.declared.Message.{Message}
use Rattle.locks.specs.Settle.{Event}
use Rattle.locks.specs.Session.{table_after, events, numbers}
use Rattle.locks.proofs.Sessions.{session-numbers}
use Rattle.promises.specs.Run.{Piece}
use Rattle.promises.specs.Session.{Session}
use Rattle.promises.specs.Demand3.{AtMost}
use Rattle.promises.specs.Seam.{number_at, Seam}
use Rattle.promises.proofs.Demand3.{demand3}
use Rattle.promises.proofs.Sessions.{session-events}

row-length : (a k : ℕ) → length (up_from a k) ≡ k
row-length a zero = refl
row-length a (suc k) = ap suc (row-length (suc a) k)

row_at : (a k i : ℕ) → i < k → get_or (up_from a k) i 0 ≡ a + i
row_at a zero i h = absurd (let z : ⊥ = omega arith in z)
row_at a (suc k) zero h = omega arith
row_at a (suc k) (suc i) h = let e = row_at (suc a) k i (omega arith) in omega arith

pub seam : Seam
seam = record {
  grants = λ ms es v S s i j h k log image run F b earlier later e l only.
      (demand3 log image run F.empty F.agree F.sent F.finished).under b later
      (l.0, l.2, λ p m c. of_two ms es v S s i j h k p later l.1 (only p m c));
  passes = λ log image run F n b earlier later e l w only.
      (demand3 log image run F.empty F.agree F.sent F.finished).under b later
      (l.0, l.2, λ p m c. let o = only p m c in inr (o.0 ∙ sym l.1, o.1));
}
  where
    row : (ms : List Message) (es : List Event) (v : List ℕ) → Session (replicate (table_size width) 0) ms es v → (s : ℕ) → numbers s es ≡ up_from 1 (last_of (table_after empty ms) s)
    row ms es v S s =
        ap (numbers s) (session-events S zeros-sound)
        ∙ ap (λ (x : Table). numbers s (events x ms)) (zeros-empty (table_size width))
        ∙ session-numbers ms s

    of_two : (ms : List Message) (es : List Event) (v : List ℕ) → Session (replicate (table_size width) 0) ms es v → (s i j : ℕ) → i < j → j < length (numbers s es)
        → (p q : Piece) → q.number ≡ number_at s es j → (p.number ≡ number_at s es i) ⊎ ((p.number ≡ number_at s es j) × (p.pass ≤ q.pass)) → AtMost p q
    of_two ms es v S s i j h k p q l (inr e) = inr (e.0 ∙ sym l, e.1)
    of_two ms es v S s i j h k p q l (inl e) =
        let r = row ms es v S s in
        let n = ap length r ∙ row-length 1 (last_of (table_after empty ms) s) in
        let x : number_at s es i ≡ 1 + i = ap (λ (l : List ℕ). get_or l i 0) r ∙ row_at 1 (last_of (table_after empty ms) s) i (omega arith) in
        let y : number_at s es j ≡ 1 + j = ap (λ (l : List ℕ). get_or l j 0) r ∙ row_at 1 (last_of (table_after empty ms) s) j (omega arith) in
        inl (omega arith)
