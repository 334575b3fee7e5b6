-- A run whose calls the rules all accept: each of its pieces is noted and written. The thought: calls on bytes answer as the rules do.
use Prim.Native.Nat.{ℕ}
use native.Mathlib.Omega.{arith}
use mathlib.Core.Path.{◌≡◌, refl, sym, ap, subst, ◌∙◌}
use mathlib.Core.Logic.{◌⊎◌, inl, inr}
use mathlib.Core.Bool.{Bool, true, ◌&&◌, cond}
use mathlib.Core.List.{List, [], ◌∷◌, ◌++◌}
use lib.Dec.{eqb}
use lib.ListN.{length, replicate}
use Rattle.common.specs.Counters.{width}
use Rattle.common.proofs.Bools.{and_left, and_right}
use Rattle.runs.specs.Ages.{value_of, age}
use Rattle.runs.specs.Owner.{over, owner}
use Rattle.runs.specs.Map.{map_of, end, draw, put, join}
use Rattle.runs.specs.Sound.{sound_map, sound_log, sane, apart}
use Rattle.runs.specs.Bytes.{map_size}
use Rattle.stripe.specs.Refusals.{behind}
use Rattle.stripe.specs.Stripe as rules
use Rattle.stripe.specs.Stripe.{note, write, stored}
use Rattle.promises.specs.Among.{Among}
use Rattle.promises.specs.Run as run
use Rattle.note.specs.Note.{note_map, note_log}
use Rattle.write.specs.Write.{write_image}
use Rattle.promises.specs.Run.{Piece, extent_of, byte_of, live, Stripe, EmptyLog, begin, Step, note_ok, write_ok, after_note, after_write, next, notes, noted, Write, writes, accepted}
use Rattle.promises.specs.Examples.{dots}
use Rattle.promises.specs.Demand3.{HasWrite, SamePair, Agree, Finished}
use Rattle.promises.specs.Premises.{first, second, Met}
use Rattle.promises.proofs.Carried.{Carried, carried, begin-carried}
use Rattle.promises.proofs.Followed.{stripe, decoded, note-answer, write-answer, note-stripe, write-stripe}
use Rattle.promises.proofs.OnBytes.{begins}

-- notes and writes, and the steps, the noted pieces and the writes that they are
data Act : Type 0 where
  noting : Piece → Act
  writing : Piece → Act

steps : List Act → List Step
steps [] = []
steps (noting p ∷ cs) = run.note p ∷ steps cs
steps (writing p ∷ cs) = run.write p ∷ steps cs

noted_by : List Act → List Piece
noted_by [] = []
noted_by (noting p ∷ cs) = p ∷ noted_by cs
noted_by (writing p ∷ cs) = noted_by cs

written_by : List Act → List Write
written_by [] = []
written_by (noting p ∷ cs) = written_by cs
written_by (writing p ∷ cs) = record { piece = p; whole = true } ∷ written_by cs

-- the rules accept them all
accepts : rules.Stripe → List Act → Bool
accepts x [] = true
accepts x (noting p ∷ cs) = eqb (note x (extent_of p)).refusal 0 && accepts (note x (extent_of p)).stripe cs
accepts x (writing p ∷ cs) = eqb (write x p).refusal 0 && accepts (write x p).stripe cs

record Goes (cs : List Act) (s : Stripe) : Type 0 where
  noted : noted s (steps cs) ≡ noted_by cs
  accepted : accepted s (steps cs) ≡ written_by cs

goes : (cs : List Act) (m log image : List ℕ) → Carried (stripe m log image) → accepts (decoded (stripe m log image)) cs ≡ true → Goes cs (stripe m log image)
unfolding steps noted_by written_by accepts noted accepted notes writes next after_note after_write note_ok write_ok
goes [] m log image C e = record { noted = refl; accepted = refl }
goes (noting p ∷ cs) m log image C e =
    let s : Stripe = stripe m log image in
    let x : rules.Stripe = decoded s in
    let a = and_left (eqb (note x (extent_of p)).refusal 0) (accepts (note x (extent_of p)).stripe cs) e in
    let b = and_right (eqb (note x (extent_of p)).refusal 0) (accepts (note x (extent_of p)).stripe cs) e in
    let ok : note_ok s (live m) p ≡ true = ap (λ (n : ℕ). eqb n 0) (note-answer m log image C (extent_of p)) ∙ a in
    let R = goes cs (note_map m log (extent_of p) (length image)) (note_log m log (extent_of p) (length image)) image (carried s (run.note p) C)
    (ap (λ (y : rules.Stripe). accepts y cs) (note-stripe m log image C p) ∙ b) in
    record {
      noted = ap (λ (t : Bool). cond t (p ∷ []) [] ++ noted (next s (run.note p)) (steps cs)) ok ∙ ap (λ (l : List Piece). p ∷ l) R.noted;
      accepted = R.accepted;
    }
goes (writing p ∷ cs) m log image C e =
    let s : Stripe = stripe m log image in
    let x : rules.Stripe = decoded s in
    let a = and_left (eqb (write x p).refusal 0) (accepts (write x p).stripe cs) e in
    let b = and_right (eqb (write x p).refusal 0) (accepts (write x p).stripe cs) e in
    let ok : write_ok s (live m) p ≡ true = ap (λ (n : ℕ). eqb n 0) (write-answer m log image C p) ∙ a in
    let R = goes cs m log (write_image m p image) (carried s (run.write p) C) (ap (λ (y : rules.Stripe). accepts y cs) (write-stripe m log image C p) ∙ b) in
    record {
      noted = R.noted;
      accepted = ap (λ (t : Bool). cond t (record { piece = p; whole = true } ∷ []) [] ++ accepted (next s (run.write p)) (steps cs)) ok
          ∙ ap (λ (l : List Write). record { piece = p; whole = true } ∷ l) R.accepted;
    }

-- the run of two passes
acts : List Act
acts = noting first ∷ writing first ∷ noting second ∷ writing second ∷ noting first ∷ writing first ∷ []

all-accepted : (log : List ℕ) → EmptyLog log → accepts (decoded (begin log dots)) acts ≡ true
unfolding acts accepts note write stored behind sound_map sound_log sane apart map_of end draw put join owner over age value_of
all-accepted log E = ap (λ (y : rules.Stripe). accepts y acts) (begins log E) ∙ refl

-- pieces of one pair are one piece here
ours : (p : Piece) → HasWrite p (written_by acts) → (p ≡ first) ⊎ (p ≡ second)
unfolding acts written_by
ours p (inl e) = inl e
ours p (inr (inl e)) = inr e
ours p (inr (inr (inl e))) = inl e
ours p (inr (inr (inr z))) = absurd z

one : (p q : Piece) → SamePair p q → (p ≡ first) ⊎ (p ≡ second) → (q ≡ first) ⊎ (q ≡ second) → p ≡ q
one p q e (inl u) (inl v) = u ∙ sym v
one p q e (inr u) (inr v) = u ∙ sym v
one p q e (inl u) (inr v) = let a = ap (λ (r : Piece). r.pass) u in let b = ap (λ (r : Piece). r.pass) v in let c = e.1 in absurd (let z : ⊥ = omega arith in z)
one p q e (inr u) (inl v) = let a = ap (λ (r : Piece). r.pass) u in let b = ap (λ (r : Piece). r.pass) v in let c = e.1 in absurd (let z : ⊥ = omega arith in z)

pub met : Met
unfolding acts steps noted_by written_by
met log E =
    let G = goes acts (replicate (map_size width) 0) log dots (begin-carried log dots E) (all-accepted log E) in (
      record {
        empty = E;
        agree = subst Agree (sym G.accepted) (λ p q h k e b c d. ap (λ (r : Piece). byte_of r b) (one p q e (ours p h) (ours q k)));
        sent = λ p h. subst (HasWrite p) (sym G.accepted) (subst (Among p) G.noted h);
        finished = subst Finished (sym G.accepted) (λ _. refl, (λ _. refl, (λ _. refl, tt)));
      },
      G.noted,
    )
