-- A piece that is noted or written has a number and a pass that refusal 15 lets by, and of such pieces the age says the pair.
use Prim.Native.Nat.{◌≤◌, ◌<◌}
use native.Mathlib.Omega.{arith}
use mathlib.Core.Path.{◌≡◌, refl, sym, subst}
use mathlib.Core.Logic.{◌⊎◌, inl, inr, ⊎_elim}
use mathlib.Core.Bool.{Bool, true, false, ◌&&◌, cond}
use mathlib.Core.List.{List, [], ◌∷◌, ◌++◌}
use lib.ListN.{length}
use borrow.Author.Tests.{eqb-true}
use Rattle.common.specs.Counters.{width}
use Rattle.common.proofs.Bools.{and_right, never}
use Rattle.common.proofs.Order.{below}
use Rattle.runs.specs.Ages.{highest_pass, value_of}
use Rattle.runs.specs.Bytes.{runs_of, sound_map_bytes, sound_log_bytes}
use Rattle.runs.proofs.Ages.{sane-is}
use Rattle.stripe.specs.Piece.{extent_of, place_of}
use Rattle.stripe.proofs.Accepted.{Numbered, note-facts, write-facts}
use Rattle.note.specs.Note.{note_answer}
use Rattle.write.specs.Write.{write_answer}
use Rattle.promises.specs.Among.{Among}
use Rattle.promises.specs.Run.{Piece, age_of, Map, lost, live, Stripe, Step, note, note_cut, write, write_cut, restart, compact, compact_cut, turn, turn_cut, cut, note_ok, write_ok, next, notes, noted, Write, writes, accepted}
use Rattle.promises.specs.Demand3.{HasWrite, SamePair, AtMost}
use Rattle.promises.proofs.Members.{in_split}

-- its pass is one that 4 bytes count
abbrev pub Counted : Piece → Type 0
Counted p = p.pass ≤ highest_pass

numbered-counted : (p : Piece) → Numbered (extent_of p) → Counted p
numbered-counted p n = (sane-is (place_of p).age n.sane).most

-- age and pair
module _ (p q : Piece) (h : Counted p) (k : Counted q) where
  pub age-same : age_of p ≡ age_of q → SamePair p q
  unfolding value_of
  age-same e = (omega arith, omega arith)

  pub at_most : AtMost p q → age_of p ≤ age_of q
  unfolding value_of
  at_most (inl n) = omega arith
  at_most (inr e) = let n = e.0 in let m = e.1 in omega arith

  pub most-at : age_of p ≤ age_of q → AtMost p q
  unfolding value_of
  most-at a =
      ⊎_elim (λ (n : p.number < q.number). inl n)
      (λ (n : q.number ≤ p.number). let e : p.number ≡ q.number = omega arith in let m : p.pass ≤ q.pass = omega arith in inr (e, m))
      (below p.number q.number)

-- What a run notes and writes is counted
note-counted : (s : Stripe) (m : Map) (p : Piece) → note_ok s m p ≡ true → Counted p
unfolding note_ok note_answer
note-counted s lost p e = never e
note-counted s (live m) p e =
    numbered-counted p
    (note-facts (sound_map_bytes m) (sound_log_bytes s.log) (runs_of width m) (runs_of width s.log) (extent_of p) (length s.image)
    (eqb-true (note_answer m s.log (extent_of p) (length s.image)) 0 e)).numbered

write-counted : (s : Stripe) (m : Map) (p : Piece) → write_ok s m p ≡ true → Counted p
unfolding write_ok write_answer
write-counted s lost p e = never e
write-counted s (live m) p e =
    numbered-counted p
    (write-facts (sound_map_bytes m) (runs_of width m) (extent_of p) (length s.image) (eqb-true (write_answer m (extent_of p) (length s.image)) 0 e)).numbered

one-noted : (p q : Piece) (t : Bool) → (t ≡ true → Counted p) → Among q (cond t (p ∷ []) []) → Counted q
one-noted p q true h (inl e) = subst Counted (sym e) (h refl)
one-noted p q true h (inr k) = absurd k
one-noted p q false h k = absurd k

one_written : (p q : Piece) (c t : Bool) → (t ≡ true → Counted p) → HasWrite q (cond t (record { piece = p; whole = c } ∷ []) []) → Counted q
one_written p q c true h (inl e) = subst Counted (sym e) (h refl)
one_written p q c true h (inr k) = absurd k
one_written p q c false h k = absurd k

notes-counted : (s : Stripe) (e : Step) (q : Piece) → Among q (notes s e) → Counted q
unfolding notes
notes-counted s (note p) q k = one-noted p q (note_ok s s.map p) (note-counted s s.map p) k
notes-counted s (note_cut new junk p) q k = one-noted p q (new && note_ok s s.map p) (λ t. note-counted s s.map p (and_right new (note_ok s s.map p) t)) k
notes-counted s (write p) q k = absurd k
notes-counted s (write_cut junk p) q k = absurd k
notes-counted s (restart buffer) q k = absurd k
notes-counted s (compact buffer) q k = absurd k
notes-counted s compact_cut q k = absurd k
notes-counted s turn q k = absurd k
notes-counted s (turn_cut new) q k = absurd k
notes-counted s cut q k = absurd k

writes-counted : (s : Stripe) (e : Step) (q : Piece) → HasWrite q (writes s e) → Counted q
unfolding writes
writes-counted s (note p) q k = absurd k
writes-counted s (note_cut new junk p) q k = absurd k
writes-counted s (write p) q k = one_written p q true (write_ok s s.map p) (write-counted s s.map p) k
writes-counted s (write_cut junk p) q k = one_written p q false (write_ok s s.map p) (write-counted s s.map p) k
writes-counted s (restart buffer) q k = absurd k
writes-counted s (compact buffer) q k = absurd k
writes-counted s compact_cut q k = absurd k
writes-counted s turn q k = absurd k
writes-counted s (turn_cut new) q k = absurd k
writes-counted s cut q k = absurd k

has_split : (q : Piece) (ws rest : List Write) → HasWrite q (ws ++ rest) → HasWrite q ws ⊎ HasWrite q rest
has_split q [] rest h = inr h
has_split q (w ∷ ws) rest (inl e) = inl (inl e)
has_split q (w ∷ ws) rest (inr h) = ⊎_elim (λ (k : HasWrite q ws). inl (inr k)) (λ (k : HasWrite q rest). inr k) (has_split q ws rest h)

pub noted-counted : (es : List Step) (s : Stripe) (q : Piece) → Among q (noted s es) → Counted q
unfolding noted
noted-counted [] s q k = absurd k
noted-counted (e ∷ es) s q k =
    ⊎_elim (λ (m : Among q (notes s e)). notes-counted s e q m) (λ (m : Among q (noted (next s e) es)). noted-counted es (next s e) q m)
    (in_split q (notes s e) (noted (next s e) es) k)

pub accepted-counted : (es : List Step) (s : Stripe) (q : Piece) → HasWrite q (accepted s es) → Counted q
unfolding accepted
accepted-counted [] s q k = absurd k
accepted-counted (e ∷ es) s q k =
    ⊎_elim (λ (m : HasWrite q (writes s e)). writes-counted s e q m) (λ (m : HasWrite q (accepted (next s e) es)). accepted-counted es (next s e) q m)
    (has_split q (writes s e) (accepted (next s e) es) k)
