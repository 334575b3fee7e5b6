-- `note`: the outcome by each answer. What the first four rules have passed is read once into facts.
use Prim.Native.Nat.{ℕ, ◌+◌, ◌-◌, ◌≤◌, ◌<◌}
use native.Mathlib.Omega.{arith}
use mathlib.Core.Path.{◌≡◌, sym, ◌∙◌, ap, subst}
use mathlib.Core.Bool.{true, false}
use mathlib.Core.List.{List, [], ◌∷◌}
use lib.Dec.{ltb, leb}
use lib.ListN.{length, replicate}
use borrow.Author.Tests.{ne_eqb, lt-ltb, le-ltb, le-leb, lt-leb}
use Rattle.common.specs.Counters.{width}
use Rattle.common.specs.Refusals.{Rule, rule, first_hit}
use Rattle.common.proofs.Firsts.{first-stays}
use Rattle.common.proofs.Refusals.{hit}
use Rattle.xdr.specs.Be.{be, put_be}
use Rattle.runs.specs.declared.Age.{Age}
use Rattle.runs.specs.declared.Run.{Run}
use Rattle.runs.specs.Map.{raise}
use Rattle.runs.specs.Sound.{max_runs, max_entries}
use Rattle.runs.specs.Bytes.{map_size, runs_of, sound_map_bytes, sound_log_bytes, map_bytes, appended}
use Rattle.runs.specs.Valid.{Valid}
use Rattle.runbytes.proofs.Places.{runs-length}
use Rattle.runbytes.proofs.Facts.{MapFacts, map-facts, LogFacts, log_facts}
use Rattle.stripe.specs.declared.Extent.{Extent}
use Rattle.stripe.specs.Piece.{place}
use Rattle.stripe.specs.Refusals.{misplaced, misnumbered}
use Rattle.stripe.proofs.Accepted.{placed, numbered, place-valid}
use Rattle.pen.specs.Drawing.{Stored}
use Rattle.note.specs.Note.{note_answer, note_map, note_log, Notes}
use Rattle.pen.proofs.Filling.{filled}
use Rattle.stripe.proofs.Placing.{piece-place}

module _ (m l : List ℕ) (e : Extent) (image : ℕ) where
  -- the rules of the piece alone, and those behind them
  abbrev own : List Rule
  own = rule 14 (misplaced e image) ∷ rule 15 (misnumbered e) ∷ []

  abbrev late : List Rule
  late = rule 16 (ltb max_runs (length (raise (place e) (runs_of width m)))) ∷ rule 17 (leb max_entries (length (runs_of width l))) ∷ []

  -- a refused note changes nothing
  refused : (k : ℕ) → (k ≡ 0 → ⊥) → k ≡ note_answer m l e image → Notes m l e image k m l
  unfolding note_map note_log
  refused k h a = record { answers = a; map = rw (← a, ne_eqb k 0 h); log = rw (← a, ne_eqb k 0 h) }

  accepted : (m' l' : List ℕ) → 0 ≡ note_answer m l e image → m' ≡ map_bytes width (raise (place e) (runs_of width m)) → l' ≡ appended width l (place e)
      → Notes m l e image 0 m' l'
  unfolding note_map note_log
  accepted m' l' a u v = record { answers = a; map = rw (← a) u; log = rw (← a) v }

  pub note-12 : sound_map_bytes m ≡ false → Notes m l e image 12 m l
  unfolding note_answer
  note-12 f = refused 12 (λ z. omega arith) (rw f)

  pub note-13 : sound_map_bytes m ≡ true → sound_log_bytes l ≡ false → Notes m l e image 13 m l
  unfolding note_answer
  note-13 f g = refused 13 (λ z. omega arith) (rw (f, g))

  pub note-own : sound_map_bytes m ≡ true → sound_log_bytes l ≡ true → (k : ℕ) → k ≡ first_hit own → (k ≡ 0 → ⊥) → Notes m l e image k m l
  unfolding note_answer
  note-own f g k h n = refused k n (rw (f, g) (h ∙ first-stays own late (λ z. n (h ∙ z))))

  pub record Unrefused : Type 0 where
    pub mapped : sound_map_bytes m ≡ true
    pub logged : sound_log_bytes l ≡ true
    pub placed : misplaced e image ≡ false
    pub numbered : misnumbered e ≡ false
    pub map : MapFacts m
    pub log : LogFacts l
    pub some : 0 < e.len
    pub valid : Valid (place e)

  pub unrefused : sound_map_bytes m ≡ true → sound_log_bytes l ≡ true → 0 ≡ first_hit own → Unrefused
  unrefused f g z =
      let h : (misplaced e image ≡ false) × (first_hit (rule 15 (misnumbered e) ∷ []) ≡ 0) = hit 13 (misplaced e image) (rule 15 (misnumbered e) ∷ []) (sym z) in
      let k : (misnumbered e ≡ false) × (first_hit [] ≡ 0) = hit 14 (misnumbered e) [] h.1 in
      let p = placed e image h.0 in
      record {
        mapped = f;
        logged = g;
        placed = h.0;
        numbered = k.0;
        map = map-facts m f;
        log = log_facts l g;
        some = p.some;
        valid = place-valid e p (numbered e k.0);
      }

  -- the entry, with a last byte that does not wrap
  pub entry : Unrefused → (first len : ℕ) (age : Age) → (first ≡ e.first) × (len ≡ e.len) × (age ≡ e.age)
      → record { first = first; last = first + (len - 1); age = age } ≡ place e
  entry P first len age h = rw (h.0, h.1, h.2) (piece-place e P.some)

  module _ (P : Unrefused) (r : Run) (q : r ≡ place e) (old s : List ℕ) (k : ℕ) (d : Stored (raise r (runs_of width m)) old s k) where
    drawn : Stored (raise (place e) (runs_of width m)) old s k
    drawn = subst (λ (r : Run). Stored (raise r (runs_of width m)) old s k) q d

    pub note-16 : max_runs < k → Notes m l e image 16 m l
    unfolding note_answer
    note-16 h = refused 16 (λ z. omega arith) (rw (P.mapped, P.logged, P.placed, P.numbered, ← drawn.count, lt-ltb max_runs k h))

    module _ (h : k ≤ max_runs) where
      pub note-17 : max_entries ≤ be 4 l 0 → Notes m l e image 17 m l
      unfolding note_answer
      note-17 n = refused 17 (λ z. omega arith) (rw (P.mapped, P.logged, P.placed, P.numbered, ← drawn.count, le-ltb max_runs k h, runs-length l, le-leb max_entries (be 4 l 0) n))

      pub note-0 : (m' l' : List ℕ) → be 4 l 0 < max_entries → old ≡ replicate (map_size width) 0 → m' ≡ put_be 4 s 0 k → l' ≡ appended width l r → Notes m l e image 0 m' l'
      unfolding note_answer
      note-0 m' l' n z u v =
          accepted m' l'
          (rw (P.mapped, P.logged, P.placed, P.numbered, ← drawn.count, le-ltb max_runs k h, runs-length l, lt-leb max_entries (be 4 l 0) n))
          (u ∙ filled (raise (place e) (runs_of width m)) s k (rw z at drawn) h)
          (v ∙ ap (appended width l) q)
