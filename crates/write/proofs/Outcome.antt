-- A write's answer decides the image: refused, it stays; accepted, the piece's stretch is what is stored there. The rules are judged one after the
-- other: that the map is sound, those of the piece alone, and that the map is not behind it.
use Prim.Native.Nat.{ℕ}
use mathlib.Core.Path.{◌≡◌, sym, ◌∙◌}
use mathlib.Core.Bool.{Bool, true, false}
use mathlib.Core.List.{List, [], ◌∷◌}
use native.Mathlib.Omega.{arith}
use lib.ListN.{length}
use borrow.Author.Tests.{ne_eqb}
use borrow.Rule.Slice.PartMut.{mid_of, put_mid}
use Rattle.common.specs.Counters.{width}
use Rattle.common.specs.Refusals.{Rule, rule, first_hit}
use Rattle.common.proofs.Firsts.{first-stays}
use Rattle.common.proofs.Refusals.{hit}
use Rattle.runs.specs.Owner.{age_of}
use Rattle.runs.specs.Bytes.{runs_of, sound_map_bytes}
use Rattle.stripe.specs.Piece.{Piece, extent_of, place_of}
use Rattle.stripe.specs.Refusals.{misplaced, misnumbered, behind}
use Rattle.stripe.specs.Stripe.{stored}
use Rattle.stripe.proofs.Stretch.{written-part}
use Rattle.write.specs.Write.{write_answer, write_image, Writes}

module _ (map : List ℕ) (p : Piece) (image : List ℕ) where
  write-refused : (r : ℕ) → r ≡ write_answer map (extent_of p) (length image) → (r ≡ 0 → ⊥) → Writes map p image r image
  unfolding write_image
  write-refused r e n = record { answers = e; stores = rw (← e, ne_eqb r 0 n) }

  pub write-unsound : sound_map_bytes map ≡ false → Writes map p image 12 image
  unfolding write_answer
  write-unsound s = write-refused 12 (rw s) (λ z. omega arith)

  -- the rules of the piece alone, and whether the map is behind it
  abbrev own : List Rule
  own = rule 14 (misplaced (extent_of p) (length image)) ∷ rule 15 (misnumbered (extent_of p)) ∷ []

  abbrev late : Bool
  late = behind (runs_of width map) (age_of (place_of p)) p.first (length p.bytes)

  module _ (s : sound_map_bytes map ≡ true) where
    pub write-unplaced : (r : ℕ) → r ≡ first_hit own → (r ≡ 0 → ⊥) → Writes map p image r image
    unfolding write_answer
    write-unplaced r e n = write-refused r (rw s (e ∙ first-stays own (rule 18 late ∷ []) (λ z. n (e ∙ z)))) n

    module _ (e : 0 ≡ first_hit own) where
      asked : write_answer map (extent_of p) (length image) ≡ first_hit (rule 18 late ∷ [])
      unfolding write_answer
      asked =
          let h : (misplaced (extent_of p) (length image) ≡ false) × (first_hit (rule 15 (misnumbered (extent_of p)) ∷ []) ≡ 0) =
          hit 13 (misplaced (extent_of p) (length image)) (rule 15 (misnumbered (extent_of p)) ∷ []) (sym e) in
          let k : (misnumbered (extent_of p) ≡ false) × (first_hit [] ≡ 0) = hit 14 (misnumbered (extent_of p)) [] h.1 in
          rw (s, h.0, k.0)

      pub write-behind : late ≡ true → Writes map p image 18 image
      write-behind b = write-refused 18 (rw (asked, b)) (λ z. omega arith)

      pub write-accepted : late ≡ false → (k : ℕ) (part : List ℕ) → k ≡ length p.bytes
          → part ≡ stored (runs_of width map) (age_of (place_of p)) p.first p.bytes (mid_of p.first k image) → Writes map p image 0 (put_mid p.first k image part)
      unfolding write_image
      write-accepted b k part l q =
          let z : 0 ≡ write_answer map (extent_of p) (length image) = rw (asked, b) in
          record { answers = z; stores = rw (← z, q, written-part (runs_of width map) (age_of (place_of p)) p.first k p.bytes image l) }
