-- What a write changes is a stretch: of the image the piece's own, and of that, for a run of the piece's age, the bytes of the run.
use Prim.Native.Nat.{ℕ, zero, suc, ◌+◌, ◌-◌, ◌≤◌, ◌<◌, min}
use mathlib.Core.Path.{◌≡◌, refl, sym}
use mathlib.Core.List.{List, [], ◌∷◌, ◌++◌}
use native.Mathlib.Omega.{arith}
use lib.ListN.{length, take, drop, length-take, length-drop}
use lib.Seq.{take-length, drop-length}
use borrow.Author.Tests.{eq-eqb, ne_eqb}
use borrow.Rule.Slice.PartMut.{mid_of, put_mid}
use Rattle.runs.specs.declared.Run.{Run}
use Rattle.runs.specs.Owner.{age_of, owner}
use Rattle.runs.proofs.Over.{sides, over-in, over-before, over-after}
use Rattle.stripe.specs.Stripe.{stored, written}

module _ (map : List Run) (age : ℕ) where
  -- the first k bytes, and those from the byte c on
  split : (b c k : ℕ) (piece xs : List ℕ) → c ≡ b + k → k ≤ length piece
      → stored map age b piece xs ≡ stored map age b (take k piece) (take k xs) ++ stored map age c (drop k piece) (drop k xs)
  unfolding stored
  split b c zero piece xs e h = let q : b ≡ c = omega arith in rw q
  split b c (suc k) [] xs e h = absurd (omega arith)
  split b c (suc k) (p ∷ ps) [] e h = refl
  split b c (suc k) (p ∷ ps) (x ∷ xs) e h = rw (split (suc b) c k ps xs (omega arith) (omega arith))

  -- no byte is stored, as none has the age; all are, as all have it
  still : (b : ℕ) (piece xs : List ℕ) → ((x : ℕ) → b ≤ x → x < b + length piece → owner map x ≡ age → ⊥) → stored map age b piece xs ≡ xs
  unfolding stored
  still b piece [] f = refl
  still b [] (x ∷ xs) f = refl
  still b (p ∷ ps) (x ∷ xs) f =
      rw (ne_eqb (owner map b) age (f b (omega arith) (omega arith)), still (suc b) ps xs (λ y u v. f y (omega arith) (omega arith)))

  full : (b : ℕ) (piece xs : List ℕ) → length xs ≡ length piece → ((x : ℕ) → b ≤ x → x < b + length piece → owner map x ≡ age) → stored map age b piece xs ≡ piece
  unfolding stored
  full b [] [] e f = refl
  full b [] (x ∷ xs) e f = absurd (omega arith)
  full b (p ∷ ps) [] e f = absurd (omega arith)
  full b (p ∷ ps) (x ∷ xs) e f =
      rw (eq-eqb (owner map b) age (f b (omega arith) (omega arith)), full (suc b) ps xs (omega arith) (λ y u v. f y (omega arith) (omega arith)))

  pub written-part : (first k : ℕ) (piece image : List ℕ) → k ≡ length piece
      → written map first piece age image ≡ put_mid first k image (stored map age first piece (mid_of first k image))
  written-part first k piece image e =
      rw (
        e,
        split first (first + length piece) (length piece) piece (drop first image) refl (omega arith),
        take-length piece,
        drop-length piece,
        still (first + length piece) [] (drop (length piece) (drop first image)) (λ x u v. absurd (omega arith)),
      )

  -- what is stored are the bytes from place `from` up to before place `to`, as these have the age
  stretch : (b from to : ℕ) (piece xs : List ℕ) → from ≤ to → to ≤ length piece → length xs ≡ length piece
      → ((x : ℕ) → b ≤ x → x < b + from → owner map x ≡ age → ⊥) → ((x : ℕ) → b + from ≤ x → x < b + to → owner map x ≡ age)
      → ((x : ℕ) → b + to ≤ x → x < b + length piece → owner map x ≡ age → ⊥)
      → stored map age b piece xs ≡ put_mid from (to - from) xs (mid_of from (to - from) piece)
  stretch b from to piece xs h g l before inside after =
      let k : ℕ = to - from in
      rw (
        split b (b + from) from piece xs refl (omega arith),
        still b (take from piece) (take from xs) (λ x u v. let w = rw length-take at v in before x u (omega arith)),
        split (b + from) (b + to) k (drop from piece) (drop from xs) (omega arith) (rw length-drop (omega arith)),
        full (b + from) (take k (drop from piece)) (take k (drop from xs))
            (simp (length-take, length-drop, l)) (λ x u v. let w = simp (length-take, length-drop) at v in inside x u (omega arith)),
        still (b + to) (drop k (drop from piece)) (drop k (drop from xs)) (λ x u v. let w = simp length-drop at v in after x u (omega arith)),
      )

-- a run over a piece at the byte b
module _ (r : Run) (age b : ℕ) (piece xs : List ℕ) (some : 0 < age) where
  outside : (x : ℕ) → (age_of r ≡ age → r.first ≤ x → x ≤ r.last → ⊥) → owner (r ∷ []) x ≡ age → ⊥
  unfolding owner
  outside x h e =
      sides r x
      (λ u. omega (arith, over-before r x u))
      (λ u v. h (omega (arith, over-in r x u v)) u v)
      (λ u. omega (arith, over-after r x u))

  -- under another age it lets nothing through, and under the piece's the stretch of the piece that lies in it
  pub run-still : (age_of r ≡ age → ⊥) → xs ≡ stored (r ∷ []) age b piece xs
  run-still h = sym (still (r ∷ []) age b piece xs (λ x u v. outside x (λ e _ _. h e)))

  pub run-stretch : (from to : ℕ) → from ≡ min (r.first - b) (length piece) → to ≡ min (r.last + 1 - b) (length piece) → r.first ≤ r.last
      → age_of r ≡ age → length xs ≡ length piece → put_mid from (to - from) xs (mid_of from (to - from) piece) ≡ stored (r ∷ []) age b piece xs
  unfolding owner
  run-stretch from to f t up e l =
      sym
      (stretch (r ∷ []) age b from to piece xs (omega arith) (omega arith) l
      (λ x u v. outside x (λ _ w _. omega arith))
      (λ x u v. omega (arith, over-in r x (omega arith) (omega arith)))
      (λ x u v. outside x (λ _ _ w. omega arith)))
