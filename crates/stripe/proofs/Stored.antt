-- What a write leaves in each byte of the image: the piece's byte where the map's age is the piece's, and else what was there.
use Prim.Native.Nat.{ℕ, zero, suc, ◌+◌, ◌-◌, ◌≤◌, ◌<◌}
use mathlib.Core.Path.{◌≡◌, refl, sym, ◌∙◌, ap}
use mathlib.Core.Logic.{◌⊎◌, inl, inr}
use mathlib.Core.List.{List, [], ◌∷◌}
use native.Mathlib.Omega.{arith}
use lib.ListN.{length, get_or, take, drop, length-append, length-take, length-drop, get_or-append, get_or-eq_default}
use lib.Seq.{get_or-take, get_or-drop, get_or-append-add}
use borrow.Author.Tests.{eq-eqb, ne_eqb}
use Rattle.common.proofs.Order.{below}
use Rattle.runs.specs.declared.Run.{Run}
use Rattle.runs.specs.Owner.{owner}
use Rattle.stripe.specs.Stripe.{stored, written}

module _ (map : List Run) (age : ℕ) where
  pub stored-length : (b : ℕ) (piece xs : List ℕ) → length (stored map age b piece xs) ≡ length xs
  unfolding stored
  stored-length b piece [] = refl
  stored-length b [] (x ∷ xs) = refl
  stored-length b (p ∷ ps) (x ∷ xs) = ap suc (stored-length (suc b) ps xs)

  -- the i-th byte from b on, which is the byte c
  pub stored-in : (b : ℕ) (piece xs : List ℕ) (i c : ℕ) → c ≡ b + i → i < length piece → i < length xs → owner map c ≡ age → get_or (stored map age b piece xs) i 0 ≡ get_or piece i 0
  unfolding stored
  stored-in b piece [] i c e h k o = absurd (omega arith)
  stored-in b [] (x ∷ xs) i c e h k o = absurd (omega arith)
  stored-in b (p ∷ ps) (x ∷ xs) zero c e h k o =
      let q : c ≡ b = omega arith in
      rw (eq-eqb (owner map b) age (ap (owner map) (sym q) ∙ o))
  stored-in b (p ∷ ps) (x ∷ xs) (suc i) c e h k o = stored-in (suc b) ps xs i c (omega arith) (omega arith) (omega arith) o

  pub stored-out : (b : ℕ) (piece xs : List ℕ) (i c : ℕ) → c ≡ b + i → (i < length piece → owner map c ≡ age → ⊥) → get_or (stored map age b piece xs) i 0 ≡ get_or xs i 0
  unfolding stored
  stored-out b piece [] i c e h = refl
  stored-out b [] (x ∷ xs) i c e h = refl
  stored-out b (p ∷ ps) (x ∷ xs) zero c e h =
      let q : c ≡ b = omega arith in
      rw (ne_eqb (owner map b) age (λ o. h (omega arith) (ap (owner map) q ∙ o)))
  stored-out b (p ∷ ps) (x ∷ xs) (suc i) c e h = stored-out (suc b) ps xs i c (omega arith) (λ k o. h (omega arith) o)

module _ (map : List Run) (first : ℕ) (piece : List ℕ) (age : ℕ) (image : List ℕ) where
  pub written-length : length (written map first piece age image) ≡ length image
  written-length = simp (length-append, stored-length, length-take, length-drop) (omega arith)

  -- from the piece's first byte on
  middle : (b : ℕ) → first ≤ b → b < length image → get_or (written map first piece age image) b 0 ≡ get_or (stored map age first piece (drop first image)) (b - first) 0
  middle b h k =
      let e : b ≡ length (take first image) + (b - first) = simp length-take (omega arith) in
      ap (λ (i : ℕ). get_or (written map first piece age image) i 0) e ∙ get_or-append-add (take first image) _ (b - first) 0

  pub written_in : (b : ℕ) → first ≤ b → b < first + length piece → b < length image → owner map b ≡ age → get_or (written map first piece age image) b 0 ≡ get_or piece (b - first) 0
  written_in b h k l o =
      middle b h l ∙ stored-in map age first piece (drop first image) (b - first) b (omega arith) (omega arith) (simp length-drop (omega arith)) o

  pub written_out : (b : ℕ) → (first ≤ b → b < first + length piece → owner map b ≡ age → ⊥) → get_or (written map first piece age image) b 0 ≡ get_or image b 0
  written_out b h = go (below b (length image)) (below b first)
    where
      go : (b < length image) ⊎ (length image ≤ b) → (b < first) ⊎ (first ≤ b) → get_or (written map first piece age image) b 0 ≡ get_or image b 0
      go (inl k) (inl l) = get_or-append (take first image) _ 0 b (simp length-take (omega arith)) ∙ get_or-take first image b 0 l
      go (inl k) (inr l) =
          let e : first + (b - first) ≡ b = omega arith in
          middle b l k
          ∙ stored-out map age first piece (drop first image) (b - first) b (omega arith) (λ u o. h l (omega arith) o)
          ∙ get_or-drop first image (b - first) 0
          ∙ ap (λ (i : ℕ). get_or image i 0) e
      go (inr k) l = get_or-eq_default (written map first piece age image) 0 (omega (arith, written-length)) ∙ sym (get_or-eq_default image 0 k)
