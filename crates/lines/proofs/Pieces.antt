-- Piece after piece gives the lines of the whole input: a cut may fall anywhere, within a line or within its break.
use Prim.Native.Nat.{ℕ, suc, ◌+◌, ◌<◌}
use Prim.Native.Char.{code}
use mathlib.Core.Path.{◌≡◌, refl, sym, ap, ◌∙◌}
use mathlib.Core.Bool.{Bool, true, false, cond}
use mathlib.Core.List.{List, [], ◌∷◌, ◌++◌, append-nil, append_assoc}
use native.Mathlib.Omega.{arith}
use native.Mathlib.Numerals.{add-one}
use lib.Dec.{eqb}
use lib.ListN.{length, get_or, take, length-take}
use lib.Seq.{take-suc, take_all, get_or-take}
use borrow.Author.Tests.{ne_eqb}
use Rattle.lines.specs.Lines.{bare, lines_from, lines_in, left}
use Rattle.lines.specs.Buffers.{Keeps, Gathered}

-- the lines of s and t are those that end in s, and then those of t behind what s leaves
pub lines_cut : (p s t : List ℕ) → lines_from p (s ++ t) ≡ lines_in p s ++ lines_from (left p s) t
unfolding lines_from lines_in left
lines_cut p [] t = refl
lines_cut p (b ∷ s) t = go (eqb b (code "\n")) (lines_cut [] s t) (lines_cut (p ++ (b ∷ [])) s t)
  where
    q : List ℕ
    q = p ++ (b ∷ [])

    go : (x : Bool) → lines_from [] (s ++ t) ≡ lines_in [] s ++ lines_from (left [] s) t
        → lines_from q (s ++ t) ≡ lines_in q s ++ lines_from (left q s) t
        → cond x (bare p ∷ lines_from [] (s ++ t)) (lines_from q (s ++ t))
        ≡ cond x (bare p ∷ lines_in [] s) (lines_in q s) ++ lines_from (cond x (left [] s) (left q s)) t
    go true u v = ap (λ ls. bare p ∷ ls) u
    go false u v = v

pub lines_join : (p s t : List ℕ) → lines_in p (s ++ t) ≡ lines_in p s ++ lines_in (left p s) t
unfolding lines_in left
lines_join p [] t = refl
lines_join p (b ∷ s) t = go (eqb b (code "\n")) (lines_join [] s t) (lines_join (p ++ (b ∷ [])) s t)
  where
    q : List ℕ
    q = p ++ (b ∷ [])

    go : (x : Bool) → lines_in [] (s ++ t) ≡ lines_in [] s ++ lines_in (left [] s) t
        → lines_in q (s ++ t) ≡ lines_in q s ++ lines_in (left q s) t
        → cond x (bare p ∷ lines_in [] (s ++ t)) (lines_in q (s ++ t))
        ≡ cond x (bare p ∷ lines_in [] s) (lines_in q s) ++ lines_in (cond x (left [] s) (left q s)) t
    go true u v = ap (λ ls. bare p ∷ ls) u
    go false u v = v

pub left_join : (p s t : List ℕ) → left p (s ++ t) ≡ left (left p s) t
unfolding left
left_join p [] t = refl
left_join p (b ∷ s) t = go (eqb b (code "\n")) (left_join [] s t) (left_join (p ++ (b ∷ [])) s t)
  where
    q : List ℕ
    q = p ++ (b ∷ [])

    go : (x : Bool) → left [] (s ++ t) ≡ left (left [] s) t → left q (s ++ t) ≡ left (left q s) t
        → cond x (left [] (s ++ t)) (left q (s ++ t)) ≡ left (cond x (left [] s) (left q s)) t
    go true u v = u
    go false u v = v

-- no break stands in s
abbrev pub Clear : List ℕ → Type 0
Clear s = (k : ℕ) → k < length s → get_or s k 0 ≡ code "\n" → ⊥

clear : (p s : List ℕ) → Clear s → (lines_in p s ≡ []) × (left p s ≡ p ++ s)
unfolding lines_in left
clear p [] h = (refl, sym (append-nil p))
clear p (b ∷ s) h =
    let R = clear (p ++ (b ∷ [])) s (λ k l. h (suc k) (omega arith)) in
    rw (ne_eqb b (code "\n") (h 0 (omega arith))) (R.0, R.1 ∙ append_assoc p (b ∷ []) s)

module _ (p s q : List ℕ) where
  -- no line ends in s behind p, and q is kept of the line so far
  pub gathered-part : Clear s → Keeps q (p ++ s) → Gathered p (take (length s) s) q false
  gathered-part h k =
      let R = clear p s h in
      rw (take_all (length s) s (omega arith)) (record { line = p ++ s; keeps = k; ends = R.0; rest = R.1 })

  -- a line ends with the break at i
  pub gathered-line : (i : ℕ) → i < length s → get_or s i 0 ≡ code "\n" → ((k : ℕ) → k < i → get_or s k 0 ≡ code "\n" → ⊥) → Keeps q (p ++ take i s)
      → Gathered p (take (i + 1) s) q true
  unfolding lines_in left
  gathered-line i l e h k =
      let R = clear p (take i s) (λ j m f. let n : j < i = omega (arith, length-take i s) in h j n (sym (get_or-take i s j 0 n) ∙ f)) in
      record {
        line = p ++ take i s;
        keeps = k;
        ends = rw (add-one, take-suc s i 0 l, lines_join p (take i s) (get_or s i 0 ∷ []), e, R.0, R.1);
        rest = rw (add-one, take-suc s i 0 l, left_join p (take i s) (get_or s i 0 ∷ []), e);
      }
