-- Runs of one byte with a byte between them: a sound map, and one run more for each.
use Prim.Native.Nat.{ℕ, zero, suc, ◌+◌, ◌*◌, ◌≤◌, ◌<◌}
use native.Mathlib.Omega.{arith}
use mathlib.Core.Bool.{true}
use mathlib.Core.List.{List, [], ◌∷◌, ◌++◌, map}
use mathlib.Core.Path.{◌≡◌, refl, sym, ap, subst, ◌∙◌}
use lib.ListN.{length}
use Rattle.common.specs.Counters.{width}
use Rattle.common.specs.Ranges.{eof}
use Rattle.xdr.specs.Array.{Fits}
use Rattle.runs.specs.declared.Run.{Run}
use Rattle.runs.specs.Owner.{run, owner}
use Rattle.runs.specs.Map.{map_of, raise}
use Rattle.runs.specs.Sound.{max_runs, all_valid, sound_map}
use Rattle.runs.specs.Valid.{Valid}
use Rattle.runs.specs.Bytes.{run_layout, run_fields}
use Rattle.runs.proofs.Ages.{exact-age, highest_age, age-run, oldest, oldest-sane}
use Rattle.runs.proofs.Over.{over-is}
use Rattle.runs.proofs.Canon.{Next, Canon, none, next}
use Rattle.runs.proofs.Unique.{map-map, map_snoc}
use Rattle.runs.proofs.Valid.{valid-cons}
use Rattle.runs.proofs.Sound.{map-sound}
use Rattle.runs.proofs.MapBytes.{run_fits}

pub spaced : ℕ → ℕ → List Run
spaced b zero = []
spaced b (suc n) = run b b oldest ∷ spaced (b + 2) n

pub spaced-length : (b n : ℕ) → length (spaced b n) ≡ n
unfolding spaced
spaced-length b zero = refl
spaced-length b (suc n) = ap suc (spaced-length (b + 2) n)

spaced-canon : (b n p q : ℕ) → p < b → Canon p q (spaced b n)
unfolding spaced
spaced-canon b zero p q h = none
spaced-canon b (suc n) p q h =
    let w : Next p q (run b b oldest) = record { after = omega arith; rising = omega arith; some = omega (arith, age-run b b oldest); exact = exact-age oldest; other = λ e _. omega arith } in
    next w (spaced-canon (b + 2) n (suc b) _ (omega arith))

one-valid : (b : ℕ) → b ≤ eof → Valid (run b b oldest)
one-valid b h = record { rising = omega arith; short = h; some = oldest-sane }

pub spaced-valid : (b n : ℕ) → b + 2 * n ≤ eof → all_valid (spaced b n) ≡ true
unfolding spaced
spaced-valid b zero h = refl
spaced-valid b (suc n) h = valid-cons (run b b oldest) (spaced (b + 2) n) (one-valid b (omega arith)) (spaced-valid (b + 2) n (omega arith))

pub spaced-fit : (b n : ℕ) → b + 2 * n ≤ eof → Fits (run_layout width) (map run_fields (spaced b n))
unfolding spaced
spaced-fit b zero h = tt
spaced-fit b (suc n) h = (run_fits (run b b oldest) (one-valid b (omega arith)) (omega (arith, age-run b b oldest)), spaced-fit (b + 2) n (omega arith))

pub spaced-small : (b n x : ℕ) → owner (spaced b n) x ≤ highest_age
unfolding spaced owner
spaced-small b zero x = omega arith
spaced-small b (suc n) x =
    let o = over-is (λ (k : ℕ). k ≤ highest_age) (run b b oldest) x (omega (arith, age-run b b oldest)) (omega arith) in
    omega (arith, spaced-small (b + 2) n x)

pub spaced-map : (n : ℕ) → map_of (spaced 1 n) ≡ spaced 1 n
spaced-map n = map-map (spaced 1 n) (spaced-canon 1 n 0 0 (omega arith))

pub spaced-sound : (n : ℕ) → n ≤ max_runs → sound_map (spaced 1 n) ≡ true
spaced-sound n h =
    subst (λ (l : List Run). sound_map l ≡ true) (spaced-map n)
    (map-sound (spaced 1 n) (spaced-valid 1 n (omega arith)) (rw (spaced-map n) (rw (spaced-length 1 n) h)))

spaced-snoc : (b n : ℕ) → spaced b (suc n) ≡ spaced b n ++ (run (b + 2 * n) (b + 2 * n) oldest ∷ [])
unfolding spaced
spaced-snoc b zero = let e : b ≡ b + 2 * 0 = omega arith in ap (λ (k : ℕ). run k k oldest ∷ []) e
spaced-snoc b (suc n) =
    let e : (b + 2) + 2 * n ≡ b + 2 * suc n = omega arith in
    ap (λ (l : List Run). run b b oldest ∷ l) (spaced-snoc (b + 2) n ∙ ap (λ (k : ℕ). spaced (b + 2) n ++ (run k k oldest ∷ [])) e)

-- one run more
pub spaced-raised : (n : ℕ) → raise (run (1 + 2 * n) (1 + 2 * n) oldest) (spaced 1 n) ≡ spaced 1 (suc n)
spaced-raised n =
    ap (λ (l : List Run). raise (run (1 + 2 * n) (1 + 2 * n) oldest) l) (sym (spaced-map n))
    ∙ sym (map_snoc (spaced 1 n) (run (1 + 2 * n) (1 + 2 * n) oldest))
    ∙ ap map_of (sym (spaced-snoc 1 n))
    ∙ spaced-map (suc n)
