-- A map that takes the place of another: past the last run of either both have zeros, so its front and the other's rest are the map.
use Prim.Native.Nat.{ℕ, zero, suc, ◌+◌, ◌-◌, ◌≤◌, max}
use native.Mathlib.Omega.{arith}
use mathlib.Core.Path.{◌≡◌, refl, sym, ap, ap₂, ◌∙◌}
use mathlib.Core.Bool.{true, ◌&&◌}
use mathlib.Core.List.{List, [], ◌∷◌, ◌++◌, map}
use lib.Dec.{eqb}
use lib.ListN.{length, take, drop, replicate, length-drop, length-map, take-append-drop}
use lib.Seq.{drop-drop}
use borrow.Author.Tests.{eqb-true}
use Rattle.common.specs.Counters.{width}
use Rattle.common.specs.Tests.{zeros}
use Rattle.common.proofs.Bools.{and_left, and_right}
use Rattle.common.proofs.Blank.{zeros-from, blank}
use Rattle.xdr.specs.Be.{be}
use Rattle.xdr.proofs.Elements.{put-elements-other}
use Rattle.runs.specs.declared.Run.{Run}
use Rattle.runs.specs.Sound.{max_runs, sound_map}
use Rattle.runs.specs.Bytes.{run_layout, run_fields, runs_of, map_size, run_place, runs_end, sound_map_bytes}
use Rattle.runbytes.proofs.Facts.{map-facts}
use Rattle.pen.specs.Drawing.{Stored}

zeros-same : (xs ys : List ℕ) → length xs ≡ length ys → zeros xs ≡ true → zeros ys ≡ true → xs ≡ ys
zeros-same [] [] l u v = refl
zeros-same [] (y ∷ ys) l u v = absurd (let z : ⊥ = omega arith in z)
zeros-same (x ∷ xs) [] l u v = absurd (let z : ⊥ = omega arith in z)
zeros-same (x ∷ xs) (y ∷ ys) l u v =
    let a : x ≡ 0 = eqb-true x 0 (and_left (eqb x 0) (zeros xs) u) in
    let b : y ≡ 0 = eqb-true y 0 (and_left (eqb y 0) (zeros ys) v) in
    ap₂ (λ (n : ℕ) (l : List ℕ). n ∷ l) (a ∙ sym b) (zeros-same xs ys (omega arith) (and_right (eqb x 0) (zeros xs) u) (and_right (eqb y 0) (zeros ys) v))

zeros-drop : (n : ℕ) (xs : List ℕ) → zeros xs ≡ true → zeros (drop n xs) ≡ true
zeros-drop zero xs u = u
zeros-drop (suc n) [] u = u
zeros-drop (suc n) (x ∷ xs) u = zeros-drop n xs (and_right (eqb x 0) (zeros xs) u)

further : (a b : ℕ) (xs : List ℕ) → a ≤ b → zeros (drop a xs) ≡ true → zeros (drop b xs) ≡ true
further a b xs h u =
    let e : a + (b - a) ≡ b = omega arith in
    let d : drop (b - a) (drop a xs) ≡ drop b xs = drop-drop (b - a) a xs ∙ ap (λ (n : ℕ). drop n xs) e in
    rw (sym d) (zeros-drop (b - a) (drop a xs) u)

-- a sound map's zeros
map_tail : (m : List ℕ) → sound_map_bytes m ≡ true → zeros (drop (runs_end width m) m) ≡ true
unfolding sound_map_bytes
map_tail m e =
    let h = and_right (eqb (length m) (map_size width)) (sound_map (runs_of width m) && zeros (drop (runs_end width m) m)) e in
    and_right (sound_map (runs_of width m)) (zeros (drop (runs_end width m) m)) h

-- those of a map that is drawn over zeros
pub drawn-tail : (rs : List Run) (s : List ℕ) (k : ℕ) → Stored rs (replicate (map_size width) 0) s k → k ≤ max_runs → zeros (drop (run_place width k) s) ≡ true
drawn-tail rs s k d h =
    let c = length-map rs run_fields in
    rw (d.bytes h)
    (zeros-from _ (run_place width k) (λ b l. put-elements-other (run_layout width) (replicate (map_size width) 0) 0 0 (map run_fields rs) b (λ j p e. let n = d.count in omega arith) ∙ blank (map_size width) b))

pub replaced : (m s : List ℕ) (k e : ℕ) → sound_map_bytes m ≡ true → length s ≡ map_size width → zeros (drop (run_place width k) s) ≡ true
    → e ≡ run_place width (max (be 4 m 0) k) → e ≤ map_size width → take e s ++ drop e m ≡ s
replaced m s k e good long tail f h =
    let M = map-facts m good in
    let same : drop e m ≡ drop e s = zeros-same (drop e m) (drop e s) (length-drop e m ∙ omega arith ∙ sym (length-drop e s))
    (further (runs_end width m) e m (omega arith) (map_tail m good)) (further (run_place width k) e s (omega arith) tail) in
    ap (λ (x : List ℕ). take e s ++ x) same ∙ take-append-drop e s
