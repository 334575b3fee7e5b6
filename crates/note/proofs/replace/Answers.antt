-- `replace`: the front of scratch, as far as the last run of either map, and the old map's zeros are the new map.
use Prim.Native.Nat.{ℕ, ◌-◌, ◌≤◌, max}
use native.Mathlib.Omega.{arith}
use mathlib.Core.Path.{◌≡◌, ◌∙◌, ap}
use mathlib.Core.List.{List}
use mathlib.Core.Bool.{true}
use Rattle.common.specs.Counters.{width}
use Rattle.runs.specs.Sound.{max_runs}
use Rattle.runs.specs.Bytes.{map_size, run_place, sound_map_bytes}
use Rattle.xdr.specs.Be.{be, put_be}
use Rattle.runbytes.proofs.Facts.{map-facts}
use Rattle.note.proofs.Replacing.{replaced}
use Rattle.note.proofs.replace.Goals as goal

-- where the copy ends: inside of both maps
ends : (m : List ℕ) (k n g e : ℕ) → n ≡ be 4 m 0 → g ≡ max n k → e ≡ run_place width g → e ≡ run_place width (max (be 4 m 0) k)
ends m k n g e a b f = f ∙ ap (run_place width) (b ∙ ap (λ (n : ℕ). max n k) a)

inside : (m : List ℕ) (k e : ℕ) → sound_map_bytes m ≡ true → k ≤ max_runs → e ≡ run_place width (max (be 4 m 0) k) → e ≤ map_size width
inside m k e good h f = omega (arith, (map-facts m good).few)

pub returns : goal.returns
returns c =
    let e = ends c.args.map.now c.args.k _ _ _ c.count.ensures.0 c.max-most.ensures c.place-end.ensures in
    let h = inside c.args.map.now c.args.k _ c.requires.0 c.requires.1 e in
    let z : c.place-end.result - 0 ≡ c.place-end.result = omega arith in
    c.put_count.ensures
    ∙ ap (λ (l : List ℕ). put_be 4 l 0 c.args.k) (rw (c.copy_from_slice.ensures.after, z) (replaced c.args.map.now c.args.scratch.now c.args.k c.place-end.result c.requires.0 (omega arith) c.requires.2 e h))

pub count-requires : goal.count-requires
count-requires c = omega (arith, (map-facts c.args.map.now c.requires.0).long)

pub slice_bounds-copy_from_slice-end : goal.slice_bounds-copy_from_slice-end
slice_bounds-copy_from_slice-end c =
    let e = ends c.args.map.now c.args.k _ _ _ c.count.ensures.0 c.max-most.ensures c.place-end.ensures in
    omega (arith, inside c.args.map.now c.args.k _ c.requires.0 c.requires.1 e, (map-facts c.args.map.now c.requires.0).long)

pub slice_bounds-copy_from_slice-end-2 : goal.slice_bounds-copy_from_slice-end-2
slice_bounds-copy_from_slice-end-2 c =
    let e = ends c.args.map.now c.args.k _ _ _ c.count.ensures.0 c.max-most.ensures c.place-end.ensures in
    omega (arith, inside c.args.map.now c.args.k _ c.requires.0 c.requires.1 e)
