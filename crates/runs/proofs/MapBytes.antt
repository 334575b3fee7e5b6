-- The bytes of a sound map whose ages fit are a sound map's bytes, and say it.
use Prim.Native.Nat.{ℕ, zero, suc, ◌+◌, ◌^◌, ◌≤◌, ◌<◌}
use native.Mathlib.Omega.{arith}
use mathlib.Core.Bool.{true, ◌&&◌}
use mathlib.Core.List.{List, [], ◌∷◌, map}
use mathlib.Core.Path.{◌≡◌, refl, sym, ap, ◌∙◌}
use lib.Dec.{eqb}
use lib.ListN.{length, drop, replicate, length-replicate, length-map}
use borrow.Author.Tests.{eq-eqb}
use Rattle.common.specs.Counters.{width}
use Rattle.common.specs.Tests.{zeros}
use Rattle.common.proofs.Bools.{and_left, and_right}
use Rattle.common.proofs.Blank.{zeros-from, blank}
use Rattle.xdr.specs.Be.{Bytes, be}
use Rattle.xdr.specs.Layout.{fields, Fit}
use Rattle.xdr.specs.Array.{array, array_size, Fits}
use Rattle.xdr.specs.Tab.{tab}
use Rattle.xdr.proofs.Numbers.{be-lt}
use Rattle.xdr.proofs.Tabs.{length-tab}
use Rattle.xdr.proofs.Arrays.{array-put, put-array-length, put-array-other}
use Rattle.runs.specs.declared.Run.{Run}
use Rattle.runs.specs.Ages.{pass_width}
use Rattle.runs.specs.Owner.{age_of, owner}
use Rattle.runs.specs.Sound.{all_valid, sound_map}
use Rattle.runs.specs.Valid.{Valid}
use Rattle.runs.specs.Bytes.{run_layout, run_of, run_fields, runs_of, map_size, run_place, runs_end, sound_map_bytes, bytes_of, map_bytes}
use Rattle.runs.proofs.Ages.{highest_age, age-fits, fits-age, sane-is}
use Rattle.runs.proofs.Over.{over-is}
use Rattle.runs.proofs.Canon.{Canon, none, next, canon-head}
use Rattle.runs.proofs.Valid.{valid-head, valid-rest}
use Rattle.runs.proofs.Sound.{sound-is, sound-canon}

-- A valid run fits its fields if its age does
pub run_fits : (r : Run) → Valid r → age_of r ≤ highest_age → Fit (run_layout width) (run_fields r)
run_fits r v h = let a = age-fits r.age h in let s = sane-is r.age v.some in (omega arith, (omega arith, (omega arith, (omega arith, tt))))

-- Of canonical runs each has the age of its first byte
runs_fit : {p q : ℕ} {rs : List Run} → Canon p q rs → all_valid rs ≡ true → ((b : ℕ) → owner rs b ≤ highest_age) → Fits (run_layout width) (map run_fields rs)
unfolding owner
runs_fit none v h = tt
runs_fit (next {r = r} {rs = rs} n c) v h =
    let w = valid-head r rs v in
    let e = canon-head r.first (next n c) (omega arith) w.rising in
    (run_fits r w (omega (arith, h r.first)), runs_fit c (valid-rest r rs v) (λ b. omega (arith, h b)))

same_runs : (rs : List Run) → map run_of (map run_fields rs) ≡ rs
same_runs [] = refl
same_runs (r ∷ rs) = ap (λ (l : List Run). r ∷ l) (same_runs rs)

-- Runs that fit, in n bytes that have room for them
module _ (n : ℕ) (rs : List Run) (fit : Fits (run_layout width) (map run_fields rs)) (room : array_size (length rs) (run_layout width) ≤ n) (few : length rs < 2 ^ 32) where
  pub bytes-length : length (bytes_of width n rs) ≡ n
  bytes-length = put-array-length (run_layout width) (replicate n 0) 0 (map run_fields rs) ∙ length-replicate {A = ℕ} n 0

  said : array (run_layout width) (bytes_of width n rs) 0 ≡ map run_fields rs
  said =
      let e = length-map rs run_fields in
      array-put (run_layout width) (replicate n 0) 0 (map run_fields rs) (rw (length-replicate {A = ℕ} n 0) (omega arith)) (omega arith) fit

  pub bytes_back : runs_of width (bytes_of width n rs) ≡ rs
  unfolding runs_of
  bytes_back = ap (map run_of) said ∙ same_runs rs

  count : be 4 (bytes_of width n rs) 0 ≡ length rs
  unfolding array
  count = sym (length-tab (be 4 (bytes_of width n rs) 0) (λ i. fields (run_layout width) (bytes_of width n rs) (run_place width i) 0)) ∙ ap length said ∙ length-map rs run_fields

  pub bytes-tail : zeros (drop (runs_end width (bytes_of width n rs)) (bytes_of width n rs)) ≡ true
  bytes-tail =
      zeros-from (bytes_of width n rs) (runs_end width (bytes_of width n rs))
      (λ b l. put-array-other (run_layout width) (replicate n 0) 0 (map run_fields rs) b (λ j p e. let c = count in let q = length-map rs run_fields in omega arith) ∙ blank n b)

-- The bytes of a sound map are a sound map's, and say it
module _ (rs : List Run) (s : sound_map rs ≡ true) (h : (b : ℕ) → owner rs b ≤ highest_age) where
  pub map-fits : Fits (run_layout width) (map run_fields rs)
  map-fits = runs_fit (sound-canon rs s) (sound-is rs s).good h

  room : array_size (length rs) (run_layout width) ≤ map_size width
  room = let f = (sound-is rs s).few in omega arith

  few : length rs < 2 ^ 32
  few = let f = (sound-is rs s).few in omega arith

  pub map_back : runs_of width (map_bytes width rs) ≡ rs
  unfolding map_bytes
  map_back = bytes_back (map_size width) rs map-fits room few

  pub map-back-sound : sound_map_bytes (map_bytes width rs) ≡ true
  unfolding sound_map_bytes map_bytes
  map-back-sound =
      rw (eq-eqb (length (bytes_of width (map_size width) rs)) (map_size width) (bytes-length (map_size width) rs map-fits room few), bytes_back (map_size width) rs map-fits room few, s)
      (bytes-tail (map_size width) rs map-fits room few)

-- What a sound map's bytes say is a sound map
pub map_runs : (m : List ℕ) → sound_map_bytes m ≡ true → sound_map (runs_of width m) ≡ true
unfolding sound_map_bytes
map_runs m e =
    let h = and_right (eqb (length m) (map_size width)) (sound_map (runs_of width m) && zeros (drop (runs_end width m) m)) e in
    and_left (sound_map (runs_of width m)) (zeros (drop (runs_end width m) m)) h

-- Bytes say ages whose fields fit, so none is above the highest
owner-tab : (n : ℕ) (f : ℕ → List ℕ) → ((i : ℕ) → age_of (run_of (f i)) ≤ highest_age) → (b : ℕ) → owner (map run_of (tab n f)) b ≤ highest_age
unfolding owner tab
owner-tab zero f h b = omega arith
owner-tab (suc n) f h b =
    let o = over-is (λ (k : ℕ). k ≤ highest_age) (run_of (f 0)) b (h 0) (omega arith) in
    omega (arith, owner-tab n (λ i. f (suc i)) (λ i. h (suc i)) b)

pub owner-small : (s : List ℕ) → Bytes s → (b : ℕ) → owner (runs_of width s) b ≤ highest_age
unfolding runs_of array fields
owner-small s h b =
    owner-tab (be 4 s 0) (λ i. fields (run_layout width) s (run_place width i) 0) (λ i. fits-age _
    (let l = be-lt width s (run_place width i + (0 + 8 + 8)) h in omega arith)
    (let l = be-lt pass_width s (run_place width i + (0 + 8 + 8 + width)) h in omega arith)) b
