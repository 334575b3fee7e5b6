-- The outcome of a compaction by each answer: what is refused, and what is left where it is accepted.
use Prim.Native.Nat.{ℕ, ◌-◌, ◌≤◌, ◌<◌}
use native.Mathlib.Omega.{arith}
use mathlib.Core.Path.{◌≡◌, sym, ap, ◌∙◌}
use mathlib.Core.Bool.{true, false}
use mathlib.Core.List.{List, map, ◌++◌}
use lib.ListN.{length, take, drop, replicate, length-replicate, length-drop, length-map, replicate-append-replicate}
use lib.Seq.{take-length}
use borrow.Author.Tests.{eq-eqb, ne_eqb, lt-ltb, le-ltb}
use Rattle.common.specs.Counters.{width}
use Rattle.common.specs.Cleared.{cleared}
use Rattle.common.proofs.Blank.{cleared-behind}
use Rattle.xdr.specs.Be.{put_be}
use Rattle.xdr.specs.Array.{put_array, put_elements}
use Rattle.xdr.proofs.Elements.{put-elements-length}
use Rattle.xdr.proofs.Fronts.{put-elements-front}
use Rattle.runs.specs.declared.Run.{Run}
use Rattle.runs.specs.Map.{map_of}
use Rattle.runs.specs.Sound.{max_runs}
use Rattle.runs.specs.Bytes.{run_layout, run_fields, map_size, log_size, runs_of, sound_log_bytes, log_bytes}
use Rattle.pen.specs.Drawing.{Stored}
use Rattle.compact.specs.Compact.{compact_answer, compact_log, Compacts}

-- The runs of a map in front of zeros, and their count: the bytes of a log
module _ (rs : List Run) (s : List ℕ) (k : ℕ) (d : Stored rs (replicate (map_size width) 0) s k) (h : k ≤ max_runs) where
  abbrev fs : List (List ℕ)
  fs = map run_fields rs

  abbrev rest : ℕ
  rest = log_size width - map_size width

  few : length fs ≤ max_runs
  few = let e = length-map rs run_fields in omega (arith, d.count)

  drawn-long : length s ≡ map_size width
  drawn-long = rw (d.bytes h) (put-elements-length (run_layout width) (replicate (map_size width) 0) 0 0 fs ∙ length-replicate {A = ℕ} (map_size width) 0)

  zeros-behind : s ++ replicate rest 0 ≡ put_elements (run_layout width) (replicate (log_size width) 0) 0 0 fs
  zeros-behind =
      ap (λ (x : List ℕ). x ++ replicate rest 0) (d.bytes h)
      ∙ sym (put-elements-front (run_layout width) (replicate (map_size width) 0) (replicate rest 0) 0 0 fs (let l = length-replicate {A = ℕ} (map_size width) 0 in let f = few in omega arith))
      ∙ ap (λ (x : List ℕ). put_elements (run_layout width) x 0 0 fs) (replicate-append-replicate {A = ℕ} (map_size width) rest 0)

  filled : (n : List ℕ) → length n ≡ log_size width → put_be 4 (cleared (map_size width) (take (length s) s ++ drop (length s) n)) 0 k ≡ log_bytes width rs
  unfolding log_bytes put_array
  filled n fits =
      let l : length (drop (length s) n) ≡ rest = let e = length-drop (length s) n in let g = drawn-long in omega arith in
      let c : cleared (map_size width) (take (length s) s ++ drop (length s) n) ≡ s ++ replicate rest 0 =
      ap (λ (x : List ℕ). cleared (map_size width) (x ++ drop (length s) n)) (take-length s)
      ∙ ap (λ (m : ℕ). cleared m (s ++ drop (length s) n)) (sym drawn-long)
      ∙ cleared-behind s (drop (length s) n)
      ∙ ap (λ (m : ℕ). s ++ replicate m 0) l in
      ap (λ (x : List ℕ). put_be 4 x 0 k) (c ∙ zeros-behind) ∙ ap (put_be 4 (put_elements (run_layout width) (replicate (log_size width) 0) 0 0 fs) 0) (d.count ∙ sym (length-map rs run_fields))

module _ (l n : List ℕ) where
  -- a refused compaction changes nothing
  refused : (k : ℕ) → (k ≡ 0 → ⊥) → k ≡ compact_answer l n → Compacts l n k n
  unfolding compact_log
  refused k h e = record { answers = e; log = rw (← e, ne_eqb k 0 h) }

  accepted : (n' : List ℕ) → 0 ≡ compact_answer l n → n' ≡ log_bytes width (map_of (runs_of width l)) → Compacts l n 0 n'
  unfolding compact_log
  accepted n' e u = record { answers = e; log = rw (← e) u }

  pub short-13 : (length n ≡ log_size width → ⊥) → Compacts l n 13 n
  unfolding compact_answer
  short-13 h = refused 13 (λ z. omega arith) (rw (ne_eqb (length n) (log_size width) h))

  module _ (fits : length n ≡ log_size width) where
    pub unsound-13 : sound_log_bytes l ≡ false → Compacts l n 13 n
    unfolding compact_answer
    unsound-13 h = refused 13 (λ z. omega arith) (rw (eq-eqb (length n) (log_size width) fits, h))

    -- otherwise the map is drawn over zeros
    module _ (sound : sound_log_bytes l ≡ true) (s : List ℕ) (k : ℕ) (d : Stored (map_of (runs_of width l)) (replicate (map_size width) 0) s k) where
      pub many-16 : max_runs < k → Compacts l n 16 n
      unfolding compact_answer
      many-16 h = refused 16 (λ z. omega arith) (rw (eq-eqb (length n) (log_size width) fits, sound, ← d.count, lt-ltb max_runs k h))

      -- what is drawn is copied, zeros come behind it, and the runs are counted
      pub few-0 : k ≤ max_runs → (copied clear n' : List ℕ)
          → copied ≡ take (length s) s ++ drop (length s) n → clear ≡ cleared (map_size width) copied → n' ≡ put_be 4 clear 0 k → Compacts l n 0 n'
      unfolding compact_answer
      few-0 h copied clear n' c z p =
          accepted n'
          (rw (eq-eqb (length n) (log_size width) fits, sound, ← d.count, le-ltb max_runs k h))
          (p ∙ ap (λ (x : List ℕ). put_be 4 x 0 k) (z ∙ ap (cleared (map_size width)) c) ∙ filled (map_of (runs_of width l)) s k d h n fits)
