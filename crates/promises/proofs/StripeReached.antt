-- No refusal of note, write, restart and compaction is dead: for each number an input in bytes that gets it. The thought: runs of one byte with a byte between
-- them are a map as they stand, as long as one likes.
use Prim.Native.Nat.{ℕ, zero, suc, ◌≤◌}
use native.Mathlib.Omega.{arith}
use mathlib.Core.Bool.{true}
use mathlib.Core.List.{List, [], map}
use mathlib.Core.Path.{◌≡◌, refl, ap, ◌∙◌}
use lib.ListN.{length, replicate, length-replicate}
use borrow.Author.Tests.{eq-eqb, le-leb, lt-ltb}
use Rattle.common.specs.Counters.{width}
use Rattle.runs.specs.declared.Run.{Run}
use Rattle.runs.specs.Owner.{run, over, owner}
use Rattle.runs.specs.Map.{map_of, raise, draw, end, put, join}
use Rattle.runs.specs.Sound.{max_runs, max_entries, all_valid}
use Rattle.runs.specs.Ages.{value_of, age}
use Rattle.runs.specs.Valid.{Valid}
use Rattle.runs.specs.Bytes.{run_layout, run_fields, map_size, log_size, sound_map_bytes, sound_log_bytes, map_bytes, log_bytes}
use Rattle.xdr.specs.Array.{Fits}
use Rattle.runs.proofs.Ages.{age-run, oldest, oldest-sane}
use Rattle.runs.proofs.Valid.{valid-cons}
use Rattle.runs.proofs.Blank.{no-runs, empty-map, empty-log}
use Rattle.runs.proofs.MapBytes.{run_fits, map_back, map-back-sound}
use Rattle.runs.proofs.LogBytes.{entries-back, entries-sound}
use Rattle.stripe.specs.Piece.{extent, place}
use Rattle.stripe.specs.Refusals.{behind}
use Rattle.note.specs.Note.{note_answer}
use Rattle.write.specs.Write.{write_answer}
use Rattle.restart.specs.Restart.{restart_answer}
use Rattle.compact.specs.Compact.{compact_answer}
use Rattle.promises.proofs.Spaced.{spaced, spaced-length, spaced-small, spaced-valid, spaced-fit, spaced-map, spaced-sound, spaced-raised}

-- 12, 13, 14, 15 and 18 on an empty map and log
abbrev pub map0 : List ℕ
map0 = replicate (map_size width) 0

abbrev pub log0 : List ℕ
log0 = replicate (log_size width) 0

pub note-12 : note_answer [] [] (extent 0 1 1 1) 1 ≡ 12
unfolding note_answer sound_map_bytes
note-12 = refl

pub note-13 : note_answer map0 [] (extent 0 1 1 1) 1 ≡ 13
unfolding note_answer sound_log_bytes
note-13 = rw empty-map

pub note-14 : note_answer map0 log0 (extent 0 0 1 1) 1 ≡ 14
unfolding note_answer
note-14 = rw (empty-map, empty-log)

pub note-15 : note_answer map0 log0 (extent 0 1 0 1) 1 ≡ 15
unfolding note_answer
note-15 = rw (empty-map, empty-log)

-- 16 by a piece beside 1,024 runs
pub note-16 : note_answer (map_bytes width (spaced 1 1024)) log0 (extent 2049 1 1 1) 2050 ≡ 16
unfolding note_answer age
note-16 =
    let s = spaced-sound 1024 (omega arith) in
    let h = spaced-small 1 1024 in
    let e : length (raise (place (extent 2049 1 1 1)) (spaced 1 1024)) ≡ 1025 = ap length (spaced-raised 1024) ∙ spaced-length 1 1025 in
    rw (map-back-sound (spaced 1 1024) s h, empty-log, map_back (spaced 1 1024) s h, e)

-- 17 by a log of 2,048 entries, all alike
abbrev pub one : Run
one = run 0 0 oldest

one-valid : Valid one
one-valid = record { rising = omega arith; short = omega arith; some = oldest-sane }

ones-valid : (n : ℕ) → all_valid (replicate n one) ≡ true
ones-valid zero = refl
ones-valid (suc n) = valid-cons one (replicate n one) one-valid (ones-valid n)

ones-fit : (n : ℕ) → Fits (run_layout width) (map run_fields (replicate n one))
ones-fit zero = tt
ones-fit (suc n) = (run_fits one one-valid (omega (arith, age-run 0 0 oldest)), ones-fit n)

full : (n : ℕ) → n ≡ max_entries → note_answer map0 (log_bytes width (replicate n one)) (extent 0 1 1 1) 1 ≡ 17
unfolding note_answer map_of draw end put join owner over value_of
full n e =
    let long : length (replicate n one) ≡ n = length-replicate n one in
    let few : length (replicate n one) ≤ max_entries = omega arith in
    rw (empty-map, entries-sound (replicate n one) (ones-fit n) (ones-valid n) few, no-runs (map_size width), entries-back (replicate n one) (ones-fit n) (ones-valid n) few, long, le-leb max_entries n (omega arith))

pub note-17 : note_answer map0 (log_bytes width (replicate max_entries one)) (extent 0 1 1 1) 1 ≡ 17
note-17 = full max_entries refl

-- Write: 15 by the pass
pub write-12 : write_answer [] (extent 0 1 1 1) 1 ≡ 12
unfolding write_answer sound_map_bytes
write-12 = refl

pub write-14 : write_answer map0 (extent 0 0 1 1) 1 ≡ 14
unfolding write_answer
write-14 = rw empty-map

pub write-15 : write_answer map0 (extent 0 1 1 0) 1 ≡ 15
unfolding write_answer
write-15 = rw empty-map

pub write-18 : write_answer map0 (extent 0 1 1 1) 1 ≡ 18
unfolding write_answer behind owner value_of
write-18 = rw (empty-map, no-runs (map_size width))

-- Restart: 16 by a log whose map needs 1,025 runs
pub restart-12 : restart_answer [] [] ≡ 12
unfolding restart_answer
restart-12 = refl

module _ (m : List ℕ) (h : length m ≡ map_size width) where
  no-log : restart_answer m [] ≡ 13
  unfolding restart_answer sound_log_bytes
  no-log = rw (eq-eqb (length m) (map_size width) h)

  many : (n : ℕ) → n ≡ suc max_runs → restart_answer m (log_bytes width (spaced 1 n)) ≡ 16
  unfolding restart_answer
  many n e =
      let long = spaced-length 1 n in
      let few : length (spaced 1 n) ≤ max_entries = omega arith in
      let good = spaced-valid 1 n (omega arith) in
      let fit = spaced-fit 1 n (omega arith) in
      rw (eq-eqb (length m) (map_size width) h, entries-sound (spaced 1 n) fit good few, entries-back (spaced 1 n) fit good few, spaced-map n, long, lt-ltb max_runs n (omega arith))

pub restart-13 : restart_answer map0 [] ≡ 13
restart-13 = no-log map0 (length-replicate {A = ℕ} (map_size width) 0)

pub restart-16 : restart_answer map0 (log_bytes width (spaced 1 1025)) ≡ 16
restart-16 = many map0 (length-replicate {A = ℕ} (map_size width) 0) 1025 refl

-- Compaction: 16 by the same log
pub compact-13 : compact_answer [] [] ≡ 13
unfolding compact_answer
compact-13 = refl

many-runs : (n : List ℕ) → length n ≡ log_size width → (k : ℕ) → k ≡ suc max_runs → compact_answer (log_bytes width (spaced 1 k)) n ≡ 16
unfolding compact_answer
many-runs n h k e =
    let long = spaced-length 1 k in
    let few : length (spaced 1 k) ≤ max_entries = omega arith in
    let good = spaced-valid 1 k (omega arith) in
    let fit = spaced-fit 1 k (omega arith) in
    rw (eq-eqb (length n) (log_size width) h, entries-sound (spaced 1 k) fit good few, entries-back (spaced 1 k) fit good few, spaced-map k, long, lt-ltb max_runs k (omega arith))

pub compact-16 : compact_answer (log_bytes width (spaced 1 1025)) log0 ≡ 16
compact-16 = many-runs log0 (length-replicate {A = ℕ} (log_size width) 0) 1025 refl
