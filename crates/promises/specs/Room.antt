-- ROOM IN THE LOG AND IN THE MAP. Document 02, #102: what a compacted log says, and how many notes and pieces surely fit.
use Rattle.std.specs.Prelude.{ℕ, ◌+◌, ◌*◌, ◌-◌, ◌≤◌, ◌<◌, max, ◌≡◌, true, ◌⊎◌, List, length, drop}
use Rattle.common.specs.Counters.{width}
use Rattle.common.specs.Tests.{zeros}
use Rattle.xdr.specs.Be.{Bytes}
use Rattle.runs.specs.declared.Run.{Run}
use Rattle.runs.specs.Owner.{owner}
use Rattle.runs.specs.Map.{map_of}
use Rattle.runs.specs.Sound.{max_runs, max_entries, apart}
use Rattle.runs.specs.Bytes.{runs_of, runs_end, log_size, sound_log_bytes}
use Rattle.note.specs.Note.{note_answer}
use Rattle.restart.specs.Restart.{restart_answer, restart_map}
use Rattle.compact.specs.Compact.{Compacts}
use Rattle.promises.specs.Among.{Among}
use Rattle.promises.specs.Run.{Piece, extent_of, live, Stripe, EmptyLog, begin, Step, after, noted}

-- An accepted compaction: "a log whose entries are exactly the runs of the old log's map, rising, zeros after". It says of every byte what the old log
-- says, so a restart fills the same map from either; it has at most 1,024 entries; and compacting it changes nothing
pub record Compacted (old new : List ℕ) : Type 0 where
  pub sound : sound_log_bytes new ≡ true
  pub entries : runs_of width new ≡ map_of (runs_of width old)
  pub rising : apart (runs_of width new) ≡ true
  pub behind : zeros (drop (runs_end width new) new) ≡ true
  pub says : (b : ℕ) → owner (runs_of width new) b ≡ owner (runs_of width old) b
  pub restarts : (map : List ℕ) → (restart_answer map new ≡ restart_answer map old) × (restart_map map new ≡ restart_map map old)
  pub few : length (runs_of width new) ≤ 1024
  pub twice : (buffer : List ℕ) (answer : ℕ) (newer : List ℕ) → length buffer ≡ log_size width → Compacts new buffer answer newer → (answer ≡ 0) × (newer ≡ new)

-- From a time s of a run, when the pieces os have been noted, to a time t of it, with whatever steps between; ns is noted between. n pieces fit a map of
-- r runs, in whatever relation and any order, as long as 2 (r + n) - 1 is at most 1,024: as long as only they are noted, none of them is refused with 16.
-- A piece that is noted again, here or from before s, does not count again. And a log of k entries, or of 1,024 if those are more, takes notes until
-- there are 2,048: so at least 1,024 notes fit after a compaction
pub record Fits (os : List Piece) (s : Stripe) (ns : List Piece) (t : Stripe) : Type 0 where
  pub pieces : (ps : List Piece) → 2 * (length (map_of (runs_of width s.log)) + length ps) - 1 ≤ max_runs
      → ((q : Piece) → Among q ns → Among q ps ⊎ Among q os)
      → (p : Piece) → Among p ps ⊎ Among p os → (map : List ℕ) → t.map ≡ live map → note_answer map t.log (extent_of p) (length t.image) ≡ 16 → ⊥
  pub entries : max (length (runs_of width s.log)) max_runs + length ns < max_entries
      → (p : Piece) (map : List ℕ) → t.map ≡ live map → note_answer map t.log (extent_of p) (length t.image) ≡ 17 → ⊥

-- A slice of bytes holds bytes: of the old log this is said openly
pub record Room : Type 0 where
  pub compacted : (old buffer : List ℕ) (answer : ℕ) (new : List ℕ) → Bytes old → Compacts old buffer answer new → answer ≡ 0 → Compacted old new
  -- a map of n entries: a border for each end, and past the last border there is no run
  pub borders : (es : List Run) → length (map_of es) ≤ 2 * length es - 1
  pub fits : (log image : List ℕ) (before since : List Step) → EmptyLog log
      → Fits (noted (begin log image) before) (after (begin log image) before) (noted (after (begin log image) before) since) (after (after (begin log image) before) since)
