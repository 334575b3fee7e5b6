-- The bytes of maps and logs: the layouts, over the counter's width w, and the runs that bytes say.
use Rattle.std.specs.Prelude.{ℕ, ◌+◌, ◌≡◌, refl, Bool, ◌&&◌, List, [], ◌∷◌, map, eqb, length, get_or, drop, replicate}
use Rattle.common.specs.Counters.{width}
use Rattle.common.specs.Tests.{zeros}
use Rattle.xdr.specs.Be.{be, put_be}
use Rattle.xdr.specs.Layout.{put_fields, size}
use Rattle.xdr.specs.Array.{array, put_array, array_size, element}
use Rattle.runs.specs.declared.Run.{Run}
use Rattle.runs.specs.Ages.{pair, pass_width}
use Rattle.runs.specs.Sound.{max_runs, max_entries, sound_map, sound_log}

-- "runs (first, last, number: ..)"; "entries shaped as runs"; "a 4-byte pass, at least 1, after the number"
abbrev pub run_layout : ℕ → List ℕ
run_layout w = 8 ∷ 8 ∷ w ∷ pass_width ∷ []

abbrev pub run_of : List ℕ → Run
run_of fs = record { first = get_or fs 0 0; last = get_or fs 1 0; age = pair (get_or fs 2 0) (get_or fs 3 0) }

abbrev pub run_fields : Run → List ℕ
run_fields r = r.first ∷ r.last ∷ r.age.number.0 ∷ r.age.pass.0 ∷ []

unfoldable pub runs_of : ℕ → List ℕ → List Run
runs_of w s = map run_of (array (run_layout w) s 0)

-- "the map has 24,580 bytes and the log 49,156"
abbrev pub map_size : ℕ → ℕ
map_size w = array_size max_runs (run_layout w)

abbrev pub log_size : ℕ → ℕ
log_size w = array_size max_entries (run_layout w)

-- Where the run at place i starts, and where the runs end
abbrev pub run_place : ℕ → ℕ → ℕ
run_place w i = element (run_layout w) 0 i

abbrev pub runs_end : ℕ → List ℕ → ℕ
runs_end w s = run_place w (be 4 s 0)

-- What refusal 12 asks of a map: its length, every rule, and "zero bytes after"
unfoldable pub sound_map_bytes : List ℕ → Bool
sound_map_bytes s = eqb (length s) (map_size width) && (sound_map (runs_of width s) && zeros (drop (runs_end width s) s))

-- What refusal 13 asks of a log: its length and every rule. "Bytes after the last entry may be anything"
unfoldable pub sound_log_bytes : List ℕ → Bool
sound_log_bytes s = eqb (length s) (log_size width) && sound_log (runs_of width s)

-- The array of runs at the start of n bytes, "zero bytes after"
abbrev pub bytes_of : ℕ → ℕ → List Run → List ℕ
bytes_of w n rs = put_array (run_layout w) (replicate n 0) 0 (map run_fields rs)

-- The bytes of a map
unfoldable pub map_bytes : ℕ → List Run → List ℕ
map_bytes w rs = bytes_of w (map_size w) rs

-- The bytes of a log with these entries and zeros after
unfoldable pub log_bytes : ℕ → List Run → List ℕ
log_bytes w es = bytes_of w (log_size w) es

-- A log with one entry more: "the log changes only in the new entry's .. bytes and the count"
unfoldable pub appended : ℕ → List ℕ → Run → List ℕ
appended w log r = put_be 4 (put_fields (run_layout w) log (runs_end w log) 0 (run_fields r)) 0 (be 4 log 0 + 1)

pub run-size : size (run_layout 4) ≡ 24
run-size = refl

pub map-size : map_size 4 ≡ 24580
map-size = refl

pub log-size : log_size 4 ≡ 49156
log-size = refl
