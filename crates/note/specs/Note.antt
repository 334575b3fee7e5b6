-- What a note answers and leaves in map and log, on bytes and for every input. Document 02, #103, reads pair for number.
use Rattle.std.specs.Prelude.{ℕ, ◌≡◌, List}
use Rattle.common.specs.Counters.{width}
use Rattle.common.specs.Refusals.{Rule, first_hit, leaves}
use Rattle.runs.specs.Map.{raise}
use Rattle.runs.specs.Bytes.{runs_of, sound_map_bytes, sound_log_bytes, map_bytes, appended}
use Rattle.stripe.specs.declared.Extent.{Extent}
use Rattle.stripe.specs.Piece.{place}
use Rattle.stripe.specs.Refusals.{note_rules}

-- Its rules over the bytes m of the map and l of the log
abbrev pub note_list : List ℕ → List ℕ → Extent → ℕ → List Rule
note_list m l e image = note_rules (sound_map_bytes m) (sound_log_bytes l) (runs_of width m) (runs_of width l) e image

unfoldable pub note_answer : List ℕ → List ℕ → Extent → ℕ → ℕ
note_answer m l e image = first_hit (note_list m l e image)

-- The buffers after it
unfoldable pub note_map : List ℕ → List ℕ → Extent → ℕ → List ℕ
note_map m l e image = leaves (note_answer m l e image) (map_bytes width (raise (place e) (runs_of width m))) m

unfoldable pub note_log : List ℕ → List ℕ → Extent → ℕ → List ℕ
note_log m l e image = leaves (note_answer m l e image) (appended width l (place e)) l

-- "It appends the entry and raises each byte's number in the map to the piece's where that is greater."
pub record Notes (m l : List ℕ) (e : Extent) (image answer : ℕ) (m' l' : List ℕ) : Type 0 where
  pub answers : answer ≡ note_answer m l e image
  pub map : m' ≡ note_map m l e image
  pub log : l' ≡ note_log m l e image
