-- What note, write, restart and compaction refuse: document 01, "Refusal numbers", 12 to 18, and document 02, #102 and #103; each list in the order in
-- which it is judged.
use Rattle.std.specs.Prelude.{ℕ, zero, suc, pred, ◌+◌, Bool, false, not, ◌||◌, List, [], ◌∷◌, ltb, leb, eqb, length}
use Rattle.common.specs.Counters.{width, highest}
use Rattle.common.specs.Ranges.{eof}
use Rattle.common.specs.Refusals.{Rule, rule}
use Rattle.runs.specs.declared.Run.{Run}
use Rattle.runs.specs.Ages.{highest_pass}
use Rattle.runs.specs.Owner.{age_of, owner}
use Rattle.runs.specs.Map.{raise, map_of}
use Rattle.runs.specs.Sound.{max_runs, max_entries}
use Rattle.stripe.specs.declared.Extent.{Extent}
use Rattle.stripe.specs.Piece.{place}

-- 14: "piece of length 0, past the image or past EOF"
abbrev pub misplaced : Extent → ℕ → Bool
misplaced e image = eqb e.len 0 || (ltb image (e.first + e.len) || ltb eof (pred (e.first + e.len)))

-- 15: "number 0 or above 4,294,967,295", "also for pass 0 or above 4,294,967,295"
abbrev pub zero_or_above : ℕ → ℕ → Bool
zero_or_above most n = eqb n 0 || ltb most n

abbrev pub misnumbered : Extent → Bool
misnumbered e = zero_or_above (highest width) e.age.number.0 || zero_or_above highest_pass e.age.pass.0

-- 18: "some byte of the piece has a smaller number in the map", "given where the map's pair is smaller": one of the `len` bytes from b on
unfoldable pub behind : List Run → ℕ → ℕ → ℕ → Bool
behind map age b zero = false
behind map age b (suc len) = ltb (owner map b) age || behind map age (suc b) len

-- Note: 12 to 17. The first two arguments: is the map sound, is the log
abbrev pub note_rules : Bool → Bool → List Run → List Run → Extent → ℕ → List Rule
note_rules map_sound log_sound map log e image =
    rule 12 (not map_sound)
    ∷ rule 13 (not log_sound)
    ∷ rule 14 (misplaced e image)
    ∷ rule 15 (misnumbered e)
    ∷ rule 16 (ltb max_runs (length (raise (place e) map)))
    ∷ rule 17 (leb max_entries (length log))
    ∷ []

-- Write: 12, 14, 15, 18
abbrev pub write_rules : Bool → List Run → Extent → ℕ → List Rule
write_rules map_sound map e image =
    rule 12 (not map_sound)
    ∷ rule 14 (misplaced e image)
    ∷ rule 15 (misnumbered e)
    ∷ rule 18 (behind map (age_of (place e)) e.first e.len)
    ∷ []

-- Restart: 12 (length only), 13, 16
abbrev pub restart_rules : Bool → Bool → List Run → List Rule
restart_rules map_fits log_sound log =
    rule 12 (not map_fits)
    ∷ rule 13 (not log_sound)
    ∷ rule 16 (ltb max_runs (length (map_of log)))
    ∷ []

-- Compaction: "13 for either buffer's length or an unsound old log, then 16". A sound log has its length
abbrev pub compact_rules : Bool → Bool → List Run → List Rule
compact_rules new_fits log_sound log =
    rule 13 (not new_fits || not log_sound)
    ∷ rule 16 (ltb max_runs (length (map_of log)))
    ∷ []
