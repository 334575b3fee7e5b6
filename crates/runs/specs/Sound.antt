-- Sound maps and logs, as runs. (Their bytes: Bytes.antt.)
use Rattle.std.specs.Prelude.{ℕ, Bool, true, not, ◌&&◌, List, [], ◌∷◌, ltb, leb, length}
use Rattle.common.specs.Ranges.{range}
use Rattle.common.specs.Tests.{all}
use Rattle.runs.specs.declared.Age.{Age}
use Rattle.runs.specs.declared.Run.{Run}
use Rattle.runs.specs.Ages.{highest_pass}
use Rattle.runs.specs.Map.{joins}

-- "the array of at most 1,024 runs"; "the array of at most 2,048 entries"
abbrev pub max_runs : ℕ
max_runs = 1024

abbrev pub max_entries : ℕ
max_entries = 2048

-- "number at least 1"; "a 4-byte pass, at least 1"
unfoldable pub sane : Age → Bool
sane a = ltb 0 a.number.0 && (ltb 0 a.pass.0 && leb a.pass.0 highest_pass)

-- "each a valid range with number at least 1", and pass
abbrev pub valid : Run → Bool
valid r = range r.first r.last && sane r.age

abbrev pub all_valid : List Run → Bool
all_valid = all valid

-- "rising, without common bytes; touching runs have different numbers", or different passes: what a run asks of the next
abbrev pub leads : Run → Run → Bool
leads r t = ltb r.last t.first && not (joins r t)

unfoldable pub apart : List Run → Bool
apart [] = true
apart (r ∷ []) = true
apart (r ∷ t ∷ rs) = leads r t && apart (t ∷ rs)

unfoldable pub sound_map : List Run → Bool
sound_map rs = leb (length rs) max_runs && all_valid rs && apart rs

-- Entries stand "in note order, in any relation to each other"
unfoldable pub sound_log : List Run → Bool
sound_log es = leb (length es) max_entries && all_valid es
