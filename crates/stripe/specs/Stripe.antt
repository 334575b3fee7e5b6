-- Note, write and restart: document 01, "Note, write, restart"; by document 02, #103, its rules "read pair for number".
use Rattle.std.specs.Prelude.{ℕ, suc, true, cond, List, [], ◌∷◌, ◌++◌, eqb, length, take, drop}
use Rattle.common.specs.Refusals.{first_hit}
use Rattle.runs.specs.declared.Run.{Run}
use Rattle.runs.specs.Owner.{age_of, owner}
use Rattle.runs.specs.Map.{raise, map_of}
use Rattle.runs.specs.Sound.{sound_map, sound_log}
use Rattle.stripe.specs.declared.Extent.{Extent}
use Rattle.stripe.specs.Piece.{place, Piece, extent_of, place_of}
use Rattle.stripe.specs.Refusals.{note_rules, write_rules, restart_rules}

-- A stripe: its map, its log and its image
pub record Stripe : Type 0 where
  pub map : List Run
  pub log : List Run
  pub image : List ℕ

-- What a call answers, and the stripe after it
pub record Outcome : Type 0 where
  pub refusal : ℕ
  pub stripe : Stripe

-- "A refused call changes nothing"
abbrev pub answer : ℕ → Stripe → Stripe → Outcome
answer refusal old new = record { refusal = refusal; stripe = cond (eqb refusal 0) new old }

-- Note "appends the entry and raises each byte's number in the map to the piece's where that is greater"
abbrev pub noted : Stripe → Run → Stripe
noted s r = record { map = raise r s.map; log = s.log ++ r ∷ []; image = s.image }

unfoldable pub note : Stripe → Extent → Outcome
note s e = answer (first_hit (note_rules (sound_map s.map) (sound_log s.log) s.map s.log e (length s.image))) s (noted s (place e))

-- Write "stores the piece's byte exactly where the map's number equals the piece's", "at equal pairs". The image from the byte b on, with the
-- piece's bytes so stored
unfoldable pub stored : List Run → ℕ → ℕ → List ℕ → List ℕ → List ℕ
stored map age b piece [] = []
stored map age b [] (x ∷ xs) = x ∷ xs
stored map age b (p ∷ ps) (x ∷ xs) = cond (eqb (owner map b) age) p x ∷ stored map age (suc b) ps xs

-- "Write goes into the middle of the lent image"
abbrev pub written : List Run → ℕ → List ℕ → ℕ → List ℕ → List ℕ
written map first piece age image = take first image ++ stored map age first piece (drop first image)

-- "It changes no map byte"
abbrev pub wrote : Stripe → Piece → Stripe
wrote s p = record { map = s.map; log = s.log; image = written s.map p.first p.bytes (age_of (place_of p)) s.image }

unfoldable pub write : Stripe → Piece → Outcome
write s p = answer (first_hit (write_rules (sound_map s.map) s.map (extent_of p) (length s.image))) s (wrote s p)

-- "Restart fills the map buffer with the log's map"
abbrev pub restarted : Stripe → Stripe
restarted s = record { map = map_of s.log; log = s.log; image = s.image }

unfoldable pub restart : Stripe → Outcome
restart s = answer (first_hit (restart_rules true (sound_log s.log) s.log)) s (restarted s)
