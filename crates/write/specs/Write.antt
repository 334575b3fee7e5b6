-- What a write answers and leaves in the image, on bytes and for every input. It changes no map byte: the map is lent to be read.
use Rattle.std.specs.Prelude.{ℕ, ◌≡◌, List, length}
use Rattle.common.specs.Counters.{width}
use Rattle.common.specs.Refusals.{first_hit, leaves}
use Rattle.runs.specs.Owner.{age_of}
use Rattle.runs.specs.Bytes.{runs_of, sound_map_bytes}
use Rattle.stripe.specs.declared.Extent.{Extent}
use Rattle.stripe.specs.Piece.{Piece, extent_of, place_of}
use Rattle.stripe.specs.Refusals.{write_rules}
use Rattle.stripe.specs.Stripe.{written}

-- The answer, from the piece's extent and the length of the image
unfoldable pub write_answer : List ℕ → Extent → ℕ → ℕ
write_answer m e image = first_hit (write_rules (sound_map_bytes m) (runs_of width m) e image)

unfoldable pub write_image : List ℕ → Piece → List ℕ → List ℕ
write_image m p image =
    leaves (write_answer m (extent_of p) (length image)) (written (runs_of width m) p.first p.bytes (age_of (place_of p)) image) image

-- It "stores the piece's byte exactly where the map's number equals the piece's", "at equal pairs"
pub record Writes (m : List ℕ) (p : Piece) (image : List ℕ) (answer : ℕ) (image' : List ℕ) : Type 0 where
  pub answers : answer ≡ write_answer m (extent_of p) (length image)
  pub stores : image' ≡ write_image m p image
