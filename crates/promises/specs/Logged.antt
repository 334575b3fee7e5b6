-- AN ACCEPTED NOTE, TO THE BYTE. "It appends the entry and raises each byte's number in the map to the piece's where that is greater. Earlier entries
-- stay; the log changes only in the new entry's 20 bytes and the count": 24 bytes, and pair for number, by document 02, #103. (A refused note
-- changes nothing: demand 1.)
use Rattle.std.specs.Prelude.{ℕ, ◌+◌, ◌≤◌, ◌<◌, max, ◌≡◌, true, List, [], ◌∷◌, ◌++◌, length, get_or}
use Rattle.common.specs.Counters.{width}
use Rattle.xdr.specs.Be.{Bytes, be}
use Rattle.xdr.specs.Layout.{size}
use Rattle.runs.specs.declared.Run.{Run}
use Rattle.runs.specs.Owner.{over, owner}
use Rattle.runs.specs.Map.{raise}
use Rattle.runs.specs.Bytes.{run_layout, runs_of, runs_end, sound_map_bytes, sound_log_bytes, map_bytes}
use Rattle.stripe.specs.declared.Extent.{Extent}
use Rattle.stripe.specs.Piece.{place}
use Rattle.note.specs.Note.{Notes}

-- The log l becomes l' by the entry r, whose bytes stand where the entries of l end
pub record Appends (l : List ℕ) (r : Run) (l' : List ℕ) : Type 0 where
  pub long : length l' ≡ length l
  pub sound : sound_log_bytes l' ≡ true
  pub entries : runs_of width l' ≡ runs_of width l ++ (r ∷ [])
  pub count : be 4 l' 0 ≡ be 4 l 0 + 1
  pub before : (k : ℕ) → 4 ≤ k → k < runs_end width l → get_or l' k 0 ≡ get_or l k 0
  pub behind : (k : ℕ) → runs_end width l + size (run_layout width) ≤ k → get_or l' k 0 ≡ get_or l k 0

-- The map m becomes m' by the entry r
pub record Raises (m : List ℕ) (r : Run) (m' : List ℕ) : Type 0 where
  pub bytes : m' ≡ map_bytes width (raise r (runs_of width m))
  pub sound : sound_map_bytes m' ≡ true
  pub runs : runs_of width m' ≡ raise r (runs_of width m)
  pub raised : (b : ℕ) → owner (runs_of width m') b ≡ max (over r b) (owner (runs_of width m) b)

-- A slice of bytes holds bytes: of the map this is said openly
abbrev pub Logged : Type 0
Logged =
    (m l : List ℕ) (e : Extent) (image answer : ℕ) (m' l' : List ℕ)
    → Notes m l e image answer m' l' → answer ≡ 0
    → Appends l (place e) l' × (Bytes m → Raises m (place e) m')
