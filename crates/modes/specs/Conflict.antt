-- Table II of document 000, as document 01 prints it: "Asked mode by row, held mode by column (asked counts as granted)."
use Rattle.std.specs.Prelude.{ℕ, ◌-◌, Bool, true, false, not, List, [], ◌∷◌, eqb, get_or}
use Rattle.modes.specs.Codes.{canceling}
use Rattle.modes.specs.declared.Entry.{Entry}
use Rattle.modes.specs.declared.Entry.TheVariants as e

-- The entries: no conflict, conflict, conflict unless canceling
abbrev pub never : Entry
never = e.Never

abbrev pub always : Entry
always = e.Always

abbrev pub unless : Entry
unless = e.Unless

-- Rows: asked PR, NBW, BW, PW. Columns: held PR, NBW, BW, PW
abbrev pub matrix : List (List Entry)
matrix =
    (never ∷ always ∷ always ∷ always ∷ [])
    ∷ (always ∷ unless ∷ always ∷ always ∷ [])
    ∷ (always ∷ unless ∷ always ∷ always ∷ [])
    ∷ (always ∷ always ∷ always ∷ always ∷ [])
    ∷ []

-- The entry of an asked and a held mode
abbrev pub entry : ℕ → ℕ → Entry
entry asked held = get_or (get_or matrix (asked - 1) []) (held - 1) never

-- What an entry says of a record in a state
abbrev pub bars : Entry → ℕ → Bool
bars e.Never state = false
bars e.Always state = true
bars e.Unless state = not (eqb state canceling)

-- An asked mode against a record's mode and state. "A waiting request counts as a granted lock of its mode": its state is not canceling
unfoldable pub conflict : ℕ → ℕ → ℕ → Bool
conflict asked held state = bars (entry asked held) state
