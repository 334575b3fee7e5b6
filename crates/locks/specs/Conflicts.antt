-- "When two things conflict".
use Rattle.std.specs.Prelude.{ℕ, Bool, not, ◌&&◌, ◌||◌, eqb, ltb}
use Rattle.common.specs.Ranges.{overlap}
use Rattle.modes.specs.Conflict.{conflict}
use Rattle.table.specs.declared.Lock.{Lock}
use Rattle.table.specs.Table.{handle_of, waits, held}

abbrev pub other : Lock → Lock → Bool
other w r = not (eqb (handle_of w) (handle_of r))

-- What w asks, up to the last byte l, against the record r. "Only records of the same stripe with a byte in common can conflict."
abbrev pub against : Lock → ℕ → Lock → Bool
against w l r =
    (other w r && (eqb w.stripe r.stripe && overlap w.first l r.first r.last))
    && conflict w.mode r.mode r.state

-- r conflicts with w's asked range
abbrev pub conflicts : Lock → Lock → Bool
conflicts w r = against w w.last r

-- "A request goes on waiting exactly when some held lock, or some waiting request with a smaller handle, conflicts with its asked range."
abbrev pub obstacle : Lock → Lock → Bool
obstacle w r = (held r || ltb (handle_of r) (handle_of w)) && conflicts w r

-- "if a waiting request with a larger handle conflicts with its asked range, it is granted canceling"
abbrev pub hurries : Lock → Lock → Bool
hurries w r = (waits r && ltb (handle_of w) (handle_of r)) && conflicts w r
