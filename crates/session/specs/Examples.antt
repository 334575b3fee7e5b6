-- Settled example P1 to the byte.
use Rattle.std.specs.Prelude.{ℕ, ◌≡◌, refl, List, [], ◌∷◌, ◌++◌}
use Prim.Native.String.{String}
use Rattle.modes.specs.Conflict.{conflict}
use Rattle.locks.specs.Settle.{settle, turns, turn, grant, widest}
use Rattle.locks.specs.Refusals.{rules}
use Rattle.locks.specs.Serve.{serve, change, answered}
use Rattle.line.specs.Format.{bytes, read_digits, read_number, read_field, read_fields, by_letter, read_line}
use Rattle.lines.specs.Lines.{lines_from}
use Rattle.text.specs.Text.{digits_of, decimal, fields_text, line_text, event_text, events_text}
use Rattle.session.specs.Session.{written}

abbrev pub with_break : String → List String → List ℕ
with_break b [] = []
with_break b (l ∷ ls) = bytes l ++ (bytes b ++ with_break b ls)

pub P1 :
    written (with_break "\n" ("R,0,0,2,0,20" ∷ "R,1,0,2,10,30" ∷ "A,0,1" ∷ "R,2,0,1,0,5" ∷ "F,0,1" ∷ "F,1,2" ∷ []))
    ≡ with_break "\r\n"
    ("=,0,1"
    ∷ "G,1,0,0,2,1,1,0,9223372036854775807"
    ∷ "=,0,2"
    ∷ "V,1,0,0,2,2,1,0,9223372036854775807"
    ∷ "=,0,1"
    ∷ "G,2,1,0,2,1,2,10,9223372036854775807"
    ∷ "=,0,3"
    ∷ "=,0,1"
    ∷ "G,3,2,0,1,1,0,0,9"
    ∷ "=,0,2"
    ∷ [])
unfolding read_digits read_number read_field read_fields by_letter read_line lines_from
    serve rules change answered settle turns turn grant widest conflict
    digits_of decimal fields_text line_text event_text events_text
P1 = refl
