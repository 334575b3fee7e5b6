-- A session of lines: the bytes that are written for the bytes that are read.
use Rattle.std.specs.Prelude.{ℕ, List, [], ◌∷◌, ◌++◌, map, Some, None}
use Rattle.std.specs.declared.option.Option.{Option}
use Rattle.table.specs.Table.{Table, empty}
use Rattle.locks.specs.declared.Message.{Message}
use Rattle.locks.specs.Serve.{serve}
use Rattle.locks.specs.Events.{event_fields}
use Rattle.line.specs.Format.{read_line}
use Rattle.text.specs.Text.{bad_text, outcome_text}
use Rattle.lines.specs.Lines.{lines_from, lines_in}

-- The answer to what a line says, and the table after it
abbrev pub answer : Table → Option Message → List ℕ
answer t None = bad_text
answer t (Some m) = let o = serve t m in outcome_text o.refusal o.handle (map event_fields o.events)

abbrev pub next : Table → Option Message → Table
next t None = t
next t (Some m) = (serve t m).table

-- The same of what one line after the other says
abbrev pub answers : Table → List (Option Message) → List ℕ
answers t [] = []
answers t (r ∷ rs) = answer t r ++ answers (next t r) rs

abbrev pub table_after : Table → List (Option Message) → Table
table_after t [] = t
table_after t (r ∷ rs) = table_after (next t r) rs

-- What is written for the input s, where p is what came of the first line before s
abbrev pub written_from : Table → List ℕ → List ℕ → List ℕ
written_from t p s = answers t (map read_line (lines_from p s))

-- "starts with the empty table"
abbrev pub written : List ℕ → List ℕ
written input = written_from empty [] input

-- What the lines say that end in a piece s of the input
abbrev pub said_in : List ℕ → List ℕ → List (Option Message)
said_in p s = map read_line (lines_in p s)
