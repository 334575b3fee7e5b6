-- What a session's functions are lent, and what they leave there: the table, the events of a call, the unfinished line, and what is to be written.
use Rattle.std.specs.Prelude.{ℕ, ◌+◌, ◌≤◌, ◌<◌, ◌≡◌, true, List, [], length, take}
use Rattle.std.specs.declared.option.Option.{Option}
use Rattle.common.specs.Counters.{width}
use Rattle.table.specs.Table.{Table, max_records}
use Rattle.table.specs.Bytes.{table_of, sound_table_bytes}
use Rattle.locks.specs.Events.{events_size}
use Rattle.locks.specs.declared.Message.{Message}
use Rattle.line.specs.Format.{longest}
use Rattle.text.specs.Text.{outcome_size}
use Rattle.lines.specs.Lines.{left}
use Rattle.lines.specs.Buffers.{Keeps}
use Rattle.session.specs.Session.{answer, next, answers, table_after, written_from, said_in}

-- The table is sound, and there is room for the events of a call and, in a buffer of o bytes, for the lines of its answer
pub record Lent (table events : List ℕ) (o : ℕ) : Type 0 where
  pub sound : sound_table_bytes table ≡ true
  pub event_room : events_size width ≤ length events
  pub text_room : outcome_size max_records ≤ o

-- Besides, a line is kept in a buffer of l bytes, which tells a line that is too long
pub record Ready (l : ℕ) (table events : List ℕ) (o : ℕ) : Type 0 where
  pub room : longest + 2 ≤ l
  pub lent : Lent table events o

-- `out` answers what a line says, and the table is that after it
pub record Answers (r : Option Message) (before table out : List ℕ) : Type 0 where
  pub sound : sound_table_bytes table ≡ true
  pub says : out ≡ answer (table_of width before) r
  pub after : table_of width table ≡ next (table_of width before) r

-- The piece s of the input is taken, behind what came of a line, p, and on the table x: the table is that after the lines that end in s,
-- and of what s leaves of the next, `line` is kept
pub record Takes (x : Table) (p s line table : List ℕ) : Type 0 where
  pub after : table_of width table ≡ table_after x (said_in p s)
  pub keeps : Keeps line (left p s)

-- Whatever line is kept before, the first n bytes of the piece are taken, and `out` answers the lines that end in them
pub record Feeds (piece before begin : List ℕ) (n : ℕ) (line table out : List ℕ) : Type 0 where
  pub sound : sound_table_bytes table ≡ true
  pub within : n ≤ length piece
  pub onward : 0 < length piece → 0 < n
  pub takes : (p : List ℕ) → Keeps before p → Takes (table_of width begin) p (take n piece) line table
  pub says : (p : List ℕ) → Keeps before p → out ≡ answers (table_of width begin) (said_in p (take n piece))

-- `out` answers the last line, if the input has one that lacks its break
abbrev pub Ends : List ℕ → List ℕ → List ℕ → Type 0
Ends line begin out = (p : List ℕ) → Keeps line p → out ≡ written_from (table_of width begin) p []
