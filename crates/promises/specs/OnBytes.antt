-- P1 to P11, and the rows of #103, through the entries on bytes: what the outcomes that the contracts cite answer, and what the buffers then say.
use Rattle.std.specs.Prelude.{ℕ, ◌≤◌, ◌≡◌, cond, List, [], ◌∷◌, ◌++◌, eqb, length, replicate}
use Rattle.common.specs.Counters.{width}
use Rattle.xdr.specs.Array.{array}
use Rattle.table.specs.Bytes.{table_size}
use Rattle.locks.specs.declared.Message.{Message}
use Rattle.locks.specs.Events.{event_layout, events_size}
use Rattle.runs.specs.declared.Run.{Run}
use Rattle.runs.specs.Bytes.{runs_of}
use Rattle.serve.specs.declared.Answer.{Answer}
use Rattle.message.specs.Messages.{Serves}
use Rattle.stripe.specs.Piece.{piece, extent_of}
use Rattle.note.specs.Note.{note_answer}
use Rattle.write.specs.Write.{write_answer}
use Rattle.promises.specs.Run as run
use Rattle.promises.specs.Run.{Map, lost, live, Stripe, EmptyLog, begin, Step, next}
use Rattle.promises.specs.Examples.{Call, noting, writing, Row, sending, calling, dots, examples}

-- The lines of messages from the table's bytes t on: of each call refusal and handle, and the events that its buffer then holds
abbrev pub shown : Answer → List ℕ → List (List ℕ)
shown r c = (r.refusal ∷ r.handle ∷ []) ∷ cond (eqb r.refusal 0) (array (event_layout width) c 0) []

pub data Prints : List ℕ → List Message → List (List ℕ) → Type 0 where
  done : {t : List ℕ} → Prints t [] []
  call : {t u b c : List ℕ} {m : Message} {ms : List Message} {r : Answer} {ls : List (List ℕ)}
      → events_size width ≤ length b → Serves m t b r u c → Prints u ms ls → Prints t (m ∷ ms) (shown r c ++ ls)

-- A call as a step of a run: a note is told how long the piece is
abbrev pub step : Call → Step
step (noting e) = run.note (piece e.first (replicate e.len 0) e.age.number.0 e.age.pass.0)
step (writing p) = run.write p

abbrev pub answer_of : Stripe → Map → Call → ℕ
answer_of s lost c = 0
answer_of s (live m) (noting e) = note_answer m s.log e (length s.image)
answer_of s (live m) (writing p) = write_answer m (extent_of p) (length s.image)

abbrev pub answers : Stripe → List Call → List ℕ
answers s [] = []
answers s (c ∷ cs) = answer_of s s.map c ∷ answers (next s (step c)) cs

abbrev pub bytes_after : Stripe → List Call → Stripe
bytes_after s [] = s
bytes_after s (c ∷ cs) = bytes_after (next s (step c)) cs

abbrev pub runs_in : Map → List Run
runs_in lost = []
runs_in (live m) = runs_of width m

-- A row holds on bytes: the calls print its lines, and whatever buffers are lent for events, no other; and from whatever empty log
abbrev pub RowHolds : Row → Type 0
RowHolds (sending sent printed) =
    Prints (replicate (table_size width) 0) sent printed × ((ls : List (List ℕ)) → Prints (replicate (table_size width) 0) sent ls → ls ≡ printed)
RowHolds (calling made answered map image) =
    (log : List ℕ) → EmptyLog log
    → (answers (begin log dots) made ≡ answered) × (runs_in (bytes_after (begin log dots) made).map ≡ map) × ((bytes_after (begin log dots) made).image ≡ image)

abbrev pub AllHold : List Row → Type 0
AllHold [] = Unit {0}
AllHold (r ∷ rs) = RowHolds r × AllHold rs

abbrev pub OnBytes : Type 0
OnBytes = AllHold examples
