-- The settled examples P1 to P11 of document 01, and after them four of our own for document 02, #103, as one table. Each row is computed from the
-- rules and compared with what the document prints or, of ours, with what was worked out by hand.
use Rattle.std.specs.Prelude.{ℕ, suc, ◌≡◌, refl, false, List, [], ◌∷◌, ◌++◌, map, replicate}
use Rattle.common.specs.Ranges.{eof}
use Rattle.modes.specs.Conflict.{conflict}
use Rattle.table.specs.Table.{Table, empty}
use Rattle.locks.specs.declared.Message.{Message}
use Rattle.locks.specs.declared.Message.TheVariants.{Request, Acknowledge, Downgrade, Release}
use Rattle.locks.specs.Settle.{settle, turns, turn, grant, widest}
use Rattle.locks.specs.Refusals.{rules}
use Rattle.locks.specs.Serve.{Outcome, serve, change, answered}
use Rattle.locks.specs.Events.{event_fields}
use Rattle.runs.specs.declared.Run.{Run}
use Rattle.runs.specs.Ages.{pair, value_of, age}
use Rattle.runs.specs.Owner.{over, owner}
use Rattle.runs.specs.Map.{map_of, end, draw, put, join}
use Rattle.runs.specs.Sound.{sound_map, sound_log, sane, apart}
use Rattle.stripe.specs.declared.Extent.{Extent}
use Rattle.stripe.specs.Piece.{extent, Piece, piece}
use Rattle.stripe.specs.Refusals.{behind}
use Rattle.stripe.specs.Stripe as s
use Rattle.stripe.specs.Stripe.{Stripe, note, write, stored}

-- The lock table: messages sent to the empty table, and the lines that answer them, as numbers. Of each message refusal and handle; of each
-- event kind, handle, client, stripe, mode, state, number, first, last
abbrev pub lines : Outcome → List (List ℕ)
lines o = (o.refusal ∷ o.handle ∷ []) ∷ map event_fields o.events

abbrev pub session : Table → List Message → List (List ℕ)
session t [] = []
session t (m ∷ ms) = let o = serve t m in lines o ++ session o.table ms

-- The stripe: calls from an empty map and log and an image of ten dots, what they answer, and the map and image that they leave
pub data Call : Type 0 where
  noting : Extent → Call
  writing : Piece → Call

abbrev pub call : Stripe → Call → s.Outcome
call x (noting e) = note x e
call x (writing p) = write x p

abbrev pub answers : Stripe → List Call → List ℕ
answers x [] = []
answers x (c ∷ cs) = let o = call x c in o.refusal ∷ answers o.stripe cs

abbrev pub after_calls : Stripe → List Call → Stripe
after_calls x [] = x
after_calls x (c ∷ cs) = after_calls (call x c).stripe cs

abbrev pub dots : List ℕ
dots = replicate 10 46

abbrev pub begin : Stripe
begin = record { map = []; log = []; image = dots }

-- A row of the table: what is done, and what comes of it
pub data Row : Type 0 where
  sending : (sent : List Message) (printed : List (List ℕ)) → Row
  calling : (made : List Call) (answered : List ℕ) (map : List Run) (image : List ℕ) → Row

-- The row with what the rules say comes of it
abbrev pub computed : Row → Row
computed (sending sent printed) = sending sent (session empty sent)
computed (calling made answered map image) = calling made (answers begin made) (after_calls begin made).map (after_calls begin made).image

-- A run by its number and its pass
abbrev paired : ℕ → ℕ → ℕ → ℕ → Run
paired first last n p = record { first = first; last = last; age = pair n p }

-- The pieces of P8 to P11: where, the letter, the number, and the pass
abbrev note_a : Call
note_a = noting (extent 0 6 2 1)

abbrev note_b : Call
note_b = noting (extent 4 4 1 1)

abbrev note_c : Call
note_c = noting (extent 5 3 3 1)

abbrev A : Call
A = writing (piece 0 (replicate 6 65) 2 1)

abbrev B : Call
B = writing (piece 4 (replicate 4 66) 1 1)

abbrev C : Call
C = writing (piece 5 (replicate 3 67) 3 1)

-- `AAAAACCC..`
abbrev owned : List ℕ
owned = replicate 5 65 ++ replicate 3 67 ++ replicate 2 46

-- All noted, then written: map [0,4] 2, [5,7] 3
abbrev in_order : Call → Call → Call → Row
in_order x y z = calling (note_a ∷ note_b ∷ note_c ∷ x ∷ y ∷ z ∷ []) (replicate 6 0) (paired 0 4 2 1 ∷ paired 5 7 3 1 ∷ []) owned

-- Then note [8,9] number 3: second run [5,9]; and what comes after it
abbrev joined : List Call → List ℕ → Row
joined more says =
    calling (note_a ∷ note_b ∷ note_c ∷ A ∷ B ∷ C ∷ noting (extent 8 2 3 1) ∷ more) (replicate 7 0 ++ says) (paired 0 4 2 1 ∷ paired 5 9 3 1 ∷ []) owned

-- #103: `aaaa` at 2 in the first pass of number 1, and over its end `bbb` in the second. `..abbb....`
abbrev note_first : Call
note_first = noting (extent 2 4 1 1)

abbrev note_second : Call
note_second = noting (extent 3 3 1 2)

abbrev first : Call
first = writing (piece 2 (replicate 4 97) 1 1)

abbrev second : Call
second = writing (piece 3 (replicate 3 98) 1 2)

abbrev twice : List ℕ
twice = replicate 2 46 ++ replicate 1 97 ++ replicate 3 98 ++ replicate 4 46

-- With `ccc` over `bbb` in the first pass of number 2: `..accc....`
abbrev regranted : List ℕ
regranted = replicate 2 46 ++ replicate 1 97 ++ replicate 3 99 ++ replicate 4 46

unfoldable pub examples : List Row
examples =
    -- P1
    sending
    (Request 0 0 2 0 20 false ∷ Request 1 0 2 10 30 false ∷ Acknowledge 0 1 ∷ Request 2 0 1 0 5 false ∷ Release 0 1 ∷ Release 1 2 ∷ [])
    ((0 ∷ 1 ∷ [])
    ∷ (1 ∷ 1 ∷ 0 ∷ 0 ∷ 2 ∷ 1 ∷ 1 ∷ 0 ∷ eof ∷ [])
    ∷ (0 ∷ 2 ∷ [])
    ∷ (2 ∷ 1 ∷ 0 ∷ 0 ∷ 2 ∷ 2 ∷ 1 ∷ 0 ∷ eof ∷ [])
    ∷ (0 ∷ 1 ∷ [])
    ∷ (1 ∷ 2 ∷ 1 ∷ 0 ∷ 2 ∷ 1 ∷ 2 ∷ 10 ∷ eof ∷ [])
    ∷ (0 ∷ 3 ∷ [])
    ∷ (0 ∷ 1 ∷ [])
    ∷ (1 ∷ 3 ∷ 2 ∷ 0 ∷ 1 ∷ 1 ∷ 0 ∷ 0 ∷ 9 ∷ [])
    ∷ (0 ∷ 2 ∷ [])
    ∷ [])
    -- P2
    ∷ sending
    (Request 0 0 2 0 eof false ∷ Request 1 0 2 0 9 false ∷ Request 2 0 2 0 9 false ∷ Request 3 0 2 0 9 false ∷ Acknowledge 0 1 ∷ [])
    ((0 ∷ 1 ∷ [])
    ∷ (1 ∷ 1 ∷ 0 ∷ 0 ∷ 2 ∷ 1 ∷ 1 ∷ 0 ∷ eof ∷ [])
    ∷ (0 ∷ 2 ∷ [])
    ∷ (2 ∷ 1 ∷ 0 ∷ 0 ∷ 2 ∷ 2 ∷ 1 ∷ 0 ∷ eof ∷ [])
    ∷ (0 ∷ 3 ∷ [])
    ∷ (0 ∷ 4 ∷ [])
    ∷ (0 ∷ 1 ∷ [])
    ∷ (1 ∷ 2 ∷ 1 ∷ 0 ∷ 2 ∷ 3 ∷ 2 ∷ 0 ∷ 9 ∷ [])
    ∷ (1 ∷ 3 ∷ 2 ∷ 0 ∷ 2 ∷ 3 ∷ 3 ∷ 0 ∷ 9 ∷ [])
    ∷ (1 ∷ 4 ∷ 3 ∷ 0 ∷ 2 ∷ 1 ∷ 4 ∷ 0 ∷ eof ∷ [])
    ∷ [])
    -- P3
    ∷ sending
    (Request 0 0 2 0 eof false ∷ Request 1 0 1 0 9 false ∷ Acknowledge 0 1 ∷ [])
    ((0 ∷ 1 ∷ [])
    ∷ (1 ∷ 1 ∷ 0 ∷ 0 ∷ 2 ∷ 1 ∷ 1 ∷ 0 ∷ eof ∷ [])
    ∷ (0 ∷ 2 ∷ [])
    ∷ (2 ∷ 1 ∷ 0 ∷ 0 ∷ 2 ∷ 2 ∷ 1 ∷ 0 ∷ eof ∷ [])
    ∷ (0 ∷ 1 ∷ [])
    ∷ [])
    -- P4: a BW that is granted while an NBW waits behind it comes canceling over [0,9]
    ∷ sending
    (Request 0 0 4 0 9 false ∷ Request 1 0 3 0 9 false ∷ Request 2 0 2 0 9 false ∷ Release 0 1 ∷ Downgrade 1 2 ∷ Downgrade 1 2 ∷ [])
    ((0 ∷ 1 ∷ [])
    ∷ (1 ∷ 1 ∷ 0 ∷ 0 ∷ 4 ∷ 1 ∷ 1 ∷ 0 ∷ eof ∷ [])
    ∷ (0 ∷ 2 ∷ [])
    ∷ (2 ∷ 1 ∷ 0 ∷ 0 ∷ 4 ∷ 2 ∷ 1 ∷ 0 ∷ eof ∷ [])
    ∷ (0 ∷ 3 ∷ [])
    ∷ (0 ∷ 1 ∷ [])
    ∷ (1 ∷ 2 ∷ 1 ∷ 0 ∷ 3 ∷ 3 ∷ 2 ∷ 0 ∷ 9 ∷ [])
    ∷ (0 ∷ 2 ∷ [])
    ∷ (1 ∷ 3 ∷ 2 ∷ 0 ∷ 2 ∷ 1 ∷ 3 ∷ 0 ∷ eof ∷ [])
    ∷ (11 ∷ 0 ∷ [])
    ∷ [])
    -- P5
    ∷ sending
    (Request 0 0 1 eof eof false ∷ Request 0 0 1 0 (suc eof) false ∷ Request 0 0 1 5 4 false ∷ [])
    ((0 ∷ 1 ∷ []) ∷ (1 ∷ 1 ∷ 0 ∷ 0 ∷ 1 ∷ 1 ∷ 0 ∷ eof ∷ eof ∷ []) ∷ (6 ∷ 0 ∷ []) ∷ (6 ∷ 0 ∷ []) ∷ [])
    -- P6, P7
    ∷ sending
    (Request 63 0 1 0 0 false ∷ Request 64 0 1 0 0 false ∷ Request 0 16 0 0 0 false ∷ [])
    ((0 ∷ 1 ∷ []) ∷ (1 ∷ 1 ∷ 63 ∷ 0 ∷ 1 ∷ 1 ∷ 0 ∷ 0 ∷ eof ∷ []) ∷ (3 ∷ 0 ∷ []) ∷ (4 ∷ 0 ∷ []) ∷ [])
    -- P8
    ∷ in_order A B C
    ∷ in_order A C B
    ∷ in_order B A C
    ∷ in_order B C A
    ∷ in_order C A B
    ∷ in_order C B A
    -- P9, P10, P11
    ∷ joined [] []
    ∷ joined (writing (piece 8 (replicate 2 69) 4 1) ∷ []) (18 ∷ [])
    ∷ joined (noting (extent 8 0 3 1) ∷ writing (piece 8 [] 3 1) ∷ []) (14 ∷ 14 ∷ [])
    -- #103: two passes under one number, the first resent last; then a later number of pass 1, which no pass of the older one beats
    ∷ calling (note_first ∷ first ∷ note_second ∷ second ∷ note_first ∷ first ∷ []) (replicate 6 0) (paired 2 2 1 1 ∷ paired 3 5 1 2 ∷ []) twice
    ∷ calling (noting (extent 3 3 2 1) ∷ note_second ∷ note_first ∷ writing (piece 3 (replicate 3 99) 2 1) ∷ second ∷ first ∷ []) (replicate 6 0) (paired 2 2 1 1 ∷ paired 3 5 2 1 ∷ []) regranted
    -- a pass that is not noted is 18, and no pass is 15
    ∷ joined (writing (piece 8 (replicate 2 69) 3 2) ∷ []) (18 ∷ [])
    ∷ joined (noting (extent 8 2 3 0) ∷ writing (piece 8 (replicate 2 69) 3 0) ∷ noting (extent 8 2 3 4294967296) ∷ []) (15 ∷ 15 ∷ 15 ∷ [])
    ∷ []

pub examples-hold : map computed examples ≡ examples
unfolding examples serve rules change answered settle turns turn grant widest conflict note write stored behind sound_map sound_log sane apart map_of end draw put join owner over age value_of
examples-hold = refl
