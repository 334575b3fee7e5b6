-- A run of one stripe: notes, writes, restarts and compactions as the entries leave their buffers, with cuts anywhere. Document 01, "Note, write,
-- restart", and document 02, #102.
use Rattle.std.specs.Prelude.{ℕ, ◌+◌, ◌-◌, ◌≤◌, ◌<◌, ◌≡◌, Bool, true, false, ◌&&◌, cond, List, [], ◌∷◌, ◌++◌, map, eqb, ltb, length, get_or, replicate}
use Rattle.common.specs.Counters.{width}
use Rattle.xdr.specs.Be.{be}
use Rattle.xdr.specs.Tab.{tab}
use Rattle.runs.specs.declared.Run.{Run}
use Rattle.runs.specs.Bytes.{runs_of, runs_end, map_size, log_size}
use Rattle.runs.specs.Owner as runs
use Rattle.runs.specs.Map.{map_of}
pub use Rattle.stripe.specs.Piece.{Piece, extent_of, place_of}
use Rattle.stripe.specs.Stripe.{written}
use Rattle.note.specs.Note.{note_answer, note_map, note_log}
use Rattle.write.specs.Write.{write_answer, write_image}
use Rattle.restart.specs.Restart.{restart_answer, restart_map}
use Rattle.compact.specs.Compact.{compact_answer, compact_log}

-- By what pieces are judged
abbrev pub age_of : Piece → ℕ
age_of p = runs.age_of (place_of p)

abbrev pub size : Piece → ℕ
size p = length p.bytes

-- b is a byte of the piece, and its value there
abbrev pub Covers : Piece → ℕ → Type 0
Covers p b = (p.first ≤ b) × (b < p.first + size p)

abbrev pub byte_of : Piece → ℕ → ℕ
byte_of p b = get_or p.bytes (b - p.first) 0

-- The stripe's buffers. "After any cut the map is lost"
pub data Map : Type 0 where
  lost : Map
  live : List ℕ → Map

-- "a second lent buffer": the log that a compaction left there, while the daemon may turn to it
pub data Second : Type 0 where
  none : Second
  ready : List ℕ → Second

pub record Stripe : Type 0 where
  pub map : Map
  pub log : List ℕ
  pub second : Second
  pub image : List ℕ

-- "A run starts with an empty map and log": the map is all zeros; the log has the count 0, and "Bytes after the last entry may be anything"
abbrev pub EmptyLog : List ℕ → Type 0
EmptyLog log = (length log ≡ log_size width) × (be 4 log 0 ≡ 0)

abbrev pub begin : List ℕ → List ℕ → Stripe
begin log image = record { map = live (replicate (map_size width) 0); log = log; second = none; image = image }

-- A step: a call that runs to its end, a call that is cut, the turn to the second log, a turn that is cut, or a cut at any other time. Of a cut note
-- `new` says whether it left the new log, and `junk` what stands past the entries; of a cut write `junk` says what it left at the places that it would
-- store. Restart and compaction are lent a buffer of any content. A compaction runs to its end once what it left is durable: a cut before that is a
-- `compact_cut`. Of a cut turn `new` says which log is found
pub data Step : Type 0 where
  note : Piece → Step
  note_cut : (new : Bool) (junk : ℕ → ℕ) → Piece → Step
  write : Piece → Step
  write_cut : (junk : ℕ → ℕ) → Piece → Step
  restart : (buffer : List ℕ) → Step
  compact : (buffer : List ℕ) → Step
  compact_cut : Step
  turn : Step
  turn_cut : (new : Bool) → Step
  cut : Step

-- Would the call answer 0? With the map lost "no note or write follows"
unfoldable pub note_ok : Stripe → Map → Piece → Bool
note_ok s lost p = false
note_ok s (live m) p = eqb (note_answer m s.log (extent_of p) (length s.image)) 0

unfoldable pub write_ok : Stripe → Map → Piece → Bool
write_ok s lost p = false
write_ok s (live m) p = eqb (write_answer m (extent_of p) (length s.image)) 0

-- "with no note between the call and that store": a second log lacks what is noted after its compaction, so it is not turned to any more. (The run
-- `note q, compact, note p, write p, turn, cut, restart, write q`, with q older than p and over the same byte, would lose p's entry, and end with q's byte)
abbrev pub outdated : Bool → Second → Second
outdated is_noted none = none
outdated is_noted (ready log) = cond is_noted none (ready log)

-- What each call leaves when it runs to its end
unfoldable pub after_note : Stripe → Map → Piece → Stripe
after_note s lost p = s
after_note s (live m) p =
    record {
      map = live (note_map m s.log (extent_of p) (length s.image));
      log = note_log m s.log (extent_of p) (length s.image);
      second = outdated (note_ok s (live m) p) s.second;
      image = s.image;
    }

unfoldable pub after_write : Stripe → Map → Piece → Stripe
after_write s lost p = s
after_write s (live m) p =
    record { map = live m; log = s.log; second = s.second; image = write_image m p s.image }

abbrev pub after_restart : Stripe → List ℕ → Stripe
after_restart s buffer =
    cond (eqb (restart_answer buffer s.log) 0) (record { map = live (restart_map buffer s.log); log = s.log; second = s.second; image = s.image }) s

abbrev pub after_compact : Stripe → List ℕ → Stripe
after_compact s buffer =
    cond (eqb (compact_answer s.log buffer) 0) (record { map = s.map; log = s.log; second = ready (compact_log s.log buffer); image = s.image }) s

-- "The daemon turns to the new log by one store": the map stays. Where no second log is ready there is nothing to turn to
abbrev pub after_turn : Stripe → Second → Stripe
after_turn s none = s
after_turn s (ready log) = record { map = s.map; log = log; second = none; image = s.image }

-- "before the count changes, bytes past the old entries may be anything"
unfoldable pub scrambled : (ℕ → ℕ) → List ℕ → List ℕ
scrambled junk log = tab (length log) (λ b. cond (ltb b (runs_end width log)) (get_or log b 0) (junk b))

-- "A cut in a write leaves any bytes at the places that this write would store, and none changed elsewhere"
unfoldable pub torn : Stripe → Map → Piece → (ℕ → ℕ) → List ℕ
torn s lost p junk = s.image
torn s (live m) p junk = written (runs_of width m) p.first (tab (size p) junk) (age_of p) s.image

abbrev pub unplugged : List ℕ → Second → List ℕ → Stripe
unplugged log second image = record { map = lost; log = log; second = second; image = image }

-- The stripe after a step. "A cut in a note leaves the old log, or, if uncut it would have answered 0, the new one"; of a turn "a cut finds either"
unfoldable pub next : Stripe → Step → Stripe
next s (note p) = after_note s s.map p
next s (note_cut new junk p) =
    unplugged (scrambled junk (cond (new && note_ok s s.map p) (after_note s s.map p).log s.log)) (outdated (new && note_ok s s.map p) s.second) s.image
next s (write p) = after_write s s.map p
next s (write_cut junk p) = unplugged s.log s.second (cond (write_ok s s.map p) (torn s s.map p junk) s.image)
next s (restart buffer) = after_restart s buffer
next s (compact buffer) = after_compact s buffer
next s compact_cut = unplugged s.log none s.image
next s turn = after_turn s s.second
next s (turn_cut true) = unplugged (after_turn s s.second).log none s.image
next s (turn_cut false) = unplugged s.log s.second s.image
next s cut = unplugged s.log s.second s.image

unfoldable pub after : Stripe → List Step → Stripe
after s [] = s
after s (e ∷ es) = after (next s e) es

-- "A piece is noted once its note answered 0, or was cut and left the new log."
unfoldable pub notes : Stripe → Step → List Piece
notes s (note p) = cond (note_ok s s.map p) (p ∷ []) []
notes s (note_cut new junk p) = cond (new && note_ok s s.map p) (p ∷ []) []
notes s (write p) = []
notes s (write_cut junk p) = []
notes s (restart buffer) = []
notes s (compact buffer) = []
notes s compact_cut = []
notes s turn = []
notes s (turn_cut new) = []
notes s cut = []

unfoldable pub noted : Stripe → List Step → List Piece
noted s [] = []
noted s (e ∷ es) = notes s e ++ noted (next s e) es

-- An accepted write, and whether it ran to its end. "A cut write counts as accepted if, uncut, it would have answered 0."
pub record Write : Type 0 where
  pub piece : Piece
  pub whole : Bool

unfoldable pub writes : Stripe → Step → List Write
writes s (note p) = []
writes s (note_cut new junk p) = []
writes s (write p) = cond (write_ok s s.map p) (record { piece = p; whole = true } ∷ []) []
writes s (write_cut junk p) = cond (write_ok s s.map p) (record { piece = p; whole = false } ∷ []) []
writes s (restart buffer) = []
writes s (compact buffer) = []
writes s compact_cut = []
writes s turn = []
writes s (turn_cut new) = []
writes s cut = []

unfoldable pub accepted : Stripe → List Step → List Write
accepted s [] = []
accepted s (e ∷ es) = writes s e ++ accepted (next s e) es

-- Does the step turn to a second log?
abbrev pub is_ready : Second → Bool
is_ready none = false
is_ready (ready log) = true

unfoldable pub turns : Stripe → Step → Bool
turns s (note p) = false
turns s (note_cut new junk p) = false
turns s (write p) = false
turns s (write_cut junk p) = false
turns s (restart buffer) = false
turns s (compact buffer) = false
turns s compact_cut = false
turns s turn = is_ready s.second
turns s (turn_cut new) = new && is_ready s.second
turns s cut = false

-- The entries of the log, from the entries rs on: a note appends the piece's, and a turn leaves "exactly the runs of the old log's map"
unfoldable pub entries : List Run → Stripe → List Step → List Run
entries rs s [] = rs
entries rs s (e ∷ es) = entries (cond (turns s e) (map_of rs) (rs ++ map place_of (notes s e))) (next s e) es
