-- DEMAND 3. "Take any pieces for a stripe, noted and written in any order and any number of times, with cuts anywhere, a restart after each. Suppose
-- pieces of equal number agree where they overlap, each noted piece had a write accepted, and the last accepted write of every piece ran to its end.
-- Then each byte under a noted piece is that of the noted piece with the greatest number there, and every other byte is as it began." Document 02,
-- #102: "demand 3 now has this call among its steps"; #103: "Demand 3, its agreement premise too, reads pair for number".
use Rattle.std.specs.Prelude.{ℕ, ◌≤◌, ◌<◌, ◌≡◌, ◌⊎◌, true, List, [], ◌∷◌, map, length, get_or}
use Rattle.common.specs.Counters.{width}
use Rattle.runs.specs.declared.Run.{Run}
use Rattle.runs.specs.Owner.{owner}
use Rattle.runs.specs.Map.{map_of}
use Rattle.runs.specs.Bytes.{runs_of, map_size, log_size, sound_map_bytes, map_bytes, log_bytes}
use Rattle.restart.specs.Restart.{restart_answer}
use Rattle.compact.specs.Compact.{compact_answer}
use Rattle.promises.specs.Among.{Among}
use Rattle.promises.specs.Run.{Piece, Covers, byte_of, place_of, Map, lost, live, Second, none, ready, Stripe, EmptyLog, begin, Step, after, noted, Write, accepted, entries}

abbrev pub HasWrite : Piece → List Write → Type 0
HasWrite p [] = ⊥
HasWrite p (w ∷ ws) = (p ≡ w.piece) ⊎ HasWrite p ws

-- Two pieces of one pair
abbrev pub SamePair : Piece → Piece → Type 0
SamePair p q = (p.number ≡ q.number) × (p.pass ≡ q.pass)

-- The pair of p is at most that of q: "age is judged by number first and pass second"
abbrev pub AtMost : Piece → Piece → Type 0
AtMost p q = (p.number < q.number) ⊎ ((p.number ≡ q.number) × (p.pass ≤ q.pass))

-- "pieces of equal number agree where they overlap", pair for number: of pieces that had a write accepted, and so of each noted piece. A refused piece
-- may say anything
abbrev pub Agree : List Write → Type 0
Agree ws = (p q : Piece) → HasWrite p ws → HasWrite q ws → SamePair p q → (b : ℕ) → Covers p b → Covers q b → byte_of p b ≡ byte_of q b

-- "the last accepted write of every piece ran to its end": a write that no later one of its piece follows is whole
abbrev pub Finished : List Write → Type 0
Finished [] = Unit {0}
Finished (w ∷ ws) = ((HasWrite w.piece ws → ⊥) → w.whole ≡ true) × Finished ws

-- p is the noted piece with the greatest number over b, pair for number
abbrev pub Greatest : List Piece → ℕ → Piece → Type 0
Greatest ps b p = Among p ps × Covers p b × ((q : Piece) → Among q ps → Covers q b → AtMost q p)

pub record Kept (ps : List Piece) (old new : List ℕ) : Type 0 where
  pub some : (b : ℕ) (p : Piece) → Among p ps → Covers p b → (q : Piece) × Greatest ps b q
  pub under : (b : ℕ) (p : Piece) → Greatest ps b p → get_or new b 0 ≡ byte_of p b
  pub other : (b : ℕ) → ((p : Piece) → Among p ps → Covers p b → ⊥) → get_or new b 0 ≡ get_or old b 0
  pub long : length new ≡ length old

abbrev pub Demand3 : Type 0
Demand3 =
    (log image : List ℕ) (es : List Step) → EmptyLog log
    → Agree (accepted (begin log image) es)
    → ((p : Piece) → Among p (noted (begin log image) es) → HasWrite p (accepted (begin log image) es))
    → Finished (accepted (begin log image) es)
    → Kept (noted (begin log image) es) image (after (begin log image) es).image

-- With it: "in every run the map is the log's map, and no restart is refused". The log has the entries of the noted pieces, in note order, and where the
-- daemon turned, the runs of their map: so it says of every byte what the noted pieces say. While the map is not lost it is sound, and to the byte what
-- a restart fills in, and a second log is to the byte what a compaction fills in; restart and compaction are lent a buffer of the right length
abbrev pub LogsMap : Map → List ℕ → Type 0
LogsMap lost log = Unit {0}
LogsMap (live m) log = (sound_map_bytes m ≡ true) × (m ≡ map_bytes width (map_of (runs_of width log)))

abbrev pub SecondLog : Second → List ℕ → Type 0
SecondLog none log = Unit {0}
SecondLog (ready n) log = n ≡ log_bytes width (map_of (runs_of width log))

pub record Steady (ps : List Piece) (rs : List Run) (s : Stripe) : Type 0 where
  pub log : runs_of width s.log ≡ rs
  pub says : (b : ℕ) → owner (runs_of width s.log) b ≡ owner (map place_of ps) b
  pub map : LogsMap s.map s.log
  pub second : SecondLog s.second s.log
  pub restarts : (buffer : List ℕ) → length buffer ≡ map_size width → restart_answer buffer s.log ≡ 0
  pub compacts : (buffer : List ℕ) → length buffer ≡ log_size width → compact_answer s.log buffer ≡ 0

abbrev pub Always : Type 0
Always =
    (log image : List ℕ) (es : List Step) → EmptyLog log
    → Steady (noted (begin log image) es) (entries [] (begin log image) es) (after (begin log image) es)
