-- THE SEAM, the owner's own story, with the passes of document 02, #103. A session of the lock entries gives two write grants of a stripe, the i-th and, later,
-- the j-th. A run of the stripe's entries, with cuts, restarts and compactions anywhere, under demand 3's premises: each grant flushes pieces with its
-- number over the byte b, pass by pass. Then at the end the byte is the later grant's, and within one grant the later pass's, in whatever order the
-- flushes arrived, the earlier ones resent last too.
use Rattle.std.specs.Prelude.{ℕ, ◌≤◌, ◌<◌, ◌≡◌, ◌⊎◌, List, length, get_or, replicate}
use Rattle.common.specs.Counters.{width}
use Rattle.table.specs.Bytes.{table_size}
use Rattle.locks.specs.declared.Message.{Message}
use Rattle.locks.specs.Settle.{Event}
use Rattle.locks.specs.Session.{numbers}
use Rattle.promises.specs.Run.{Piece, Covers, byte_of, EmptyLog, begin, Step, after, noted, accepted}
use Rattle.promises.specs.Among.{Among}
use Rattle.promises.specs.Demand3.{HasWrite, Agree, Finished}
use Rattle.promises.specs.Session.{Session}

-- The number of a stripe's i-th write grant among the events, counted from 0
abbrev pub number_at : ℕ → List Event → ℕ → ℕ
number_at s es i = get_or (numbers s es) i 0

-- A run from an empty log on, with demand 3's premises
pub record Flushes (log image : List ℕ) (run : List Step) : Type 0 where
  pub empty : EmptyLog log
  pub agree : Agree (accepted (begin log image) run)
  pub sent : (p : Piece) → Among p (noted (begin log image) run) → HasWrite p (accepted (begin log image) run)
  pub finished : Finished (accepted (begin log image) run)

-- p is noted with the number n, and b is a byte of it
abbrev pub Over : List Piece → ℕ → ℕ → Piece → Type 0
Over ps n b p = Among p ps × (p.number ≡ n) × Covers p b

pub record Seam : Type 0 where
  -- Of two grants the later one's byte stands: every noted piece over b is of one of the two grants, and `later` has the later one's greatest pass
  pub grants :
      (ms : List Message) (es : List Event) (v : List ℕ) → Session (replicate (table_size width) 0) ms es v
      → (s i j : ℕ) → i < j → j < length (numbers s es)
      → (log image : List ℕ) (run : List Step) → Flushes log image run
      → (b : ℕ) (earlier later : Piece)
      → Over (noted (begin log image) run) (number_at s es i) b earlier
      → Over (noted (begin log image) run) (number_at s es j) b later
      → ((p : Piece) → Among p (noted (begin log image) run) → Covers p b
      → (p.number ≡ number_at s es i) ⊎ ((p.number ≡ number_at s es j) × (p.pass ≤ later.pass)))
      → get_or (after (begin log image) run).image b 0 ≡ byte_of later b
  -- And within one grant the later pass's: every noted piece over b has the grant's number n, and `later` the greatest pass
  pub passes :
      (log image : List ℕ) (run : List Step) → Flushes log image run
      → (n b : ℕ) (earlier later : Piece)
      → Over (noted (begin log image) run) n b earlier
      → Over (noted (begin log image) run) n b later
      → earlier.pass < later.pass
      → ((p : Piece) → Among p (noted (begin log image) run) → Covers p b → (p.number ≡ n) × (p.pass ≤ later.pass))
      → get_or (after (begin log image) run).image b 0 ≡ byte_of later b
