-- The records in a table's bytes, what it means that bytes hold a table (`Holds`), which the contracts of the messages cite, and what the code
-- that reads or changes a table asks of it.
use Rattle.std.specs.Prelude.{ℕ, ◌+◌, ◌*◌, ◌≤◌, ◌<◌, ◌≡◌, Bool, false, List, ◌++◌, T, length, get_or, set, take, drop}
use Rattle.common.specs.Counters.{width}
use Rattle.common.specs.Tests.{all, any}
use Rattle.modes.specs.Codes.{known_mode}
use Rattle.xdr.specs.Be.{be}
use Rattle.xdr.specs.Layout.{fields, Fit}
use Rattle.xdr.specs.Array.{element}
use Rattle.table.specs.declared.Lock.{Lock}
use Rattle.table.specs.Table.{Table, blank, max_records}
use Rattle.table.specs.Sound.{sound}
use Rattle.table.specs.Bytes.{shown_layout, shown_fields, lock_layout, lock_fields, lock_of, array_at, table_size, locks_of, table_of, records_end}

-- where the last number of stripe s stands, and where the record at place i starts
abbrev pub last_place : ℕ → ℕ
last_place s = width + width * s

abbrev pub lock_place : ℕ → ℕ
lock_place i = element (lock_layout width) (array_at width) i

-- the record at place i; how many there are
unfoldable pub lock_at : List ℕ → ℕ → Lock
lock_at t i = lock_of (fields (lock_layout width) t (lock_place i) 0)

abbrev pub count_of : List ℕ → ℕ
count_of t = be 4 t (array_at width)

-- each number that is shown of r has room in its field; each number of its record has
abbrev pub ShownFits : Lock → Type 0
ShownFits r = Fit (shown_layout width) (shown_fields r)

abbrev pub LockFits : Lock → Type 0
LockFits r = Fit (lock_layout width) (lock_fields r)

-- a table of n records, with zero bytes after them
pub record Shape (n : ℕ) (t : List ℕ) : Type 0 where
  pub size : length t ≡ table_size width
  pub count : count_of t ≡ n
  pub most : n ≤ max_records
  pub zeros : (b : ℕ) → records_end width t ≤ b → get_or t b 0 ≡ 0

-- u is the table T of n records: what each change of a table promises
pub record Holds (n : ℕ) (T : Table) (u : List ℕ) : Type 0 where
  pub shape : Shape n u
  pub says : table_of width u ≡ T

-- a sound table of n records: what each function that changes it asks
pub record Good (n : ℕ) (t : List ℕ) : Type 0 where
  pub shape : Shape n t
  pub sounds : T (sound (table_of width t))

-- a table of n records whose modes are known: what each question about two records asks
abbrev pub moded : Lock → Bool
moded r = known_mode r.mode

pub record Moded (n : ℕ) (t : List ℕ) : Type 0 where
  pub shape : Shape n t
  pub modes : T (all moded (locks_of width t))

-- none of the first i of n records has p; r is the first that has it, and n where none has
pub record Past (p : Lock → Bool) (n : ℕ) (rs : List Lock) (i : ℕ) : Type 0 where
  pub most : i ≤ n
  pub none : any p (take i rs) ≡ false

pub record First (p : Lock → Bool) (n : ℕ) (rs : List Lock) (r : ℕ) : Type 0 where
  pub past : Past p n rs r
  pub here : r < n → T (p (get_or rs r blank))

abbrev pub with_locks : Table → List Lock → Table
with_locks t ls = record { issued = t.issued; lasts = t.lasts; locks = ls }

abbrev pub with_issued : Table → ℕ → Table
with_issued t v = record { issued = v; lasts = t.lasts; locks = t.locks }

abbrev pub with_lock : Table → ℕ → Lock → Table
with_lock t i l = with_locks t (set t.locks i l)

-- without the record at place i
abbrev pub without : ℕ → List Lock → List Lock
without i ls = take i ls ++ drop (i + 1) ls

abbrev pub with_last : Table → ℕ → ℕ → Table
with_last t s v = record { issued = t.issued; lasts = set t.lasts s v; locks = t.locks }
