-- The lock table, decoded, and its records.
use Rattle.std.specs.Prelude.{ℕ, ◌+◌, Bool, not, List, [], eqb, get_or, replicate}
use Rattle.common.specs.Counters.{handle, number}
use Rattle.modes.specs.Codes.{waiting, pr}
use Rattle.table.specs.declared.Lock.{Lock}

-- Clients are 0 to 63, stripes 0 to 15, and at most 256 records are in use
abbrev pub max_client : ℕ
max_client = 63

abbrev pub max_stripe : ℕ
max_stripe = 15

abbrev pub stripe_count : ℕ
stripe_count = max_stripe + 1

abbrev pub max_records : ℕ
max_records = 256

-- "handles issued; 16 last sequence numbers; the array of at most 256 records"
pub record Table : Type 0 where
  pub issued : ℕ
  pub lasts : List ℕ
  pub locks : List Lock

abbrev pub empty : Table
empty = record { issued = 0; lasts = replicate stripe_count 0; locks = [] }

abbrev pub handle_of : Lock → ℕ
handle_of r = r.handle.0

abbrev pub number_of : Lock → ℕ
number_of r = r.number.0

-- "Records in states 1 to 3 are held"
abbrev pub waits : Lock → Bool
waits r = eqb r.state waiting

abbrev pub held : Lock → Bool
held r = not (waits r)

-- Its mode is NBW, BW or PW
abbrev pub writes : Lock → Bool
writes r = not (eqb r.mode pr)

-- "Such a request is marked": while it waits
abbrev pub marked : Lock → Bool
marked r = not (eqb r.mark 0)

-- What stands where no record is: zeros
abbrev pub blank : Lock
blank =
    record {
      handle = handle 0;
      client = 0;
      stripe = 0;
      mode = 0;
      state = 0;
      number = number 0;
      first = 0;
      last = 0;
      mark = 0;
    }

-- A held record with this mode, state, number and last byte: what settling and a message make of a record. "a record ends in a 4-byte word, 1 while a
-- marked request waits and else 0"
abbrev pub remade : Lock → ℕ → ℕ → ℕ → ℕ → Lock
remade r mode state n last =
    record {
      handle = r.handle;
      client = r.client;
      stripe = r.stripe;
      mode = mode;
      state = state;
      number = number n;
      first = r.first;
      last = last;
      mark = 0;
    }

-- The record with another mark
abbrev pub with_mark : Lock → ℕ → Lock
with_mark r mark =
    record {
      handle = r.handle;
      client = r.client;
      stripe = r.stripe;
      mode = r.mode;
      state = r.state;
      number = r.number;
      first = r.first;
      last = r.last;
      mark = mark;
    }

-- The record at place i, counted from 0
abbrev pub nth : Table → ℕ → Lock
nth t i = get_or t.locks i blank

-- A stripe's last sequence number
abbrev pub last_of : Table → ℕ → ℕ
last_of t s = get_or t.lasts s 0
