-- The table's bytes: the layouts, over the counter's width w, and the table that bytes say.
use Rattle.std.specs.Prelude.{ℕ, ◌+◌, ◌≡◌, refl, Bool, ◌&&◌, List, [], ◌∷◌, ◌++◌, map, eqb, length, get_or, drop, replicate}
use Rattle.common.specs.Counters.{handle, number, width}
use Rattle.common.specs.Tests.{zeros}
use Rattle.xdr.specs.Be.{be}
use Rattle.xdr.specs.Layout.{fields, size}
use Rattle.xdr.specs.Array.{array, array_size, element}
use Rattle.table.specs.declared.Lock.{Lock}
use Rattle.table.specs.Table.{Table, stripe_count, max_records, handle_of, number_of, with_mark}
use Rattle.table.specs.Sound.{sound}

-- What is shown of a record, in its own bytes and in an event's: the widths, the numbers, and the record that numbers say. No mark is shown
abbrev pub shown_layout : ℕ → List ℕ
shown_layout w = w ∷ 4 ∷ 4 ∷ 4 ∷ 4 ∷ w ∷ 8 ∷ 8 ∷ []

abbrev pub shown_fields : Lock → List ℕ
shown_fields r = handle_of r ∷ r.client ∷ r.stripe ∷ r.mode ∷ r.state ∷ number_of r ∷ r.first ∷ r.last ∷ []

abbrev pub shown_of : List ℕ → Lock
shown_of fs =
    record {
      handle = handle (get_or fs 0 0);
      client = get_or fs 1 0;
      stripe = get_or fs 2 0;
      mode = get_or fs 3 0;
      state = get_or fs 4 0;
      number = number (get_or fs 5 0);
      first = get_or fs 6 0;
      last = get_or fs 7 0;
      mark = 0;
    }

-- "A record is handle, client, stripe, mode, state, number, first, last"; with request #101 "a record ends in a 4-byte word": 44 bytes
abbrev pub lock_layout : ℕ → List ℕ
lock_layout w = shown_layout w ++ 4 ∷ []

abbrev pub lock_fields : Lock → List ℕ
lock_fields r = shown_fields r ++ r.mark ∷ []

abbrev pub lock_of : List ℕ → Lock
lock_of fs = with_mark (shown_of fs) (get_or fs 8 0)

-- "Table, exactly 10,312 bytes: handles issued; 16 last sequence numbers; the array of at most 256 records .."; with request #101 11,336 bytes
abbrev pub lasts_layout : ℕ → List ℕ
lasts_layout w = replicate stripe_count w

abbrev pub array_at : ℕ → ℕ
array_at w = w + size (lasts_layout w)

abbrev pub table_size : ℕ → ℕ
table_size w = array_at w + array_size max_records (lock_layout w)

abbrev pub locks_of : ℕ → List ℕ → List Lock
locks_of w t = map lock_of (array (lock_layout w) t (array_at w))

abbrev pub table_of : ℕ → List ℕ → Table
table_of w t = record { issued = be w t 0; lasts = fields (lasts_layout w) t w 0; locks = locks_of w t }

-- ".. zero bytes after it"
abbrev pub records_end : ℕ → List ℕ → ℕ
records_end w t = element (lock_layout w) (array_at w) (be 4 t (array_at w))

-- What refusal 2 asks: its length, and every rule
unfoldable pub sound_table_bytes : List ℕ → Bool
sound_table_bytes t = eqb (length t) (table_size width) && (sound (table_of width t) && zeros (drop (records_end width t) t))

pub lock-size : size (lock_layout 4) ≡ 44
lock-size = refl

pub table-size : table_size 4 ≡ 11336
table-size = refl
