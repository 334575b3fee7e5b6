-- What a list is refused for as a whole, and what is known once it is not.
use Prim.Native.Nat.{ℕ, ◌≤◌}
use mathlib.Core.List.{List}
use mathlib.Core.Path.{◌≡◌, refl, sym}
use lib.Dec.{T, nltb→le}
use lib.ListN.{length}
use borrow.Author.Tests.{ne_eqb}
use Rattle.common.specs.Counters.{width}
use Rattle.common.specs.Refusals.{refusal_number}
use Rattle.common.proofs.Bools.{and_l, and_r, undo}
use Rattle.common.proofs.Order.{eq→eqb}
use Rattle.common.proofs.Refusals.{unbroken}
use Rattle.table.specs.Bytes.{table_of, sound_table_bytes}
use Rattle.table.specs.Places.{count_of, Good}
use Rattle.locks.specs.declared.Item.{Item}
use Rattle.locks.specs.List.{list_events_size}
use Rattle.std.specs.Prelude.{Err}
use Rattle.common.specs.declared.Refusal.{Refusal}
use Rattle.serve.specs.Posts.{answer_to}
use Rattle.serve.proofs.Ending.{refusal-not0, bytes-good, leaves-refused}
use Rattle.list.specs.Lists.{list_rules, list_refusal, list_outcome, list_items, ServesList}

-- a list that is not refused
pub record Passed (xs : List Item) (t b : List ℕ) : Type 0 where
  pub none : list_refusal xs t b ≡ 0
  pub room : list_events_size width ≤ length b
  pub good : Good (count_of t) t

pub passed : (xs : List Item) (t b : List ℕ) → 0 ≡ list_refusal xs t b → Passed xs t b
passed xs t b z =
    let u = unbroken (list_rules t (length b) (length xs)) tt (eq→eqb (list_refusal xs t b) 0 (sym z)) in
    let s : T (sound_table_bytes t) = undo (sound_table_bytes t) (search (and_l, and_r) depth 8) in
    record {
      none = sym z;
      room = nltb→le (length b) (list_events_size width) (search (and_l));
      good = bytes-good t s;
    }

-- a refused list changes nothing
pub list-refused : (xs : List Item) (t b : List ℕ) (r : Refusal) → refusal_number r ≡ list_refusal xs t b → ServesList xs t b (answer_to (Err r)) xs t b
unfolding list_outcome list_items
list-refused xs t b r e = record {
  call = rw (← e, ne_eqb (refusal_number r) 0 (refusal-not0 r)) (leaves-refused (table_of width t) t b (answer_to (Err r)) (refusal_number r) (refusal-not0 r) refl);
  items = rw (← e, ne_eqb (refusal_number r) 0 (refusal-not0 r)) refl;
}
