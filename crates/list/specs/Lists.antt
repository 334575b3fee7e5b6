-- What a list's entry answers and leaves in items, table and event buffer, on bytes and for every input.
use Rattle.std.specs.Prelude.{ℕ, ◌≡◌, not, cond, List, [], ◌∷◌, eqb, ltb, length}
use Rattle.common.specs.Counters.{width}
use Rattle.common.specs.Refusals.{Rule, rule, first_hit}
use Rattle.table.specs.Bytes.{table_of, sound_table_bytes}
use Rattle.locks.specs.declared.Item.{Item}
use Rattle.locks.specs.Serve.{Outcome, refused}
use Rattle.locks.specs.List.{max_items, Listed, serve_list, list_events_size}
use Rattle.serve.specs.declared.Answer.{Answer}
use Rattle.serve.specs.Leaves.{Leaves}

-- "Refusals: for the whole list 1 (at its new size), 2, then 19, more than 64 items": of a table's bytes, the event buffer's length, and how
-- many items there are
abbrev pub list_rules : List ℕ → ℕ → ℕ → List Rule
list_rules table room count = rule 1 (ltb room (list_events_size width)) ∷ rule 2 (not (sound_table_bytes table)) ∷ rule 19 (ltb max_items count) ∷ []

abbrev pub list_refusal : List Item → List ℕ → List ℕ → ℕ
list_refusal items table events = first_hit (list_rules table (length events) (length items))

-- A list that is not refused answers 0, no handle, and the events of all items together
abbrev pub accepted_list : Listed → Outcome
accepted_list l = record { refusal = 0; handle = 0; table = l.table; events = l.events }

unfoldable pub list_outcome : List Item → List ℕ → List ℕ → Outcome
list_outcome items table events =
    let n = list_refusal items table events in
    cond (eqb n 0) (accepted_list (serve_list (table_of width table) items)) (refused (table_of width table) n)

-- "the rest go into each description"; a refused list changes none
unfoldable pub list_items : List Item → List ℕ → List ℕ → List Item
list_items items table events = cond (eqb (list_refusal items table events) 0) (serve_list (table_of width table) items).items items

-- A list, lent the items xs, the table t and the event buffer b, answers r and leaves ys, u and c in them
pub record ServesList (xs : List Item) (t b : List ℕ) (r : Answer) (ys : List Item) (u c : List ℕ) : Type 0 where
  pub call : Leaves (list_outcome xs t b) t b r u c
  pub items : ys ≡ list_items xs t b
