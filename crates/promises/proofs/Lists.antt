-- The outcome of a list, whatever the bytes: its number is the first hit of 1, 2 and 19, a refused one is the number alone, an accepted one leaves a
-- sound table; and on sound bytes, with room for its events and at most 64 items, it is the rules' list.
use Prim.Native.Nat.{ℕ, ◌≤◌, ◌<◌}
use mathlib.Core.Bool.{Bool, true, false, cond}
use mathlib.Core.List.{List, ◌∷◌}
use mathlib.Core.Logic.{inl, inr}
use mathlib.Core.Path.{◌≡◌, refl, sym}
use lib.Dec.{T, eqb, eqb→eq}
use lib.ListN.{length}
use borrow.Author.Tests.{le-ltb, lt-ltb, ne_eqb}
use Rattle.common.specs.Counters.{width}
use Rattle.common.specs.Tests.{any}
use Rattle.common.proofs.Bools.{and_l, and_r, undo, true-is}
use Rattle.common.proofs.Refusals.{listed, unbroken}
use Rattle.table.specs.Table.{Table}
use Rattle.table.specs.Sound.{sound}
use Rattle.table.specs.Bytes.{table_of, sound_table_bytes}
use Rattle.table.proofs.Zeros.{bytes-sound}
use Rattle.locks.specs.declared.Item.{Item}
use Rattle.locks.specs.Serve.{Outcome, refused}
use Rattle.locks.specs.List.{max_items, serve_list, list_events_size}
use Rattle.locks.proofs.Lists.{list-sound}
use Rattle.list.specs.Lists.{list_rules, list_refusal, accepted_list, list_outcome, list_items}
use Rattle.promises.specs.Demand1.{list, numbers}
use Rattle.promises.proofs.Outcomes.{Alone}

module _ (xs : List Item) (t b : List ℕ) where
  abbrev X : Table
  X = table_of width t

  abbrev n : ℕ
  n = list_refusal xs t b

  abbrev from : Bool → Outcome
  from z = cond z (accepted_list (serve_list X xs)) (refused X n)

  pub list_hit : (list_outcome xs t b).refusal ≡ list_refusal xs t b
  unfolding list_outcome
  list_hit = go (eqb n 0) (eqb→eq n 0)
    where
      go : (z : Bool) → (T z → n ≡ 0) → (from z).refusal ≡ n
      go true f = sym (f tt)
      go false f = refl

  pub list-alone : Alone (table_of width t) (list_outcome xs t b)
  unfolding list_outcome
  list-alone = go (eqb n 0)
    where
      go : (z : Bool) → Alone X (from z)
      go true = inl refl
      go false = inr refl

  -- where no rule is broken, the table is sound
  passed : T (eqb n 0) → sound_table_bytes t ≡ true
  passed e =
      let u = unbroken (list_rules t (length b) (length xs)) tt e in
      true-is (sound_table_bytes t) (undo (sound_table_bytes t) (search (and_l, and_r)))

  pub list-leaves-sound : T (eqb (list_outcome xs t b).refusal 0) → T (sound (list_outcome xs t b).table)
  unfolding list_outcome
  list-leaves-sound = go (eqb n 0) refl
    where
      go : (z : Bool) → eqb n 0 ≡ z → T (eqb (from z).refusal 0) → T (sound (from z).table)
      go true e h = list-sound X xs (bytes-sound t (passed (rw e tt)))
      go false e h = absurd (rw e at h)

  pub list-listed : T (any (eqb (list_refusal xs t b)) (0 ∷ numbers list))
  list-listed = listed (list_rules t (length b) (length xs))

  pub items_stay : (list_refusal xs t b ≡ 0 → ⊥) → list_items xs t b ≡ xs
  unfolding list_items
  items_stay z = rw (ne_eqb (list_refusal xs t b) 0 z) refl

  pub list-unsound : list_events_size width ≤ length b → sound_table_bytes t ≡ false → list_refusal xs t b ≡ 2
  list-unsound room s = rw (le-ltb (length b) (list_events_size width) room, s)

  pub list-crowded : list_events_size width ≤ length b → sound_table_bytes t ≡ true → max_items < length xs → list_refusal xs t b ≡ 19
  list-crowded room s many = rw (le-ltb (length b) (list_events_size width) room, s, lt-ltb max_items (length xs) many)

  module _ (s : sound_table_bytes t ≡ true) (few : length xs ≤ max_items) (room : list_events_size width ≤ length b) where
    pub list-accepted : list_refusal xs t b ≡ 0
    list-accepted = rw (le-ltb (length b) (list_events_size width) room, s, le-ltb max_items (length xs) few)

    pub list-is : list_outcome xs t b ≡ accepted_list (serve_list (table_of width t) xs)
    unfolding list_outcome
    list-is = rw list-accepted

    pub items-are : list_items xs t b ≡ (serve_list (table_of width t) xs).items
    unfolding list_items
    items-are = rw list-accepted
