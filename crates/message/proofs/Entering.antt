-- What stands before a message is served: 1 and 2.
use Prim.Native.Nat.{ℕ, ◌≤◌}
use mathlib.Core.List.{List}
use mathlib.Core.Path.{◌≡◌, refl, sym}
use lib.Dec.{T, nltb→le}
use lib.ListN.{length}
use borrow.Author.Tests.{ne_eqb}
use Rattle.std.specs.Prelude.{Err}
use Rattle.common.specs.declared.Refusal.{Refusal}
use Rattle.common.specs.Counters.{width}
use Rattle.common.specs.Refusals.{first_hit, refusal_number}
use Rattle.common.proofs.Bools.{and_l, and_r, undo}
use Rattle.common.proofs.Order.{eq→eqb}
use Rattle.common.proofs.Refusals.{unbroken}
use Rattle.table.specs.Bytes.{table_of, sound_table_bytes}
use Rattle.table.specs.Places.{count_of, Good}
use Rattle.locks.specs.declared.Message.{Message}
use Rattle.locks.specs.Events.{events_size}
use Rattle.serve.specs.declared.Answer.{Answer}
use Rattle.serve.specs.Posts.{answer_to, OnSound}
use Rattle.serve.proofs.Ending.{refusal-not0, bytes-good, leaves-refused}
use Rattle.message.specs.Messages.{entry_rules, outcome, Serves}

module _ (t b : List ℕ) where
  pub entry-refused : (m : Message) (r : Refusal) → refusal_number r ≡ first_hit (entry_rules t b) → Serves m t b (answer_to (Err r)) t b
  unfolding outcome
  entry-refused m r e =
      rw (← e, ne_eqb (refusal_number r) 0 (refusal-not0 r)) (leaves-refused (table_of width t) t b (answer_to (Err r)) (refusal_number r) (refusal-not0 r) refl)

  module _ (z : 0 ≡ first_hit (entry_rules t b)) where
    pub record Entered : Type 0 where
      pub room : events_size width ≤ length b
      pub good : Good (count_of t) t

    pub entered : Entered
    entered =
        let u = unbroken (entry_rules t b) tt (eq→eqb (first_hit (entry_rules t b)) 0 (sym z)) in
        let s : T (sound_table_bytes t) = undo (sound_table_bytes t) (search (and_l, and_r) depth 8) in
        record { room = nltb→le (length b) (events_size width) (search (and_l)); good = bytes-good t s }

    -- bytes that are equal to those that the message leaves
    pub let-through : (m : Message) (r : Answer) (u v c d : List ℕ) → OnSound m t b r u c → v ≡ u → d ≡ c → Serves m t b r v d
    unfolding outcome
    let-through m r u v c d L e f = rw (← z, e, f) L
