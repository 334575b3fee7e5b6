-- What each message's entry answers and leaves in table and event buffer, on bytes and for every input.
use Rattle.std.specs.Prelude.{ℕ, not, cond, List, [], ◌∷◌, eqb, ltb, length}
use Rattle.common.specs.Counters.{width}
use Rattle.common.specs.Refusals.{Rule, rule, first_hit}
use Rattle.table.specs.Bytes.{table_of, sound_table_bytes}
use Rattle.locks.specs.declared.Message.{Message}
use Rattle.locks.specs.Serve.{Outcome, refused, serve}
use Rattle.locks.specs.Events.{events_size}
use Rattle.serve.specs.declared.Answer.{Answer}
use Rattle.serve.specs.Leaves.{Leaves}

-- 1: "event buffer under 11,268 bytes"; 2: "table of another length, or not sound"
abbrev pub entry_rules : List ℕ → List ℕ → List Rule
entry_rules table events = rule 1 (ltb (length events) (events_size width)) ∷ rule 2 (not (sound_table_bytes table)) ∷ []

-- 1 and 2 come first, then the message's own
unfoldable pub outcome : Message → List ℕ → List ℕ → Outcome
outcome m table events =
    let n = first_hit (entry_rules table events) in
    cond (eqb n 0) (serve (table_of width table) m) (refused (table_of width table) n)

-- The message m, lent the table t and the event buffer b, answers r and leaves u and c in them
abbrev pub Serves : Message → List ℕ → List ℕ → Answer → List ℕ → List ℕ → Type 0
Serves m t b r u c = Leaves (outcome m t b) t b r u c
