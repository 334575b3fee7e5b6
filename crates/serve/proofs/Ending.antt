-- How a call ends, whatever it asks: with a refusal, which leaves all bytes, or with the changed table settled.
use Prim.Native.Nat.{ℕ, ◌<◌}
use native.Mathlib.Omega.{arith}
use mathlib.Core.Bool.{Bool, true, cond}
use mathlib.Core.List.{List, []}
use mathlib.Core.Path.{◌≡◌, refl, sym, ap, subst}
use lib.Dec.{T, eqb→eq}
use borrow.Author.Tests.{ne_eqb}
use Rattle.common.specs.declared.Refusal.{Refusal}
use Rattle.common.specs.declared.Refusal.TheVariants as r
use Rattle.common.specs.Counters.{width}
use Rattle.common.specs.Refusals.{Rule, first_hit, refusal_number}
use Rattle.common.proofs.Bools.{true-is}
use Rattle.common.proofs.Order.{eq→eqb}
use Rattle.table.specs.Table.{Table}
use Rattle.table.specs.Sound.{sound}
use Rattle.table.specs.Bytes.{table_of, sound_table_bytes}
use Rattle.table.specs.Places.{count_of, Shape, Good}
use Rattle.table.proofs.Zeros.{sound-good}
use Rattle.locks.specs.declared.Message.{Message}
use Rattle.locks.specs.Refusals.{rules}
use Rattle.locks.specs.Serve.{change, answered, refused, served}
use Rattle.locks.specs.Events.{events_over}
use Rattle.locks.proofs.Served.{change-keeps}
use Rattle.serve.specs.declared.Answer.{Answer}
use Rattle.serve.specs.Leaves.{Leaves}
use Rattle.serve.specs.Posts.{Ends}

-- no refusal is 0
refusal-some : (x : Refusal) → 0 < refusal_number x
refusal-some r.EventBuffer = omega arith
refusal-some r.Table = omega arith
refusal-some r.Client = omega arith
refusal-some r.Stripe = omega arith
refusal-some r.Mode = omega arith
refusal-some r.Range = omega arith
refusal-some r.Handles = omega arith
refusal-some r.Records = omega arith
refusal-some r.NoRecord = omega arith
refusal-some r.OtherClient = omega arith
refusal-some r.State = omega arith
refusal-some r.Map = omega arith
refusal-some r.Log = omega arith
refusal-some r.Piece = omega arith
refusal-some r.Number = omega arith
refusal-some r.Runs = omega arith
refusal-some r.Entries = omega arith
refusal-some r.Smaller = omega arith
refusal-some r.Items = omega arith

pub refusal-not0 : (x : Refusal) → refusal_number x ≡ 0 → ⊥
refusal-not0 x e = let s = refusal-some x in omega arith

-- bytes that 2 lets pass
pub bytes-good : (t : List ℕ) → T (sound_table_bytes t) → Good (count_of t) t
bytes-good t s = sound-good t true (sym (true-is (sound_table_bytes t) s)) refl

-- a refusal
pub leaves-refused : (X : Table) (t b : List ℕ) (a : Answer) (k : ℕ) → (k ≡ 0 → ⊥) → a ≡ record { refusal = k; handle = 0; events = 0 } → Leaves (refused X k) t b a t b
leaves-refused X t b a k z e = record {
  answer = e;
  same = λ q. refl;
  table = λ q. absurd (z (eqb→eq k 0 q));
  events = sym (ap (λ (y : Bool). cond y (events_over width b []) b) (ne_eqb k 0 z));
}

-- a call by its rules, the handle that it answers and its change X of the table in t
module _ (list : List Rule) (h : ℕ) (X : Table) (t b : List ℕ) where
  pub served-refused : (r : Answer) (k : ℕ) → k ≡ first_hit list → (k ≡ 0 → ⊥) → r ≡ record { refusal = k; handle = 0; events = 0 } → Leaves (served list h X (table_of width t)) t b r t b
  served-refused r k e z q = rw (← e, ne_eqb k 0 z) (leaves-refused (table_of width t) t b r k z q)

  -- it is not refused, and the changed table stands in u
  module _ (n : ℕ) (u : List ℕ) (S : Shape n u) (e : table_of width u ≡ X) where
    pub changed-good : T (sound X) → Good n u
    changed-good s = record { shape = S; sounds = subst (λ (Y : Table). T (sound Y)) (sym e) s }

    pub changed-served : (r : Answer) (v c : List ℕ) → first_hit list ≡ 0 → Ends h (table_of width u) b r v c → Leaves (served list h X (table_of width t)) t b r v c
    changed-served r v c z E = rw (z) (record { answer = F.answer; same = λ a. absurd a; table = F.table; events = F.events })
      where
        F : Ends h X b r v c
        F = subst (λ (Y : Table). Ends h Y b r v c) e E

-- a message that is not refused, and the changed table stands in u
pub message-good : (m : Message) (t : List ℕ) → first_hit (rules (table_of width t) m) ≡ 0 → (n : ℕ) (u : List ℕ) → Shape n u → table_of width u ≡ change (table_of width t) m → T (sound (table_of width t)) → Good n u
message-good m t z n u S e s =
    changed-good (rules (table_of width t) m) (answered (table_of width t) m) (change (table_of width t) m) t [] n u S e (change-keeps (table_of width t) m s (eq→eqb (first_hit (rules (table_of width t) m)) 0 z))
