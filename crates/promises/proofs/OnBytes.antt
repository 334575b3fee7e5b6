-- P1 to P11, and the rows of #103, on bytes: messages, notes and writes on bytes follow the rules, and of the rules the table of examples holds.
use Prim.Native.Nat.{ℕ}
use native.Mathlib.Omega.{arith}
use mathlib.Core.Bool.{Bool, true, false, cond}
use mathlib.Core.List.{List, [], ◌∷◌, ◌++◌, map}
use mathlib.Core.Logic.{inl, inr}
use mathlib.Core.Path.{◌≡◌, refl, sym, ap, ap₂, subst, ◌∙◌}
use lib.Dec.{eqb}
use lib.ListN.{replicate}
use borrow.Author.Tests.{eqb-true}
use Rattle.common.specs.Counters.{width}
use Rattle.common.proofs.Bools.{never}
use Rattle.common.proofs.Blank.{blank-bytes}
use Rattle.xdr.specs.Be.{Bytes}
use Rattle.xdr.specs.Array.{array}
use Rattle.table.specs.Table.{Table}
use Rattle.table.specs.Bytes.{table_size, table_of, sound_table_bytes}
use Rattle.table.proofs.Zeros.{zeros-empty, zeros-sound}
use Rattle.runs.specs.declared.Run.{Run}
use Rattle.runs.specs.Bytes.{map_size}
use Rattle.runs.proofs.Blank.{none-counted, no-runs}
use Rattle.stripe.specs.Stripe as rules
use Rattle.locks.specs.declared.Message.{Message}
use Rattle.locks.specs.Serve.{Outcome, serve}
use Rattle.locks.specs.Events.{event_layout, event_fields}
use Rattle.serve.specs.declared.Answer.{Answer}
use Rattle.promises.specs.Demand1.{Served}
use Rattle.promises.specs.Demand2.{Called}
use Rattle.promises.specs.Run.{EmptyLog, begin}
use Rattle.promises.specs.Examples.{Row, sending, calling, dots, computed, lines, session, examples, examples-hold}
use Rattle.promises.specs.Examples as examples
use Rattle.promises.specs.OnBytes.{shown, Prints, done, call, RowHolds, AllHold, OnBytes}
use Rattle.promises.proofs.Determined.{of-message}
use Rattle.promises.proofs.Reached.{buffer, buffer-long}
use Rattle.promises.proofs.Outcomes.{Alone, served-alone}
use Rattle.promises.proofs.Demand2.{called}
use Rattle.promises.proofs.Carried.{begin-carried}
use Rattle.promises.proofs.Followed.{decoded, follows}

-- the lines of one call
shown-is : (X : Table) (m : Message) (b : List ℕ) (r : Answer) (u c : List ℕ) → Called X m b r u c → shown r c ≡ lines (serve X m)
shown-is X m b r u c C =
    ap (λ (a : Answer). (a.refusal ∷ a.handle ∷ []) ∷ cond (eqb a.refusal 0) (array (event_layout width) c 0) []) C.answer
    ∙ ap (λ (l : List (List ℕ)). ((serve X m).refusal ∷ (serve X m).handle ∷ []) ∷ l) (go (eqb (serve X m).refusal 0) refl (served-alone X m))
  where
    go : (z : Bool) → eqb (serve X m).refusal 0 ≡ z → Alone X (serve X m) → cond z (array (event_layout width) c 0) [] ≡ map event_fields (serve X m).events
    go true e a = C.events (eqb-true (serve X m).refusal 0 e)
    go false e (inl z) = never (sym e ∙ ap (λ (n : ℕ). eqb n 0) z)
    go false e (inr a) = sym (ap (λ (o : Outcome). map event_fields o.events) a)

prints : {t : List ℕ} {ms : List Message} {ls : List (List ℕ)} → Prints t ms ls → sound_table_bytes t ≡ true → ls ≡ session (table_of width t) ms
prints done s = refl
prints (call {t = t} {u = u} {b = b} {c = c} {m = m} {ms = ms} {r = r} {ls = ls} h L P) s =
    let C = called m t b r u c s h L in
    ap₂ (λ (x y : List (List ℕ)). x ++ y) (shown-is (table_of width t) m b r u c C) (prints P C.sound ∙ ap (λ (X : Table). session X ms) C.table)

-- there are such calls
some-print : (ms : List Message) (t : List ℕ) → Bytes t → (ls : List (List ℕ)) × Prints t ms ls
some-print [] t h = ([], done)
some-print (m ∷ ms) t h =
    let P = of-message m t buffer h in
    let x : Served = P.some in
    let more = some-print ms x.table P.meets.1 in
    (shown x.answer x.events ++ more.0, call {b = buffer} (omega (arith, buffer-long)) P.meets.0 more.1)

-- the parts of a row
printed_of : Row → List (List ℕ)
printed_of (sending sent printed) = printed
printed_of (calling made answered m image) = []

answered_of : Row → List ℕ
answered_of (sending sent printed) = []
answered_of (calling made answered m image) = answered

map_of : Row → List Run
map_of (sending sent printed) = []
map_of (calling made answered m image) = m

image_of : Row → List ℕ
image_of (sending sent printed) = []
image_of (calling made answered m image) = image

pub begins : (log : List ℕ) → EmptyLog log → decoded (begin log dots) ≡ examples.begin
begins log E = λ i. record { map = no-runs (map_size width) i; log = none-counted log E.1 i; image = dots }

row-holds : (r : Row) → computed r ≡ r → RowHolds r
unfolding printed_of answered_of map_of image_of
row-holds (sending sent printed) e =
    let zero-table : List ℕ = replicate (table_size width) 0 in
    let only : (ls : List (List ℕ)) → Prints zero-table sent ls → ls ≡ printed =
    λ ls P. prints P zeros-sound ∙ ap (λ (X : Table). session X sent) (zeros-empty (table_size width)) ∙ ap printed_of e in
    let some = some-print sent zero-table (blank-bytes (table_size width)) in
    (subst (λ (ls : List (List ℕ)). Prints zero-table sent ls) (only some.0 some.1) some.1, only)
row-holds (calling made answered m image) e = λ log E.
    let F = follows made (replicate (map_size width) 0) log dots (begin-carried log dots E) in
    let s = F.stripe ∙ ap (λ (x : rules.Stripe). examples.after_calls x made) (begins log E) in (
      F.answers ∙ ap (λ (x : rules.Stripe). examples.answers x made) (begins log E) ∙ ap answered_of e,
      ap (λ (x : rules.Stripe). x.map) s ∙ ap map_of e,
      ap (λ (x : rules.Stripe). x.image) s ∙ ap image_of e,
    )

head_of : Row → List Row → Row
head_of d [] = d
head_of d (r ∷ rs) = r

rest_of : List Row → List Row
rest_of [] = []
rest_of (r ∷ rs) = rs

rows-hold : (rs : List Row) → map computed rs ≡ rs → AllHold rs
unfolding head_of rest_of
rows-hold [] e = tt
rows-hold (r ∷ rs) e = (row-holds r (ap (head_of r) e), rows-hold rs (ap rest_of e))

pub on-bytes : OnBytes
on-bytes = rows-hold examples examples-hold
