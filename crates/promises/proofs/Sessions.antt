-- Demand 2: a session on bytes is a session of the rules, call by call, and its table stays sound. The thought: a call's bytes decode to the rules' table.
use Prim.Native.Nat.{ℕ, ◌≤◌}
use mathlib.Core.Bool.{Bool, true, false, cond}
use mathlib.Core.List.{List, ◌++◌, map}
use mathlib.Core.Path.{◌≡◌, refl, sym, ap, ap₂, subst, ◌∙◌}
use lib.Dec.{T, eqb}
use lib.ListN.{length}
use borrow.Author.Tests.{le-ltb}
use Rattle.common.specs.Counters.{width}
use Rattle.common.proofs.Bools.{never}
use Rattle.table.specs.Table.{Table}
use Rattle.table.specs.Sound.{sound}
use Rattle.table.specs.Bytes.{table_of, sound_table_bytes}
use Rattle.table.proofs.Zeros.{bytes-sound, holds-sound}
use Rattle.locks.specs.declared.Item.{Item}
use Rattle.locks.specs.declared.Message.{Message}
use Rattle.locks.specs.Settle.{Event, settle}
use Rattle.locks.specs.Refusals.{refusal}
use Rattle.locks.specs.Serve.{Outcome, change, answered, accepted, refused, serve}
use Rattle.locks.specs.Session.{table_after, events}
use Rattle.locks.specs.Events.{events_size}
use Rattle.locks.specs.List.{max_items, request_of, serve_list, list_events_size}
use Rattle.locks.proofs.Served.{serve-sound}
use Rattle.locks.proofs.Lists.{list-table, list-events, list-sound, tables-join, events-join}
use Rattle.serve.specs.declared.Answer.{Answer}
use Rattle.serve.specs.Leaves.{Leaves}
use Rattle.message.specs.Messages.{outcome, Serves}
use Rattle.list.specs.Lists.{accepted_list, ServesList}
use Rattle.promises.specs.Session.{Session, done, call, list}
use Rattle.promises.proofs.Lists.{list-is}

-- Of sound bytes the outcome is the rules'
module _ (m : Message) (t b : List ℕ) (s : sound_table_bytes t ≡ true) (h : events_size width ≤ length b) where
  pub outcome-is : outcome m t b ≡ serve (table_of width t) m
  unfolding outcome
  outcome-is = rw (le-ltb (length b) (events_size width) h, s)

-- After a call the bytes are sound, and decode to the rules' table
pub record Follows (X : Table) (u : List ℕ) : Type 0 where
  pub says : table_of width u ≡ X
  pub sound : sound_table_bytes u ≡ true

refused-same : (X : Table) (m : Message) → eqb (serve X m).refusal 0 ≡ false → (serve X m).table ≡ X
unfolding serve
refused-same X m = go (eqb (refusal X m) 0)
  where
    go : (x : Bool) → eqb (cond x (accepted (answered X m) (settle (change X m))) (refused X (refusal X m))).refusal 0 ≡ false → (cond x (accepted (answered X m) (settle (change X m))) (refused X (refusal X m))).table ≡ X
    go true e = never (sym e)
    go false e = refl

pub follows : (m : Message) (t b : List ℕ) (r : Answer) (u c : List ℕ) → sound_table_bytes t ≡ true → events_size width ≤ length b → Serves m t b r u c → Follows (serve (table_of width t) m).table u
follows m t b r u c s h L = go (eqb o.refusal 0) refl
  where
    o : Outcome
    o = serve (table_of width t) m

    K : Leaves o t b r u c
    K = subst (λ (x : Outcome). Leaves x t b r u c) (outcome-is m t b s h) L

    after-sound : T (sound o.table)
    after-sound = serve-sound (table_of width t) m (bytes-sound t s)

    go : (x : Bool) → eqb o.refusal 0 ≡ x → Follows o.table u
    go true e = let H = K.table (rw e tt) in record { says = H.says; sound = holds-sound (length o.table.locks) o.table u H after-sound }
    go false e =
        let same : u ≡ t = K.same (rw e tt) in
        record { says = ap (table_of width) same ∙ sym (refused-same (table_of width t) m e); sound = ap sound_table_bytes same ∙ s }

-- After a list
pub list-follows : (xs : List Item) (t b : List ℕ) (r : Answer) (ys : List Item) (u c : List ℕ) → sound_table_bytes t ≡ true → length xs ≤ max_items → list_events_size width ≤ length b
    → ServesList xs t b r ys u c → Follows (table_after (table_of width t) (map request_of xs)) u
list-follows xs t b r ys u c s few room L =
    let X : Table = table_of width t in
    let K : Leaves (accepted_list (serve_list X xs)) t b r u c = subst (λ (o : Outcome). Leaves o t b r u c) (list-is xs t b s few room) L.call in
    let H = K.table tt in
    record {
      says = H.says ∙ list-table X xs;
      sound = holds-sound (length (serve_list X xs).table.locks) (serve_list X xs).table u H (list-sound X xs (bytes-sound t s));
    }

-- A session of the entries is one of the rules
pub session-follows : {t v : List ℕ} {ms : List Message} {es : List Event} → Session t ms es v → sound_table_bytes t ≡ true → Follows (table_after (table_of width t) ms) v
session-follows done s = record { says = refl; sound = s }
session-follows (call {t = t} {u = u} {v = v} {b = b} {c = c} {m = m} {ms = ms} {r = r} i h L S) s =
    let F = follows m t b r u c s h L in
    subst (λ (x : Table). Follows (table_after x ms) v) F.says (session-follows S F.sound)
session-follows (list {t = t} {u = u} {v = v} {b = b} {c = c} {xs = xs} {ys = ys} {ms = ms} {r = r} i h L S) s =
    let F = list-follows xs t b r ys u c s i h L in
    subst (λ (x : Table). Follows x v) (ap (λ (x : Table). table_after x ms) F.says ∙ sym (tables-join (table_of width t) (map request_of xs) ms)) (session-follows S F.sound)

pub session-events : {t v : List ℕ} {ms : List Message} {es : List Event} → Session t ms es v → sound_table_bytes t ≡ true → es ≡ events (table_of width t) ms
session-events done s = refl
session-events (call {t = t} {u = u} {b = b} {c = c} {m = m} {ms = ms} {r = r} {es = es} i h L S) s =
    let F = follows m t b r u c s h L in
    ap₂ (λ (x y : List Event). x ++ y) (ap (λ (o : Outcome). o.events) (outcome-is m t b s h)) (session-events S F.sound ∙ ap (λ (x : Table). events x ms) F.says)
session-events (list {t = t} {u = u} {b = b} {c = c} {xs = xs} {ys = ys} {ms = ms} {r = r} {es = es} i h L S) s =
    let X : Table = table_of width t in
    let F = list-follows xs t b r ys u c s i h L in
    ap₂ (λ (x y : List Event). x ++ y) (ap (λ (o : Outcome). o.events) (list-is xs t b s i h) ∙ list-events X xs) (session-events S F.sound ∙ ap (λ (x : Table). events x ms) F.says)
    ∙ sym (events-join X (map request_of xs) ms)
