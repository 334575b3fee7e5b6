-- What an entry leaves, as lines: a call's events are at most 256 and stand in the event buffer, so the lines that are put are the answer's.
use Prim.Native.Nat.{ℕ, ◌≤◌}
use native.Mathlib.Omega.{arith}
use mathlib.Core.Bool.{Bool, true, false, cond}
use mathlib.Core.List.{List, [], map}
use mathlib.Core.Path.{◌≡◌, refl, sym, ap, subst, ◌∙◌}
use lib.Dec.{T, eqb}
use lib.ListN.{length}
use Rattle.common.specs.Counters.{width}
use Rattle.xdr.specs.Tab.{tab}
use Rattle.table.specs.Table.{Table, max_records}
use Rattle.table.specs.Sound.{sound}
use Rattle.table.specs.Bytes.{table_of, sound_table_bytes}
use Rattle.locks.specs.declared.Message.{Message}
use Rattle.locks.specs.declared.Message.TheVariants.{Request}
use Rattle.locks.specs.Settle.{settle}
use Rattle.locks.specs.Refusals.{refusal}
use Rattle.locks.specs.Serve.{Outcome, change, answered, accepted, refused, serve}
use Rattle.locks.specs.Session.{single}
use Rattle.locks.specs.Events.{event_fields, events_size, events_over}
use Rattle.locks.proofs.Events.{serve-once}
use Rattle.locks.proofs.Fitting.{serve-fit}
use Rattle.serve.specs.declared.Answer.{Answer}
use Rattle.serve.specs.Leaves.{Leaves}
use Rattle.message.specs.Messages.{Serves}
use Rattle.table.proofs.Zeros.{sound-good}
use Rattle.promises.proofs.Sessions as sessions
use Rattle.promises.proofs.Sessions.{outcome-is, Follows}
use Rattle.std.specs.Prelude.{Some}
use Rattle.text.specs.Text.{outcome_text, outcome_size}
use Rattle.text.specs.Buffers.{Wrote, events_in}
use Rattle.text.proofs.Events.{events-read}
use Rattle.session.specs.Buffers.{Answers}

-- a message that comes by itself is served by the entry that takes no mark
pub unmarked : {m : Message} {x s k f l : ℕ} {d : Bool} {t b u c : List ℕ} {r : Answer} → T (single m) → m ≡ Request x s k f l d → Serves (Request x s k f l false) t b r u c → Serves m t b r u c
unmarked {d = true} h e L = absurd (subst (λ (y : Message). T (single y)) e h)
unmarked {d = false} {t = t} {b = b} {u = u} {c = c} {r = r} h e L = subst (λ (y : Message). Serves y t b r u c) (sym e) L

-- a refused call has no events
refused_none : (x : Table) (m : Message) → eqb (serve x m).refusal 0 ≡ false → (serve x m).events ≡ []
unfolding serve
refused_none x m = go (eqb (refusal x m) 0)
  where
    go : (b : Bool) → eqb (cond b (accepted (answered x m) (settle (change x m))) (refused x (refusal x m))).refusal 0 ≡ false
        → (cond b (accepted (answered x m) (settle (change x m))) (refused x (refusal x m))).events ≡ []
    go true e = absurd (let z : ◌≡◌ {A = ℕ} 0 1 = cc in let y : ⊥ = omega arith in y)
    go false e = refl

-- a call on a sound table, with an event buffer that is long enough
module _ (m : Message) (t b : List ℕ) {r : Answer} {u c : List ℕ} (s : sound_table_bytes t ≡ true) (h : events_size width ≤ length b)
    (L : Serves m t b r u c) where
  abbrev o : Outcome
  o = serve (table_of width t) m

  served : Leaves o t b r u c
  served = subst (λ (x : Outcome). Leaves x t b r u c) (outcome-is m t b s h) L

  sounds : T (sound (table_of width t))
  sounds = (sound-good t true (sym s) refl).sounds

  pub few : length o.events ≤ max_records
  few = (serve-once (table_of width t) m sounds).at_most

  pub follows : Follows o.table u
  follows = sessions.follows m t b r u c s h L

  pub counted : r.events ≤ max_records
  counted = omega (arith, few, ap (λ (a : Answer). a.events) served.answer)

  read : events_in c (length o.events) ≡ map event_fields o.events
  unfolding tab
  read = go (eqb o.refusal 0) refl
    where
      go : (x : Bool) → eqb o.refusal 0 ≡ x → events_in c (length o.events) ≡ map event_fields o.events
      go true e =
          let k : c ≡ events_over width b o.events = served.events ∙ ap (λ (y : Bool). cond y (events_over width b o.events) b) e in
          rw k (events-read b o.events (omega (arith, few)) (omega (arith, few)) (serve-fit (table_of width t) m sounds))
      go false e = rw (refused_none (table_of width t) m e)

  -- the lines of its answer are put
  pub answered-good : {n : ℕ} {out : List ℕ} → n ≡ r.events → Wrote (outcome_size n) [] out (outcome_text r.refusal r.handle (events_in c n))
      → Answers (Some m) t u out
  answered-good {n} {out} e w = record { sound = follows.sound; says = w.says ∙ rw (e, served.answer, read); after = follows.says }
