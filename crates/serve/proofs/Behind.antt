-- A call whose events stand behind j others, and the whole call: j is 0, and the count is stored.
use Prim.Native.Nat.{ℕ, ◌+◌, ◌-◌}
use native.Mathlib.Omega.{arith}
use mathlib.Core.Bool.{Bool, true, false, not, cond}
use mathlib.Core.List.{List, [], map}
use mathlib.Core.Path.{◌≡◌, refl, sym, ap, ap₂, subst, ◌∙◌}
use lib.Dec.{T, eqb, eqb→eq}
use lib.ListN.{length, length-map}
use borrow.Author.Tests.{ne_eqb}
use Rattle.std.specs.Prelude.{Ok, Err}
use Rattle.common.specs.declared.Handle.{Handle}
use Rattle.common.specs.declared.Refusal.{Refusal}
use Rattle.common.specs.Counters.{width}
use Rattle.common.specs.Refusals.{first_hit, refusal_number}
use Rattle.xdr.specs.Be.{put_be}
use Rattle.xdr.specs.Array.{put_array, put_elements}
use Rattle.xdr.proofs.Elements.{put-elements-length}
use Rattle.table.specs.Table.{Table, max_records}
use Rattle.table.specs.Bytes.{table_of}
use Rattle.table.specs.Places.{Holds, Good}
use Rattle.table.proofs.Reading.{locks-length}
use Rattle.locks.specs.declared.Message.{Message}
use Rattle.locks.specs.Settle.{settle}
use Rattle.locks.specs.Refusals.{rules}
use Rattle.locks.specs.Serve.{Outcome, change, answered, accepted, refused, serve}
use Rattle.locks.specs.Events.{event_layout, event_fields, Room, events_over}
use Rattle.locks.proofs.Events.{settle-once, serve-once}
use Rattle.settle.specs.Posts.{put_events, Did}
use Rattle.serve.specs.declared.Accepted.{Accepted}
use Rattle.serve.specs.declared.Answer.{Answer}
use Rattle.serve.specs.Leaves.{Leaves}
use Rattle.serve.specs.Posts.{answer_to, OnSound, Behind, EndsBehind, Ends}
use Rattle.serve.proofs.Ending.{refusal-not0}

-- the changed table is settled, and there are k events, j of them from before
pub behind-settled : (n j : ℕ) (h : Handle) (k : ℕ) (X : Table) (b u c : List ℕ) → Did n j (settle X) b k u c → EndsBehind j h.0 X b (answer_to (Ok (record { handle = h; events = k - j }))) k u c
behind-settled n j h k X b u c D = record {
  answer = ap {B = Answer} (λ (m : ℕ). record { refusal = 0; handle = h.0; events = m }) many;
  same = λ a. refl;
  table = λ a. subst (λ (m : ℕ). Holds m (settle X).table u) (sym D.table.shape.count ∙ sym (locks-length u) ∙ ap (λ (Y : Table). length Y.locks) D.table.says) D.table;
  events = D.bytes;
  count = D.count;
}
  where
    many : k - j ≡ length (settle X).events
    many = let q = D.count in omega arith

-- a message m on the table in t
module _ (m : Message) (t : List ℕ) where
  abbrev X : Table
  X = table_of width t

  refused-as : (r : Refusal) → refusal_number r ≡ first_hit (rules X m) → refused X (refusal_number r) ≡ serve X m
  unfolding serve
  refused-as r e = rw (← e, ne_eqb (refusal_number r) 0 (refusal-not0 r)) refl

  pub behind-refused : (j : ℕ) (b : List ℕ) (r : Refusal) → refusal_number r ≡ first_hit (rules X m) → Behind j (serve X m) t b (answer_to (Err r)) j t b
  unfolding put_elements
  behind-refused j b r e =
      subst (λ (o : Outcome). Behind j o t b (answer_to (Err r)) j t b) (refused-as r e)
      (record { answer = refl; same = λ a. refl; table = λ a. absurd (refusal-not0 r (eqb→eq (refusal_number r) 0 a)); events = refl; count = omega arith })

  -- it is not refused, and the changed table stands in u
  module _ (z : first_hit (rules X m) ≡ 0) (u : List ℕ) (e : table_of width u ≡ change X m) where
    served-as : serve X m ≡ accepted (answered X m) (settle (table_of width u))
    unfolding serve
    served-as = rw (z, e) refl

    pub behind-room : (j : ℕ) (b : List ℕ) → Room (j + length (serve X m).events) b → Room (j + length (settle (table_of width u)).events) b
    behind-room j b h = subst (λ (o : Outcome). Room (j + length o.events) b) served-as h

    pub behind-served : (j h : ℕ) (b : List ℕ) (r : Answer) (k : ℕ) (v c : List ℕ) → h ≡ answered X m → EndsBehind j h (table_of width u) b r k v c → Behind j (serve X m) t b r k v c
    behind-served j h b r k v c p E =
        subst (λ (o : Outcome). Behind j o t b r k v c) (sym served-as)
        (subst (λ (i : ℕ). Behind j (accepted i (settle (table_of width u))) t b r k v c) p (record { answer = E.answer; same = λ a. absurd a; table = E.table; events = E.events; count = E.count }))

    pub leaves-served : (h : ℕ) (b : List ℕ) (r : Answer) (v c : List ℕ) → h ≡ answered X m → Ends h (table_of width u) b r v c → OnSound m t b r v c
    leaves-served h b r v c p E =
        subst (λ (o : Outcome). Leaves o t b r v c) (sym served-as)
        (subst (λ (i : ℕ). Leaves (accepted i (settle (table_of width u))) t b r v c) p (record { answer = E.answer; same = λ a. absurd a; table = E.table; events = E.events }))

-- the buffer of the events keeps its length
pub behind-length : (j : ℕ) (o : Outcome) (t b : List ℕ) (r : Answer) (k : ℕ) (u c : List ℕ) → Behind j o t b r k u c → length c ≡ length b
behind-length j o t b r k u c B = ap (λ (x : List ℕ). length x) B.events ∙ put-elements-length (event_layout width) b 0 j (map event_fields o.events)

-- the whole call: the count is stored where it is accepted
pub whole-accepted : (o : Outcome) (t b : List ℕ) (a : Accepted) (k : ℕ) (u d c : List ℕ) → Behind 0 o t b (answer_to (Ok a)) k u d → c ≡ put_be 4 d 0 a.events → Leaves o t b (answer_to (Ok a)) u c
unfolding events_over put_array
whole-accepted o t b a k u d c B p =
    let its : 0 ≡ o.refusal = ap (λ (x : Answer). x.refusal) B.answer in
    let many : a.events ≡ length o.events = ap (λ (x : Answer). x.events) B.answer in
    record {
      answer = B.answer;
      same = B.same;
      table = B.table;
      events = rw (← its) (p ∙ ap₂ (λ (x : List ℕ) (i : ℕ). put_be 4 x 0 i) B.events (many ∙ sym (length-map o.events event_fields)));
    }

module _ (m : Message) (t b : List ℕ) where
  abbrev o : Outcome
  o = serve (table_of width t) m

  abbrev either : Bool → Outcome
  either y = cond y (accepted (answered (table_of width t) m) (settle (change (table_of width t) m))) (refused (table_of width t) (first_hit (rules (table_of width t) m)))

  no-events : T (not (eqb o.refusal 0)) → o.events ≡ []
  unfolding serve
  no-events = go (eqb (first_hit (rules (table_of width t) m)) 0)
    where
      go : (y : Bool) → T (not (eqb (either y).refusal 0)) → (either y).events ≡ []
      go true z = absurd z
      go false z = refl

  module _ (r : Refusal) (k : ℕ) (u c : List ℕ) (B : Behind 0 o t b (answer_to (Err r)) k u c) where
    refuses : eqb o.refusal 0 ≡ false
    refuses = let its : refusal_number r ≡ o.refusal = ap (λ (a : Answer). a.refusal) B.answer in ne_eqb o.refusal 0 (λ z. refusal-not0 r (its ∙ z))

    pub whole-refused : OnSound m t b (answer_to (Err r)) u c
    unfolding put_elements
    whole-refused = record {
      answer = B.answer;
      same = B.same;
      table = B.table;
      events = rw refuses (B.events ∙ ap (put_events b 0) (no-events (rw refuses tt)));
    }

    pub whole-none : k ≡ 0
    whole-none = let n : length o.events ≡ 0 = ap length (no-events (rw refuses tt)) in omega (arith, B.count)

  pub message-refused : (r : Refusal) → refusal_number r ≡ first_hit (rules (table_of width t) m) → OnSound m t b (answer_to (Err r)) t b
  message-refused r e = whole-refused r 0 t b (behind-refused m t 0 b r e)

-- room for the events of any call is room for those of this one
module _ (n : ℕ) (t b : List ℕ) (G : Good n t) (z : Room max_records b) where
  pub end_fits : Room (0 + length (settle (table_of width t)).events) b
  end_fits = let h = (settle-once (table_of width t) G.sounds).at_most in omega arith

  pub message-fits : (m : Message) → Room (0 + length (serve (table_of width t) m).events) b
  message-fits m = let h = (serve-once (table_of width t) m G.sounds).at_most in omega arith
