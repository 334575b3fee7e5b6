-- Demand 1 of each entry at any input. A message, and a list: what it leaves is the encoded table where it is accepted, and a table has one spelling in bytes.
-- Note, write, restart and compaction: their contracts are equations.
use Prim.Native.Nat.{ℕ}
use mathlib.Core.Bool.{Bool, true, false, cond}
use mathlib.Core.List.{List, ◌∷◌, ◌++◌}
use mathlib.Core.Logic.{inl, inr}
use mathlib.Core.Path.{◌≡◌, refl, sym, ap, subst, ◌∙◌}
use lib.Dec.{T, eqb}
use lib.ListN.{length}
use borrow.Author.Tests.{ne_eqb}
use Rattle.common.specs.Tests.{any}
use Rattle.common.specs.Counters.{width}
use Rattle.common.proofs.Bools.{by_cond, cond-true, cond-false}
use Rattle.xdr.specs.Be.{Bytes}
use Rattle.table.specs.Sound.{sound}
use Rattle.table.specs.Bytes.{table_of}
use Rattle.table.specs.Places.{Holds}
use Rattle.table.proofs.Unique.{holds-unique}
use Rattle.table.proofs.Encoding.{table_bytes, table-bytes, table-held}
use Rattle.table.proofs.Fitting.{sound-fits}
use Rattle.locks.specs.declared.Item.{Item}
use Rattle.locks.specs.declared.Message.{Message}
use Rattle.locks.specs.Refusals.{rules}
use Rattle.locks.specs.Serve.{Outcome}
use Rattle.locks.specs.Events.{events_over}
use Rattle.serve.specs.declared.Answer.{Answer}
use Rattle.serve.specs.Leaves.{Leaves}
use Rattle.message.specs.Messages.{entry_rules, outcome}
use Rattle.list.specs.Lists.{list_rules, list_refusal, list_outcome, list_items, ServesList}
use Rattle.stripe.specs.declared.Extent.{Extent}
use Rattle.stripe.specs.Piece.{Piece, extent_of}
use Rattle.note.specs.Note.{note_answer, note_map, note_log}
use Rattle.write.specs.Write.{write_answer, write_image}
use Rattle.restart.specs.Restart.{restart_answer, restart_map}
use Rattle.compact.specs.Compact.{compact_answer, compact_log}
use Rattle.promises.specs.Demand1.{numbers, entry_of, Judged, Served, ListServed, OfMessage, OfList, OfNote, OfWrite, OfRestart, OfCompact}
use Rattle.promises.proofs.Outcomes.{judged, Alone, outcome-hit, outcome-alone, outcome-sound, outcome-listed}
use Rattle.promises.proofs.Lists.{list_hit, list-alone, list-leaves-sound, list-listed, items_stay}
use Rattle.promises.proofs.StripeRefusals.{note-listed, write-listed, restart-listed, compact-listed, note-refused, write-refused, restart-refused, compact-refused}

-- What a call on the lock table leaves, by its outcome o
abbrev Meets : Outcome → List ℕ → List ℕ → Served → Type 0
Meets o t b x = Leaves o t b x.answer x.table x.events × Bytes x.table

module _ (o : Outcome) (t b : List ℕ) where
  -- the table's bytes after the call
  after : List ℕ
  after = cond (eqb o.refusal 0) (table_bytes o.table) t

  left : Served
  left = record {
    answer = record { refusal = o.refusal; handle = o.handle; events = length o.events };
    table = after;
    events = cond (eqb o.refusal 0) (events_over width b o.events) b;
  }

  left_meets : (T (eqb o.refusal 0) → T (sound o.table)) → Bytes t → Meets o t b left
  unfolding left after
  left_meets s h = (
    record {
      answer = refl;
      same = λ e. cond-false (eqb o.refusal 0) (table_bytes o.table) t e;
      table = λ e.
          subst (λ (u : List ℕ). Holds (length o.table.locks) o.table u)
          (sym (cond-true (eqb o.refusal 0) (table_bytes o.table) t e))
          (table-held o.table (sound-fits o.table (s e)));
      events = refl;
    },
    by_cond Bytes (eqb o.refusal 0) (table_bytes o.table) t (λ e. table-bytes o.table) (λ e. h),
  )

  one : (x y : Served) → Meets o t b x → Meets o t b y → x ≡ y
  one x y p q = λ i. record { answer = (p.0.answer ∙ sym q.0.answer) i; table = go (eqb o.refusal 0) refl i; events = (p.0.events ∙ sym q.0.events) i }
    where
      go : (z : Bool) → eqb o.refusal 0 ≡ z → x.table ≡ y.table
      go true e =
          let n : ℕ = length o.table.locks in
          holds-unique n n o.table x.table y.table (p.0.table (rw e tt)) (q.0.table (rw e tt)) p.1 q.1
      go false e = p.0.same (rw e tt) ∙ sym (q.0.same (rw e tt))

  -- the number of what meets the contract
  number : (x : Served) → Meets o t b x → x.answer.refusal ≡ o.refusal
  number x p = ap (λ (a : Answer). a.refusal) p.0.answer

  alone : Alone (table_of width t) o → (x : Served) → Meets o t b x → (x.answer.refusal ≡ 0 → ⊥) → x ≡ record { answer = record { refusal = x.answer.refusal; handle = 0; events = 0 }; table = t; events = b }
  alone a x p n = go a
    where
      z : eqb o.refusal 0 ≡ false
      z = ne_eqb o.refusal 0 (λ e. n (number x p ∙ e))

      go : Alone (table_of width t) o → x ≡ record { answer = record { refusal = x.answer.refusal; handle = 0; events = 0 }; table = t; events = b }
      go (inl e) = absurd (n (number x p ∙ e))
      go (inr e) = λ i. record {
        answer = (p.0.answer
            ∙ ap (λ (k : Outcome). record { refusal = k.refusal; handle = k.handle; events = length k.events }) e
            ∙ ap (λ (k : ℕ). record { refusal = k; handle = 0; events = 0 }) (sym (number x p))) i;
        table = p.0.same (rw z tt) i;
        events = (p.0.events ∙ ap (λ (k : Bool). cond k (events_over width b o.events) b) z) i;
      }

pub of-message : (m : Message) (t b : List ℕ) → Bytes t → OfMessage m t b
of-message m t b h =
    let o : Outcome = outcome m t b in
    record {
      some = left o t b;
      meets = left_meets o t b (outcome-sound m t b) h;
      only = one o t b;
      listed = λ x p. subst (λ (n : ℕ). T (any (eqb n) (0 ∷ numbers (entry_of m)))) (sym (number o t b x p)) (outcome-listed m t b);
      judged = λ x p. subst (Judged (entry_rules t b ++ rules (table_of width t) m)) (sym (number o t b x p ∙ outcome-hit m t b)) (judged (entry_rules t b ++ rules (table_of width t) m));
      unchanged = alone o t b (outcome-alone m t b);
    }

pub of-list : (xs : List Item) (t b : List ℕ) → Bytes t → OfList xs t b
of-list xs t b h =
    record {
      some = with (left o t b) (list_items xs t b);
      meets = (record { call = L.0; items = refl }, L.1);
      only = λ x y p q i.
          let e = one o t b (served x) (served y) (p.0.call, p.1) (q.0.call, q.1) in
          with (e i) ((p.0.items ∙ sym q.0.items) i);
      listed = λ x p. rw (its x p) (list-listed xs t b);
      judged = λ x p. rw (its x p) (judged (list_rules t (length b) (length xs)));
      unchanged = λ x p n i. with (alone o t b (list-alone xs t b) (served x) (p.0.call, p.1) n i) ((p.0.items ∙ items_stay xs t b (λ e. n (its x p ∙ e))) i);
    }
  where
    o : Outcome
    o = list_outcome xs t b

    L : Meets (list_outcome xs t b) t b (left (list_outcome xs t b) t b)
    L = left_meets (list_outcome xs t b) t b (list-leaves-sound xs t b) h

    served : ListServed → Served
    served x = record { answer = x.answer; table = x.table; events = x.events }

    with : Served → List Item → ListServed
    with x ys = record { answer = x.answer; items = ys; table = x.table; events = x.events }

    its : (x : ListServed) → ServesList xs t b x.answer x.items x.table x.events × Bytes x.table → x.answer.refusal ≡ list_refusal xs t b
    its x p = ap (λ (a : Answer). a.refusal) p.0.call.answer ∙ list_hit xs t b

pub of-note : (m l : List ℕ) (e : Extent) (i : ℕ) → OfNote m l e i
unfolding note_answer
of-note m l e i = record {
  some = record { answer = note_answer m l e i; map = note_map m l e i; log = note_log m l e i };
  meets = record { answers = refl; map = refl; log = refl };
  only = λ a b p q k. record { answer = (p.answers ∙ sym q.answers) k; map = (p.map ∙ sym q.map) k; log = (p.log ∙ sym q.log) k };
  listed = λ a p. rw p.answers (note-listed m l e i);
  judged = λ a p. rw p.answers (judged _);
  unchanged = λ a p h.
      let r = note-refused m l e i (λ z. h (p.answers ∙ z)) in
      λ k. record { answer = a.answer; map = (p.map ∙ r.0) k; log = (p.log ∙ r.1) k };
}

pub of-write : (m : List ℕ) (d : Piece) (i : List ℕ) → OfWrite m d i
unfolding write_answer
of-write m d i = record {
  some = record { answer = write_answer m (extent_of d) (length i); image = write_image m d i };
  meets = record { answers = refl; stores = refl };
  only = λ a b p q k. record { answer = (p.answers ∙ sym q.answers) k; image = (p.stores ∙ sym q.stores) k };
  listed = λ a p. rw p.answers (write-listed m (extent_of d) (length i));
  judged = λ a p. rw p.answers (judged _);
  unchanged = λ a p h. let r = write-refused m d i (λ e. h (p.answers ∙ e)) in λ k. record { answer = a.answer; image = (p.stores ∙ r) k };
}

pub of-restart : (m l : List ℕ) → OfRestart m l
unfolding restart_answer
of-restart m l = record {
  some = record { answer = restart_answer m l; map = restart_map m l };
  meets = record { answers = refl; map = refl };
  only = λ a b p q k. record { answer = (p.answers ∙ sym q.answers) k; map = (p.map ∙ sym q.map) k };
  listed = λ a p. rw p.answers (restart-listed m l);
  judged = λ a p. rw p.answers (judged _);
  unchanged = λ a p h. let r = restart-refused m l (λ e. h (p.answers ∙ e)) in λ k. record { answer = a.answer; map = (p.map ∙ r) k };
}

pub of-compact : (l n : List ℕ) → OfCompact l n
unfolding compact_answer
of-compact l n = record {
  some = record { answer = compact_answer l n; log = compact_log l n };
  meets = record { answers = refl; log = refl };
  only = λ a b p q k. record { answer = (p.answers ∙ sym q.answers) k; log = (p.log ∙ sym q.log) k };
  listed = λ a p. rw p.answers (compact-listed l n);
  judged = λ a p. rw p.answers (judged _);
  unchanged = λ a p h. let r = compact-refused l n (λ e. h (p.answers ∙ e)) in λ k. record { answer = a.answer; log = (p.log ∙ r) k };
}
