-- `table_sound`: the parts of the test, together, are the definition's.
use Prim.Native.Nat.{ℕ, ◌^◌, ◌≤◌, ◌<◌}
use mathlib.Core.Bool.{Bool, true, false, ◌&&◌, and-true, and-false}
use mathlib.Core.List.{List}
use mathlib.Core.Path.{◌≡◌, refl, sym, ap, ◌∙◌}
use native.Mathlib.Omega.{arith}
use lib.ListN.{length, drop}
use borrow.Author.Tests.{eq-eqb, ne_eqb}
use Rattle.common.specs.Counters.{width, highest}
use Rattle.common.specs.Tests.{all, pairs, zeros}
use Rattle.common.proofs.Bools.{and_l, and_r, and_i}
use Rattle.xdr.specs.Be.{be}
use Rattle.table.specs.Table.{Table, stripe_count, max_records}
use Rattle.table.specs.Sound.{valid, agree, room, stripes, sound}
use Rattle.table.specs.Bytes.{table_size, table_of, locks_of, records_end, sound_table_bytes}
use Rattle.table.specs.Places.{lock_place, count_of}
use Rattle.table.proofs.Facts.{sound→, →sound}
use Rattle.table.proofs.Reading.{locks-length, lasts-length}
use Rattle.sound.specs.Parts.{friendly, climbs, each_sound}
use Rattle.sound.proofs.Handles.{alike, paired}

-- the tests of the records; the others pass by themselves
abbrev tests : Table → Bool
tests X = each_sound X.issued X && pairs friendly X.locks

order : (v h r f : Bool) → (((v && h) && r) && f) ≡ ((v && (h && f)) && r)
order true true r true = and-true r
order true true r false = and-false r
order true false r f = refl
order false h r f = refl

tested : (X : Table) → X.issued ≤ highest width → length X.lasts ≡ stripe_count → length X.locks ≤ max_records → tests X ≡ sound X
tested X i l n =
    order (all (valid X.issued X.lasts) X.locks) (climbs 0 X.locks) (all (room X.issued X.lasts X.locks) stripes) (pairs friendly X.locks)
    ∙ ap (λ (b : Bool). b && all (room X.issued X.lasts X.locks) stripes) (paired X.issued X.lasts X.locks)
    ∙ alike ((all (valid X.issued X.lasts) X.locks && pairs agree X.locks) && all (room X.issued X.lasts X.locks) stripes) (sound X)
    (λ t. →sound X (record {
      few = i;
      sixteen = l;
      fits = n;
      each = search (and_l, and_r);
      apart = search (and_l, and_r);
      rooms = search (and_l, and_r);
    }))
    (λ s. let S = sound→ X s in search and_i)

pub bad-length : (t : List ℕ) → (length t ≡ table_size width → ⊥) → false ≡ sound_table_bytes t
unfolding sound_table_bytes
bad-length t h = sym (ap (λ (b : Bool). b && (sound (table_of width t) && zeros (drop (records_end width t) t))) (ne_eqb (length t) (table_size width) h))

module _ (t : List ℕ) (n : ℕ) (e : n ≡ count_of t) where
  pub too_many : max_records < n → false ≡ sound_table_bytes t
  unfolding sound_table_bytes
  too_many h =
      alike false (sound_table_bytes t) (λ z. absurd z)
      (λ s. let f = (sound→ (table_of width t) (search (and_l, and_r))).fits in let l = locks-length t in omega arith)

  pub sound-is : (i p : ℕ) (v f z : Bool) → length t ≡ table_size width → n ≤ max_records → i ≡ be width t 0 → i < 256 ^ width → p ≡ lock_place n
      → v ≡ each_sound i (table_of width t) → f ≡ pairs friendly (locks_of width t) → z ≡ zeros (drop p t) → ((v && f) && z) ≡ sound_table_bytes t
  unfolding sound_table_bytes
  sound-is i p v f z a m q b ep ev ef ez =
      let l = locks-length t in
      rw (ev, ef, ez, ep, q, e)
      (ap (λ (x : Bool). x && zeros (drop (records_end width t) t)) (tested (table_of width t) (omega arith) (lasts-length t) (omega arith))
      ∙ sym (ap (λ (x : Bool). x && (sound (table_of width t) && zeros (drop (records_end width t) t))) (eq-eqb (length t) (table_size width) a)))
