-- Events one after the other: first some, then others after them, is all of them.
use Prim.Native.Nat.{ℕ, suc, ◌+◌}
use native.Mathlib.Nat.{add-zero}
use native.Mathlib.Omega.{arith}
use mathlib.Core.List.{List, [], ◌∷◌, ◌++◌, map}
use mathlib.Core.Path.{◌≡◌, refl, sym, ap, ap₂, ◌∙◌}
use lib.ListN.{length, length-append}
use Rattle.common.specs.Counters.{width}
use Rattle.xdr.specs.Be.{put_be}
use Rattle.xdr.specs.Layout.{put_fields}
use Rattle.xdr.specs.Array.{element, put_elements}
use Rattle.xdr.proofs.Fields.{put-fields-from}
use Rattle.xdr.proofs.Elements.{put-elements-length}
use Rattle.table.specs.declared.Lock.{Lock}
use Rattle.table.specs.Bytes.{shown_layout, shown_fields, table_of}
use Rattle.table.specs.Places.{Shape}
use Rattle.locks.specs.Settle.{Event, Settled}
use Rattle.locks.specs.Events.{event_layout, event_fields, event_place}
use Rattle.settle.specs.Posts.{put_events, fresh, Did}

-- one event: its kind, and behind it what is shown of the record
pub event-put : (b c d : List ℕ) (k v kind : ℕ) (l : Lock) → c ≡ put_be 4 b (event_place k) v → v ≡ kind → d ≡ put_fields (shown_layout width) c (event_place k + 4) 0 (shown_fields l)
    → d ≡ put_events b k (record { kind = kind; lock = l } ∷ [])
unfolding put_elements put_fields
event-put b c d k v kind l e q f = f ∙ put-fields-from (shown_layout width) c (event_place k) 4 0 (shown_fields l) ∙ rw (add-zero (event_place k), e, q) refl

pub events-then : (b : List ℕ) (k : ℕ) (es fs : List Event) → put_events b k (es ++ fs) ≡ put_events (put_events b k es) (k + length es) fs
unfolding put_elements
events-then b k [] fs = rw add-zero
events-then b k (e ∷ es) fs =
    let c : List ℕ = put_fields (event_layout width) b (element (event_layout width) 0 k) 0 (event_fields e) in
    let q : ◌≡◌ {A = ℕ} (suc k + length es) (k + suc (length es)) = omega arith in
    events-then c (suc k) es fs ∙ ap (λ (m : ℕ). put_events (put_events c (suc k) es) m fs) q

-- nothing is done yet
pub did_none : (n k : ℕ) (t b : List ℕ) → Shape n t → Did n k (fresh (table_of width t)) b k t b
unfolding put_elements
did_none n k t b S = record { table = record { shape = S; says = refl }; bytes = refl; count = sym (add-zero k) }

-- s, and then s' from what s left
abbrev pub and_then : Settled → Settled → Settled
and_then s s' = record { table = s'.table; events = s.events ++ s'.events }

pub did_then : (n j k r : ℕ) (s s' : Settled) (b t c u d : List ℕ) → Did n j s b k t c → Did n k s' c r u d → Did n j (and_then s s') b r u d
did_then n j k r s s' b t c u d D E = record {
  table = E.table;
  bytes = E.bytes ∙ ap₂ (λ (x : List ℕ) (m : ℕ). put_events x m s'.events) D.bytes D.count ∙ sym (events-then b j s.events s'.events);
  count = let p = D.count in let q = E.count in omega (arith, length-append s.events s'.events);
}

pub did-long : (n k r : ℕ) (s : Settled) (b t c : List ℕ) → Did n k s b r t c → length c ≡ length b
did-long n k r s b t c D = rw D.bytes (put-elements-length (event_layout width) b 0 k (map event_fields s.events))
