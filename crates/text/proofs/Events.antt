-- Events in an event buffer: where the numbers of one stand, and that a call's events stand there.
use Prim.Native.Nat.{ℕ, ◌+◌, ◌^◌, ◌<◌}
use mathlib.Core.Path.{◌≡◌, sym, ap, ap₂, ◌∙◌}
use mathlib.Core.List.{List, ◌∷◌, map}
use native.Mathlib.Nat.{add-zero}
use native.Mathlib.Omega.{arith}
use lib.ListN.{length, length-map}
use Rattle.common.specs.Counters.{width}
use Rattle.xdr.specs.Be.{be}
use Rattle.xdr.specs.Layout.{fields}
use Rattle.xdr.specs.Array.{array, Fits}
use Rattle.xdr.proofs.Fields.{fields-from}
use Rattle.xdr.proofs.Tabs.{length-tab}
use Rattle.xdr.proofs.Arrays.{array-put}
use Rattle.table.specs.declared.Lock.{Lock}
use Rattle.table.specs.Bytes.{shown_layout, shown_fields, shown_of}
use Rattle.locks.specs.Settle.{Event}
use Rattle.locks.specs.Events.{event_layout, event_fields, Room, events_over}
use Rattle.text.specs.Text.{line_text, kind_letter, event_text, line_size}
use Rattle.text.specs.Buffers.{Wrote, event_at, events_in}

-- the line of an event: its kind's letter, the eight fields of what is shown of the record, and the break
event-numbers : (b : List ℕ) (at kind : ℕ) (l : Lock) → kind ≡ be 4 b at → l ≡ shown_of (fields (shown_layout width) b (at + 4) 0)
    → fields (event_layout width) b at 0 ≡ kind ∷ shown_fields l
unfolding fields
event-numbers b at kind l e f =
    ap₂ (λ (x : ℕ) (ns : List ℕ). x ∷ ns) (ap (be 4 b) (add-zero at) ∙ sym e)
    (sym (fields-from (shown_layout width) b at 4 0) ∙ ap shown_fields (sym f))

pub event-line : (b : List ℕ) (at kind : ℕ) (l : Lock) {before after : List ℕ}
    → kind ≡ be 4 b at → l ≡ shown_of (fields (shown_layout width) b (at + 4) 0)
    → Wrote (line_size 8) before after (line_text (kind_letter kind) (shown_fields l))
    → Wrote (line_size 8) before after (event_text (fields (event_layout width) b at 0))
unfolding event_text
event-line b at kind l e f w = rw (event-numbers b at kind l e f) w

-- the events that a call leaves in the buffer are read from it
pub events-read : (b : List ℕ) (es : List Event) → Room (length es) b → length es < 2 ^ 32
    → Fits (event_layout width) (map event_fields es) → events_in (events_over width b es) (length es) ≡ map event_fields es
unfolding events_over array
events-read b es h p f =
    let X = events_over width b es in
    let m = length-map es event_fields in
    let a : events_in X (be 4 X 0) ≡ map event_fields es =
    array-put (event_layout width) b 0 (map event_fields es) (rw m (omega arith)) (rw m p) f in
    let n : be 4 X 0 ≡ length es = sym (length-tab (be 4 X 0) (event_at X)) ∙ ap length a ∙ m in
    ap (events_in X) (sym n) ∙ a
