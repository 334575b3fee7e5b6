-- Demand 1 for note, write, restart and compaction: an answer is 0 or stands in the list, and a refused call changes no lent byte.
use Prim.Native.Nat.{ℕ}
use mathlib.Core.Bool.{Bool, cond}
use mathlib.Core.List.{List, [], ◌∷◌}
use mathlib.Core.Path.{◌≡◌, ap}
use lib.Dec.{T, eqb}
use lib.ListN.{length}
use borrow.Author.Tests.{ne_eqb}
use Rattle.common.specs.Counters.{width}
use Rattle.common.specs.Tests.{any}
use Rattle.common.proofs.Refusals.{listed}
use Rattle.runs.specs.Owner.{age_of}
use Rattle.runs.specs.Map.{map_of, raise}
use Rattle.runs.specs.Bytes.{runs_of, map_size, log_size, sound_map_bytes, sound_log_bytes, map_bytes, log_bytes, appended}
use Rattle.stripe.specs.declared.Extent.{Extent}
use Rattle.stripe.specs.Piece.{place, Piece, extent_of, place_of}
use Rattle.stripe.specs.Refusals.{note_rules, write_rules, restart_rules, compact_rules}
use Rattle.stripe.specs.Stripe.{written}
use Rattle.note.specs.Note.{note_answer, note_map, note_log}
use Rattle.write.specs.Write.{write_answer, write_image}
use Rattle.restart.specs.Restart.{restart_answer, restart_map}
use Rattle.compact.specs.Compact.{compact_answer, compact_log}

-- From the list
pub note-listed : (m l : List ℕ) (e : Extent) (i : ℕ) → T (any (eqb (note_answer m l e i)) (0 ∷ 12 ∷ 13 ∷ 14 ∷ 15 ∷ 16 ∷ 17 ∷ []))
unfolding note_answer
note-listed m l e i = listed (note_rules (sound_map_bytes m) (sound_log_bytes l) (runs_of width m) (runs_of width l) e i)

pub write-listed : (m : List ℕ) (e : Extent) (i : ℕ) → T (any (eqb (write_answer m e i)) (0 ∷ 12 ∷ 14 ∷ 15 ∷ 18 ∷ []))
unfolding write_answer
write-listed m e i = listed (write_rules (sound_map_bytes m) (runs_of width m) e i)

pub restart-listed : (m l : List ℕ) → T (any (eqb (restart_answer m l)) (0 ∷ 12 ∷ 13 ∷ 16 ∷ []))
unfolding restart_answer
restart-listed m l = listed (restart_rules (eqb (length m) (map_size width)) (sound_log_bytes l) (runs_of width l))

pub compact-listed : (l n : List ℕ) → T (any (eqb (compact_answer l n)) (0 ∷ 13 ∷ 16 ∷ []))
unfolding compact_answer
compact-listed l n = listed (compact_rules (eqb (length n) (log_size width)) (sound_log_bytes l) (runs_of width l))

-- A refused call changes no lent byte
pub note-refused : (m l : List ℕ) (e : Extent) (i : ℕ) → (note_answer m l e i ≡ 0 → ⊥) → (note_map m l e i ≡ m) × (note_log m l e i ≡ l)
unfolding note_map note_log
note-refused m l e i h =
    let z = ne_eqb (note_answer m l e i) 0 h in
    (ap (λ (t : Bool). cond t (map_bytes width (raise (place e) (runs_of width m))) m) z, ap (λ (t : Bool). cond t (appended width l (place e)) l) z)

pub write-refused : (m : List ℕ) (p : Piece) (i : List ℕ) → (write_answer m (extent_of p) (length i) ≡ 0 → ⊥) → write_image m p i ≡ i
unfolding write_image
write-refused m p i h = ap (λ (t : Bool). cond t (written (runs_of width m) p.first p.bytes (age_of (place_of p)) i) i) (ne_eqb (write_answer m (extent_of p) (length i)) 0 h)

pub restart-refused : (m l : List ℕ) → (restart_answer m l ≡ 0 → ⊥) → restart_map m l ≡ m
unfolding restart_map
restart-refused m l h = ap (λ (t : Bool). cond t (map_bytes width (map_of (runs_of width l))) m) (ne_eqb (restart_answer m l) 0 h)

pub compact-refused : (l n : List ℕ) → (compact_answer l n ≡ 0 → ⊥) → compact_log l n ≡ n
unfolding compact_log
compact-refused l n h = ap (λ (t : Bool). cond t (log_bytes width (map_of (runs_of width l))) n) (ne_eqb (compact_answer l n) 0 h)
