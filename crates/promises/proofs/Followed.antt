-- Calls of note and write on bytes are calls of the stripe's rules: while the map is the log's map, both answer alike, and the bytes that the one leaves
-- say what the other leaves.
use Prim.Native.Nat.{ℕ}
use mathlib.Core.Bool.{Bool, true, false, cond}
use mathlib.Core.List.{List, [], ◌∷◌}
use mathlib.Core.Path.{◌≡◌, refl, sym, ap, ap₂, ◌∙◌}
use lib.Dec.{eqb}
use lib.ListN.{length, replicate, length-replicate}
use Rattle.common.specs.Counters.{width}
use Rattle.common.specs.Refusals.{first_hit}
use Rattle.runs.specs.declared.Run.{Run}
use Rattle.runs.specs.Map.{map_of, raise}
use Rattle.runs.specs.Bytes.{runs_of, sound_map_bytes, sound_log_bytes}
use Rattle.runs.specs.Sound.{sound_map, sound_log}
use Rattle.runs.proofs.Unique.{map_snoc}
use Rattle.runs.proofs.MapBytes.{map_runs}
use Rattle.runs.proofs.LogBytes.{bytes-log}
use Rattle.stripe.specs.declared.Extent.{Extent}
use Rattle.stripe.specs.Piece.{extent, place, piece}
use Rattle.stripe.specs.Refusals.{note_rules, write_rules}
use Rattle.stripe.specs.Stripe as rules
use Rattle.stripe.specs.Stripe.{note, write, answer, noted, wrote, written}
use Rattle.note.specs.Note.{note_answer, note_map, note_log}
use Rattle.write.specs.Write.{write_answer, write_image}
use Rattle.promises.specs.Run.{Piece, extent_of, age_of, live, none, Stripe, next, after_note, after_write}
use Rattle.promises.specs.Run as run
use Rattle.promises.specs.Examples.{Call, noting, writing}
use Rattle.promises.specs.Examples as examples
use Rattle.promises.specs.OnBytes.{answers, bytes_after, runs_in}
use Rattle.promises.proofs.Carried as c
use Rattle.promises.proofs.Carried.{Carried, carried, same_log, same_map}

abbrev pub stripe : List ℕ → List ℕ → List ℕ → Stripe
stripe m log image = record { map = live m; log = log; second = none; image = image }

-- what the buffers say
abbrev pub decoded : Stripe → rules.Stripe
decoded s = record { map = runs_in s.map; log = runs_of width s.log; image = s.image }

module _ (m log image : List ℕ) (C : Carried (stripe m log image)) where
  abbrev x : rules.Stripe
  x = record { map = runs_of width m; log = runs_of width log; image = image }

  maps : sound_map_bytes m ≡ sound_map (runs_of width m)
  maps = C.map.0 ∙ sym (map_runs m C.map.0)

  logs : sound_log_bytes log ≡ sound_log (runs_of width log)
  logs = bytes-log log C.log.sound ∙ sym C.log.sound.sound

  pub note-answer : (e : Extent) → note_answer m log e (length image) ≡ (note x e).refusal
  unfolding note_answer note
  note-answer e = ap₂ (λ (a b : Bool). first_hit (note_rules a b (runs_of width m) (runs_of width log) e (length image))) maps logs

  pub write-answer : (p : Piece) → write_answer m (extent_of p) (length image) ≡ (write x p).refusal
  unfolding write_answer write
  write-answer p = ap (λ (a : Bool). first_hit (write_rules a (runs_of width m) (extent_of p) (length image))) maps

  pub write-stripe : (p : Piece) → decoded (stripe m log (write_image m p image)) ≡ (write x p).stripe
  unfolding write_image write
  write-stripe p =
      go (eqb (write_answer m (extent_of p) (length image)) 0)
      ∙ ap (λ (n : ℕ). cond (eqb n 0) (wrote x p) x) (write-answer p)
    where
      go : (b : Bool) → decoded (stripe m log (cond b (written (runs_of width m) p.first p.bytes (age_of p) image) image)) ≡ cond b (wrote x p) x
      go true = refl
      go false = refl

  pub note-stripe : (p : Piece) → decoded (next (stripe m log image) (run.note p)) ≡ (note x (extent_of p)).stripe
  unfolding next after_note note
  note-stripe p = go (eqb a 0) refl ∙ ap (λ (n : ℕ). cond (eqb n 0) (noted x r) x) (note-answer (extent_of p))
    where
      a : ℕ
      a = note_answer m log (extent_of p) (length image)

      r : Run
      r = place (extent_of p)

      new : Stripe
      new = stripe (note_map m log (extent_of p) (length image)) (note_log m log (extent_of p) (length image)) image

      go : (b : Bool) → eqb a 0 ≡ b → decoded new ≡ cond b (noted x r) x
      go true e =
          let N = c.noted m log p (length image) C.log C.map e in
          λ i. record {
            map = (N.map.1 ∙ ap map_of N.entries ∙ map_snoc (runs_of width log) r ∙ ap (λ (l : List Run). raise r l) (sym C.map.1)) i;
            log = N.entries i;
            image = image;
          }
      go false e = λ i. record {
        map = runs_of width (same_map m log (extent_of p) (length image) e i);
        log = runs_of width (same_log m log (extent_of p) (length image) e i);
        image = image;
      }

pub record Follows (s : Stripe) (x : rules.Stripe) (cs : List Call) : Type 0 where
  pub answers : answers s cs ≡ examples.answers x cs
  pub stripe : decoded (bytes_after s cs) ≡ examples.after_calls x cs

pub follows : (cs : List Call) (m log image : List ℕ) → Carried (stripe m log image) → Follows (stripe m log image) (decoded (stripe m log image)) cs
unfolding next after_note after_write
follows [] m log image C = record { answers = refl; stripe = refl }
follows (noting w ∷ cs) m log image C =
    let p : Piece = piece w.first (replicate w.len 0) w.age.number.0 w.age.pass.0 in
    let F = follows cs (note_map m log (extent_of p) (length image)) (note_log m log (extent_of p) (length image)) image (carried (stripe m log image) (run.note p) C) in
    let e : decoded (next (stripe m log image) (run.note p)) ≡ (note (decoded (stripe m log image)) w).stripe =
    note-stripe m log image C p ∙ ap (λ (j : ℕ). (note (decoded (stripe m log image)) (extent w.first j w.age.number.0 w.age.pass.0)).stripe) (length-replicate {A = ℕ} w.len 0) in
    record {
      answers = ap₂ (λ (a : ℕ) (l : List ℕ). a ∷ l) (note-answer m log image C w) (F.answers ∙ ap (λ (y : rules.Stripe). examples.answers y cs) e);
      stripe = F.stripe ∙ ap (λ (y : rules.Stripe). examples.after_calls y cs) e;
    }
follows (writing p ∷ cs) m log image C =
    let F = follows cs m log (write_image m p image) (carried (stripe m log image) (run.write p) C) in
    let e = write-stripe m log image C p in
    record {
      answers = ap₂ (λ (a : ℕ) (l : List ℕ). a ∷ l) (write-answer m log image C p) (F.answers ∙ ap (λ (y : rules.Stripe). examples.answers y cs) e);
      stripe = F.stripe ∙ ap (λ (y : rules.Stripe). examples.after_calls y cs) e;
    }
