-- What an accepted note leaves. The thought: it breaks no rule, so the new entry has room in the log and each of its numbers fits its field.
use Prim.Native.Nat.{ℕ, ◌≤◌}
use native.Mathlib.Omega.{arith}
use mathlib.Core.Bool.{true, cond}
use mathlib.Core.List.{List, ◌∷◌}
use mathlib.Core.Path.{◌≡◌, refl, sym, ap, subst, ◌∙◌}
use lib.Dec.{eqb}
use Rattle.common.specs.Counters.{width}
use Rattle.xdr.specs.Layout.{Fit}
use Rattle.runs.specs.declared.Run.{Run}
use Rattle.runs.specs.Owner.{owner}
use Rattle.runs.specs.Map.{raise}
use Rattle.runs.specs.Sound.{sound_map}
use Rattle.runs.specs.Bytes.{run_layout, run_fields, runs_of, sound_map_bytes, sound_log_bytes, map_bytes, appended}
use Rattle.runs.proofs.Over.{over-is}
use Rattle.runs.proofs.Draw.{raise-owner}
use Rattle.runs.proofs.Ages.{highest_age}
use Rattle.runs.specs.Valid.{Valid}
use Rattle.runs.proofs.Valid.{valid-cons}
use Rattle.runs.proofs.Sound.{sound-is, map-sound}
use Rattle.runs.proofs.MapBytes.{run_fits, map_back, map-back-sound, map_runs, owner-small}
use Rattle.runs.proofs.LogBytes.{LogBytes, log-bytes, log-other, log-long, log-count, log_back, log-back-sound}
use Rattle.stripe.specs.declared.Extent.{Extent}
use Rattle.stripe.specs.Piece.{place}
use Rattle.stripe.proofs.Accepted.{NoteFacts, note-facts, place-valid}
use Rattle.note.specs.Note.{note_answer, note_map, note_log}
use Rattle.promises.specs.Logged.{Appends, Raises, Logged}

module _ (m l : List ℕ) (x : Extent) (image : ℕ) (e : note_answer m l x image ≡ 0) where
  abbrev r : Run
  r = place x

  abbrev rs : List Run
  rs = raise r (runs_of width m)

  pub accepted : NoteFacts (sound_map_bytes m) (sound_log_bytes l) (runs_of width m) (runs_of width l) x image
  unfolding note_answer
  accepted = note-facts (sound_map_bytes m) (sound_log_bytes l) (runs_of width m) (runs_of width l) x image e

  valid : Valid r
  valid = place-valid x accepted.placed accepted.numbered

  fit : Fit (run_layout width) (run_fields r)
  fit = run_fits r valid accepted.numbered.fits

  log : LogBytes l
  log = log-bytes l accepted.logged

  new-log : note_log m l x image ≡ appended width l r
  unfolding note_log
  new-log = ap (λ (n : ℕ). cond (eqb n 0) (appended width l r) l) e

  pub appends : Appends l (place x) (note_log m l x image)
  appends =
      subst (Appends l r) (sym new-log) (record {
        long = log-long l r;
        sound = log-back-sound l r log accepted.room fit valid;
        entries = log_back l r log accepted.room fit;
        count = log-count l r log accepted.room fit;
        before = λ k h o. log-other l r k h (λ j p e. omega arith);
        behind = λ k o. log-other l r k (omega arith) (λ j p e. omega arith);
      })

  new-map : note_map m l x image ≡ map_bytes width rs
  unfolding note_map
  new-map = ap (λ (n : ℕ). cond (eqb n 0) (map_bytes width rs) m) e

  -- the numbers of the map are small, as those of bytes are
  module _ (h : (b : ℕ) → owner (runs_of width m) b ≤ highest_age) where
    small : (b : ℕ) → owner rs b ≤ highest_age
    small b = rw (raise-owner r (runs_of width m) b) (let o = over-is (λ (k : ℕ). k ≤ highest_age) r b accepted.numbered.fits (omega arith) in omega (arith, h b))

    sound : sound_map rs ≡ true
    sound = map-sound (r ∷ runs_of width m) (valid-cons r (runs_of width m) valid (sound-is (runs_of width m) (map_runs m accepted.mapped)).good) accepted.few

    pub raises : Raises m (place x) (note_map m l x image)
    raises =
        subst (Raises m r) (sym new-map) (record {
          bytes = refl;
          sound = map-back-sound rs sound small;
          runs = map_back rs sound small;
          raised = λ b. ap (λ (x : List Run). owner x b) (map_back rs sound small) ∙ raise-owner r (runs_of width m) b;
        })

pub logged : Logged
logged m l x image answer m' l' N z =
    let e : note_answer m l x image ≡ 0 = sym N.answers ∙ z in (
      subst (Appends l (place x)) (sym N.log) (appends m l x image e),
      λ h. subst (Raises m (place x)) (sym N.map) (raises m l x image e (owner-small m h)),
    )
