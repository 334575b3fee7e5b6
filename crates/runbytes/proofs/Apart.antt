-- Neighbours that are tested in pairs, from left to right: what has passed, and the pairs that are left, decide as the whole.
use Prim.Native.Nat.{ℕ, ◌+◌, ◌≤◌, ◌<◌}
use native.Mathlib.Omega.{arith}
use mathlib.Core.Path.{◌≡◌, refl, sym, ◌∙◌}
use mathlib.Core.Bool.{Bool, true, ◌&&◌, and-true, and_assoc}
use mathlib.Core.List.{List, [], ◌∷◌}
use lib.ListN.{length, drop, length-drop}
use Rattle.common.specs.Counters.{width}
use Rattle.xdr.specs.Be.{be}
use Rattle.runs.specs.declared.Run.{Run}
use Rattle.runs.specs.Sound.{leads, apart}
use Rattle.runs.specs.Bytes.{runs_of}
use Rattle.runbytes.specs.Places.{run_at}
use Rattle.runbytes.proofs.Places.{runs-length, runs-from}

module _ (s : List ℕ) (i : ℕ) (whole ok : Bool) (k : (ok && apart (drop i (runs_of width s))) ≡ whole) where
  pub apart_more : (t : Bool) → t ≡ leads (run_at s i) (run_at s (i + 1)) → i + 1 < be 4 s 0 → ((ok && t) && apart (drop (i + 1) (runs_of width s))) ≡ whole
  unfolding apart
  apart_more t e h = rw (and_assoc, e, runs-from s (i + 1) h) (rw (runs-from s i (omega arith), runs-from s (i + 1) h) at k)

  pub apart_none : be 4 s 0 ≤ i + 1 → ok ≡ whole
  unfolding apart
  apart_none h = sym (and-true ok) ∙ rw (alone (drop i (runs_of width s)) (rw (length-drop, runs-length) (omega arith))) at k
    where
      alone : (rs : List Run) → length rs ≤ 1 → apart rs ≡ true
      alone [] l = refl
      alone (r ∷ []) l = refl
      alone (r ∷ t ∷ rs) l = absurd (let z : ⊥ = omega arith in z)
