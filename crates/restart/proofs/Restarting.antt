-- `restart`: the outcome by each answer.
use Prim.Native.Nat.{ℕ, ◌≤◌, ◌<◌}
use native.Mathlib.Omega.{arith}
use mathlib.Core.Path.{◌≡◌, ◌∙◌}
use mathlib.Core.Bool.{true, false}
use mathlib.Core.List.{List}
use lib.ListN.{length, replicate}
use borrow.Author.Tests.{eq-eqb, ne_eqb, lt-ltb, le-ltb}
use Rattle.common.specs.Counters.{width}
use Rattle.xdr.specs.Be.{put_be}
use Rattle.runs.specs.Map.{map_of}
use Rattle.runs.specs.Sound.{max_runs}
use Rattle.runs.specs.Bytes.{map_size, runs_of, sound_log_bytes, map_bytes}
use Rattle.pen.specs.Drawing.{Stored}
use Rattle.restart.specs.Restart.{restart_answer, restart_map, Restarts}
use Rattle.pen.proofs.Filling.{filled}

module _ (m l : List ℕ) where
  -- a refused restart changes nothing
  refused : (k : ℕ) → (k ≡ 0 → ⊥) → k ≡ restart_answer m l → Restarts m l k m
  unfolding restart_map
  refused k h e = record { answers = e; map = rw (← e, ne_eqb k 0 h) }

  accepted : (m' : List ℕ) → 0 ≡ restart_answer m l → m' ≡ map_bytes width (map_of (runs_of width l)) → Restarts m l 0 m'
  unfolding restart_map
  accepted m' e u = record { answers = e; map = rw (← e) u }

  pub restart-12 : (length m ≡ map_size width → ⊥) → Restarts m l 12 m
  unfolding restart_answer
  restart-12 h = refused 12 (λ z. omega arith) (rw (ne_eqb (length m) (map_size width) h))

  module _ (fits : length m ≡ map_size width) where
    pub restart-13 : sound_log_bytes l ≡ false → Restarts m l 13 m
    unfolding restart_answer
    restart-13 h = refused 13 (λ z. omega arith) (rw (eq-eqb (length m) (map_size width) fits, h))

    module _ (good : sound_log_bytes l ≡ true) (s : List ℕ) (k : ℕ) (d : Stored (map_of (runs_of width l)) (replicate (map_size width) 0) s k) where
      pub restart-16 : max_runs < k → Restarts m l 16 m
      unfolding restart_answer
      restart-16 h = refused 16 (λ z. omega arith) (rw (eq-eqb (length m) (map_size width) fits, good, ← d.count, lt-ltb max_runs k h))

      pub restart-0 : k ≤ max_runs → (m' : List ℕ) → m' ≡ put_be 4 s 0 k → Restarts m l 0 m'
      unfolding restart_answer
      restart-0 h m' q =
          accepted m'
          (rw (eq-eqb (length m) (map_size width) fits, good, ← d.count, le-ltb max_runs k h))
          (q ∙ filled (map_of (runs_of width l)) s k d h)
