-- A sweep over a log's entries in order of first byte. What the functions that sweep promise each other; no public contract cites this file.
use Rattle.std.specs.Prelude.{ℕ, suc, ◌+◌, ◌-◌, ◌≤◌, ◌<◌, ◌≡◌, min, ◌⊎◌, cond, List, length, eqb, ltb}
use Rattle.common.specs.Ranges.{eof}
use Rattle.xdr.specs.Be.{be}
use Rattle.runs.specs.Ages.{age}
use Rattle.runbytes.specs.Places.{run_at}
use Rattle.order.specs.Places.{place, first_at, last_at, Stands, Sorted}
use Rattle.rebuild.specs.declared.Sweep.{Sweep}
use Rattle.rebuild.specs.declared.Stretch.{Stretch}

-- at the byte x: the first `taken` of the order have ended or stand in the list of those begun, each of which has begun
pub record Walking (log order begun : List ℕ) (taken x : ℕ) : Type 0 where
  pub most : taken ≤ be 4 log 0
  pub few : length begun ≤ taken
  pub here : (k : ℕ) → k < length begun → first_at log (place begun k) ≤ x
  pub known : (j : ℕ) → j < taken → (last_at log (place order j) < x) ⊎ Stands begun 0 (length begun) (place order j)

-- a sweep of the log stands at the byte x
pub record Sweeping (log : List ℕ) (s : Sweep) (x : ℕ) : Type 0 where
  pub same : s.log.bytes.now ≡ log
  pub long : length s.order.now ≡ be 4 log 0
  pub sorted : Sorted (first_at log) s.order.now 0 (be 4 log 0)
  pub walking : Walking log s.order.now s.begun.items s.taken x

-- the first byte of the entry at place c of the order: past EOF where there is none
abbrev pub next_first : List ℕ → List ℕ → ℕ → ℕ
next_first log order c = cond (ltb c (length order)) (first_at log (place order c)) (suc eof)

abbrev pub next_of : Sweep → ℕ
next_of s = next_first s.log.bytes.now s.order.now s.taken

-- and all that begin at x or before are taken in, and the last of the list has not ended
pub record Ready (log : List ℕ) (s : Sweep) (x : ℕ) : Type 0 where
  pub sweeping : Sweeping log s x
  pub next : x < next_of s
  pub top : 0 < length s.begun.items → x ≤ last_at log (place s.begun.items (length s.begun.items - 1))

-- what is drawn next: the last of the list owns the bytes up to its end or up to before q; nobody does where the list is empty
abbrev pub stretch_of : List ℕ → List ℕ → ℕ → Stretch
stretch_of log begun q =
    cond (eqb (length begun) 0) (record { age = age 0; end = q }) (record { age = (run_at log (place begun (length begun - 1))).age; end = min q (last_at log (place begun (length begun - 1)) + 1) })
