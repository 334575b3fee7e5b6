-- A map that is drawn from left to right. What the functions that draw promise each other; no public contract cites this file.
use Rattle.std.specs.Prelude.{ℕ, suc, pred, ◌+◌, ◌≤◌, ◌<◌, min, max, ◌≡◌, cond, List, [], ◌∷◌, map, eqb, length}
use Rattle.std.proofs.Props.{props}
use Rattle.common.specs.Counters.{width}
use Rattle.xdr.specs.Array.{put_elements}
use Rattle.runs.specs.declared.Run.{Run}
use Rattle.runs.specs.Ages.{value_of, age, Exact}
use Rattle.runs.specs.Owner.{run}
use Rattle.runs.specs.Map.{draw}
use Rattle.runs.specs.Sound.{max_runs}
use Rattle.runs.specs.Bytes.{run_layout, run_fields}
use Rattle.pen.specs.declared.Pen.{Pen}

-- nothing is drawn yet
abbrev pub fresh : Pen
fresh = record { k = 0; cur = 0; tip = age 0; x = 0 }

-- what a pen is at any time: each stored run ends before cur, and cur stands before x once something is drawn
pub record Fine (p : Pen) : Type 0 where
  pub stored : p.k ≤ p.cur
  pub behind : min p.x 1 + p.cur ≤ p.x
  pub begun : min (value_of p.tip) 1 ≤ p.x
  pub exact : Exact p.tip

-- in one way at most, so that a drawing can keep it
pub Fine-prop : (p : Pen) → IsProp (Fine p)
unfolding Exact
Fine-prop p = Prim.hlevel props

-- the run from cur up to before x, which is not stored yet: none at age 0
abbrev pub pending : Pen → List Run
pending p = cond (eqb (value_of p.tip) 0) [] (run p.cur (pred p.x) (value_of p.tip) ∷ [])

-- the bytes with the runs from place k on
abbrev pub with_runs : List ℕ → ℕ → List Run → List ℕ
with_runs s k rs = put_elements (run_layout width) s 0 k (map run_fields rs)

-- of the ages g: the runs before cur are stored, as far as they fit, and from cur up to before x the age is tip
pub record Drawn (g : ℕ → ℕ) (old out : List ℕ) (p : Pen) : Type 0 where
  pub flat : (b : ℕ) → p.cur ≤ b → b < p.x → g b ≡ value_of p.tip
  pub turns : (b : ℕ) → suc b ≡ p.cur → g b ≡ value_of p.tip → ⊥
  pub count : p.k ≡ length (draw g 0 p.cur)
  pub bytes : p.k ≤ max_runs → out ≡ with_runs old 0 (draw g 0 p.cur)

-- behind k runs the runs rs are counted too, and stored if they fit
pub record Added (rs : List Run) (k : ℕ) (out out' : List ℕ) (k' : ℕ) : Type 0 where
  pub count : k' ≡ k + length rs
  pub bytes : k' ≤ max_runs → out' ≡ with_runs out k rs

-- the pending run is counted, and stored if it fits
abbrev pub Flushed : Pen → List ℕ → List ℕ → ℕ → Type 0
Flushed p out out' k = Added (pending p) p.k out out' k

-- the pen p went on to q at the ages v
pub record Went (p : Pen) (q : ℕ) (v : ℕ → ℕ) (out out' : List ℕ) (p' : Pen) : Type 0 where
  pub at : p'.x ≡ max p.x q
  pub fine : Fine p'
  pub keeps : (g : ℕ → ℕ) (old : List ℕ) → ((b : ℕ) → p.x ≤ b → b < q → g b ≡ v b) → Drawn g old out p → Drawn g old out' p'

-- one age for every byte
abbrev pub one : ℕ → ℕ → ℕ
one a b = a

-- the runs rs are counted, and stored if they fit
pub record Stored (rs : List Run) (old out : List ℕ) (k : ℕ) : Type 0 where
  pub count : k ≡ length rs
  pub bytes : k ≤ max_runs → out ≡ with_runs old 0 rs
