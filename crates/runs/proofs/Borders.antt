-- A map of n entries has at most 2n - 1 runs: each run starts at a border of an entry, and one border more ends the last of them.
use Prim.Native.Nat.{ℕ, zero, suc, ◌+◌, ◌-◌, ◌*◌, ◌≤◌, ◌<◌, pred, min, max}
use mathlib.Core.Path.{◌≡◌, refl, sym, ◌∙◌, ap}
use mathlib.Core.Logic.{⊎_elim}
use mathlib.Core.List.{List, [], ◌∷◌, ◌++◌}
use native.Mathlib.Omega.{arith}
use lib.ListN.{length, length-append}
use Rattle.common.proofs.Order.{below}
use Rattle.runs.specs.declared.Run.{Run}
use Rattle.runs.specs.Owner.{age_of, over, owner}
use Rattle.runs.specs.Map.{end, map_of}
use Rattle.runs.proofs.Over.{sides, over-before, over-in, over-after, owner-after, owner-append, owner-end}
use Rattle.runs.proofs.Canon.{Canon, none, next, head, canon-start, canon-before, canon-head}
use Rattle.runs.proofs.Draw.{map-canon, map-owner}
use Rattle.runs.proofs.Unique.{map_same}

-- 1 where x is at b or after it, 0 before
ahead : ℕ → ℕ → ℕ
ahead b x = min 1 (suc x - b)

ahead-fall : (b c x : ℕ) → b ≤ c → ahead c x ≤ ahead b x
unfolding ahead
ahead-fall b c x h = omega arith

ahead-at : (b x : ℕ) → ahead b x ≤ ahead (suc b) x → x ≡ b → ⊥
unfolding ahead
ahead-at b x h e = omega arith

-- An entry has two borders, its first byte and the byte after its last. Counted: the borders at b or after it
borders : ℕ → List Run → ℕ
borders b [] = 0
borders b (e ∷ es) = ahead b e.first + ahead b (suc e.last) + borders b es

borders-all : (es : List Run) → borders 0 es ≤ 2 * length es
unfolding ahead borders
borders-all [] = omega arith
borders-all (e ∷ es) = omega (arith, borders-all es)

borders-fall : (b c : ℕ) (es : List Run) → b ≤ c → borders c es ≤ borders b es
unfolding borders
borders-fall b c [] h = omega arith
borders-fall b c (e ∷ es) h = omega (arith, ahead-fall b c e.first h, ahead-fall b c (suc e.last) h, borders-fall b c es h)

-- the end of some entries is a border
borders-end : (b : ℕ) (es : List Run) → 0 < b → b ≤ end es → 0 < borders b es
unfolding ahead borders end
borders-end b [] z h = omega arith
borders-end b (e ∷ es) z h =
    ⊎_elim (λ (k : end es < b). omega arith) (λ (k : b ≤ end es). omega (arith, borders-end b es z k)) (below (end es) b)

-- the age of the byte before b; 0 before the first byte
before : (ℕ → ℕ) → ℕ → ℕ
before g zero = 0
before g (suc b) = g b

before-pred : (g : ℕ → ℕ) (b : ℕ) → 0 < b → before g b ≡ g (pred b)
unfolding before
before-pred g zero h = absurd (omega arith)
before-pred g (suc b) h = refl

before-max : (g h : ℕ → ℕ) (b : ℕ) → before (λ x. max (g x) (h x)) b ≡ max (before g b) (before h b)
unfolding before
before-max g h zero = refl
before-max g h (suc b) = refl

-- where no border is, the age stays
stays-one : (e : Run) (b : ℕ) → (e.first ≡ b → ⊥) → (suc e.last ≡ b → ⊥) → before (over e) b ≡ over e b
unfolding before
stays-one e zero u v = sides e 0 (λ h. sym (over-before e 0 h)) (λ h k. absurd (u (omega arith))) (λ h. sym (over-after e 0 h))
stays-one e (suc b) u v =
    sides e (suc b)
    (λ h. over-before e b (omega arith) ∙ sym (over-before e (suc b) h))
    (λ h k. over-in e b (omega arith) (omega arith) ∙ sym (over-in e (suc b) h k))
    (λ h. over-after e b (omega arith) ∙ sym (over-after e (suc b) h))

stays : (es : List Run) (b : ℕ) → borders b es ≤ borders (suc b) es → before (owner es) b ≡ owner es b
unfolding borders before owner
stays [] zero h = refl
stays [] (suc b) h = refl
stays (e ∷ es) b h =
    let u = ahead-fall b (suc b) e.first (omega arith) in
    let v = ahead-fall b (suc b) (suc e.last) (omega arith) in
    let w = borders-fall b (suc b) es (omega arith) in
    let o = stays-one e b (ahead-at b e.first (omega arith)) (ahead-at b (suc e.last) (omega arith)) in
    omega (arith, before-max (over e) (owner es) b, stays es b (omega arith))

-- canonical runs that say from p on what the entries say
module _ (es : List Run) {p q : ℕ} (r : Run) (rs : List Run) (c : Canon p q (r ∷ rs)) (says : (x : ℕ) → p ≤ x → owner (r ∷ rs) x ≡ owner es x) where
  given : (b : ℕ) → r.first ≤ b → b ≤ r.last → owner es b ≡ age_of r
  given b h k = sym (says b (omega (arith, head c))) ∙ canon-head b c h k

  ends : r.first < end es
  ends =
      let n = head c in
      ⊎_elim (λ (h : r.first < end es). h)
      (λ (h : end es ≤ r.first). absurd (omega (arith, owner-end es r.first h, given r.first (omega arith) (omega arith))))
      (below r.first (end es))

  -- the age does not stay where a run starts, so a border is there
  changes : before (owner es) p ≡ q → before (owner es) r.first ≡ owner es r.first → ⊥
  changes a e =
      let n = head c in
      let f : ℕ = r.first in
      let u = given f (omega arith) (omega arith) in
      ⊎_elim
      (λ (h : p < f). omega (arith, before-pred (owner es) f (omega arith), says (pred f) (omega arith), canon-before (pred f) (canon-start f r c (omega arith)) (omega arith)))
      (λ (h : f ≤ p). let w : f ≡ p = omega arith in n.other w (sym u ∙ sym e ∙ ap (before (owner es)) w ∙ a))
      (below p f)

  starts : before (owner es) p ≡ q → borders (suc r.first) es < borders r.first es
  starts a =
      let f : ℕ = r.first in
      ⊎_elim (λ (h : borders (suc f) es < borders f es). h)
      (λ (h : borders f es ≤ borders (suc f) es). absurd (changes a (stays es f h)))
      (below (borders (suc f) es) (borders f es))

few : {p q : ℕ} {rs : List Run} (es : List Run) → Canon p q rs → before (owner es) p ≡ q → ((x : ℕ) → p ≤ x → owner rs x ≡ owner es x)
    → length rs ≤ borders p es - 1
unfolding before
few es none a s = omega arith
few {p} es (next {r = r} {rs = rs} n c) a s =
    let f : ℕ = r.first in
    let ih = few es c (given es r rs (next n c) s r.last (omega arith) (omega arith)) (λ x h. sym (owner-after r rs x h) ∙ s x (omega arith)) in
    let more = borders-end (suc f) es (omega arith) (ends es r rs (next n c) s) in
    omega (arith, starts es r rs (next n c) s a, borders-fall p f es n.after, borders-fall (suc f) (suc r.last) es (omega arith))

pub few-runs : (es : List Run) → length (map_of es) ≤ 2 * length es - 1
unfolding before
few-runs es = omega (arith, few es (map-canon es) refl (λ x _. map-owner es x), borders-all es)

-- so many runs and entries together, in whatever relation to each other
pub room : (rs ps : List Run) → length (map_of (rs ++ ps)) ≤ 2 * (length rs + length ps) - 1
room rs ps = omega (arith, few-runs (rs ++ ps), length-append rs ps)

-- what is left of a log's room in the map goes by the runs of its map, however many entries it has
pub room_after : (es ps : List Run) → length (map_of (es ++ ps)) ≤ 2 * (length (map_of es) + length ps) - 1
room_after es ps =
    rw (map_same (es ++ ps) (map_of es ++ ps) (λ b. omega (arith, owner-append es ps b, owner-append (map_of es) ps b, map-owner es b)))
    (room (map_of es) ps)
