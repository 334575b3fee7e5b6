-- What a client's message on a handle finds. Up to 10 its rows are those of a release; where they let it pass the record is there, and 11 decides.
use Prim.Native.Nat.{ℕ, zero, suc, ◌≤◌, ◌<◌}
use native.Mathlib.Omega.{arith}
use mathlib.Core.Bool.{Bool, true, false, not, cond}
use mathlib.Core.List.{List}
use mathlib.Core.Path.{◌≡◌, refl, sym, ap, subst, ◌∙◌}
use lib.Dec.{T, eqb, ltb}
use lib.ListN.{length}
use borrow.Author.Tests.{le-ltb, eq-eqb, ne_eqb}
use native.Mathlib.Numerals.{add-one}
use mathlib.Core.Logic.{◌≢◌}
use Rattle.std.specs.Prelude.{Option, Some, None, MatchOption, Ok, Err}
use Rattle.common.specs.Counters.{width}
use Rattle.common.specs.declared.Refusal.TheVariants.{OtherClient}
use Rattle.common.specs.Refusals.{first_hit}
use Rattle.common.specs.Tests.{any}
use Rattle.common.proofs.Bools.{and_l, true-is}
use Rattle.table.specs.declared.Lock.{Lock}
use Rattle.table.specs.Table.{Table, handle_of, nth, max_client}
use Rattle.table.specs.Sound.{sound}
use Rattle.table.specs.Bytes.{locks_of, table_of}
use Rattle.table.specs.Places.{lock_at, Shape, Good, Past, First}
use Rattle.table.proofs.Reading.{inside, nth-is}
use Rattle.table.proofs.Scan.{scan-on, scan-end, scan-first}
use Rattle.locks.specs.Refusals.{named, naming_rules}
use Rattle.judge.specs.Posts.{has, FindsFirst, Finds}
use Rattle.judge.proofs.Alone.{one-any}

pub has_named : (c h : ℕ) (r : Lock) → T (named c h r) → T (has h r)
has_named c h r u = and_l (has h r) (eqb r.client c) u

-- a search over the places finds the first record with the handle
module _ (n h : ℕ) (t : List ℕ) (S : Shape n t) where
  past : (i : ℕ) → i ≤ n → ((k : ℕ) → 0 ≤ k → k < i → handle_of (lock_at t k) ≢ h) → Past (has h) n (locks_of width t) i
  past zero l f = record { most = l; none = refl }
  past (suc i) l f =
      subst (λ (k : ℕ). Past (has h) n (locks_of width t) k) (add-one i) (scan-on n i t (has h) S (omega arith) (ne_eqb (handle_of (lock_at t i)) h (f i (omega arith) (omega arith))) (past i (omega arith) (λ k z m. f k z (omega arith))))

  pub first-has : (r : Option ℕ) → MatchOption r ((k : ℕ) → 0 ≤ k → k < n → handle_of (lock_at t k) ≢ h)
      (λ i. (0 ≤ i) × (i < n) × (handle_of (lock_at t i) ≡ h) × ((k : ℕ) → 0 ≤ k → k < i → handle_of (lock_at t k) ≢ h))
      → FindsFirst n (locks_of width t) h r
  first-has None f = sym (scan-end n n t (has h) S (omega arith) (past n (omega arith) f))
  first-has (Some i) f =
      (f.1, scan-first n i t (has h) S f.1 (eq-eqb (handle_of (lock_at t i)) h f.2) (past i (omega arith) f.3))

-- `named`: 10, and the record
module _ (n c h : ℕ) (t : List ℕ) (i : ℕ) (G : Good n t) (F : First (has h) n (locks_of width t) i) (g : c ≤ 63) (q : i < n) (l : Lock) (e : l ≡ lock_at t i) where
  abbrev X : Table
  X = table_of width t

  it : nth X i ≡ l
  it = nth-is n i t l G.shape q e

  rows : (b : Bool) → eqb l.client c ≡ b → first_hit (naming_rules X c h (named c h)) ≡ cond (not b) 10 (cond (not b) 11 0)
  rows b d =
      let k = inside n i t G.shape q in
      let a = F.here q in
      let own : eqb (nth X i).client c ≡ b = ap (λ (r : Lock). eqb r.client c) it ∙ d in
      rw (le-ltb 63 c g, one-any X i h G.sounds k a (has h) (λ r u. u), one-any X i h G.sounds k a (named c h) (has_named c h), true-is (has h (nth X i)) a, own)

  pub finds-10 : (l.client ≡ c → ⊥) → Finds n X c h (Err OtherClient)
  finds-10 z = record { judges = sym (rows false (ne_eqb l.client c z)); inside = tt; its = tt }

  pub finds-it : l.client ≡ c → Finds n X c h (Ok i)
  finds-it z = record {
    judges = sym (rows true (eq-eqb l.client c z));
    inside = q;
    its =
        let own : eqb (nth X i).client c ≡ true = ap (λ (r : Lock). eqb r.client c) it ∙ eq-eqb l.client c z in
        rw (true-is (has h (nth X i)) (F.here q), own) tt;
  }

-- whatever 11 asks of the record
module _ (n c h : ℕ) (X : Table) (may : Lock → Bool) where
  abbrev first : Bool → Bool → Bool → Bool → ℕ
  first a p q r = cond a 3 (cond (not p) 9 (cond (not q) 10 (cond (not r) 11 0)))

  -- it is refused before 11
  pub found_none : (k : ℕ) → k ≡ first_hit (naming_rules X c h (named c h)) → (k ≡ 0 → ⊥) → k ≡ first_hit (naming_rules X c h may)
  found_none k j z = go (ltb max_client c) (any (has h) X.locks) (any (named c h) X.locks) (any may X.locks) j
    where
      go : (a p q r : Bool) → k ≡ first a p q q → k ≡ first a p q r
      go true p q r e = e
      go false false q r e = e
      go false true false r e = e
      go false true true r e = absurd (z e)

  -- its record stands at place i
  module _ (s : T (sound X)) (l : length X.locks ≡ n) (strong : (r : Lock) → T (may r) → T (named c h r)) (i : ℕ) (F : Finds n X c h (Ok i)) where
    pub found-one : first_hit (naming_rules X c h may) ≡ cond (not (may (nth X i))) 11 0
    found-one =
        go (ltb max_client c) (any (has h) X.locks) (any (named c h) X.locks) (any may X.locks) F.judges
        (one-any X i h s (subst (λ (k : ℕ). i < k) (sym l) F.inside) (has_named c h (nth X i) F.its) may (λ r u. has_named c h r (strong r u)))
      where
        go : (a p q r : Bool) → 0 ≡ first a p q q → r ≡ may (nth X i) → first a p q r ≡ cond (not (may (nth X i))) 11 0
        go true p q r e d = absurd (let y : ⊥ = omega arith in y)
        go false false q r e d = absurd (let y : ⊥ = omega arith in y)
        go false true false r e d = absurd (let y : ⊥ = omega arith in y)
        go false true true r e d = ap (λ (x : Bool). cond (not x) 11 0) d
