-- The record with a handle: handles rise, so it is the only one that a test of this handle can pass.
use Prim.Native.Nat.{ℕ, suc, ◌<◌}
use native.Mathlib.Omega.{arith}
use mathlib.Core.Bool.{Bool, true, ◌&&◌, cond}
use mathlib.Core.List.{List, ◌∷◌, ◌++◌, map}
use mathlib.Core.Path.{◌≡◌, sym, ap, subst, ◌∙◌}
use lib.Dec.{T, not_T, ltb, eqb→eq, ltb→lt}
use lib.ListN.{length, set, take, drop}
use lib.Seq.{split_at, set_split}
use Rattle.common.specs.Tests.{all, any, keep, pairs}
use Rattle.common.proofs.Bools.{and_l}
use Rattle.common.proofs.Listed.{all-imp, pairs-before, pairs-after}
use Rattle.common.proofs.Lone.{no, lone-any, lone-keep, lone-map}
use Rattle.table.specs.declared.Lock.{Lock}
use Rattle.table.specs.Table.{Table, handle_of, blank, nth}
use Rattle.table.specs.Sound.{agree, differ, share, sound}
use Rattle.table.proofs.Facts.{sound→}
use Rattle.judge.specs.Posts.{has}

rises : (a b : Lock) → T (agree a b) → handle_of a < handle_of b
unfolding agree
rises a b t = ltb→lt (handle_of a) (handle_of b) (and_l (ltb (handle_of a) (handle_of b)) (differ a b && share a b) t)

-- the record at place i of the sound table X has the handle h; p is a test that only a record with this handle can pass
module _ (X : Table) (i h : ℕ) (s : T (sound X)) (q : i < length X.locks) (e : T (has h (nth X i))) (p : Lock → Bool) (only : (r : Lock) → T (p r) → T (has h r)) where
  abbrev x : Lock
  x = nth X i

  abbrev before : List Lock
  before = take i X.locks

  abbrev after : List Lock
  after = drop (suc i) X.locks

  cut : X.locks ≡ before ++ (x ∷ after)
  cut = split_at X.locks i blank q

  apart : T (pairs agree (before ++ (x ∷ after)))
  apart = subst (λ (l : List Lock). T (pairs agree l)) cut (sound→ X s).apart

  other : (y : Lock) → (handle_of y ≡ handle_of x → ⊥) → T (no p y)
  other y d = not_T (p y) (λ u. d (eqb→eq (handle_of y) h (only y u) ∙ sym (eqb→eq (handle_of x) h e)))

  lower : T (all (no p) before)
  lower = all-imp (λ y. agree y x) (no p) (λ y a. other y (λ z. omega (arith, rises y x a))) before (pairs-before agree before x after apart)

  higher : T (all (no p) after)
  higher = all-imp (agree x) (no p) (λ y a. other y (λ z. omega (arith, rises x y a))) after (pairs-after agree before x after apart)

  pub one-any : any p X.locks ≡ p x
  one-any = ap (any p) cut ∙ lone-any p before x after lower higher

  pub one-keep : p x ≡ true → keep (no p) X.locks ≡ before ++ after
  one-keep b = ap (keep (no p)) cut ∙ lone-keep p before x after lower higher b

  pub one_map : (f : Lock → Lock) → p x ≡ true → map (λ y. cond (p y) (f y) y) X.locks ≡ set X.locks i (f x)
  one_map f b = ap (map (λ y. cond (p y) (f y) y)) cut ∙ lone-map p before x after lower higher f b ∙ sym (set_split X.locks i (f x) q)
