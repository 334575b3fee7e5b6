-- `friends_at`: each test that leaves early decides what two records are to each other.
use Prim.Native.Nat.{ℕ, ◌≤◌, ◌<◌}
use mathlib.Core.Bool.{Bool, true, false, not, ◌&&◌, ◌||◌, and-true, and-false, or-false}
use mathlib.Core.Logic.{⊎_elim}
use mathlib.Core.Path.{◌≡◌, refl, sym, ap, ap₂, ◌∙◌}
use native.Mathlib.Omega.{arith}
use lib.Dec.{leb, eqb}
use borrow.Author.Tests.{eq-eqb, ne_eqb, lt-leb, le-leb, lt-ltb, le-ltb}
use Rattle.common.specs.Ranges.{overlap, within}
use Rattle.common.specs.Tests.{implies}
use Rattle.common.proofs.Bools.{never}
use Rattle.common.proofs.Order.{below}
use Rattle.table.specs.declared.Lock.{Lock}
use Rattle.table.specs.Table.{number_of, waits, held, writes}
use Rattle.table.specs.Sound.{together, yields, differ}
use Rattle.sound.specs.Parts.{friendly, smaller_yields}

-- two records that are together or not, write, have different numbers, meet, are clear of each other
abbrev allow : Bool → Bool → Bool → Bool → Bool → Bool
allow m w d o c = implies (m && w) d && implies (m && o) c

always : (b : Bool) → implies b true ≡ true
always true = refl
always false = refl

module _ (a b : Lock) where
  abbrev clear : Bool
  clear = (eqb a.mode 1 && eqb b.mode 1) || (yields a b || yields b a)

  abbrev meet : Bool
  meet = overlap a.first a.last b.first b.last

  abbrev unlike : Bool
  unlike = not (eqb (number_of a) (number_of b))

  abbrev write : Bool
  write = writes a && writes b

  -- not together: another stripe, or the one or the other waits
  apart : together a b ≡ false → true ≡ friendly a b
  unfolding friendly
  apart e = sym (ap (λ (m : Bool). allow m write unlike meet clear) e)

  pub other-stripe : (s : ℕ) → s ≡ b.stripe → (s ≡ a.stripe → ⊥) → true ≡ friendly a b
  other-stripe s e n =
      apart (ap (λ (x : Bool). (held a && held b) && x) (ne_eqb a.stripe b.stripe (λ q. n (e ∙ sym q))) ∙ and-false (held a && held b))

  pub first-waits : true ≡ waits a → true ≡ friendly a b
  first-waits e = apart (ap (λ (x : Bool). (not x && held b) && eqb a.stripe b.stripe) (sym e))

  pub second-waits : (s : ℕ) → s ≡ b.state → s ≡ 0 → true ≡ friendly a b
  second-waits s e z =
      apart
      (ap (λ (x : Bool). (held a && not x) && eqb a.stripe b.stripe) (eq-eqb b.state 0 (sym e ∙ z))
      ∙ ap (λ (x : Bool). x && eqb a.stripe b.stripe) (and-false (held a)))

  -- both PR
  pub two-readers : (m : ℕ) → m ≡ b.mode → (eqb a.mode 1 && eqb m 1) ≡ true → true ≡ friendly a b
  unfolding friendly
  two-readers m e h =
      let k : (eqb a.mode 1 && eqb b.mode 1) ≡ true = ap (λ (x : ℕ). eqb a.mode 1 && eqb x 1) (sym e) ∙ h in
      go (together a b) (eqb a.mode 1) (eqb b.mode 1) meet k
    where
      go : (m x y o : Bool) → (x && y) ≡ true → true ≡ allow m (not x && not y) unlike o ((x && y) || (yields a b || yields b a))
      go true true true true e = refl
      go true true true false e = refl
      go true true false o e = never e
      go true false y o e = never e
      go false x y o e = refl

  -- no byte in common: only the numbers can clash
  clash : meet ≡ false → differ a b ≡ friendly a b
  unfolding friendly
  clash o =
      sym
      (ap (λ (x : Bool). differ a b && implies (together a b && x) clear) o ∙ ap (λ (x : Bool). differ a b && implies x clear) (and-false (together a b))
      ∙ and-true (differ a b))

  pub starts-after : (f : ℕ) → f ≡ b.first → a.last < f → differ a b ≡ friendly a b
  starts-after f g h =
      clash (ap (λ (x : Bool). leb a.first b.last && x) (lt-leb b.first a.last (omega arith)) ∙ and-false (leb a.first b.last))

  pub ends-before : (l : ℕ) → l ≡ b.last → l < a.first → differ a b ≡ friendly a b
  ends-before l g h = clash (ap (λ (x : Bool). x && leb b.first a.last) (lt-leb a.first b.last (omega arith)))

-- of one stripe, and the first held
module _ (a b : Lock) (s : ℕ) (es : s ≡ b.stripe) (qs : s ≡ a.stripe) (h : a.state ≡ 0 → ⊥) where
  joined : together a b ≡ held b
  joined = rw (ne_eqb a.state 0 h, eq-eqb a.stripe b.stripe (sym qs ∙ es)) (and-true (held b))

  -- not both PR, both held, and a byte in common
  module _ (m n st f l : ℕ) (em : m ≡ b.mode) (en : n ≡ number_of b) (et : st ≡ b.state) (ef : f ≡ b.first) (el : l ≡ b.last)
      (hf : f ≤ a.last) (hl : a.first ≤ l) (r : (eqb a.mode 1 && eqb m 1) ≡ false) (hs : st ≡ 0 → ⊥) where
    readers : (eqb a.mode 1 && eqb b.mode 1) ≡ false
    readers = ap (λ (x : ℕ). eqb a.mode 1 && eqb x 1) (sym em) ∙ r

    meets : meet a b ≡ true
    meets = rw (le-leb a.first b.last (omega arith), le-leb b.first a.last (omega arith))

    one-yields : friendly a b ≡ (implies (write a b) (unlike a b) && (yields a b || yields b a))
    unfolding friendly
    one-yields =
        ap₂ (λ (x y : Bool). allow x (write a b) (unlike a b) y (clear a b)) (joined ∙ ap not (ne_eqb b.state 0 (λ z. hs (et ∙ z)))) meets
        ∙ ap (λ (x : Bool). implies (write a b) (unlike a b) && (x || (yields a b || yields b a))) readers

    pub one_number : n ≡ number_of a → false ≡ friendly a b
    one_number q =
        sym
        (one-yields
        ∙ rw (le-ltb (number_of a) (number_of b) (omega arith), le-ltb (number_of b) (number_of a) (omega arith)) (and-false (implies (write a b) (unlike a b))))

    -- the one with the smaller number decides
    pub one_of_two : (n ≡ number_of a → ⊥) → smaller_yields a n m st ≡ friendly a b
    unfolding smaller_yields
    one_of_two q =
        rw (en, em, et, one-yields, ne_eqb (number_of a) (number_of b) (λ z. q (en ∙ sym z)), always (write a b))
        (⊎_elim first second (below (number_of a) (number_of b)))
      where
        first : number_of a < number_of b → smaller_yields a (number_of b) b.mode b.state ≡ (yields a b || yields b a)
        first h =
            rw (lt-ltb (number_of a) (number_of b) h, le-ltb (number_of b) (number_of a) (omega arith))
            (sym (or-false ((eqb a.mode 2 && eqb a.state 3) && within 2 b.mode 3)))

        second : number_of b ≤ number_of a → smaller_yields a (number_of b) b.mode b.state ≡ (yields a b || yields b a)
        second h =
            let z : number_of b < number_of a = ⊎_elim (λ (u : number_of b < number_of a). u) (λ (u : number_of a ≤ number_of b). absurd (q (omega arith))) (below (number_of b) (number_of a)) in
            rw (le-ltb (number_of a) (number_of b) h, lt-ltb (number_of b) (number_of a) z)
