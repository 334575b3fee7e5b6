-- Only the line of a message is read as that message: what is read so far is the text of its numbers.
use Prim.Native.Nat.{ℕ, zero, suc, ◌+◌, ◌*◌, ◌-◌, ◌/◌, ◌%◌, ◌≤◌, ◌<◌}
use Prim.Native.Char.{code}
use mathlib.Core.Path.{◌≡◌, refl, sym, ap, ◌∙◌}
use mathlib.Core.Bool.{Bool, true, false, cond, ◌&&◌}
use mathlib.Core.List.{List, [], ◌∷◌, ◌++◌, append_assoc, append-nil}
use native.Mathlib.Omega.{arith}
use lib.Dec.{ltb, leb, eqb}
use lib.ListN.{length}
use borrow.Author.Tests.{ltb-false, leb-true, eqb-true, eqb-false, lt-leb}
use Rattle.common.proofs.Bools.{never}
use Rattle.locks.specs.declared.Message.{Message}
use Rattle.locks.specs.declared.Message.TheVariants.{Acknowledge, Downgrade, Release}
use Rattle.std.specs.Prelude.{Some, None}
use Rattle.line.specs.Format.{Reading, right, wrong, largest, digit_of, read_digits, read_number, read_field}
use Rattle.line.specs.Format.{read_on, numbers, read_fields, requesting, naming, by_letter, longest, read_line}
use Rattle.text.specs.Text.{decimal, fields_text, letter_of, numbers_of, message_text}
use Rattle.text.proofs.Decimal.{decimal-small, decimal-big}
use Rattle.text.proofs.RoundTrip.{Fits}

digit-byte : (b : ℕ) → digit_of b ≤ 9 → b ≡ code "0" + digit_of b
digit-byte b = go (leb 48 b) (leb b 57) refl
  where
    go : (x y : Bool) → leb 48 b ≡ x → cond (x && y) (b - 48) 10 ≤ 9 → b ≡ 48 + cond (x && y) (b - 48) 10
    go true true e h = let l = leb-true 48 b e in omega arith
    go true false e h = omega arith
    go false y e h = omega arith

-- s, read as r, is `front`, a number and what is left; or r is wrong
data Shows (front s : List ℕ) : Reading → Type 0 where
  none : Shows front s wrong
  some : (v : ℕ) (t : List ℕ) → v ≤ largest → s ≡ front ++ (decimal v ++ t) → Shows front s (right v t)

next-decimal : (v b : ℕ) → 0 < v → digit_of b ≤ 9 → v * 10 + digit_of b ≤ largest → decimal (v * 10 + digit_of b) ≡ decimal v ++ (b ∷ [])
next-decimal v b p h m =
    let q : (v * 10 + digit_of b) / 10 ≡ v = omega arith in
    let r : (v * 10 + digit_of b) % 10 ≡ digit_of b = omega arith in
    let e : code "0" + digit_of b ≡ b = sym (digit-byte b h) in
    decimal-big (v * 10 + digit_of b) m (omega arith) ∙ rw (q, r) (ap (λ (x : ℕ). decimal v ++ (x ∷ [])) e)

digits-only : (v : ℕ) (s : List ℕ) → 0 < v → v ≤ largest → Shows [] (decimal v ++ s) (read_digits v s)
unfolding read_digits
digits-only v [] p m = some v [] m refl
digits-only v (b ∷ s) p m = go (ltb 9 (digit_of b)) (leb w largest) refl refl (digits-only w s)
  where
    w : ℕ
    w = v * 10 + digit_of b

    go : (x y : Bool) → ltb 9 (digit_of b) ≡ x → leb w largest ≡ y → (0 < w → w ≤ largest → Shows [] (decimal w ++ s) (read_digits w s))
        → Shows [] (decimal v ++ (b ∷ s)) (cond x (right v (b ∷ s)) (cond y (read_digits w s) wrong))
    go true y e f u = some v (b ∷ s) m refl
    go false true e f u =
        let l = leb-true w largest f in
        rw append_assoc at (rw (next-decimal v b p (ltb-false 9 (digit_of b) e) l) at (u (omega arith) l))
    go false false e f u = none

number-only : (s : List ℕ) → Shows [] s (read_number s)
unfolding read_number
number-only [] = none
number-only (b ∷ s) = go (ltb 9 (digit_of b)) (eqb (digit_of b) 0) refl refl
  where
    go : (x y : Bool) → ltb 9 (digit_of b) ≡ x → eqb (digit_of b) 0 ≡ y
        → Shows [] (b ∷ s) (cond x wrong (cond y (right 0 s) (read_digits (digit_of b) s)))
    go true y e f = none
    go false true e f =
        let z = eqb-true (digit_of b) 0 f in
        let c : b ≡ code "0" + 0 = digit-byte b (omega arith) ∙ ap (λ (x : ℕ). code "0" + x) z in
        some 0 s (omega arith) (ap (λ (x : ℕ). x ∷ s) c ∙ ap (λ (l : List ℕ). l ++ s) (sym (decimal-small 0 (omega arith))))
    go false false e f =
        let h = ltb-false 9 (digit_of b) e in
        let n = eqb-false (digit_of b) 0 f in
        rw (decimal-small (digit_of b) (omega arith), ← (digit-byte b h)) at
        (digits-only (digit_of b) s (positive (digit_of b) n) (omega arith))
      where
        positive : (d : ℕ) → (d ≡ 0 → ⊥) → 0 < d
        positive zero n = absurd (n refl)
        positive (suc d) n = omega arith

field-only : (s : List ℕ) → Shows (code "," ∷ []) s (read_field s)
unfolding read_field
field-only [] = none
field-only (b ∷ s) = go (eqb b (code ",")) refl (read_number s) (number-only s)
  where
    go : (x : Bool) → eqb b (code ",") ≡ x → (r : Reading) → Shows [] s r → Shows (code "," ∷ []) (b ∷ s) (cond x r wrong)
    go true e wrong none = none
    go true e r (some v t m f) = some v t m (rw (eqb-true b (code ",") e, f))
    go false e r u = none

-- after a wrong field all is wrong
stays : (n : ℕ) → read_on n wrong ≡ wrong
unfolding read_field
stays zero = refl
stays (suc n) = stays n

-- s is the fields of the numbers ns, and then t
record Spells (s ns t : List ℕ) : Type 0 where
  text : s ≡ fields_text ns ++ t
  fits : Fits ns

fields-only : (n : ℕ) (p : Reading) → (read_on n p).ok ≡ true → Spells p.rest (numbers n p) (read_on n p).rest
unfolding fields_text
fields-only zero p ok = record { text = refl; fits = tt }
fields-only (suc n) p ok = go (read_field p.rest) (field-only p.rest) ok (fields-only n (read_field p.rest) ok)
  where
    go : (r : Reading) → Shows (code "," ∷ []) p.rest r → (read_on n r).ok ≡ true → Spells r.rest (numbers n r) (read_on n r).rest
        → Spells p.rest (r.value ∷ numbers n r) (read_on n r).rest
    go _ none k u = never (sym (ap (λ r. r.ok) (stays n)) ∙ k)
    go r (some v t m e) k u =
        let f : List ℕ → List ℕ = λ l. code "," ∷ l in
        record { text = e ∙ ap (λ l. f (decimal v ++ l)) u.text ∙ ap f (sym (append_assoc (decimal v) _ _)); fits = (m, u.fits) }

-- a good line is the line of its message, whose numbers can be read
pub record Written (s : List ℕ) (m : Message) : Type 0 where
  pub text : s ≡ message_text m
  pub fits : Fits (numbers_of m)

bad : {A : Type 0} {m : Message} → None ≡ Some m → A
bad e = absurd (let z : ◌≡◌ {A = ℕ} 0 1 = cc in let w : ⊥ = omega arith in w)

module _ (l : ℕ) (s : List ℕ) (m : Message) where
  -- the message is made of the numbers that were read, and the line ends behind them
  written : (n : ℕ) (f : List ℕ → Message) → read_fields n f s ≡ Some m → l ≡ letter_of (f (numbers n (right 0 s)))
      → numbers_of (f (numbers n (right 0 s))) ≡ numbers n (right 0 s) → Written (l ∷ s) m
  unfolding read_fields
  written n f h el en = go (read_on n (right 0 s)).ok (read_on n (right 0 s)).rest h (fields-only n (right 0 s))
    where
      go : (x : Bool) (t : List ℕ) → cond (x && leb (length t) 0) (Some (f (numbers n (right 0 s)))) None ≡ Some m
          → (x ≡ true → Spells s (numbers n (right 0 s)) t) → Written (l ∷ s) m
      go true [] k u =
          let e : m ≡ f (numbers n (right 0 s)) = cc in
          rw (e, el)
          (record {
            text = ap (λ (t : List ℕ). letter_of (f (numbers n (right 0 s))) ∷ t) ((u refl).text ∙ append-nil _ ∙ ap fields_text (sym en));
            fits = rw en (u refl).fits;
          })
      go true (b ∷ t) k u = bad (rw (lt-leb (length (b ∷ t)) 0 (omega arith)) at k)
      go false t k u = bad k

  letter-only : by_letter l s ≡ Some m → Written (l ∷ s) m
  unfolding by_letter
  letter-only h = go (eqb l (code "R")) (eqb l (code "A")) (eqb l (code "D")) (eqb l (code "F")) refl refl refl refl h
    where
      go : (r a d f : Bool) → eqb l (code "R") ≡ r → eqb l (code "A") ≡ a → eqb l (code "D") ≡ d → eqb l (code "F") ≡ f
          → cond r (read_fields 5 requesting s)
          (cond a (read_fields 2 (naming Acknowledge) s)
          (cond d (read_fields 2 (naming Downgrade) s)
          (cond f (read_fields 2 (naming Release) s) None)))
          ≡ Some m → Written (l ∷ s) m
      go true a d f er ea ed ef k = written 5 requesting k (eqb-true l (code "R") er) refl
      go false true d f er ea ed ef k = written 2 (naming Acknowledge) k (eqb-true l (code "A") ea) refl
      go false false true f er ea ed ef k = written 2 (naming Downgrade) k (eqb-true l (code "D") ed) refl
      go false false false true er ea ed ef k = written 2 (naming Release) k (eqb-true l (code "F") ef) refl
      go false false false false er ea ed ef k = bad k

pub read_only : (s : List ℕ) (m : Message) → read_line s ≡ Some m → Written s m
unfolding read_line
read_only [] m h = bad h
read_only (l ∷ s) m h = go (ltb longest (length (l ∷ s))) h
  where
    go : (b : Bool) → cond b None (by_letter l s) ≡ Some m → Written (l ∷ s) m
    go true k = bad k
    go false k = letter-only l s m k
