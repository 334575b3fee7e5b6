-- `read_line` by its letter: a line that is neither blank nor too long says what the fields after its letter say.
use Prim.Native.Nat.{ℕ, ◌≤◌, ◌<◌}
use Prim.Native.Char.{code}
use mathlib.Core.Path.{◌≡◌, refl}
use mathlib.Core.Bool.{Bool, true, false, cond}
use mathlib.Core.List.{List, [], ◌∷◌}
use native.Mathlib.Omega.{arith}
use lib.ListN.{length}
use lib.Dec.{eqb}
use borrow.Author.Tests.{lt-ltb, le-ltb, lt-leb, ne_eqb}
use Rattle.std.specs.Prelude.{None}
use Rattle.std.specs.Bool.{then_some}
use Rattle.std.specs.declared.option.Option.{Option}
use Rattle.locks.specs.declared.Message.{Message}
use Rattle.locks.specs.declared.Message.TheVariants.{Request, Acknowledge, Downgrade, Release}
use Rattle.line.specs.Format.{Reading, right, wrong, read_field, ended, read_fields, requesting, naming, by_letter, longest, read_line}

pub line-long : (s : List ℕ) → longest < length s → None ≡ read_line s
unfolding read_line
line-long [] h = refl
line-long (l ∷ s) h = rw (lt-ltb longest (length (l ∷ s)) h)

pub line-blank : (s : List ℕ) → length s ≡ 0 → None ≡ read_line s
unfolding read_line
line-blank [] h = refl
line-blank (l ∷ s) h = absurd (let z : ⊥ = omega arith in z)

pub by-letter : {s : List ℕ} (l : ℕ) (t : List ℕ) → s ≡ l ∷ t → length s ≤ longest → read_line s ≡ by_letter l t
unfolding read_line
by-letter l t e h = rw (e, le-ltb longest (length (l ∷ t)) (rw e at h))

-- the fields, read one after the other
module _ (s : List ℕ) {a b : Reading} {r : Option Message} (ea : a ≡ read_field s) (eb : b ≡ read_field a.rest) where
  pub named : (m : ℕ → ℕ → Message) → r ≡ ended b (m a.value b.value) → r ≡ read_fields 2 (naming m) s
  unfolding read_fields
  named m e = rw (e, eb, ea)

  pub requested : {c d z : Reading} → c ≡ read_field b.rest → d ≡ read_field c.rest → z ≡ read_field d.rest
      → r ≡ ended z (Request a.value b.value c.value d.value z.value false) → r ≡ read_fields 5 requesting s
  unfolding read_fields
  requested ec ed ez e = rw (e, ez, ed, ec, eb, ea)

-- after a wrong field all is wrong
pub field-wrong : wrong ≡ read_field []
unfolding read_field
field-wrong = refl

-- a wrong field among the first two makes each line bad
none-of : (b : Bool) {x y : Option Message} → None ≡ x → None ≡ y → None ≡ cond b x y
none-of true e f = e
none-of false e f = f

module _ (l : ℕ) (s : List ℕ) {a : Reading} (ea : a ≡ read_field s) where
  pub second-wrong : wrong ≡ read_field a.rest → None ≡ by_letter l s
  unfolding by_letter
  second-wrong e =
      let two : (m : ℕ → ℕ → Message) → None ≡ read_fields 2 (naming m) s = λ m. named s ea e m refl in
      let w = field-wrong in
      none-of (eqb l (code "R")) (requested s ea e w w w refl)
      (none-of (eqb l (code "A")) (two Acknowledge) (none-of (eqb l (code "D")) (two Downgrade) (none-of (eqb l (code "F")) (two Release) refl)))

pub first-wrong : (l : ℕ) (s : List ℕ) → wrong ≡ read_field s → None ≡ by_letter l s
first-wrong l s e = second-wrong l s e field-wrong

-- the letter tells which fields follow
module _ (l : ℕ) (s : List ℕ) {r : Option Message} where
  pub letter-r : l ≡ code "R" → r ≡ read_fields 5 requesting s → r ≡ by_letter l s
  unfolding by_letter
  letter-r e h = rw e h

  pub letter-a : l ≡ code "A" → r ≡ read_fields 2 (naming Acknowledge) s → r ≡ by_letter l s
  unfolding by_letter
  letter-a e h = rw e h

  pub letter-d : l ≡ code "D" → r ≡ read_fields 2 (naming Downgrade) s → r ≡ by_letter l s
  unfolding by_letter
  letter-d e h = rw e h

  pub letter-f : l ≡ code "F" → r ≡ read_fields 2 (naming Release) s → r ≡ by_letter l s
  unfolding by_letter
  letter-f e h = rw e h

pub letter-other : (l : ℕ) (s : List ℕ) → (l ≡ code "A" → ⊥) → (l ≡ code "D" → ⊥) → (l ≡ code "F" → ⊥) → (l ≡ code "R" → ⊥) → None ≡ by_letter l s
unfolding by_letter
letter-other l s a d f r = rw (ne_eqb l (code "R") r, ne_eqb l (code "A") a, ne_eqb l (code "D") d, ne_eqb l (code "F") f)

-- the message, where nothing is left of the line
pub ended_by : (s : List ℕ) (m : Message) → then_some (eqb (length s) 0) m ≡ ended (right 0 s) m
ended_by [] m = refl
ended_by (b ∷ s) m = rw (lt-leb (length (b ∷ s)) 0 (omega arith), ne_eqb (length (b ∷ s)) 0 (λ e. omega arith)) refl
