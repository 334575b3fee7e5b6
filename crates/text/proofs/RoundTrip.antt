-- What is written is read back: a number is read as its tenth part and then its last digit.
use Prim.Native.Nat.{ℕ, zero, suc, ◌+◌, ◌*◌, ◌/◌, ◌%◌, ◌≤◌, ◌<◌}
use Prim.Native.Char.{code}
use mathlib.Core.Path.{◌≡◌, refl, ap, ◌∙◌}
use mathlib.Core.Bool.{Bool, true, false}
use mathlib.Core.List.{List, [], ◌∷◌, ◌++◌, append_assoc, append-nil}
use native.Mathlib.Omega.{arith}
use lib.Dec.{T, ltb}
use lib.ListN.{length, drop, length-append}
use borrow.Author.Tests.{lt-ltb, le-ltb, le-leb, ltb-true, ltb-false, ne_eqb}
use Rattle.locks.specs.declared.Message.{Message}
use Rattle.locks.specs.declared.Message.TheVariants.{Request, Acknowledge, Downgrade, Release}
use Rattle.locks.specs.Session.{single}
use Rattle.std.specs.Prelude.{Some}
use Rattle.line.specs.Format.{Reading, right, largest, digit_of, read_digits, read_number, read_field}
use Rattle.line.specs.Format.{read_on, numbers, read_fields, requesting, naming, by_letter, read_line}
use Rattle.text.specs.Text.{digits_of, decimal, fields_text, numbers_of, message_text, line_break, line_text}
use Rattle.line.proofs.Letters.{by-letter}
use Rattle.text.proofs.Decimal.{top, below_top, digits-small, digits-big, at-most-20}

digit-of : (d : ℕ) → d < 10 → digit_of (code "0" + d) ≡ d
digit-of d h = simp (le-leb 48 (48 + d) (omega arith), le-leb (48 + d) 57 (omega arith)) (omega arith)

next-digit : (v d : ℕ) (t : List ℕ) → d < 10 → v * 10 + d ≤ largest → read_digits v ((code "0" + d) ∷ t) ≡ read_digits (v * 10 + d) t
unfolding read_digits
next-digit v d t h m = rw (digit-of d h, le-ltb 9 d (omega arith), le-leb (v * 10 + d) largest m)

first-digit : (d : ℕ) (t : List ℕ) → 0 < d → d < 10 → read_number ((code "0" + d) ∷ t) ≡ read_digits d t
unfolding read_number
first-digit d t p h = rw (digit-of d h, le-ltb 9 d (omega arith), ne_eqb d 0 (λ e. omega arith))

digits-back : (k n : ℕ) (t : List ℕ) → 0 < n → n < top k → n ≤ largest → read_number (digits_of k n ++ t) ≡ read_digits n t
unfolding top
digits-back zero n t p h m = rw (digits-small 0 n h) (first-digit n t p h)
digits-back (suc k) n t p h m = go (ltb n 10) refl (digits-back k (n / 10) ((code "0" + n % 10) ∷ t))
  where
    go : (b : Bool) → ltb n 10 ≡ b
        → (0 < n / 10 → n / 10 < top k → n / 10 ≤ largest
        → read_number (digits_of k (n / 10) ++ ((code "0" + n % 10) ∷ t)) ≡ read_digits (n / 10) ((code "0" + n % 10) ∷ t))
        → read_number (digits_of (suc k) n ++ t) ≡ read_digits n t
    go true e u = let l = ltb-true n 10 e in rw (digits-small (suc k) n l) (first-digit n t p l)
    go false e u =
        let l : 10 ≤ n = ltb-false n 10 e in
        let v : n / 10 * 10 + n % 10 ≡ n = omega arith in
        rw (digits-big k n l, append_assoc)
        (u (omega arith) (omega arith) (omega arith) ∙ next-digit (n / 10) (n % 10) t (omega arith) (omega arith)
        ∙ ap (λ (x : ℕ). read_digits x t) v)

-- no digit comes next
abbrev pub Stops : List ℕ → Type 0
Stops [] = Unit {0}
Stops (b ∷ t) = 9 < digit_of b

stops : (n : ℕ) (t : List ℕ) → Stops t → read_digits n t ≡ right n t
unfolding read_digits
stops n [] h = refl
stops n (b ∷ t) h = rw (lt-ltb 9 (digit_of b) h)

number-back : (n : ℕ) (t : List ℕ) → n ≤ largest → Stops t → read_number (decimal n ++ t) ≡ right n t
unfolding read_number decimal
number-back zero t m h = rw (digits-small 19 0 (omega arith))
number-back (suc n) t m h = digits-back 19 (suc n) t (omega arith) (below_top (suc n) m) m ∙ stops (suc n) t h

-- each number can be read
abbrev pub Fits : List ℕ → Type 0
Fits [] = Unit {0}
Fits (n ∷ ns) = (n ≤ largest) × Fits ns

fields-stop : (ns t : List ℕ) → Stops t → Stops (fields_text ns ++ t)
unfolding fields_text
fields-stop [] t h = h
fields-stop (n ∷ ns) t h = omega arith

field_back : (n : ℕ) (ns t : List ℕ) → n ≤ largest → Stops t → read_field (fields_text (n ∷ ns) ++ t) ≡ right n (fields_text ns ++ t)
unfolding fields_text read_field
field_back n ns t m h = rw append_assoc (number-back n (fields_text ns ++ t) m (fields-stop ns t h))

-- the fields are read, up to what stands behind them
pub record Backs (n : ℕ) (p : Reading) (ns t : List ℕ) : Type 0 where
  pub fine : (read_on n p).ok ≡ true
  pub rest : (read_on n p).rest ≡ t
  pub same : numbers n p ≡ ns

pub fields_back : (v : ℕ) (ns t : List ℕ) → Fits ns → Stops t → Backs (length ns) (right v (fields_text ns ++ t)) ns t
unfolding fields_text
fields_back v [] t f h = record { fine = refl; rest = refl; same = refl }
fields_back v (n ∷ ns) t f h =
    let e = field_back n ns t f.0 h in
    let b = fields_back n ns t f.1 h in
    record {
      fine = ap (λ r. (read_on (length ns) r).ok) e ∙ b.fine;
      rest = ap (λ r. (read_on (length ns) r).rest) e ∙ b.rest;
      same = ap (λ r. r.value ∷ numbers (length ns) r) e ∙ ap (λ (l : List ℕ). n ∷ l) b.same;
    }

-- a line that is written: the numbers behind its letter
pub line-back : (l : ℕ) (ns : List ℕ) → Fits ns → numbers (length ns) (right 0 (drop 1 (line_text l ns))) ≡ ns
unfolding line_text
line-back l ns f = (fields_back 0 ns line_break f (omega arith)).same

fields-length : (ns : List ℕ) → length (fields_text ns) ≤ 21 * length ns
unfolding fields_text
fields-length [] = omega arith
fields-length (n ∷ ns) = simp length-append (omega (arith, at-most-20 n, fields-length ns))

-- the line of a message says it
fields-say : (f : List ℕ → Message) (ns : List ℕ) → Fits ns → read_fields (length ns) f (fields_text ns) ≡ Some (f ns)
unfolding read_fields
fields-say f ns h =
    let b : Backs (length ns) (right 0 (fields_text ns)) ns [] = rw append-nil at (fields_back 0 ns [] h tt) in
    rw (b.fine, b.rest, b.same)

text-short : (l : ℕ) (ns : List ℕ) → length ns ≤ 5 → read_line (l ∷ fields_text ns) ≡ by_letter l (fields_text ns)
text-short l ns h = by-letter l (fields_text ns) refl (omega (arith, fields-length ns))

pub read-text : (m : Message) → T (single m) → Fits (numbers_of m) → read_line (message_text m) ≡ Some m
unfolding by_letter
read-text (Request c s m f l true) u h = absurd u
read-text (Request c s m f l false) u h = text-short 82 (c ∷ s ∷ m ∷ f ∷ l ∷ []) (omega arith) ∙ fields-say requesting (c ∷ s ∷ m ∷ f ∷ l ∷ []) h
read-text (Acknowledge c k) u h = text-short 65 (c ∷ k ∷ []) (omega arith) ∙ fields-say (naming Acknowledge) (c ∷ k ∷ []) h
read-text (Downgrade c k) u h = text-short 68 (c ∷ k ∷ []) (omega arith) ∙ fields-say (naming Downgrade) (c ∷ k ∷ []) h
read-text (Release c k) u h = text-short 70 (c ∷ k ∷ []) (omega arith) ∙ fields-say (naming Release) (c ∷ k ∷ []) h
