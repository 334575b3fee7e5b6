-- "The line program": what one line says. `R,client,stripe,mode,first,last`, `A,client,handle`, `D,client,handle`, `F,client,handle`.
use Rattle.std.specs.Prelude.{ℕ, zero, suc, ◌+◌, ◌*◌, ◌-◌, Bool, true, false, cond, ◌&&◌, List, [], ◌∷◌, length, get_or, T, ltb, leb, eqb, Some, None}
use Prim.Native.Char.{code}
use Prim.Native.String.{String, [] as nothing, ◌∷◌ as ◌then◌}
use Rattle.std.specs.declared.option.Option.{Option}
use Rattle.common.specs.Ranges.{within}
use Rattle.locks.specs.declared.Message.{Message}
use Rattle.locks.specs.declared.Message.TheVariants.{Request, Acknowledge, Downgrade, Release}
use Rattle.locks.specs.Session.{single}

-- A text in bytes
abbrev pub bytes : String → List ℕ
bytes nothing = []
bytes (c then s) = code c ∷ bytes s

-- How far a line is read: whether all is right so far, the last number, and the bytes after it
pub record Reading : Type 0 where
  pub ok : Bool
  pub value : ℕ
  pub rest : List ℕ

abbrev pub right : ℕ → List ℕ → Reading
right v s = record { ok = true; value = v; rest = s }

abbrev pub wrong : Reading
wrong = record { ok = false; value = 0; rest = [] }

-- "at most 2^64 - 1"
abbrev pub largest : ℕ
largest = 18446744073709551615

-- A digit's value; 10 of any other byte
abbrev pub digit_of : ℕ → ℕ
digit_of b = cond (within (code "0") b (code "9")) (b - code "0") 10

-- Digits, after others that say v
unfoldable pub read_digits : ℕ → List ℕ → Reading
read_digits v [] = right v []
read_digits v (b ∷ s) =
    cond (ltb 9 (digit_of b)) (right v (b ∷ s))
    (cond (leb (v * 10 + digit_of b) largest) (read_digits (v * 10 + digit_of b) s) wrong)

-- "Decimal, no leading zeros except 0 itself"
unfoldable pub read_number : List ℕ → Reading
read_number [] = wrong
read_number (b ∷ s) = cond (ltb 9 (digit_of b)) wrong (cond (eqb (digit_of b) 0) (right 0 s) (read_digits (digit_of b) s))

-- A comma and a number
unfoldable pub read_field : List ℕ → Reading
read_field [] = wrong
read_field (b ∷ s) = cond (eqb b (code ",")) (read_number s) wrong

-- n more fields after p: how far the line is read then, and their numbers. After a wrong field nothing is left, so the next is wrong too
abbrev pub read_on : ℕ → Reading → Reading
read_on zero p = p
read_on (suc n) p = read_on n (read_field p.rest)

abbrev pub numbers : ℕ → Reading → List ℕ
numbers zero p = []
numbers (suc n) p = let a = read_field p.rest in a.value ∷ numbers n a

-- The message, if all is right up to the end of the line
abbrev pub ended : Reading → Message → Option Message
ended p m = cond (p.ok && leb (length p.rest) 0) (Some m) None

-- A line of n fields, whose numbers make a message
unfoldable pub read_fields : ℕ → (List ℕ → Message) → List ℕ → Option Message
read_fields n m s = let p = right 0 s in ended (read_on n p) (m (numbers n p))

abbrev pub requesting : List ℕ → Message
requesting ns = Request (get_or ns 0 0) (get_or ns 1 0) (get_or ns 2 0) (get_or ns 3 0) (get_or ns 4 0) false

abbrev pub naming : (ℕ → ℕ → Message) → List ℕ → Message
naming m ns = m (get_or ns 0 0) (get_or ns 1 0)

unfoldable pub by_letter : ℕ → List ℕ → Option Message
by_letter l s =
    cond (eqb l (code "R")) (read_fields 5 requesting s)
    (cond (eqb l (code "A")) (read_fields 2 (naming Acknowledge) s)
    (cond (eqb l (code "D")) (read_fields 2 (naming Downgrade) s)
    (cond (eqb l (code "F")) (read_fields 2 (naming Release) s) None)))

-- "Any other line, blank or over 128 bytes before its break too", is bad
abbrev pub longest : ℕ
longest = 128

unfoldable pub read_line : List ℕ → Option Message
read_line [] = None
read_line (l ∷ s) = cond (ltb longest (length (l ∷ s))) None (by_letter l s)

-- What a line says comes by itself: its requests are unmarked
abbrev pub Single : Option Message → Type 0
Single None = Unit {0}
Single (Some m) = T (single m)
