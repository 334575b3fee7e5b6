-- What a line says comes by itself: of all messages only a request could be marked, and a line's is not.
use Prim.Native.Nat.{ℕ}
use Prim.Native.Char.{code}
use mathlib.Core.Bool.{◌&&◌}
use mathlib.Core.List.{List, [], ◌∷◌}
use lib.Dec.{T, eqb, leb, ltb}
use lib.ListN.{length}
use Rattle.common.proofs.Bools.{by_cond}
use Rattle.locks.specs.declared.Message.{Message}
use Rattle.locks.specs.declared.Message.TheVariants.{Acknowledge, Downgrade, Release}
use Rattle.locks.specs.Session.{single}
use Rattle.std.specs.declared.option.Option.TheVariants.{Some, None}
use Rattle.line.specs.Format.{right, read_on, numbers, read_fields, requesting, naming, by_letter, longest, read_line, Single}

fields-single : (n : ℕ) (m : List ℕ → Message) (s : List ℕ) → T (single (m (numbers n (right 0 s)))) → Single (read_fields n m s)
unfolding read_fields
fields-single n m s t =
    let p = read_on n (right 0 s) in
    by_cond Single (p.ok && leb (length p.rest) 0) (Some (m (numbers n (right 0 s)))) None (λ _. t) (λ _. tt)

letter-single : (l : ℕ) (s : List ℕ) → Single (by_letter l s)
unfolding by_letter
letter-single l s =
    by_cond Single (eqb l (code "R")) _ _ (λ _. fields-single 5 requesting s tt)
    (λ _. by_cond Single (eqb l (code "A")) _ _ (λ _. fields-single 2 (naming Acknowledge) s tt)
    (λ _. by_cond Single (eqb l (code "D")) _ _ (λ _. fields-single 2 (naming Downgrade) s tt)
    (λ _. by_cond Single (eqb l (code "F")) _ _ (λ _. fields-single 2 (naming Release) s tt) (λ _. tt))))

pub read-single : (s : List ℕ) → Single (read_line s)
unfolding read_line
read-single [] = tt
read-single (l ∷ s) = by_cond Single (ltb longest (length (l ∷ s))) None (by_letter l s) (λ _. tt) (λ _. letter-single l s)
