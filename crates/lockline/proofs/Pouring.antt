-- A piece is poured: what is taken in two steps is taken as one piece.
use Prim.Native.Nat.{ℕ, ◌-◌, ◌<◌}
use native.Mathlib.Omega.{arith}
use mathlib.Core.List.{List, [], ◌∷◌, ◌++◌, append_assoc, append-nil}
use mathlib.Core.Path.{◌≡◌, refl, sym, ap, ◌∙◌}
use lib.ListN.{length, take, drop, take-append-drop, length-take, length-drop}
use lib.Seq.{take_all}
use Rattle.common.specs.Counters.{width}
use Rattle.table.specs.Table.{Table}
use Rattle.table.specs.Bytes.{table_of}
use Rattle.lines.specs.Lines.{lines_in, left}
use Rattle.lines.specs.Buffers.{Keeps}
use Rattle.session.specs.Session.{table_after, said_in}
use Rattle.lines.proofs.Pieces.{left_join}
use Rattle.session.proofs.Joining.{said-join, table-join}
use Rattle.session.specs.Buffers.{Takes, Feeds}

takes_then : (x : Table) (p s u : List ℕ) {line table line' table' : List ℕ} → Takes x p s line table
    → ((q : List ℕ) → Keeps line q → Takes (table_of width table) q u line' table') → Takes x p (s ++ u) line' table'
takes_then x p s u K f =
    let M = f (left p s) K.keeps in
    record {
      after =
          M.after ∙ ap (λ (y : Table). table_after y (said_in (left p s) u)) K.after
          ∙ sym (table-join x (said_in p s) (said_in (left p s) u)) ∙ ap (table_after x) (sym (said-join p s u));
      keeps = rw (left_join p s u) M.keeps;
    }

-- Of the piece s all but `rest` is taken, where `before` was kept of a line on the table `begin`
pub record Poured (s before begin rest line table : List ℕ) : Type 0 where
  pub front : List ℕ
  pub cut : s ≡ front ++ rest
  pub takes : (p : List ℕ) → Keeps before p → Takes (table_of width begin) p front line table

pub poured_none : (s line table : List ℕ) → Poured s line table s line table
unfolding lines_in left
poured_none s line table = record { front = []; cut = refl; takes = λ p k. record { after = refl; keeps = k } }

-- one step more of a piece
module _ {s before begin rest line table line' table' out : List ℕ} {n : ℕ} (P : Poured s before begin rest line table)
    (F : Feeds rest line table n line' table' out) where
  pub poured_more : Poured s before begin (take (length rest - n) (drop n rest)) line' table'
  poured_more =
      rw (take_all (length rest - n) (drop n rest) (simp length-drop (omega arith)))
      (record {
        front = P.front ++ take n rest;
        cut = P.cut ∙ ap (λ (l : List ℕ). P.front ++ l) (sym (take-append-drop n rest)) ∙ sym (append_assoc P.front (take n rest) (drop n rest));
        takes = λ p k. takes_then (table_of width begin) p P.front (take n rest) (P.takes p k) F.takes;
      })

  pub poured_less : (length rest ≡ 0 → ⊥) → length (take (length rest - n) (drop n rest)) < length rest
  poured_less h = let k : 0 < n = F.onward (omega arith) in simp (length-take, length-drop) (omega (arith, F.within))

pub poured_all : {s before begin rest line table : List ℕ} → length rest ≡ 0 → Poured s before begin rest line table
    → (p : List ℕ) → Keeps before p → Takes (table_of width begin) p s line table
poured_all {rest = []} e P p k = rw (P.cut, append-nil P.front) (P.takes p k)
poured_all {rest = b ∷ t} e P p k = absurd (let z : ⊥ = omega arith in z)
