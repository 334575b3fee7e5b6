-- Piece after piece is answered as the whole input: first what the lines of the one say, then what those of the next say, on the table after them.
use Prim.Native.Nat.{ℕ}
use mathlib.Core.Path.{◌≡◌, refl, ap, ◌∙◌}
use mathlib.Core.List.{List, [], ◌∷◌, ◌++◌, map, map-append, append_assoc}
use Rattle.table.specs.Table.{Table}
use Rattle.std.specs.declared.option.Option.{Option}
use Rattle.locks.specs.declared.Message.{Message}
use Rattle.line.specs.Format.{read_line}
use Rattle.lines.specs.Lines.{lines_from, lines_in, left}
use Rattle.lines.proofs.Pieces.{lines_cut, lines_join}
use Rattle.session.specs.Session.{next, answers, table_after, written_from, said_in}

-- what is answered to some lines and then to others
pub answers-join : (t : Table) (rs qs : List (Option Message)) → answers t (rs ++ qs) ≡ answers t rs ++ answers (table_after t rs) qs
answers-join t [] qs = refl
answers-join t (r ∷ rs) qs = rw (append_assoc, answers-join (next t r) rs qs)

pub table-join : (t : Table) (rs qs : List (Option Message)) → table_after t (rs ++ qs) ≡ table_after (table_after t rs) qs
table-join t [] qs = refl
table-join t (r ∷ rs) qs = table-join (next t r) rs qs

-- what is written for s and t: the answers to the lines that end in s, and what is written for t behind what s leaves
pub written-cut : (x : Table) (p s t : List ℕ) → written_from x p (s ++ t) ≡ answers x (said_in p s) ++ written_from (table_after x (said_in p s)) (left p s) t
written-cut x p s t =
    ap (λ ls. answers x (map read_line ls)) (lines_cut p s t)
    ∙ ap (answers x) (map-append read_line (lines_in p s) (lines_from (left p s) t))
    ∙ answers-join x (said_in p s) (map read_line (lines_from (left p s) t))

pub said-join : (p s t : List ℕ) → said_in p (s ++ t) ≡ said_in p s ++ said_in (left p s) t
said-join p s t = ap (λ ls. map read_line ls) (lines_join p s t) ∙ map-append read_line (lines_in p s) (lines_in (left p s) t)
