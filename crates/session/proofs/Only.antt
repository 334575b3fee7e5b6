-- Each run writes `written` of its input: what is written for a part of a piece and for what comes after it is written for both as one input.
use Prim.Native.Nat.{ℕ}
use mathlib.Core.List.{List, [], ◌++◌, append_assoc}
use mathlib.Core.Logic.{inl}
use mathlib.Core.Path.{◌≡◌, refl, sym, ap, ap₂, ◌∙◌}
use lib.ListN.{take, drop, take-append-drop}
use Rattle.common.specs.Counters.{width}
use Rattle.table.specs.Table.{Table}
use Rattle.table.specs.Bytes.{table_size, table_of}
use Rattle.table.proofs.Zeros.{zeros-empty}
use Rattle.lines.specs.Lines.{left}
use Rattle.lines.specs.Buffers.{Keeps}
use Rattle.session.specs.Session.{written_from, written}
use Rattle.session.proofs.Joining.{written-cut}
use Rattle.session.specs.Run.{Run, end, read, feed, joined, start}

run-writes : {line table output : List ℕ} {pieces : List (List ℕ)} → Run line table pieces output → (p : List ℕ) → Keeps line p
    → output ≡ written_from (table_of width table) p (joined pieces)
run-writes (end E) p k = E p k
run-writes (read R) p k = run-writes R p k
run-writes (feed {piece = piece} {table = table} {pieces = pieces} {n = n} h F R) p k =
    let s = take n piece in
    let rest = drop n piece in
    let K = F.takes p k in
    ap₂ (λ (a b : List ℕ). a ++ b) (F.says p k) (run-writes R (left p s) K.keeps ∙ ap (λ (x : Table). written_from x (left p s) (rest ++ joined pieces)) K.after)
    ∙ sym (written-cut (table_of width table) p s (rest ++ joined pieces))
    ∙ ap (written_from (table_of width table) p) (sym (append_assoc s rest (joined pieces)) ∙ ap (λ (l : List ℕ). l ++ joined pieces) (take-append-drop n piece))

pub only : (pieces : List (List ℕ)) (output : List ℕ) → Run [] start pieces output → output ≡ written (joined pieces)
only pieces output R = run-writes R [] (inl refl) ∙ ap (λ (x : Table). written_from x [] (joined pieces)) (zeros-empty (table_size width))
