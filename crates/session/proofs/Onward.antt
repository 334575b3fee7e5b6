-- From buffers that are ready a run goes on to the end of its input. The thought: any one byte of a piece can be fed, for a line that it ends has an
-- answer, and any other byte is kept.
use Prim.Native.Nat.{ℕ}
use Prim.Native.Char.{code}
use native.Mathlib.Omega.{arith}
use mathlib.Core.Bool.{true, false}
use mathlib.Core.List.{List, [], ◌∷◌, ◌++◌}
use mathlib.Core.Logic.{⊎_elim, inl, inr}
use mathlib.Core.Path.{◌≡◌, refl, ap}
use lib.ListN.{length, length-append}
use Rattle.common.specs.Counters.{width}
use Rattle.common.proofs.Order.{same}
use Rattle.xdr.specs.Be.{Bytes}
use Rattle.table.specs.Bytes.{table_of, sound_table_bytes}
use Rattle.promises.specs.Demand1.{Served}
use Rattle.promises.proofs.Determined.{of-message}
use Rattle.promises.proofs.Reached.{buffer, buffer-long}
use Rattle.promises.proofs.Sessions.{follows}
use Rattle.std.specs.Prelude.{Some, None}
use Rattle.std.specs.declared.option.Option.{Option}
use Rattle.locks.specs.declared.Message.{Message}
use borrow.Author.Tests.{ne_eqb}
use Rattle.line.specs.Format.{read_line}
use Rattle.lines.specs.Lines.{bare, lines_in, left}
use Rattle.lines.specs.Buffers.{Keeps, Gathers}
use Rattle.session.specs.Session.{answer, next}
use Rattle.lines.proofs.Keeping.{keeps-read, keeps-bare}
use Rattle.session.specs.Buffers.{Answers, Feeds}
use Rattle.session.specs.Run.{Run, end, read, feed}
use Rattle.session.proofs.Feeding.{fed-part, fed-line, ended-none, ended-last}

-- what a line says has an answer, and leaves a table in bytes
record Answered (r : Option Message) (t : List ℕ) : Type 0 where
  table : List ℕ
  out : List ℕ
  answers : Answers r t table out
  bytes : Bytes table

answered : (r : Option Message) (t u : List ℕ) → sound_table_bytes u ≡ true → table_of width u ≡ next (table_of width t) r → Bytes u → Answered r t
answered r t u s e b =
    record { table = u; out = answer (table_of width t) r; answers = record { sound = s; says = refl; after = e }; bytes = b }

some-answer : (r : Option Message) (t : List ℕ) → sound_table_bytes t ≡ true → Bytes t → Answered r t
some-answer None t s b = answered None t t s refl b
some-answer (Some m) t s b =
    let P = of-message m t buffer b in
    let x : Served = P.some in
    let F = follows m t buffer x.answer x.table x.events s (omega (arith, buffer-long)) P.meets.0 in
    answered (Some m) t x.table F.sound F.says P.meets.1

-- one byte of a piece is fed
record Step (b : ℕ) (s line table : List ℕ) : Type 0 where
  line' : List ℕ
  table' : List ℕ
  out : List ℕ
  feeds : Feeds (b ∷ s) line table 1 line' table' out
  bytes : Bytes table'

module _ (b : ℕ) (s line table : List ℕ) (sound : sound_table_bytes table ≡ true) (bytes : Bytes table) where
  -- a byte of a line is kept
  kept_byte : (b ≡ code "\n" → ⊥) → (line' : List ℕ) → ((p : List ℕ) → Keeps line p → Keeps line' (p ++ (b ∷ []))) → Step b s line table
  unfolding lines_in left
  kept_byte h line' f =
      let G : Gathers (b ∷ s) line line' 1 false = record {
        within = omega arith;
        onward = λ z. omega arith;
        gathered = λ p q.
            record { line = p ++ (b ∷ []); keeps = f p q; ends = rw (ne_eqb b (code "\n") h) refl; rest = rw (ne_eqb b (code "\n") h) refl };
      } in
      record { line' = line'; table' = table; out = []; feeds = fed-part sound G; bytes = bytes }

  -- a line that the byte ends is answered
  ended-line : b ≡ code "\n" → Step b s line table
  unfolding lines_in left
  ended-line h =
      let A = some-answer (read_line (bare line)) table sound bytes in
      let G : Gathers (b ∷ s) line line 1 true = record {
        within = omega arith;
        onward = λ z. omega arith;
        gathered = λ p q. record { line = p; keeps = q; ends = rw h refl; rest = rw h refl };
      } in
      record { line' = []; table' = A.table; out = A.out; feeds = fed-line G (λ p k. keeps-bare line p k) A.answers; bytes = A.bytes }

  -- what is kept with one byte more of a line
  kept-more : (p : List ℕ) → Keeps line p → Keeps (line ++ (b ∷ [])) (p ++ (b ∷ []))
  kept-more p (inl e) = inl (ap (λ (l : List ℕ). l ++ (b ∷ [])) e)
  kept-more p (inr k) = inr (simp length-append (omega (arith, k.0)), simp length-append (omega (arith, k.1)))

  step : Step b s line table
  step =
      ⊎_elim ended-line (λ (h : b ≡ code "\n" → ⊥). kept_byte h (line ++ (b ∷ [])) kept-more) (same b (code "\n"))

-- the end of the input
ended : (line table : List ℕ) → sound_table_bytes table ≡ true → Bytes table → (output : List ℕ) × Run line table [] output
ended line table s b =
    ⊎_elim (λ (z : length line ≡ 0). ([], end (ended-none line table z)))
    (λ (z : length line ≡ 0 → ⊥).
    let A = some-answer (read_line line) table s b in
    (A.out, end (ended-last line table z (λ p k. keeps-read line p k) A.answers)))
    (same (length line) 0)

-- a piece, and then those behind it
abbrev Goes : List (List ℕ) → Type 0
Goes pieces = (line table : List ℕ) → sound_table_bytes table ≡ true → Bytes table → (output : List ℕ) × Run line table pieces output

poured : (s : List ℕ) (pieces : List (List ℕ)) → Goes pieces → Goes (s ∷ pieces)
poured [] pieces go line table h z = let R = go line table h z in (R.0, read R.1)
poured (b ∷ s) pieces go line table h z =
    let T = step b s line table h z in
    let R = poured s pieces go T.line' T.table' T.feeds.sound T.bytes in
    (T.out ++ R.0, feed {piece = b ∷ s} (omega arith) T.feeds R.1)

goes : (pieces : List (List ℕ)) → Goes pieces
goes [] = ended
goes (s ∷ pieces) = poured s pieces (goes pieces)

pub goes_on : (pieces : List (List ℕ)) {line table : List ℕ} → sound_table_bytes table ≡ true → Bytes table → (output : List ℕ) × Run line table pieces output
goes_on pieces {line} {table} s b = goes pieces line table s b
