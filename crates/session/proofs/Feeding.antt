-- A piece is fed: a line that ends in it is answered, and what it leaves is kept. At the end of the input so is a line without its break.
use Prim.Native.Nat.{ℕ}
use native.Mathlib.Omega.{arith}
use mathlib.Core.Bool.{Bool, true, false}
use mathlib.Core.List.{List, [], ◌∷◌, map, append-nil}
use mathlib.Core.Logic.{inl, inr}
use mathlib.Core.Path.{◌≡◌, refl, sym, ap, subst, ◌∙◌}
use lib.ListN.{length, take}
use borrow.Author.Tests.{ne_eqb}
use Rattle.common.specs.Counters.{width}
use Rattle.table.specs.Bytes.{table_of, sound_table_bytes}
use Rattle.std.specs.declared.option.Option.{Option}
use Rattle.locks.specs.declared.Message.{Message}
use Rattle.line.specs.Format.{read_line, Single}
use Rattle.line.proofs.Single.{read-single}
use Rattle.lines.specs.Lines.{lines_from}
use Rattle.lines.specs.Buffers.{Keeps, Saying, Gathers}
use Rattle.session.specs.Session.{answer, answers, table_after, said_in}
use Rattle.session.specs.Buffers.{Answers, Feeds, Ends}

-- what a line says comes by itself
pub said-single : (last : Bool) (line : List ℕ) {r : Option Message} → Saying last line r → Single r
said-single last line S = subst Single (sym (S line (inl refl))) (read-single _)

module _ {piece before t line : List ℕ} {n : ℕ} where
  -- gathering met no break
  pub fed-part : sound_table_bytes t ≡ true → Gathers piece before line n false → Feeds piece before t n line t []
  fed-part s G =
      record {
        sound = s;
        within = G.within;
        onward = G.onward;
        takes = λ p k.
            let A = G.gathered p k in
            record { after = ap (λ ls. table_after (table_of width t) (map read_line ls)) (sym A.ends); keeps = rw A.rest A.keeps };
        says = λ p k. ap (λ ls. answers (table_of width t) (map read_line ls)) (sym (G.gathered p k).ends);
      }

  -- it met the break of a line, which is answered
  pub fed-line : {r : Option Message} {t' out : List ℕ} → Gathers piece before line n true → Saying false line r → Answers r t t' out
      → Feeds piece before t n [] t' out
  fed-line {r} {t'} {out} G S W =
      record {
        sound = W.sound;
        within = G.within;
        onward = G.onward;
        takes = λ p q. record { after = W.after ∙ ap (table_after (table_of width t)) (said p q); keeps = inl (sym (G.gathered p q).rest) };
        says = λ p q. W.says ∙ sym (append-nil (answer (table_of width t) r)) ∙ ap (answers (table_of width t)) (said p q);
      }
    where
      said : (p : List ℕ) → Keeps before p → r ∷ [] ≡ said_in p (take n piece)
      said p q = let A = G.gathered p q in rw A.ends (ap (λ (x : Option Message). x ∷ []) (S A.line A.keeps))

-- the end of the input
pub ended-none : (line t : List ℕ) → length line ≡ 0 → Ends line t []
unfolding lines_from
ended-none line t e p (inl q) = rw (nil p (omega (arith, e, ap length q))) refl
  where
    nil : (s : List ℕ) → length s ≡ 0 → s ≡ []
    nil [] h = refl
    nil (b ∷ s) h = absurd (let x : ⊥ = omega arith in x)
ended-none line t e p (inr q) = absurd (let x : ⊥ = omega (arith, e, q.0) in x)

pub ended-last : (line t : List ℕ) {r : Option Message} {t' out : List ℕ} → (length line ≡ 0 → ⊥) → Saying true line r → Answers r t t' out → Ends line t out
unfolding lines_from
ended-last line t {r} {t'} {out} z S W =
    λ p q. W.says ∙ sym (append-nil (answer (table_of width t) r)) ∙ ap (answers (table_of width t)) (last p q)
  where
    some : (p : List ℕ) → Keeps line p → length p ≡ 0 → ⊥
    some p (inl q) e = z (ap length q ∙ e)
    some p (inr q) e = omega arith

    last : (p : List ℕ) → Keeps line p → r ∷ [] ≡ map read_line (lines_from p [])
    last p q = rw (ne_eqb (length p) 0 (some p q)) (ap (λ (x : Option Message). x ∷ []) (S p q))
