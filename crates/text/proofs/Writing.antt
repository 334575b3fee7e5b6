-- Text put behind text is the two texts together.
use Prim.Native.Nat.{ℕ, suc, ◌+◌, ◌*◌, ◌≤◌, ◌<◌}
use mathlib.Core.Path.{◌≡◌, refl, ap, ◌∙◌}
use mathlib.Core.List.{List, [], ◌∷◌, ◌++◌, append_assoc, append-nil}
use native.Mathlib.Omega.{arith}
use native.Mathlib.Numerals.{add-one}
use Prim.Native.Char.{code}
use lib.ListN.{length, get_or, take, length-append}
use lib.Seq.{take-suc, take_all}
use Rattle.std.specs.Result.{IsOk, OnOk}
use Rattle.std.specs.Prelude.{◌↔◌}
use Rattle.std.specs.declared.result.Result.{Result}
use Rattle.std.specs.declared.result.Result.TheVariants.{Ok, Err}
use Rattle.xdr.specs.Tab.{tab}
use Rattle.xdr.proofs.Tabs.{tab-snoc}
use Rattle.text.specs.Text.{decimal, fields_text, line_break, line_text, event_text, events_text, line_size}
use Rattle.text.proofs.Decimal.{at-most-20}
use Rattle.text.specs.Buffers.{Wrote}

pub wrote_then : {j k : ℕ} {a b c x y : List ℕ} → Wrote j a b x → Wrote k b c y → Wrote (j + k) a c (x ++ y)
wrote_then {j} {k} {a} {b} {c} {x} {y} p q =
    record {
      short = simp length-append (omega (arith, p.short, q.short));
      says = q.says ∙ ap (λ (l : List ℕ). l ++ y) p.says ∙ append_assoc a x y;
    }

pub wrote_length : {k : ℕ} {a b x : List ℕ} → Wrote k a b x → length b ≤ length a + k
wrote_length {k} {a} {b} {x} p = rw p.says (omega (arith, length-append a x, p.short))

pub fields-append : (xs ys : List ℕ) → fields_text xs ++ fields_text ys ≡ fields_text (xs ++ ys)
unfolding fields_text
fields-append [] ys = refl
fields-append (x ∷ xs) ys = rw (append_assoc, fields-append xs ys)

pub wrote_none : (out : List ℕ) → Wrote 0 out out []
wrote_none out = record { short = omega arith; says = rw append-nil refl }

events-append : (es fs : List (List ℕ)) → events_text es ++ events_text fs ≡ events_text (es ++ fs)
unfolding events_text
events-append [] fs = refl
events-append (e ∷ es) fs = rw (append_assoc, events-append es fs)

-- the line of one event more
pub wrote-event : (f : ℕ → List ℕ) (k : ℕ) {a b c : List ℕ}
    → Wrote (line_size 8 * k) a b (events_text (tab k f)) → Wrote (line_size 8) b c (event_text (f k))
    → Wrote (line_size 8 * (k + 1)) a c (events_text (tab (k + 1) f))
unfolding events_text
wrote-event f k p q =
    let e : line_size 8 * k + line_size 8 ≡ line_size 8 * suc k = omega arith in
    rw (add-one, tab-snoc k f, ← events-append (tab k f) (f k ∷ []), append-nil) (rw e at (wrote_then p q))

-- what the library puts where there is room
pub fitting : {A E P Q : Type 0} (r : Result A E) → IsOk r ↔ Q → OnOk r P → Q → P
fitting (Ok x) v p q = p
fitting (Err e) v p q = absurd (let w = v.1 q in let z : ⊥ = cc in z)

-- a line: its letter, then number after number, then its break
pub line-start : (out : List ℕ) (l : ℕ) {b : List ℕ} → b ≡ out ++ (l ∷ []) → Wrote 1 out b (l ∷ fields_text [])
unfolding fields_text
line-start out l e = record { short = omega arith; says = e }

module _ (l : ℕ) (ns : List ℕ) (i : ℕ) {a b c : List ℕ} (w : Wrote (1 + 21 * i) a b (l ∷ fields_text (take i ns))) where
  pub line-next : {d : List ℕ} → i < length ns → c ≡ b ++ (code "," ∷ []) → d ≡ c ++ decimal (get_or ns i 0)
      → Wrote (1 + 21 * (i + 1)) a d (l ∷ fields_text (take (i + 1) ns))
  unfolding fields_text
  line-next {d} h e f =
      let n = get_or ns i 0 in
      let k : 1 + 21 * i + 21 ≡ 1 + 21 * (i + 1) = omega arith in
      let v : Wrote 21 b d (code "," ∷ (decimal n ++ [])) = record {
        short = simp append-nil (omega (arith, at-most-20 n));
        says = rw append-nil (f ∙ ap (λ (x : List ℕ). x ++ decimal n) e ∙ append_assoc b (code "," ∷ []) (decimal n));
      } in
      rw (add-one, take-suc ns i 0 h, ← fields-append (take i ns) (n ∷ [])) (rw (k, add-one) at (wrote_then w v))

  pub line-end : length ns ≤ i → i ≤ length ns → c ≡ b ++ line_break → Wrote (line_size (length ns)) a c (line_text l ns)
  unfolding line_text
  line-end h k e =
      let n : i ≡ length ns = omega arith in
      let v : Wrote 2 b c line_break = record { short = omega arith; says = e } in
      let s : 1 + 21 * i + 2 ≡ line_size (length ns) = omega arith in
      rw (s, take_all i ns h) at (wrote_then w v)
