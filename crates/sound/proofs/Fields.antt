-- `is_valid`: a wrong field decides; where all are right, the number decides.
use Prim.Native.Nat.{ℕ}
use mathlib.Core.Bool.{Bool, true, false, not, ◌&&◌}
use mathlib.Core.List.{List}
use mathlib.Core.Path.{◌≡◌, refl, sym, ap, ◌∙◌}
use lib.Dec.{leb}
use borrow.Author.Tests.{not-true, not-false}
use Rattle.common.specs.Ranges.{range}
use Rattle.modes.specs.Codes.{known_mode, known_state}
use Rattle.table.specs.declared.Lock.{Lock}
use Rattle.table.specs.Table.{handle_of, max_client, max_stripe}
use Rattle.table.specs.Sound.{well_marked, numbered, valid}

module _ (issued : ℕ) (ls : List ℕ) (l : Lock) (a b m s k : Bool) (ea : a ≡ leb 1 (handle_of l)) (eb : b ≡ leb (handle_of l) issued)
    (em : m ≡ known_mode l.mode) (es : s ≡ known_state l.state) (ek : k ≡ well_marked l) where
  -- the fields but the number
  abbrev plain : Bool → Bool → Bool → Bool → Bool → Bool
  plain a b m s k = (a && b) && leb l.client max_client && leb l.stripe max_stripe && m && s && range l.first l.last && k

  plain-is : plain a b m s k ≡ plain (leb 1 (handle_of l)) (leb (handle_of l) issued) (known_mode l.mode) (known_state l.state) (well_marked l)
  plain-is = rw (ea, eb, em, es, ek) refl

  pub wrong-field : not (plain a b m s k) ≡ true → false ≡ valid issued ls l
  unfolding valid
  wrong-field h = ap (λ (x : Bool). x && numbered ls l) (sym (not-true _ h) ∙ plain-is)

  pub right-fields : (n : Bool) → n ≡ numbered ls l → not (plain a b m s k) ≡ false → n ≡ valid issued ls l
  unfolding valid
  right-fields n en h = en ∙ ap (λ (x : Bool). x && numbered ls l) (sym (not-false _ h) ∙ plain-is)
