-- Settling by place: a turn changes the record at its own place alone, and a revocation changes its state alone. So a request stands as it was up to its
-- turn, and from then on as its turn left it.
use Prim.Native.Nat.{ℕ, zero, suc, ◌≤◌, ◌<◌}
use native.Mathlib.Omega.{arith}
use mathlib.Core.Bool.{Bool, true, false, cond}
use mathlib.Core.List.{List}
use mathlib.Core.Logic.{⊎_elim}
use mathlib.Core.Path.{◌≡◌, refl, ap, ◌∙◌}
use lib.ListN.{length, get_or-map}
use lib.Seq.{get_or-set_same, get_or-set_other}
use Rattle.common.specs.Tests.{any}
use Rattle.common.proofs.Bools.{by_cond}
use Rattle.common.proofs.Order.{below}
use Rattle.modes.specs.Codes.{granted, canceling}
use Rattle.table.specs.declared.Lock.{Lock}
use Rattle.table.specs.Table.{Table, handle_of, nth, blank}
use Rattle.table.proofs.Facts.{Sound}
use Rattle.locks.specs.Conflicts.{hurries}
use Rattle.locks.specs.Settle.{Settled, given, next_number, last_given, grant, free, granting, turn, turns, revoked, settle}
use Rattle.locks.proofs.Walk.{turns-sound}
use Rattle.locks.proofs.Revoked.{handle-same}

elsewhere : (i n : ℕ) (s : Settled) → (n ≡ i → ⊥) → nth (turn i s).table n ≡ nth s.table n
unfolding turn
elsewhere i n s h =
    let w : Lock = nth s.table i in
    let g : Lock = grant s.table.lasts s.table.locks w in
    by_cond (λ (x : Settled). nth x.table n ≡ nth s.table n) (free s.table.locks w) (granting i s w g) s
    (λ f. get_or-set_other s.table.locks i n g blank h) (λ f. refl)

here : (n : ℕ) (s : Settled) → n < length s.table.locks
    → nth (turn n s).table n ≡ cond (free s.table.locks (nth s.table n)) (grant s.table.lasts s.table.locks (nth s.table n)) (nth s.table n)
unfolding turn
here n s h = go (free s.table.locks w)
  where
    w : Lock
    w = nth s.table n

    g : Lock
    g = grant s.table.lasts s.table.locks w

    go : (b : Bool) → nth (cond b (granting n s w g) s).table n ≡ cond b g w
    go true = get_or-set_same s.table.locks n g blank h
    go false = refl

grant-handle : (lasts : List ℕ) (rs : List Lock) (w : Lock) → handle_of (grant lasts rs w) ≡ handle_of w
unfolding grant
grant-handle lasts rs w =
    by_cond (λ (x : Lock). handle_of x ≡ handle_of w) (any (hurries w) rs)
    (given w canceling (next_number lasts w) w.last) (given w granted (next_number lasts w) (last_given rs w)) (λ u. refl) (λ u. refl)

module _ (t : Table) where
  -- up to its turn
  pub before-turn : (k n : ℕ) → k ≤ n → nth (turns k t).table n ≡ nth t n
  unfolding turns
  before-turn zero n h = refl
  before-turn (suc k) n h = elsewhere k n (turns k t) (λ e. omega arith) ∙ before-turn k n (omega arith)

  -- from then on
  after_turn : (k n : ℕ) → n < k → nth (turns k t).table n ≡ nth (turns (suc n) t).table n
  unfolding turns
  after_turn zero n h = absurd (let z : ⊥ = omega arith in z)
  after_turn (suc k) n h =
      ⊎_elim
      (λ (u : n < k). elsewhere k n (turns k t) (λ e. omega arith) ∙ after_turn k n u)
      (λ (u : k ≤ n). let e : k ≡ n = omega arith in ap (λ (i : ℕ). nth (turns (suc i) t).table n) e)
      (below n k)

  -- the records when all turns are over
  abbrev rs : List Lock
  rs = (turns (length t.locks) t).table.locks

  module _ (S : Sound t.issued t.lasts t.locks) (n : ℕ) (h : n < length t.locks) where
    abbrev present : List Lock
    present = (turns n t).table.locks

    abbrev w : Lock
    w = nth (turns n t).table n

    abbrev g : Lock
    g = grant (turns n t).table.lasts present w

    turned-place : nth (turns (length t.locks) t).table n ≡ cond (free present w) g w
    unfolding turns
    turned-place = after_turn (length t.locks) n h ∙ here n (turns n t) (let e = (turns-sound t S n (omega arith)).long in omega arith)

    -- what stands there at the end
    pub settled-place : nth (settle t).table n ≡ revoked rs (cond (free present w) g w)
    unfolding settle
    settled-place = get_or-map (revoked rs) rs n blank ∙ ap (revoked rs) turned-place

    pub same-handle : handle_of (nth (settle t).table n) ≡ handle_of (nth t n)
    same-handle =
        ap handle_of settled-place ∙ handle-same rs (cond (free present w) g w)
        ∙ by_cond (λ (x : Lock). handle_of x ≡ handle_of w) (free present w) g w (λ f. grant-handle (turns n t).table.lasts present w) (λ f. refl) ∙ ap handle_of (before-turn n n (omega arith))
