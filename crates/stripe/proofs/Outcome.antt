-- An accepted call leaves the new stripe, and a refused call changes nothing.
use Prim.Native.Nat.{ℕ, max}
use mathlib.Core.Path.{◌≡◌, ap}
use mathlib.Core.Logic.{⊎_elim}
use mathlib.Core.List.{[], ◌∷◌, ◌++◌}
use borrow.Author.Tests.{eq-eqb, ne_eqb}
use Rattle.common.proofs.Order.{same}
use Rattle.runs.specs.Owner.{over, owner}
use Rattle.runs.specs.Map.{raise, map_of}
use Rattle.runs.proofs.Draw.{raise-owner}
use Rattle.stripe.specs.declared.Extent.{Extent}
use Rattle.stripe.specs.Piece.{place, Piece}
use Rattle.stripe.specs.Stripe.{Stripe, Outcome, answer, noted, note, wrote, write, restarted, restart}

pub record Answers (old new : Stripe) (o : Outcome) : Type 0 where
  pub accepted : o.refusal ≡ 0 → o.stripe ≡ new
  pub refused : (o.refusal ≡ 0 → ⊥) → o.stripe ≡ old

answers : (r : ℕ) (old new : Stripe) → Answers old new (answer r old new)
answers r old new = record { accepted = λ e. rw (eq-eqb r 0 e); refused = λ e. rw (ne_eqb r 0 e) }

pub note-answers : (s : Stripe) (e : Extent) → Answers s (noted s (place e)) (note s e)
unfolding note
note-answers s e = answers _ s (noted s (place e))

pub write-answers : (s : Stripe) (p : Piece) → Answers s (wrote s p) (write s p)
unfolding write
write-answers s p = answers _ s (wrote s p)

pub restart-answers : (s : Stripe) → Answers s (restarted s) (restart s)
unfolding restart
restart-answers s = answers _ s (restarted s)

-- what the old stripe has, and the new one if the call is accepted, the call leaves
pub leaves : {old new : Stripe} {o : Outcome} (P : Stripe → Type 0) → Answers old new o → P old → (o.refusal ≡ 0 → P new) → P o.stripe
leaves {o = o} P a p f =
    ⊎_elim
    (λ (e : o.refusal ≡ 0). rw (a.accepted e) (f e))
    (λ (e : o.refusal ≡ 0 → ⊥). rw (a.refused e) p)
    (same o.refusal 0)

-- an accepted note and restart in plain words
module _ (s : Stripe) (e : Extent) (h : (note s e).refusal ≡ 0) where
  pub note-map : (note s e).stripe.map ≡ raise (place e) s.map
  note-map = ap (λ (t : Stripe). t.map) ((note-answers s e).accepted h)

  pub note-log : (note s e).stripe.log ≡ s.log ++ place e ∷ []
  note-log = ap (λ (t : Stripe). t.log) ((note-answers s e).accepted h)

  pub note-owner : (b : ℕ) → owner (note s e).stripe.map b ≡ max (over (place e) b) (owner s.map b)
  note-owner b = rw note-map (raise-owner (place e) s.map b)

pub restart-map : (s : Stripe) → (restart s).refusal ≡ 0 → (restart s).stripe.map ≡ map_of s.log
restart-map s e = ap (λ (t : Stripe). t.map) ((restart-answers s).accepted e)
