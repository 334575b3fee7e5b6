use Rattle.table.specs.Places.{lock_at}
use Rattle.sound.proofs.Friends.{other-stripe, second-waits, two-readers, starts-after, ends-before, one_number, one_of_two}
use borrow.Author.Tests.{eq-eqb}
use lib.Dec.{T, eqb→eq}
use mathlib.Core.Path.{subst, ◌∙◌}
use Rattle.common.proofs.Bools.{never}
use Rattle.sound.proofs.Holder.befriends.Goals as goal

pub returns-then-stripe-self : goal.returns-then-stripe-self
returns-then-stripe-self c = other-stripe _ _ _ c.stripe.ensures c.if-stripe-self.true

pub returns-then-self-first : goal.returns-then-self-first
returns-then-self-first c = c.differs.ensures ∙ starts-after _ _ _ c.first.ensures c.if-self-first.true

pub returns-then-last-self : goal.returns-then-last-self
returns-then-last-self c = c.differs-then-last-self.ensures ∙ ends-before _ _ _ c.last.ensures c.if-last-self.true

pub returns-then-self-mode : goal.returns-then-self-mode
returns-then-self-mode c = two-readers _ _ _ c.mode-mode.ensures c.if-self-mode.true

pub returns-then-state-eq-WAITING : goal.returns-then-state-eq-WAITING
returns-then-state-eq-WAITING c = second-waits _ _ _ c.state-state.ensures c.if-state-eq-WAITING.true

pub returns-then-eq : goal.returns-then-eq
returns-then-eq c =
    one_number c.args.self.now.lock (lock_at c.args.self.now.records.bytes.now c.args.j) _ c.stripe.ensures c.if-stripe-self.false c.args.self.now.owns.held _ _ _ _ _
    c.mode-mode.ensures c.number-number.ensures.0 c.state-state.ensures c.first.ensures c.last.ensures
    c.if-self-first.false c.if-last-self.false c.if-self-mode.false c.if-state-eq-WAITING.false (eqb→eq c.number-number.result.0 c.args.self.now.lock.number.0 (subst T c.if-eq.ensures tt))

pub returns : goal.returns
returns c =
    c.smaller_yields.ensures
    ∙ one_of_two c.args.self.now.lock (lock_at c.args.self.now.records.bytes.now c.args.j) _ c.stripe.ensures c.if-stripe-self.false c.args.self.now.owns.held _ _ _ _ _
    c.mode-mode.ensures c.number-number.ensures.0 c.state-state.ensures c.first.ensures c.last.ensures
    c.if-self-first.false c.if-last-self.false c.if-self-mode.false c.if-state-eq-WAITING.false (λ q. never (c.if-eq.ensures ∙ eq-eqb c.number-number.result.0 c.args.self.now.lock.number.0 q))
