use native.Mathlib.Omega.{arith}
use mathlib.Core.Path.{refl, sym, ◌∙◌}
use borrow.Author.Tests.{eq-eqb}
use Rattle.table.specs.Places.{lock_at}
use Rattle.sound.specs.Parts.{friendly}
use Rattle.sound.proofs.Left.{records-from, records-end}
use Rattle.sound.proofs.Friends.{first-waits}
use Rattle.sound.proofs.Rows.{row-start, row-skip, row_step, row-fail, row-end, rows_end}
use Rattle.sound.proofs.Candidate.all_friends.Goals as goal

pub search-preserved-then-state-eq-WAITING : goal.search-preserved-then-state-eq-WAITING
search-preserved-then-state-eq-WAITING c =
    let t = c.args.self.now.records.bytes.now in
    let h = c.search-test.true in (
      omega arith,
      c.search.invariant.1,
      row-skip friendly _ (lock_at t c.search.i) (λ b. first-waits (lock_at t c.search.i) b (sym (eq-eqb _ _ (sym c.state.ensures ∙ c.if-state-eq-WAITING.true))))
          (records-from c.args.self.now.n c.search.i t c.args.self.now.sized _ (omega arith) refl) c.search.invariant.2,
    )

pub loop-j-init : goal.loop-j-init
loop-j-init c =
    let h = c.search-test.true in (
      omega arith,
      c.search.invariant.1,
      row-start friendly _ c.lock-lock.result
          (records-from c.args.self.now.n c.search.i c.args.self.now.records.bytes.now c.args.self.now.sized c.lock-lock.result (omega arith) c.lock-lock.ensures.0) c.search.invariant.2,
    )

pub loop-j-preserved : goal.loop-j-preserved
loop-j-preserved c =
    let t = c.args.self.now.records.bytes.now in
    let h = c.loop-j-test.true in (
      omega arith,
      c.loop-j.invariant.1,
      row_step friendly _ c.lock-lock.result (lock_at t c.loop-j.j) _
          (records-from c.args.self.now.n c.loop-j.j t c.args.self.now.sized _ (omega arith) refl) (sym c.if-not-befriends.ensures) c.loop-j.invariant.2,
    )

pub search-preserved : goal.search-preserved
search-preserved c =
    let h = c.search-test.true in
    let k = c.loop-j-test.false in (
      omega arith,
      c.loop-j.invariant.1,
      row-end friendly _ c.lock-lock.result _ (records-end c.args.self.now.n c.loop-j.j c.args.self.now.records.bytes.now c.args.self.now.sized (omega arith)) c.loop-j.invariant.2,
    )

pub returns-after-search : goal.returns-after-search
returns-after-search c =
    let h = c.search-test.false in
    c.search.invariant.1 ∙ rows_end friendly _ (records-end c.args.self.now.n c.search.i c.args.self.now.records.bytes.now c.args.self.now.sized (omega arith)) c.search.invariant.2

pub returns-then-not-befriends : goal.returns-then-not-befriends
returns-then-not-befriends c =
    let t = c.args.self.now.records.bytes.now in
    let h = c.loop-j-test.true in
    row-fail friendly _ c.lock-lock.result (lock_at t c.loop-j.j) _
    (records-from c.args.self.now.n c.loop-j.j t c.args.self.now.sized _ (omega arith) refl) (sym c.if-not-befriends.ensures) c.loop-j.invariant.2
