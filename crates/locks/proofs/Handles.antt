-- Over any session from the empty table the accepted requests are answered the handles 1, 2, 3, ..: each takes the next one, and nothing else does.
use Prim.Native.Nat.{ℕ}
use native.Mathlib.Omega.{arith}
use mathlib.Core.Bool.{Bool, true, false, not, ◌&&◌, cond}
use mathlib.Core.List.{List, [], ◌∷◌}
use mathlib.Core.Path.{◌≡◌, refl, sym, subst}
use lib.Dec.{T, eqb}
use lib.ListN.{length}
use Rattle.common.specs.Tests.{pairs, up_from}
use Rattle.common.proofs.Bools.{by_cond}
use Rattle.table.specs.Table.{Table, empty}
use Rattle.table.specs.Sound.{sound}
use Rattle.table.proofs.Facts.{Sound, sound→}
use Rattle.locks.specs.declared.Message.{Message}
use Rattle.locks.specs.declared.Message.TheVariants.{Request, Acknowledge, Downgrade, Release}
use Rattle.locks.specs.Settle.{settle}
use Rattle.locks.specs.Refusals.{refusal}
use Rattle.locks.specs.Serve.{Outcome, change, answered, accepted, refused, serve}
use Rattle.locks.specs.Session.{table_after, requests, handle_taken, handles_taken}
use Rattle.locks.proofs.Walk.{turns-sound}
use Rattle.locks.proofs.Served.{change-sound, serve-sound}
use Rattle.locks.proofs.Rows.{Row, row-none, row-join, row-from-one, row-once}
use Rattle.table.proofs.Zeros.{empty-sound}

-- settling issues none
issued-same : (t : Table) → Sound t.issued t.lasts t.locks → (settle t).table.issued ≡ t.issued
unfolding settle
issued-same t S = (turns-sound t S (length t.locks) (omega arith)).count

-- a message takes the next handle, or none
one-taken : (t : Table) (m : Message) → Sound (change t m).issued (change t m).lasts (change t m).locks
    → Row t.issued (settle (change t m)).table.issued (cond (requests m && true) (answered t m ∷ []) [])
unfolding change answered
one-taken t (Request c s m f l k) S = record { many = 1; are = refl; ends = issued-same (change t (Request c s m f l k)) S }
one-taken t (Acknowledge c h) S = subst (λ (n : ℕ). Row t.issued n []) (sym (issued-same (change t (Acknowledge c h)) S)) (row-none t.issued)
one-taken t (Downgrade c h) S = subst (λ (n : ℕ). Row t.issued n []) (sym (issued-same (change t (Downgrade c h)) S)) (row-none t.issued)
one-taken t (Release c h) S = subst (λ (n : ℕ). Row t.issued n []) (sym (issued-same (change t (Release c h)) S)) (row-none t.issued)

none-taken : (a b : Bool) (h : ℕ) → T (not b) → cond (a && b) (h ∷ []) [] ≡ []
none-taken true true h t = absurd t
none-taken true false h t = refl
none-taken false b h t = refl

serve-taken : (t : Table) (m : Message) → T (sound t) → Row t.issued (serve t m).table.issued (handle_taken t m)
unfolding serve
serve-taken t m q =
    by_cond (λ (o : Outcome). Row t.issued o.table.issued (cond (requests m && eqb o.refusal 0) (o.handle ∷ []) [])) (eqb (refusal t m) 0)
    (accepted (answered t m) (settle (change t m))) (refused t (refusal t m))
    (λ e. one-taken t m (change-sound t m e (sound→ t q)))
    (λ e. subst (λ (l : List ℕ). Row t.issued t.issued l) (sym (none-taken (requests m) (eqb (refusal t m) 0) 0 e)) (row-none t.issued))

session-taken : (t : Table) (ms : List Message) → T (sound t) → Row t.issued (table_after t ms).issued (handles_taken t ms)
session-taken t [] q = row-none t.issued
session-taken t (m ∷ ms) q =
    let u : Table = (serve t m).table in
    row-join t.issued u.issued (table_after u ms).issued (handle_taken t m) (handles_taken u ms) (serve-taken t m q) (session-taken u ms (serve-sound t m q))

-- From the empty table: 1, 2, 3, .. up to the handles issued, none twice
pub session-handles : (ms : List Message) → handles_taken empty ms ≡ up_from 1 (table_after empty ms).issued
session-handles ms = row-from-one (table_after empty ms).issued (handles_taken empty ms) (session-taken empty ms empty-sound)

pub session-once : (ms : List Message) → T (pairs (λ a b. not (eqb a b)) (handles_taken empty ms))
session-once ms = subst (λ (l : List ℕ). T (pairs (λ a b. not (eqb a b)) l)) (sym (session-handles ms)) (row-once 1 (table_after empty ms).issued)
