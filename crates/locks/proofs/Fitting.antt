-- A call's events fit their fields: each shows a record of the settled table, which is sound.
use native.Mathlib.Omega.{arith}
use mathlib.Core.Bool.{Bool}
use mathlib.Core.List.{List, [], ◌∷◌, ◌++◌, map}
use mathlib.Core.Path.{refl, sym, subst}
use lib.Dec.{T, eqb}
use lib.ListN.{length}
use Rattle.common.specs.Counters.{width}
use Rattle.common.specs.Tests.{all, keep}
use Rattle.common.proofs.Bools.{and_l, and_r, by_cond}
use Rattle.common.proofs.Listed.{all_keep}
use Rattle.common.proofs.Sublist.{sub-all}
use Rattle.xdr.specs.Layout.{Fit}
use Rattle.xdr.specs.Array.{Fits}
use Rattle.modes.specs.Codes.{asked}
use Rattle.table.specs.declared.Lock.{Lock}
use Rattle.table.specs.Table.{Table}
use Rattle.table.specs.Sound.{valid, sound}
use Rattle.table.proofs.Facts.{Sound, sound→}
use Rattle.table.proofs.Fitting.{shown-fits, state-fits, lock-fits}
use Rattle.locks.specs.declared.Message.{Message}
use Rattle.locks.specs.Settle.{Event, Settled, grant_event, revocation, in_state, turns, wanted, revocations, settle}
use Rattle.locks.specs.Refusals.{refusal}
use Rattle.locks.specs.Serve.{Outcome, change, answered, accepted, refused, serve}
use Rattle.locks.specs.Events.{event_layout, event_fields}
use Rattle.locks.proofs.Served.{change-sound}
use Rattle.locks.proofs.Walk.{Walked}
use Rattle.locks.proofs.Events.{Spared, spare}

abbrev pub FitEvents : List Event → Type 0
FitEvents es = Fits (event_layout width) (map event_fields es)

pub fit-join : (es fs : List Event) → FitEvents es → FitEvents fs → FitEvents (es ++ fs)
fit-join [] fs p q = q
fit-join (e ∷ es) fs p q = (p.0, fit-join es fs p.1 q)

-- each of the records makes an event that fits
fit_all : (p : Lock → Bool) (f : Lock → Event) → ((r : Lock) → T (p r) → Fit (event_layout width) (event_fields (f r))) → (rs : List Lock) → T (all p rs) → FitEvents (map f rs)
fit_all p f h [] t = tt
fit_all p f h (r ∷ rs) t = (h r (and_l (p r) (all p rs) t), fit_all p f h rs (and_r (p r) (all p rs) t))

pub settle-fit : (U : Table) → Sound U.issued U.lasts U.locks → FitEvents (settle U).events
unfolding settle
settle-fit U S =
    let s : Settled = turns (length U.locks) U in
    let W : Walked U.issued Spared s = spare U S in
    let p : Lock → Bool = valid U.issued s.table.lasts in
    let G = W.law in
    let rs : List Lock = s.table.locks in
    let fits = lock-fits U.issued s.table.lasts rs W.sound in
    fit-join s.events (revocations rs)
    (subst FitEvents (sym G.are) (fit_all p grant_event (λ r t. (omega arith, shown-fits r (fits r t))) G.grants (sub-all p G.among W.sound.each)))
    (fit_all p (λ r. revocation (in_state asked r)) (λ r t. (omega arith, shown-fits (in_state asked r) (state-fits asked r (in_state asked r) (omega arith) refl (fits r t)))) (keep (wanted rs) rs) (all_keep p (wanted rs) rs W.sound.each))

pub serve-fit : (X : Table) (m : Message) → T (sound X) → FitEvents (serve X m).events
unfolding serve
serve-fit X m q =
    by_cond (λ (o : Outcome). FitEvents o.events) (eqb (refusal X m) 0) (accepted (answered X m) (settle (change X m))) (refused X (refusal X m))
    (λ e. settle-fit (change X m) (change-sound X m e (sound→ X q))) (λ e. tt)
