-- What a sound table holds fits its fields: codes and ranges are bounded, and numbers by the last numbers, which the handles issued bound.
use Prim.Native.Nat.{ℕ, zero, suc, ◌+◌, ◌^◌, ◌≤◌, ◌<◌}
use native.Mathlib.Omega.{arith}
use mathlib.Core.Bool.{not, ◌&&◌}
use mathlib.Core.List.{List, [], ◌∷◌, map}
use mathlib.Core.Logic.{⊎_elim}
use mathlib.Core.Path.{◌≡◌}
use lib.Dec.{T, leb→le}
use lib.ListN.{length, get_or, replicate}
use Rattle.common.specs.Counters.{width, highest}
use Rattle.common.specs.Tests.{all, count}
use Rattle.common.proofs.Bools.{and_l, and_r, either}
use Rattle.common.proofs.Scans.{all_from}
use Rattle.xdr.specs.Layout.{Fit}
use Rattle.xdr.specs.Array.{Fits}
use Rattle.table.specs.declared.Lock.{Lock}
use Rattle.table.specs.Table.{Table, waits, held, writes, number_of, remade, stripe_count}
use Rattle.table.specs.Sound.{valid, room, wants, sound}
use Rattle.table.specs.Bytes.{lock_layout, lock_fields, lasts_layout}
use Rattle.table.specs.Places.{ShownFits, LockFits}
use Rattle.table.proofs.Facts.{Valid, valid→, Sound, sound→}
use Rattle.table.proofs.Encoding.{FitTable}

-- in another mode and state it fits as well
pub remade-fits : (m s : ℕ) (r q : Lock) → m < 256 ^ 4 → s < 256 ^ 4 → q ≡ remade r m s (number_of r) r.last → LockFits r → LockFits q
remade-fits m s r q h k e f = rw e (f.0, (f.1.0, (f.1.1.0, (h, (k, (f.1.1.1.1.1.0, (f.1.1.1.1.1.1.0, (f.1.1.1.1.1.1.1.0, (omega arith, tt)))))))))

pub state-fits : (s : ℕ) (r q : Lock) → s < 256 ^ 4 → q ≡ remade r r.mode s (number_of r) r.last → LockFits r → LockFits q
state-fits s r q k e f = remade-fits r.mode s r q f.1.1.1.0 k e f

-- what is shown of a record that fits
pub shown-fits : (r : Lock) → LockFits r → ShownFits r
shown-fits r f = (f.0, (f.1.0, (f.1.1.0, (f.1.1.1.0, (f.1.1.1.1.0, (f.1.1.1.1.1.0, (f.1.1.1.1.1.1.0, (f.1.1.1.1.1.1.1.0, tt))))))))

module _ (issued : ℕ) (lasts : List ℕ) (rs : List Lock) (S : Sound issued lasts rs) where
  last-small : (s : ℕ) → s < stripe_count → get_or lasts s 0 ≤ highest width
  unfolding room
  last-small s h =
      let r = leb→le (get_or lasts s 0 + count (wants s) rs) issued (all_from (room issued lasts rs) stripe_count 0 s S.rooms (omega arith) (omega arith)) in
      let f = S.few in
      omega arith

  number_small : (r : Lock) → Valid issued lasts r → number_of r ≤ highest width
  number_small r v =
      let l = last-small r.stripe (let s = v.stripe-hi in omega arith) in
      ⊎_elim (λ (h : T (held r && writes r)). let n = v.number-of h in omega arith) (λ (h : T (not (held r && writes r))). let n = v.number-no h in omega arith) (either (held r && writes r))

  mark-small : (r : Lock) → Valid issued lasts r → r.mark ≤ 1
  mark-small r v = ⊎_elim (λ (h : T (waits r)). v.mark_of h) (λ (h : T (held r)). let n = v.mark-no h in omega arith) (either (waits r))

  pub lock-fits : (r : Lock) → T (valid issued lasts r) → LockFits r
  lock-fits r t =
      let v = valid→ issued lasts r t in
      let n = number_small r v in
      let m = mark-small r v in
      let f = S.few in
      (omega arith, (omega arith, (omega arith, (omega arith, (omega arith, (omega arith, (omega arith, (omega arith, (omega arith, tt)))))))))

  pub locks-fit : (ls : List Lock) → T (all (valid issued lasts) ls) → Fits (lock_layout width) (map lock_fields ls)
  locks-fit [] t = tt
  locks-fit (r ∷ ls) t = (lock-fits r (and_l (valid issued lasts r) (all (valid issued lasts) ls) t), locks-fit ls (and_r (valid issued lasts r) (all (valid issued lasts) ls) t))

  row_fits : (n : ℕ) (ls : List ℕ) → length ls ≡ n → ((s : ℕ) → s < n → get_or ls s 0 < 256 ^ width) → Fit (replicate n width) ls
  row_fits zero [] e h = tt
  row_fits zero (l ∷ ls) e h = absurd (let z : ⊥ = omega arith in z)
  row_fits (suc n) [] e h = absurd (let z : ⊥ = omega arith in z)
  row_fits (suc n) (l ∷ ls) e h = (h 0 (omega arith), row_fits n ls (omega arith) (λ s p. h (suc s) (omega arith)))

  pub lasts_fit : Fit (lasts_layout width) lasts
  lasts_fit = row_fits stripe_count lasts S.sixteen (λ s h. let l = last-small s h in omega arith)

pub sound-fits : (X : Table) → T (sound X) → FitTable X
sound-fits X t =
    let S = sound→ X t in
    record {
      few = S.fits;
      issued = let f = S.few in omega arith;
      lasts = lasts_fit X.issued X.lasts X.locks S;
      locks = locks-fit X.issued X.lasts X.locks S X.locks S.each;
    }
