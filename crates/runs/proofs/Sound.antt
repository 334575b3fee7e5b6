-- A sound map is canonical, valid and short; the map of valid entries is sound where it is short.
use Prim.Native.Nat.{ℕ, suc, ◌≤◌}
use mathlib.Core.Path.{◌≡◌, refl, sym}
use mathlib.Core.Bool.{Bool, true, false, not, ◌&&◌}
use mathlib.Core.List.{List, [], ◌∷◌}
use native.Mathlib.Omega.{arith}
use lib.Dec.{ltb}
use lib.ListN.{length}
use borrow.Author.Tests.{ltb-true, leb-true, lt-ltb, le-leb}
use Rattle.common.proofs.Bools.{never, and_left, and_right, and_both}
use Rattle.runs.specs.declared.Run.{Run}
use Rattle.runs.specs.Owner.{age_of, owner}
use Rattle.runs.specs.Map.{map_of}
use Rattle.runs.specs.Valid.{Valid}
use Rattle.runs.specs.Sound.{max_runs, max_entries, all_valid, leads, apart, sound_map, sound_log}
use Rattle.runs.proofs.Ages.{sane-exact, sane-pos}
use Rattle.runs.proofs.Canon.{Next, Canon, none, next, opens}
use Rattle.runs.proofs.Join.{Joins, one, two, joined}
use Rattle.runs.proofs.Draw.{map-canon}
use Rattle.runs.proofs.Unique.{canon-unique}
use Rattle.runs.proofs.Valid.{valid-head, valid-rest, map-valid}

pub record SoundMap (rs : List Run) : Type 0 where
  pub few : length rs ≤ max_runs
  pub good : all_valid rs ≡ true
  pub apart : apart rs ≡ true

pub sound-is : (rs : List Run) → sound_map rs ≡ true → SoundMap rs
unfolding sound_map
sound-is rs e = search (and_left, and_right, leb-true)

pub is-sound : (rs : List Run) → SoundMap rs → sound_map rs ≡ true
unfolding sound_map
is-sound rs s = search (and_both, le-leb)

pub record SoundLog (es : List Run) : Type 0 where
  pub few : length es ≤ max_entries
  pub good : all_valid es ≡ true

pub log_is : (es : List Run) → sound_log es ≡ true → SoundLog es
unfolding sound_log
log_is es e = search (and_left, and_right, leb-true)

pub is-log : (es : List Run) → SoundLog es → sound_log es ≡ true
unfolding sound_log
is-log es l = search (and_both, le-leb)

-- what a run asks of the next, as a test and as a fact
leads-next : (r t : Run) → leads r t ≡ true → Valid t → Next (suc r.last) (age_of r) t
leads-next r t e v = go (joined r t) e
  where
    go : {b : Bool} → Joins r t b → (ltb r.last t.first && not b) ≡ true → Next (suc r.last) (age_of r) t
    go (one _ _) x = never (and_right (ltb r.last t.first) false x)
    go (two d) x =
        record {
          after = ltb-true r.last t.first (and_left (ltb r.last t.first) true x);
          rising = v.rising;
          some = sane-pos t.age v.some;
          exact = sane-exact t.age v.some;
          other = λ u w. d (omega arith) (sym w);
        }

next-leads : (r t : Run) → Next (suc r.last) (age_of r) t → leads r t ≡ true
next-leads r t n = rw (lt-ltb r.last t.first n.after) (go (joined r t))
  where
    go : {b : Bool} → Joins r t b → not b ≡ true
    go (one u v) = absurd (n.other (omega arith) (sym v))
    go (two _) = refl

canon-apart : {p q : ℕ} {rs : List Run} → Canon p q rs → apart rs ≡ true
unfolding apart
canon-apart none = refl
canon-apart (next n none) = refl
canon-apart (next {r = r} n (next {r = t} {rs = rs} m c)) = and_both (leads r t) (apart (t ∷ rs)) (next-leads r t m) (canon-apart (next m c))

apart-canon : {p q : ℕ} (r : Run) (rs : List Run) → Next p q r → all_valid rs ≡ true → apart (r ∷ rs) ≡ true → Canon p q (r ∷ rs)
unfolding apart
apart-canon r [] n v e = next n none
apart-canon {p = p} {q = q} r (t ∷ rs) n v e =
    let n' = leads-next r t (and_left (leads r t) (apart (t ∷ rs)) e) (valid-head t rs v) in
    next n (apart-canon {p = suc r.last} {q = age_of r} t rs n' (valid-rest t rs v) (and_right (leads r t) (apart (t ∷ rs)) e))

pub sound-canon : (rs : List Run) → sound_map rs ≡ true → Canon 0 0 rs
sound-canon [] e = none
sound-canon (r ∷ rs) e =
    let s = sound-is (r ∷ rs) e in
    let v = valid-head r rs s.good in
    apart-canon r rs (opens 0 r (omega arith) v.rising (sane-pos r.age v.some) (sane-exact r.age v.some)) (valid-rest r rs s.good) s.apart

pub sound-unique : (rs ts : List Run) → sound_map rs ≡ true → sound_map ts ≡ true → ((b : ℕ) → owner rs b ≡ owner ts b) → rs ≡ ts
sound-unique rs ts c d e = canon-unique rs ts (sound-canon rs c) (sound-canon ts d) e

pub map-sound : (es : List Run) → all_valid es ≡ true → length (map_of es) ≤ max_runs → sound_map (map_of es) ≡ true
map-sound es v h = is-sound (map_of es) (record { few = h; good = map-valid es v; apart = canon-apart (map-canon es) })
