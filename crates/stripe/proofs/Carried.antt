-- In a run the map is the log's map and both are sound: every call keeps it so, and a restart brings it back, whatever the map was.
use Prim.Native.Nat.{ℕ}
use mathlib.Core.Path.{◌≡◌, refl, sym, ◌∙◌, ap}
use mathlib.Core.Bool.{true}
use mathlib.Core.List.{List, [], ◌∷◌, ◌++◌}
use native.Mathlib.Omega.{arith}
use lib.ListN.{length, length-append}
use Rattle.runs.specs.declared.Run.{Run}
use Rattle.runs.specs.Map.{draw, end, map_of, raise}
use Rattle.runs.specs.Sound.{apart, sound_map, sound_log}
use Rattle.runs.proofs.Unique.{map_snoc}
use Rattle.runs.proofs.Valid.{valid-cons, valid-snoc}
use Rattle.runs.proofs.Sound.{sound-is, log_is, is-log, map-sound}
use Rattle.stripe.specs.declared.Extent.{Extent}
use Rattle.stripe.specs.Piece.{place, Piece}
use Rattle.stripe.specs.Stripe.{Stripe, note, write, restart}
use Rattle.stripe.proofs.Accepted.{place-valid, note-facts, RestartFacts, facts-restart}
use Rattle.stripe.proofs.Outcome.{note-answers, write-answers, restart-answers, leaves}

pub record Carried (s : Stripe) : Type 0 where
  pub map : sound_map s.map ≡ true
  pub log : sound_log s.log ≡ true
  pub is : s.map ≡ map_of s.log

pub start-carried : (image : List ℕ) → Carried (record { map = []; log = []; image = image })
unfolding sound_map sound_log apart map_of draw end
start-carried image = record { map = refl; log = refl; is = refl }

pub note-carried : (s : Stripe) (e : Extent) → Carried s → Carried (note s e).stripe
unfolding note
note-carried s e c =
    leaves Carried (note-answers s e) c
    (λ h.
    let k = note-facts (sound_map s.map) (sound_log s.log) s.map s.log e (length s.image) h in
    let v = place-valid e k.placed k.numbered in
    let l = log_is s.log c.log in
    record {
      map = map-sound (r ∷ s.map) (valid-cons r s.map v (sound-is s.map c.map).good) k.few;
      log = is-log (s.log ++ r ∷ []) (record { few = simp length-append (omega arith); good = valid-snoc s.log r l.good v });
      is = ap (raise r) c.is ∙ sym (map_snoc s.log r);
    })
  where
    r : Run
    r = place e

pub write-carried : (s : Stripe) (p : Piece) → Carried s → Carried (write s p).stripe
write-carried s p c = leaves Carried (write-answers s p) c (λ _. record { map = c.map; log = c.log; is = c.is })

-- what a restart asks of a log
abbrev pub Restarts : List Run → Type 0
Restarts log = RestartFacts true (sound_log log) log

pub carried-restarts : (s : Stripe) → Carried s → Restarts s.log
carried-restarts s c = record { mapped = refl; logged = c.log; few = rw c.is at (sound-is s.map c.map).few }

pub restart-accepted : (s : Stripe) → Restarts s.log → (restart s).refusal ≡ 0
unfolding restart
restart-accepted s k = facts-restart true (sound_log s.log) s.log k

pub restart-carried : (s : Stripe) → Restarts s.log → Carried (restart s).stripe
restart-carried s k =
    rw ((restart-answers s).accepted (restart-accepted s k))
    (record { map = map-sound s.log (log_is s.log k.logged).good k.few; log = k.logged; is = refl })
