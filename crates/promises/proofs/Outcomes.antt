-- The outcome of a message, whatever the bytes: its number is the first hit of the whole list, a refused one is the number alone, an accepted one
-- leaves a sound table. The thought: 1 and 2 are judged first, and the list of the message goes on where they end.
use Prim.Native.Nat.{ℕ}
use mathlib.Core.Bool.{Bool, true, false, not, cond}
use mathlib.Core.List.{List, [], ◌∷◌, ◌++◌}
use mathlib.Core.Logic.{◌⊎◌, inl, inr}
use mathlib.Core.Path.{◌≡◌, refl, sym, subst}
use lib.Dec.{T, eqb, ltb, eqb→eq}
use lib.ListN.{length}
use Rattle.common.specs.Counters.{width}
use Rattle.common.specs.Refusals.{Rule, rule, first_hit}
use Rattle.common.specs.Tests.{any}
use Rattle.common.proofs.Bools.{and_i}
use Rattle.common.proofs.Refusals.{listed}
use Rattle.table.specs.Table.{Table, handle_of, max_client}
use Rattle.table.specs.Sound.{sound}
use Rattle.table.specs.Bytes.{table_of, sound_table_bytes}
use Rattle.table.proofs.Zeros.{bytes-sound}
use Rattle.locks.specs.declared.Message.{Message}
use Rattle.locks.specs.declared.Message.TheVariants.{Request, Acknowledge, Downgrade, Release}
use Rattle.locks.specs.Settle.{settle}
use Rattle.locks.specs.Refusals.{rules, refusal, named}
use Rattle.locks.specs.Serve.{Outcome, change, answered, accepted, refused, serve}
use Rattle.locks.specs.Events.{events_size}
use Rattle.locks.proofs.Served.{serve-sound}
use Rattle.message.specs.Messages.{entry_rules, outcome}
use Rattle.promises.specs.Demand1.{keeps, Judged, numbers, entry_of}

-- The first hit is judged so
pub judged : (rs : List Rule) → Judged rs (first_hit rs)
judged [] = inl (refl, tt)
judged (r ∷ rs) = go r.broken refl (judged rs)
  where
    go : (b : Bool) → r.broken ≡ b → Judged rs (first_hit rs) → Judged (r ∷ rs) (cond b r.answer (first_hit rs))
    go true e J = inr (record { before = []; hit = r; after = rs; order = refl; kept = tt; broken = rw e tt; number = refl })
    go false e (inl p) = inl (p.0, and_i (not r.broken) (keeps rs) (rw e tt) p.1)
    go false e (inr F) =
        inr (record {
          before = r ∷ F.before;
          hit = F.hit;
          after = F.after;
          order = λ i. r ∷ F.order i;
          kept = and_i (not r.broken) (keeps F.before) (rw e tt) F.kept;
          broken = F.broken;
          number = F.number;
        })

-- An outcome is accepted, or is the number alone
abbrev pub Alone : Table → Outcome → Type 0
Alone X o = (o.refusal ≡ 0) ⊎ (o ≡ refused X o.refusal)

module _ (X : Table) (m : Message) where
  pub served-hit : (serve X m).refusal ≡ first_hit (rules X m)
  unfolding serve
  served-hit = go (eqb (refusal X m) 0) (eqb→eq (refusal X m) 0)
    where
      go : (x : Bool) → (T x → refusal X m ≡ 0) → (cond x (accepted (answered X m) (settle (change X m))) (refused X (refusal X m))).refusal ≡ refusal X m
      go true f = sym (f tt)
      go false f = refl

  pub served-alone : Alone X (serve X m)
  unfolding serve
  served-alone = go (eqb (refusal X m) 0)
    where
      go : (x : Bool) → Alone X (cond x (accepted (answered X m) (settle (change X m))) (refused X (refusal X m)))
      go true = inl refl
      go false = inr refl

module _ (m : Message) (t b : List ℕ) where
  X : Table
  X = table_of width t

  -- by whether the events are short and the table is sound
  abbrev from : Bool → Bool → Outcome
  from a s = cond (eqb (cond a 1 (cond (not s) 2 0)) 0) (serve X m) (refused X (cond a 1 (cond (not s) 2 0)))

  pub outcome-hit : (outcome m t b).refusal ≡ first_hit (entry_rules t b ++ rules (table_of width t) m)
  unfolding outcome X
  outcome-hit = go (ltb (length b) (events_size width)) (sound_table_bytes t)
    where
      go : (a s : Bool) → (from a s).refusal ≡ cond a 1 (cond (not s) 2 (first_hit (rules X m)))
      go true s = refl
      go false false = refl
      go false true = served-hit X m

  pub outcome-alone : ((outcome m t b).refusal ≡ 0) ⊎ (outcome m t b ≡ refused (table_of width t) (outcome m t b).refusal)
  unfolding outcome X
  outcome-alone = go (ltb (length b) (events_size width)) (sound_table_bytes t)
    where
      go : (a s : Bool) → Alone X (from a s)
      go true s = inr refl
      go false false = inr refl
      go false true = served-alone X m

  pub outcome-sound : T (eqb (outcome m t b).refusal 0) → T (sound (outcome m t b).table)
  unfolding outcome X
  outcome-sound = go (ltb (length b) (events_size width)) (sound_table_bytes t) refl
    where
      go : (a s : Bool) → sound_table_bytes t ≡ s → T (eqb (from a s).refusal 0) → T (sound (from a s).table)
      go true s e h = absurd h
      go false false e h = absurd h
      go false true e h = serve-sound X m (bytes-sound t e)

-- From the list; of a release 10 asks all that 11 does
listed_in : (m : Message) (X : Table) (a b : Bool) → T (any (eqb (first_hit (rule 1 a ∷ rule 2 b ∷ rules X m))) (0 ∷ numbers (entry_of m)))
unfolding rules
listed_in (Request c s m f l k) X a b = listed (rule 1 a ∷ rule 2 b ∷ rules X (Request c s m f l k))
listed_in (Acknowledge c h) X a b = listed (rule 1 a ∷ rule 2 b ∷ rules X (Acknowledge c h))
listed_in (Downgrade c h) X a b = listed (rule 1 a ∷ rule 2 b ∷ rules X (Downgrade c h))
listed_in (Release c h) X a b = go a b (ltb max_client c) (not (any (λ r. eqb (handle_of r) h) X.locks)) (not (any (named c h) X.locks))
  where
    go : (a b k n o : Bool) → T (any (eqb (cond a 1 (cond b 2 (cond k 3 (cond n 9 (cond o 10 (cond o 11 0))))))) (0 ∷ 1 ∷ 2 ∷ 3 ∷ 9 ∷ 10 ∷ []))
    go true b k n o = tt
    go false true k n o = tt
    go false false true n o = tt
    go false false false true o = tt
    go false false false false true = tt
    go false false false false false = tt

pub outcome-listed : (m : Message) (t b : List ℕ) → T (any (eqb (outcome m t b).refusal) (0 ∷ numbers (entry_of m)))
outcome-listed m t b =
    subst (λ (n : ℕ). T (any (eqb n) (0 ∷ numbers (entry_of m)))) (sym (outcome-hit m t b))
    (listed_in m (table_of width t) (ltb (length b) (events_size width)) (not (sound_table_bytes t)))
