-- Acknowledge, downgrade and release: refused by their rows, or the one record that they name changes as the rules say.
use Prim.Native.Nat.{ℕ}
use native.Mathlib.Numerals.{add-one}
use native.Mathlib.Omega.{arith}
use mathlib.Core.Bool.{Bool, true, false, not, ◌&&◌, cond}
use mathlib.Core.List.{List, ◌++◌, map}
use mathlib.Core.Path.{◌≡◌, refl, sym, ap, ◌∙◌}
use lib.Dec.{T}
use lib.ListN.{length, take, drop}
use Rattle.std.specs.Prelude.{Result, Ok, Err}
use Rattle.common.specs.declared.Refusal.{Refusal}
use Rattle.common.specs.declared.Refusal.TheVariants.{State}
use Rattle.common.specs.Counters.{width}
use Rattle.common.specs.Refusals.{first_hit, refusal_number}
use Rattle.common.proofs.Bools.{and_l, and_both, and-false, true-is}
use Rattle.table.specs.declared.Lock.{Lock}
use Rattle.table.specs.Table.{Table, nth}
use Rattle.table.specs.Bytes.{locks_of, table_of}
use Rattle.table.specs.Places.{lock_at, LockFits, Shape, Holds, Good, with_lock, with_locks, without}
use Rattle.table.proofs.Reading.{locks-length, inside, nth-is}
use Rattle.table.proofs.Fitting.{remade-fits}
use Rattle.modes.specs.Codes.{nbw, canceling}
use Rattle.locks.specs.declared.Message.{Message}
use Rattle.locks.specs.declared.Message.TheVariants.{Release}
use Rattle.locks.specs.Refusals.{named, naming_rules, rules}
use Rattle.locks.specs.Serve.{change, answered}
use Rattle.serve.specs.declared.Answer.{Answer}
use Rattle.judge.specs.declared.Becomes.{Becomes}
use Rattle.judge.specs.declared.Becomes.TheVariants.{Canceling, Nbw}
use Rattle.judge.specs.Posts.{Finds, asks, ready, becoming}
use Rattle.serve.specs.Posts.{answer_to, OnSound, Ends}
use Rattle.serve.proofs.Ending.{refusal-not0, message-good}
use Rattle.serve.proofs.Behind.{message-refused, leaves-served}
use Rattle.judge.proofs.Alone.{one-keep, one_map}
use Rattle.judge.proofs.Finding.{has_named, found_none, found-one}

-- m is a message of the client c on the handle h, and `may` is what 11 asks
pub record Names (m : Message) (c h : ℕ) (may : Lock → Bool) : Type 0 where
  rows : (X : Table) → rules X m ≡ naming_rules X c h may
  strong : (r : Lock) → T (may r) → T (named c h r)
  says : (X : Table) → answered X m ≡ h

-- the rows and the change of a message that remakes the record
abbrev may : Becomes → ℕ → ℕ → Lock → Bool
may to c h r = named c h r && ready to r

pub remakes : (to : Becomes) (c h : ℕ) → Names (asks to c h) c h (may to c h)
unfolding rules answered
remakes Canceling c h = record { rows = λ X. refl; strong = λ r u. and_l (named c h r) (ready Canceling r) u; says = λ X. refl }
remakes Nbw c h = record { rows = λ X. refl; strong = λ r u. and_l (named c h r) (ready Nbw r) u; says = λ X. refl }

changes : (to : Becomes) (c h : ℕ) (X : Table) → change X (asks to c h) ≡ with_locks X (map (λ r. cond (may to c h r) (becoming to r) r) X.locks)
unfolding change
changes Canceling c h X = refl
changes Nbw c h X = refl

pub releases : (c h : ℕ) → Names (Release c h) c h (named c h)
unfolding rules answered
releases c h = record { rows = λ X. refl; strong = λ r u. u; says = λ X. refl }

-- what 11 lets the record become
abbrev remade-as : Becomes → Lock → Result Lock Refusal
remade-as to l = cond (ready to l) (Ok (becoming to l)) (Err State)

remade-it : (to : Becomes) (l q : Lock) → Ok q ≡ remade-as to l → (ready to l ≡ true) × (q ≡ becoming to l)
remade-it to l q = go (ready to l)
  where
    go : (y : Bool) → ◌≡◌ {A = Result Lock Refusal} (Ok q) (cond y (Ok (becoming to l)) (Err State)) → (y ≡ true) × (q ≡ becoming to l)
    go true p = (refl, cc)
    go false p = cc

remade-not : (to : Becomes) (l : Lock) (r : Refusal) → Err r ≡ remade-as to l → (ready to l ≡ false) × (r ≡ State)
remade-not to l r = go (ready to l)
  where
    go : (y : Bool) → ◌≡◌ {A = Result Lock Refusal} (Err r) (cond y (Ok (becoming to l)) (Err State)) → (y ≡ false) × (r ≡ State)
    go true p = cc
    go false p = (refl, cc)

module _ (n c h : ℕ) (t : List ℕ) (G : Good n t) where
  abbrev X : Table
  X = table_of width t

  long : length X.locks ≡ n
  long = locks-length t ∙ G.shape.count

  pub naming-refused : (m : Message) (may : Lock → Bool) → Names m c h may → (b : List ℕ) (r : Refusal) → Finds n (table_of width t) c h (Err r) → OnSound m t b (answer_to (Err r)) t b
  naming-refused m may N b r F =
      message-refused m t b r (found_none n c h X may (refusal_number r) F.judges (refusal-not0 r) ∙ sym (ap first_hit (N.rows X)))

  -- the record is there, at place i
  module _ (i : ℕ) (F : Finds n (table_of width t) c h (Ok i)) where
    its : named c h (nth X i) ≡ true
    its = true-is (named c h (nth X i)) F.its

    module _ (m : Message) (may : Lock → Bool) (N : Names m c h may) where
      by-11 : (x : Bool) → may (nth X i) ≡ x → cond (not x) 11 0 ≡ first_hit (rules X m)
      by-11 x e = ap (λ (y : Bool). cond (not y) 11 0) (sym e) ∙ sym (found-one n c h X may G.sounds long N.strong i F) ∙ sym (ap first_hit (N.rows X))

      -- and the message may change it, which leaves u
      module _ (y : may (nth X i) ≡ true) (k : ℕ) (u : List ℕ) (S : Shape k u) (e : table_of width u ≡ change X m) where
        becomes-good : Good k u
        becomes-good = message-good m t (sym (by-11 true y)) k u S e G.sounds

        becomes-served : (b : List ℕ) (r : Answer) (v w : List ℕ) → Ends h (table_of width u) b r v w → OnSound m t b r v w
        becomes-served b r v w E = leaves-served m t (sym (by-11 true y)) u e h b r v w (sym (N.says X)) E

    -- l is the record, which is to become another
    module _ (l : Lock) (e : l ≡ lock_at t i) (to : Becomes) where
      it : nth X i ≡ l
      it = nth-is n i t l G.shape F.inside e

      pub naming-11 : (b : List ℕ) (r : Refusal) → Err r ≡ remade-as to l → OnSound (asks to c h) t b (answer_to (Err r)) t b
      naming-11 b r p =
          let no = remade-not to l r p in
          message-refused (asks to c h) t b r
          (ap refusal_number no.1
          ∙ by-11 (asks to c h) (may to c h) (remakes to c h) false (ap (λ (x : Bool). named c h (nth X i) && x) (ap (ready to) it ∙ no.0) ∙ and-false (named c h (nth X i))))

      -- q is what it becomes, which leaves u
      module _ (q : Lock) (p : Ok q ≡ remade-as to l) (k : ℕ) (u : List ℕ) (H : Holds k (with_lock (table_of width t) i q) u) where
        allowed : may to c h (nth X i) ≡ true
        allowed = and_both (named c h (nth X i)) (ready to (nth X i)) its (ap (ready to) it ∙ (remade-it to l q p).0)

        made : table_of width u ≡ change X (asks to c h)
        made =
            H.says
            ∙ sym (changes to c h X
            ∙ ap (with_locks X) (one_map X i h G.sounds (inside n i t G.shape F.inside) (has_named c h (nth X i) F.its) (may to c h) (λ r v. has_named c h r ((remakes to c h).strong r v)) (becoming to) allowed)
            ∙ ap (with_lock X i) (ap (becoming to) it ∙ sym (remade-it to l q p).1))

        pub made-good : Good k u
        made-good = becomes-good (asks to c h) (may to c h) (remakes to c h) allowed k u H.shape made

        pub made-served : (b : List ℕ) (r : Answer) (v w : List ℕ) → Ends h (table_of width u) b r v w → OnSound (asks to c h) t b r v w
        made-served = becomes-served (asks to c h) (may to c h) (remakes to c h) allowed k u H.shape made

    -- the record is removed, which leaves u
    module _ (k : ℕ) (u : List ℕ) (H : Holds k (with_locks (table_of width t) (without i (locks_of width t))) u) where
      gone : table_of width u ≡ change X (Release c h)
      unfolding change
      gone =
          H.says
          ∙ ap (with_locks X) (ap (λ (j : ℕ). take i (locks_of width t) ++ drop j (locks_of width t)) (add-one i)
          ∙ sym (one-keep X i h G.sounds (inside n i t G.shape F.inside) (has_named c h (nth X i) F.its) (named c h) (has_named c h) its))

      pub gone-good : Good k u
      gone-good = becomes-good (Release c h) (named c h) (releases c h) its k u H.shape gone

      pub gone-served : (b : List ℕ) (r : Answer) (v w : List ℕ) → Ends h (table_of width u) b r v w → OnSound (Release c h) t b r v w
      gone-served = becomes-served (Release c h) (named c h) (releases c h) its k u H.shape gone
