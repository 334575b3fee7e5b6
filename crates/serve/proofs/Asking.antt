-- A request that is not refused: what its rows allow says that the new record fits, and the stores make the change of the rules.
use Prim.Native.Nat.{ℕ, ◌+◌, ◌^◌, ◌≤◌, ◌<◌}
use native.Mathlib.Omega.{arith}
use mathlib.Core.Bool.{Bool, true, false, cond}
use mathlib.Core.List.{List, [], ◌∷◌, ◌++◌}
use mathlib.Core.Path.{◌≡◌, refl, sym, ap, ◌∙◌}
use lib.Dec.{T, leb, leb→le, nleb→lt, nltb→le}
use lib.ListN.{length}
use Rattle.std.specs.Prelude.{Err}
use Rattle.common.specs.declared.Refusal.{Refusal}
use Rattle.common.specs.Counters.{width, highest}
use Rattle.common.specs.Ranges.{range, eof}
use Rattle.common.specs.Refusals.{first_hit, refusal_number}
use Rattle.common.proofs.Bools.{and_l, and_r, undo}
use Rattle.common.proofs.Order.{eq→eqb}
use Rattle.common.proofs.Refusals.{unbroken}
use Rattle.modes.specs.Codes.{known_mode}
use Rattle.table.specs.declared.Lock.{Lock}
use Rattle.table.specs.Table.{Table, max_client, max_stripe, max_records}
use Rattle.table.specs.Bytes.{locks_of, table_of}
use Rattle.table.specs.Places.{LockFits, Holds, Good, with_issued, with_locks}
use Rattle.table.proofs.Reading.{locks-length}
use Rattle.locks.specs.Refusals.{request_rules, rules}
use Rattle.locks.specs.Settle.{settle}
use Rattle.locks.specs.Serve.{asking, change, answered, serve}
use Rattle.locks.specs.Events.{Room}
use Rattle.judge.specs.declared.Asked.{Asked}
use Rattle.judge.specs.Posts.{requests}
use Rattle.serve.specs.declared.Answer.{Answer}
use Rattle.serve.specs.Posts.{answer_to, Behind, EndsBehind}
use Rattle.serve.proofs.Ending.{message-good}
use Rattle.serve.proofs.Behind.{behind-refused, behind-room, behind-served}

module _ (n : ℕ) (a : Asked) (t : List ℕ) where
  abbrev X : Table
  X = table_of width t

  abbrev hit : ℕ
  hit = first_hit (request_rules (table_of width t) a.client a.stripe a.mode a.first a.last)

  rows : hit ≡ first_hit (rules X (requests a))
  unfolding rules
  rows = refl

  pub request-refused : (j : ℕ) (b : List ℕ) (r : Refusal) → refusal_number r ≡ hit → Behind j (serve (table_of width t) (requests a)) t b (answer_to (Err r)) j t b
  request-refused j b r p = behind-refused (requests a) t j b r (p ∙ rows)

  -- it is not refused, and e handles are issued
  module _ (G : Good n t) (z : 0 ≡ hit) (e : ℕ) (q : e ≡ (table_of width t).issued) where
    pub record Allowed : Type 0 where
      pub client : a.client ≤ 63
      pub stripe : a.stripe ≤ 15
      pub mode : a.mode ≤ 4
      pub handle : e + 1 < 256 ^ width
      pub ordered : a.first ≤ a.last
      pub ends : a.last ≤ eof
      pub room : n < 256

    pub allowed : Allowed
    allowed =
        let u = unbroken (request_rules (table_of width t) a.client a.stripe a.mode a.first a.last) tt (eq→eqb hit 0 (sym z)) in
        let w : T (known_mode a.mode) = undo (known_mode a.mode) (search (and_l, and_r) depth 8) in
        let g : T (range a.first a.last) = undo (range a.first a.last) (search (and_l, and_r) depth 8) in
        let i = nleb→lt (highest width) (table_of width t).issued (search (and_l, and_r) depth 8) in
        let r = nleb→lt max_records (length (locks_of width t)) (search (and_l, and_r) depth 8) in
        let i' = G.shape.count in
        record {
          client = nltb→le max_client a.client (search (and_l));
          stripe = nltb→le max_stripe a.stripe (search (and_l, and_r));
          mode = search (and_r, leb→le);
          handle = omega arith;
          ordered = leb→le a.first a.last (and_l (leb a.first a.last) (leb a.last eof) g);
          ends = leb→le a.last eof (and_r (leb a.first a.last) (leb a.last eof) g);
          room = omega (arith, locks-length t);
        }

    mark-small : (b : Bool) → cond {A = ℕ} b 1 0 ≤ 1
    mark-small true = omega arith
    mark-small false = omega arith

    pub request-fits : (w : Lock) → w ≡ asking (e + 1) a.client a.stripe a.mode a.first a.last a.marked → LockFits w
    request-fits w d = rw d (let g = allowed in let h = mark-small a.marked in (omega arith, (omega arith, (omega arith, (omega arith, (omega arith, (omega arith, (omega arith, (omega arith, (omega arith, tt))))))))))

    -- the handle is issued, which leaves u; the record w is added, which leaves v
    module _ (w : Lock) (d : w ≡ asking (e + 1) a.client a.stripe a.mode a.first a.last a.marked) (o i : ℕ) (u v : List ℕ) (H : Holds o (with_issued (table_of width t) (e + 1)) u) (K : Holds i (with_locks (table_of width u) (locks_of width u ++ (w ∷ []))) v) where
      changed : table_of width v ≡ change X (requests a)
      unfolding change
      changed =
          K.says
          ∙ ap (λ (Y : Table). with_locks Y (Y.locks ++ (w ∷ []))) H.says
          ∙ ap (λ (x : Lock). with_locks (with_issued X (e + 1)) (locks_of width t ++ (x ∷ []))) d
          ∙ ap (λ (j : ℕ). with_locks (with_issued X (j + 1)) (locks_of width t ++ (asking (j + 1) a.client a.stripe a.mode a.first a.last a.marked ∷ []))) q

      pub request-good : Good i v
      request-good = message-good (requests a) t (sym (z ∙ rows)) i v K.shape changed G.sounds

      pub request-room : (j : ℕ) (b : List ℕ) → Room (j + length (serve (table_of width t) (requests a)).events) b → Room (j + length (settle (table_of width v)).events) b
      request-room j b h = behind-room (requests a) t (sym (z ∙ rows)) v changed j b h

      pub request-served : (j : ℕ) (r : Answer) (k : ℕ) (b x y : List ℕ) → EndsBehind j (e + 1) (table_of width v) b r k x y → Behind j (serve (table_of width t) (requests a)) t b r k x y
      unfolding answered
      request-served j r k b x y E = behind-served (requests a) t (sym (z ∙ rows)) v changed j (e + 1) b r k x y (ap (λ (i : ℕ). i + 1) q) E
