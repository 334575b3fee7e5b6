-- `remove`: the bytes of the later records stand a record lower, those of the last place are zeros, and the count is one less.
use mathlib.Core.Path.{◌≡◌, refl, ap, ap₂, ◌∙◌}
use mathlib.Core.List.{List, ◌∷◌, ◌++◌}
use Prim.Native.Nat.{ℕ, zero, suc, ◌+◌, ◌-◌, ◌≤◌, ◌<◌}
use native.Mathlib.Numerals.{add-one}
use native.Mathlib.Decide.{dec_lt}
use native.Mathlib.Omega.{arith}
use borrow.Rule.Slice.PartMut.{put_mid}
use lib.ListN.{length-drop, get_or-replicate, length, get_or, take, drop, replicate, length-replicate}
use Rattle.std.specs.List.{CopiedTo, SameBelow, SameFrom}
use borrow.Author.Rules.{rules}
use Rattle.std.proofs.lemmas.List.{places, length-take-le, length-append, get_or-append_right, get_or_append_left}
use lib.Seq.{get_or-drop}
use Rattle.common.specs.Counters.{width}
use Rattle.xdr.specs.Be.{put_be}
use Rattle.xdr.specs.Layout.{size}
use Rattle.xdr.specs.Tab.{tab}
use Rattle.xdr.proofs.Numbers.{be-ext}
use Rattle.xdr.proofs.Fields.{fields-ext}
use Rattle.xdr.proofs.Tabs.{tab-ext}
use Rattle.table.specs.Bytes.{lock_layout, lock_of, lasts_layout, array_at, locks_of, table_of}
use Rattle.table.specs.Places.{lock_place, lock_at, count_of, Shape, Holds, with_locks, without}
use Rattle.table.proofs.Reading.{locks-tab, lock-ext}
use Rattle.table.proofs.Stores.{recounted}

-- a row without its element i: the later ones stand one lower
tab-without : {A : Type 0} (n i : ℕ) (f g : ℕ → A) → i ≤ n → ((k : ℕ) → k < i → g k ≡ f k) → ((k : ℕ) → i ≤ k → k < n → g k ≡ f (suc k))
    → tab n g ≡ take i (tab (suc n) f) ++ drop (suc i) (tab (suc n) f)
unfolding tab
tab-without zero zero f g h lo hi = refl
tab-without zero (suc i) f g h lo hi = absurd (let z : ⊥ = omega arith in z)
tab-without (suc n) zero f g h lo hi = tab-ext (suc n) g (λ k. f (suc k)) (λ k q. hi k (omega arith) q)
tab-without (suc n) (suc i) f g h lo hi =
    ap₂ (λ x l. x ∷ l) (lo 0 (omega arith))
    (tab-without n i (λ k. f (suc k)) (λ k. g (suc k)) (omega arith) (λ k p. lo (suc k) (omega arith)) (λ k p q. hi (suc k) (omega arith) (omega arith)))

-- v: the bytes t of m + 1 records with the records behind place i a record lower, and zeros in the last place
pub record Moved (m i : ℕ) (t v : List ℕ) : Type 0 where
  pub long : length v ≡ length t
  pub low : (b : ℕ) → b < lock_place i → get_or v b 0 ≡ get_or t b 0
  pub down : (b : ℕ) → lock_place i ≤ b → b < lock_place m → get_or v b 0 ≡ get_or t (b + size (lock_layout width)) 0
  pub clear : (b : ℕ) → lock_place m ≤ b → get_or v b 0 ≡ 0

module _ (m i : ℕ) (t v : List ℕ) (T : Shape (m + 1) t) (h : i ≤ m) (M : Moved m i t v) where
  shape : Shape (m + 1) v
  shape =
      record {
        size = M.long ∙ T.size;
        count = be-ext 4 v t (array_at width) (array_at width) (λ k p. M.low (array_at width + k) (omega arith)) ∙ T.count;
        most = T.most;
        zeros = λ b q.
            let e : count_of v ≡ m + 1 = be-ext 4 v t (array_at width) (array_at width) (λ k p. M.low (array_at width + k) (omega arith)) ∙ T.count in
            M.clear b (omega arith);
      }

  before : (k : ℕ) → k < i → lock_at v k ≡ lock_at t k
  before k p = lock-ext v t k (λ j q. M.low (lock_place k + j) (omega arith))

  behind : (k : ℕ) → i ≤ k → k < m → lock_at v k ≡ lock_at t (suc k)
  unfolding lock_at
  behind k p q =
      ap lock_of (fields-ext (lock_layout width) v t (lock_place k) (lock_place (suc k)) 0
      (λ j r.
      let e : ◌≡◌ {A = ℕ} (lock_place k + (0 + j) + size (lock_layout width)) (lock_place (suc k) + (0 + j)) = omega arith in
      rw e at (M.down (lock_place k + (0 + j)) (omega arith) (omega arith))))

  rest : tab m (lock_at v) ≡ without i (locks_of width t)
  rest =
      rw (locks-tab t, T.count, add-one m, add-one i) (tab-without m i (lock_at t) (lock_at v) h before behind)

  pub removed : Holds m (with_locks (table_of width t) (without i (locks_of width t))) (put_be 4 v (array_at width) m)
  removed =
      let H = recounted (m + 1) m v shape (let x = T.most in omega arith) M.clear in
      record {
        shape = H.shape;
        says = H.says ∙ (λ x. record {
          issued = be-ext width v t 0 0 (λ k p. M.low (0 + k) (omega arith)) x;
          lasts = fields-ext (lasts_layout width) v t width width 0 (λ j p. M.low (width + (0 + j)) (omega arith)) x;
          locks = rest x;
        });
      }

-- k elements from a on are stored again, as ys
module _ (a k : ℕ) (x ys : List ℕ) (w : a + k ≤ length x) (q : length ys ≡ k) where
  front : length (take a x) ≡ a
  front = length-take-le a x (omega arith)

  stored-long : length (put_mid a k x ys) ≡ length x
  stored-long = rw (length-append, length-append, front, q, length-drop, length-drop) (omega arith)

  stored-below : (b : ℕ) → b < a → get_or (put_mid a k x ys) b 0 ≡ get_or x b 0
  stored-below b p = search (rules, places)

  stored_in : (b : ℕ) → a ≤ b → b < a + k → get_or (put_mid a k x ys) b 0 ≡ get_or ys (b - a) 0
  stored_in b p r =
      get_or-append_right (take a x) (ys ++ drop k (drop a x)) a b 0 front p ∙ get_or_append_left ys (drop k (drop a x)) 0 (b - a) (omega arith)

  stored-past : (b : ℕ) → a + k ≤ b → get_or (put_mid a k x ys) b 0 ≡ get_or x b 0
  stored-past b p =
      let e : ◌≡◌ {A = ℕ} (a + (k + (b - a - k))) b = omega arith in
      get_or-append_right (take a x) (ys ++ drop k (drop a x)) a b 0 front (omega arith)
      ∙ get_or-append_right ys (drop k (drop a x)) k (b - a) 0 q (omega arith)
      ∙ get_or-drop k (drop a x) (b - a - k) 0 ∙ get_or-drop a x (k + (b - a - k)) 0 ∙ ap (λ (j : ℕ). get_or x j 0) e

-- what the copy and the zeros make of the bytes
module _ (m i : ℕ) (t x ys : List ℕ) (T : Shape (m + 1) t) (h : i ≤ m) (long : length x ≡ length t)
    (down : CopiedTo t x (lock_place (i + 1)) (lock_place i) (lock_place (m + 1) - lock_place (i + 1)))
    (low : SameBelow t x (lock_place i))
    (high : SameFrom t x (lock_place i + (lock_place (m + 1) - lock_place (i + 1))))
    (none : ys ≡ replicate (size (lock_layout width)) 0) where
  abbrev made : List ℕ
  made = put_mid (lock_place m) (size (lock_layout width)) x ys

  wide : lock_place m + size (lock_layout width) ≤ length x
  wide = let s = T.size in let f = T.most in omega arith

  part : length ys ≡ size (lock_layout width)
  part = ap length none ∙ length-replicate {A = ℕ} (size (lock_layout width)) 0

  zero-in : (b : ℕ) → lock_place m ≤ b → b < lock_place (m + 1) → get_or made b 0 ≡ 0
  zero-in b p q =
      stored_in (lock_place m) (size (lock_layout width)) x ys wide part b p (omega arith)
      ∙ ap (λ (l : List ℕ). get_or l (b - lock_place m) 0) none
      ∙ get_or-replicate {A = ℕ} (size (lock_layout width)) (b - lock_place m) 0 0 (omega arith)

  pub moved : Moved m i t made
  moved =
      record {
        long = stored-long (lock_place m) (size (lock_layout width)) x ys wide part ∙ long;
        low = λ b p. stored-below (lock_place m) (size (lock_layout width)) x ys wide part b (omega arith) ∙ low b 0 p;
        down = λ b p q.
            let e : ◌≡◌ {A = ℕ} (lock_place (i + 1) + (b - lock_place i)) (b + size (lock_layout width)) = omega arith in
            stored-below (lock_place m) (size (lock_layout width)) x ys wide part b q ∙ rw e at (down b 0 p (omega arith));
        clear = λ b p.
            elim (dec_lt b (lock_place (m + 1))) [
              | yes q ↦ zero-in b p q
              | no q ↦ stored-past (lock_place m) (size (lock_layout width)) x ys wide part b (omega arith) ∙ high b 0 (omega arith) ∙ T.zeros b (let c = T.count in omega arith)
            ];
      }

pub taken-out : (n i a b d e f : ℕ) (t x ys u : List ℕ) → Shape n t → i < n
    → a ≡ lock_place (i + 1) → b ≡ lock_place (n - 1 + 1) → d ≡ lock_place i → e ≡ lock_place (n - 1) → f ≡ lock_place (n - 1 + 1)
    → length x ≡ length t → CopiedTo t x a d (b - a) × SameBelow t x d × SameFrom t x (d + (b - a))
    → ys ≡ replicate (length (take (f - e) (drop e x))) 0 → u ≡ put_be 4 (put_mid e (f - e) x ys) (array_at width) (n - 1)
    → Holds (n - 1) (with_locks (table_of width t) (without i (locks_of width t))) u
taken-out n i a b d e f t x ys u T h ea eb ed ee ef long C none eu =
    let m : ℕ = n - 1 in
    let k : ℕ = size (lock_layout width) in
    let q : n ≡ m + 1 = omega arith in
    let S : Shape (m + 1) t = rw q at T in
    let le : i ≤ m = omega arith in
    let g : f - e ≡ k = omega arith in
    let s = T.size in
    let o = T.most in
    let r : length (take (f - e) (drop e x)) ≡ k = rw (g, ee) (length-take-le k (drop (lock_place m) x) (rw length-drop (omega arith))) in
    rw (eu, g, ee)
    (removed m i t (put_mid (lock_place m) k x ys) S le
    (moved m i t x ys S le long (rw (ea, eb, ed) at C.0) (rw ed at C.1) (rw (ea, eb, ed) at C.2) (none ∙ ap (λ (j : ℕ). replicate j 0) r)))
