-- What a step does, in four words: nothing, it notes a piece, it writes one, or it turns to the second log. The bytes are read off here, once.
use Prim.Native.Nat.{ℕ, pred, ◌+◌, ◌-◌, ◌≤◌, ◌<◌, max}
use native.Mathlib.Omega.{arith}
use mathlib.Core.Path.{◌≡◌, refl, sym, ◌∙◌, ap, subst}
use mathlib.Core.Logic.{◌⊎◌, inl, inr, ⊎_elim}
use mathlib.Core.Bool.{Bool, true, false, cond, ◌&&◌}
use mathlib.Core.List.{List, [], ◌∷◌, ◌++◌}
use lib.ListN.{length, get_or}
use lib.Dec.{eqb, leb, ltb}
use borrow.Author.Tests.{eqb-true, le-leb, lt-leb, lt-ltb, le-ltb}
use Rattle.common.specs.Counters.{width}
use Rattle.common.proofs.Bools.{never, and_right, and-false}
use Rattle.common.proofs.Order.{below}
use Rattle.xdr.specs.Tab.{tab}
use Rattle.xdr.proofs.Tabs.{length-tab}
use Rattle.runs.specs.declared.Run.{Run}
use Rattle.runs.specs.Owner.{over, owner}
use Rattle.runs.specs.Map.{map_of}
use Rattle.runs.specs.Bytes.{runs_of, sound_map_bytes}
use Rattle.runs.proofs.Over.{over-in, over-before, over-after, owner-snoc}
use Rattle.runs.proofs.Draw.{map-owner}
use Rattle.stripe.specs.Stripe.{written}
use Rattle.write.specs.Write.{write_answer, write_image}
use Rattle.restart.specs.Restart.{restart_answer, restart_map}
use Rattle.compact.specs.Compact.{compact_answer, compact_log}
use Rattle.stripe.proofs.Accepted.{WriteFacts, write-facts, numbered-pos}
use Rattle.stripe.proofs.Stored.{written-length, written_in, written_out}
use Rattle.promises.specs.Run.{Piece, extent_of, place_of, age_of, size, Covers, byte_of, Map, lost, live, Second, none, ready, Stripe}
use Rattle.promises.specs.Run.{Step, note, note_cut, write, write_cut, restart, compact, compact_cut, turn, turn_cut, cut, note_ok, write_ok, outdated, after_note, after_write, after_turn, scrambled, torn, unplugged, next, notes, Write, writes, is_ready, turns}
use Rattle.promises.specs.Demand3.{SecondLog}
use Rattle.promises.proofs.Carried.{entries_of, IsMap, Log, Carried, noted, same_log, scrambled-entries, turned-entries}

pub covered : (p : Piece) (b : ℕ) → Covers p b ⊎ (Covers p b → ⊥)
covered p b =
    ⊎_elim (λ (h : b < p.first). inr (λ c. omega arith))
    (λ (h : p.first ≤ b). ⊎_elim (λ (k : b < p.first + size p). inl (h, k)) (λ (k : p.first + size p ≤ b). inr (λ c. omega arith)) (below b (p.first + size p)))
    (below b p.first)

-- the age that a piece gives a byte
pub given : Piece → ℕ → ℕ
given p b = cond (leb p.first b && ltb b (p.first + size p)) (age_of p) 0

pub given-in : (p : Piece) (b : ℕ) → Covers p b → given p b ≡ age_of p
unfolding given
given-in p b c = rw (le-leb p.first b c.0, lt-ltb b (p.first + size p) c.1)

pub given_out : (p : Piece) (b : ℕ) → (Covers p b → ⊥) → given p b ≡ 0
unfolding given
given_out p b h =
    ⊎_elim (λ (u : b < p.first). rw (lt-leb p.first b u))
    (λ (u : p.first ≤ b). ⊎_elim (λ (k : b < p.first + size p). absurd (h (u, k))) (λ (k : p.first + size p ≤ b). rw (le-ltb b (p.first + size p) k, and-false (leb p.first b))) (below b (p.first + size p)))
    (below b p.first)

-- is that of its place
given-over : (p : Piece) (b : ℕ) → 0 < size p → over (place_of p) b ≡ given p b
given-over p b z =
    ⊎_elim
    (λ (c : Covers p b). over-in (place_of p) b c.0 (let g : b ≤ pred (p.first + size p) = omega arith in g) ∙ sym (given-in p b c))
    (λ (c : Covers p b → ⊥). outside c ∙ sym (given_out p b c))
    (covered p b)
  where
    outside : (Covers p b → ⊥) → over (place_of p) b ≡ 0
    outside c =
        ⊎_elim (λ (h : b < p.first). over-before (place_of p) b h)
        (λ (h : p.first ≤ b). over-after (place_of p) b (⊎_elim (λ (k : b < p.first + size p). absurd (c (h, k))) (λ (k : p.first + size p ≤ b). let g : pred (p.first + size p) < b = omega arith in g) (below b (p.first + size p))))
        (below b p.first)

-- what an accepted write does, whole or cut
pub record Wrote (s s' : Stripe) (p : Piece) (whole : Bool) : Type 0 where
  pub log : entries_of s' ≡ entries_of s
  pub long : length s'.image ≡ length s.image
  pub some : 0 < age_of p
  pub above : (b : ℕ) → Covers p b → age_of p ≤ owner (entries_of s) b
  pub kept : (b : ℕ) → (Covers p b → owner (entries_of s) b ≡ age_of p → ⊥) → get_or s'.image b 0 ≡ get_or s.image b 0
  pub put : whole ≡ true → (b : ℕ) → Covers p b → owner (entries_of s) b ≡ age_of p → get_or s'.image b 0 ≡ byte_of p b

-- from s to s': did it turn, what did it note, what did it write
pub data View (s s' : Stripe) : Bool → List Piece → List Write → Type 0 where
  quiet : s'.image ≡ s.image → entries_of s' ≡ entries_of s → View s s' false [] []
  new : (p : Piece) → s'.image ≡ s.image → entries_of s' ≡ entries_of s ++ (place_of p ∷ []) → ((b : ℕ) → owner (entries_of s') b ≡ max (given p b) (owner (entries_of s) b)) → View s s' false (p ∷ []) []
  wrote : (p : Piece) (c : Bool) → Wrote s s' p c → View s s' false [] (record { piece = p; whole = c } ∷ [])
  turned : s'.image ≡ s.image → entries_of s' ≡ map_of (entries_of s) → View s s' true [] []

-- An accepted write of any bytes v in the piece's place
module _ (m log image : List ℕ) (p : Piece) (M : IsMap (live m) log) (e : write_answer m (extent_of p) (length image) ≡ 0) where
  F : WriteFacts (sound_map_bytes m) (runs_of width m) (extent_of p) (length image)
  unfolding write_answer
  F = write-facts (sound_map_bytes m) (runs_of width m) (extent_of p) (length image) e

  same-owner : (b : ℕ) → owner (runs_of width m) b ≡ owner (runs_of width log) b
  same-owner b = ap (λ (rs : List Run). owner rs b) M.1 ∙ map-owner (runs_of width log) b

  module _ (v : List ℕ) (n : length v ≡ size p) where
    abbrev image' : List ℕ
    image' = written (runs_of width m) p.first v (age_of p) image

    kept : (b : ℕ) → (Covers p b → owner (runs_of width log) b ≡ age_of p → ⊥) → get_or image' b 0 ≡ get_or image b 0
    kept b h = written_out (runs_of width m) p.first v (age_of p) image b (λ x y o. h (x, omega arith) (sym (same-owner b) ∙ o))

    put : (b : ℕ) → Covers p b → owner (runs_of width log) b ≡ age_of p → get_or image' b 0 ≡ get_or v (b - p.first) 0
    put b c o = written_in (runs_of width m) p.first v (age_of p) image b c.0 (omega arith) (omega (arith, F.placed.inside, c.1)) (same-owner b ∙ o)

    pub stored : (mp : Map) (x : Second) (c : Bool) → (c ≡ true → v ≡ p.bytes)
        → Wrote (record { map = live m; log = log; second = x; image = image }) (record { map = mp; log = log; second = x; image = image' }) p c
    stored mp x c w =
        record {
          log = refl;
          long = written-length (runs_of width m) p.first v (age_of p) image;
          some = numbered-pos (extent_of p) F.numbered;
          above = λ b k. rw (← same-owner b) (F.above b k.0 k.1);
          kept = kept;
          put = λ t b k o. put b k o ∙ ap (λ (x : List ℕ). get_or x (b - p.first) 0) (w t);
        }

-- the image that a write leaves, accepted and refused
image-is : (m image : List ℕ) (p : Piece) (t : Bool) → eqb (write_answer m (extent_of p) (length image)) 0 ≡ t
    → write_image m p image ≡ cond t (written (runs_of width m) p.first p.bytes (age_of p) image) image
unfolding write_image
image-is m image p t e = ap (λ (t : Bool). cond t (written (runs_of width m) p.first p.bytes (age_of p) image) image) e

-- An accepted note, with the map live
record Grown (s : Stripe) (log : List ℕ) (p : Piece) : Type 0 where
  sound : Log log
  entries : runs_of width log ≡ entries_of s ++ (place_of p ∷ [])
  owners : (b : ℕ) → owner (runs_of width log) b ≡ max (given p b) (owner (entries_of s) b)

grown : (mp : Map) (log : List ℕ) (x : Second) (image : List ℕ) (p : Piece) → Log log → IsMap mp log → note_ok (record { map = mp; log = log; second = x; image = image }) mp p ≡ true
    → Grown (record { map = mp; log = log; second = x; image = image }) (after_note (record { map = mp; log = log; second = x; image = image }) mp p).log p
unfolding note_ok after_note
grown lost log x image p L M e = never e
grown (live m) log x image p L M e =
    let N = noted m log p (length image) L M e in
    record { sound = N.log; entries = N.entries; owners = λ b. ap (λ (rs : List Run). owner rs b) N.entries ∙ owner-snoc (runs_of width log) (place_of p) b ∙ ap (λ (x : ℕ). max x (owner (runs_of width log) b)) (given-over p b N.some) }

image-kept : (s : Stripe) (mp : Map) (p : Piece) → (after_note s mp p).image ≡ s.image
unfolding after_note
image-kept s lost p = refl
image-kept s (live m) p = refl

log-kept : (s : Stripe) (mp : Map) (p : Piece) → note_ok s mp p ≡ false → (after_note s mp p).log ≡ s.log
unfolding after_note note_ok
log-kept s lost p e = refl
log-kept s (live m) p e = same_log m s.log (extent_of p) (length s.image) e

note-view : (s : Stripe) (p : Piece) → Carried s → View s (after_note s s.map p) false (cond (note_ok s s.map p) (p ∷ []) []) []
note-view s p C = go (note_ok s s.map p) refl
  where
    go : (t : Bool) → note_ok s s.map p ≡ t → View s (after_note s s.map p) false (cond t (p ∷ []) []) []
    go true e = let G = grown s.map s.log s.second s.image p C.log C.map e in new p (image-kept s s.map p) G.entries G.owners
    go false e = quiet (image-kept s s.map p) (ap (runs_of width) (log-kept s s.map p e))

cut-view : (s : Stripe) (left : Bool) (junk : ℕ → ℕ) (p : Piece) → Carried s
    → View s (unplugged (scrambled junk (cond (left && note_ok s s.map p) (after_note s s.map p).log s.log)) (outdated (left && note_ok s s.map p) s.second) s.image) false
    (cond (left && note_ok s s.map p) (p ∷ []) []) []
cut-view s left junk p C = go (left && note_ok s s.map p) refl
  where
    go : (t : Bool) → (left && note_ok s s.map p) ≡ t → View s (unplugged (scrambled junk (cond t (after_note s s.map p).log s.log)) (outdated t s.second) s.image) false (cond t (p ∷ []) []) []
    go true e =
        let G = grown s.map s.log s.second s.image p C.log C.map (and_right left (note_ok s s.map p) e) in
        let same = scrambled-entries junk (after_note s s.map p).log G.sound in
        new p refl (same ∙ G.entries) (λ b. ap (λ (rs : List Run). owner rs b) same ∙ G.owners b)
    go false e = quiet refl (scrambled-entries junk s.log C.log)

write_view : (mp : Map) (log : List ℕ) (x : Second) (image : List ℕ) (p : Piece) → IsMap mp log
    → View (record { map = mp; log = log; second = x; image = image }) (after_write (record { map = mp; log = log; second = x; image = image }) mp p) false []
    (cond (write_ok (record { map = mp; log = log; second = x; image = image }) mp p) (record { piece = p; whole = true } ∷ []) [])
unfolding after_write write_ok
write_view lost log x image p M = quiet refl refl
write_view (live m) log x image p M = go (eqb (write_answer m (extent_of p) (length image)) 0) refl
  where
    s : Stripe
    s = record { map = live m; log = log; second = x; image = image }

    go : (t : Bool) → eqb (write_answer m (extent_of p) (length image)) 0 ≡ t
        → View s (record { map = live m; log = log; second = x; image = write_image m p image }) false [] (cond t (record { piece = p; whole = true } ∷ []) [])
    go true e =
        subst (λ (i : List ℕ). View s (record { map = live m; log = log; second = x; image = i }) false [] (record { piece = p; whole = true } ∷ [])) (sym (image-is m image p true e))
        (wrote p true (stored m log image p M (eqb-true (write_answer m (extent_of p) (length image)) 0 e) p.bytes refl (live m) x true (λ _. refl)))
    go false e = quiet (image-is m image p false e) refl

torn-view : (mp : Map) (log : List ℕ) (x : Second) (image : List ℕ) (junk : ℕ → ℕ) (p : Piece) → IsMap mp log
    → View (record { map = mp; log = log; second = x; image = image })
    (unplugged log x (cond (write_ok (record { map = mp; log = log; second = x; image = image }) mp p) (torn (record { map = mp; log = log; second = x; image = image }) mp p junk) image)) false []
    (cond (write_ok (record { map = mp; log = log; second = x; image = image }) mp p) (record { piece = p; whole = false } ∷ []) [])
unfolding torn write_ok
torn-view lost log x image junk p M = quiet refl refl
torn-view (live m) log x image junk p M = go (eqb (write_answer m (extent_of p) (length image)) 0) refl
  where
    s : Stripe
    s = record { map = live m; log = log; second = x; image = image }

    go : (t : Bool) → eqb (write_answer m (extent_of p) (length image)) 0 ≡ t
        → View s (unplugged log x (cond t (written (runs_of width m) p.first (tab (size p) junk) (age_of p) image) image)) false [] (cond t (record { piece = p; whole = false } ∷ []) [])
    go true e =
        wrote p false (stored m log image p M (eqb-true (write_answer m (extent_of p) (length image)) 0 e) (tab (size p) junk) (length-tab (size p) junk) lost x false (λ z. never z))
    go false e = quiet refl refl

-- The second log has the runs of the log's map
turn-view : (x : Second) (s : Stripe) → Carried s → SecondLog x s.log → View s (after_turn s x) (is_ready x) [] []
turn-view none s C S = quiet refl refl
turn-view (ready n) s C S = turned refl (ap (runs_of width) S ∙ turned-entries s.log C.log)

turn-cut-view : (x : Second) (s : Stripe) → Carried s → SecondLog x s.log → View s (unplugged (after_turn s x).log none s.image) (is_ready x) [] []
turn-cut-view none s C S = quiet refl refl
turn-cut-view (ready n) s C S = turned refl (ap (runs_of width) S ∙ turned-entries s.log C.log)

pub view : (s : Stripe) (e : Step) → Carried s → View s (next s e) (turns s e) (notes s e) (writes s e)
unfolding next turns notes writes
view s (note p) C = note-view s p C
view s (note_cut left junk p) C = cut-view s left junk p C
view s (write p) C = write_view s.map s.log s.second s.image p C.map
view s (write_cut junk p) C = torn-view s.map s.log s.second s.image junk p C.map
view s (restart buffer) C = go (eqb (restart_answer buffer s.log) 0)
  where
    go : (t : Bool) → View s (cond t (record { map = live (restart_map buffer s.log); log = s.log; second = s.second; image = s.image }) s) false [] []
    go true = quiet refl refl
    go false = quiet refl refl
view s (compact buffer) C = go (eqb (compact_answer s.log buffer) 0)
  where
    go : (t : Bool) → View s (cond t (record { map = s.map; log = s.log; second = ready (compact_log s.log buffer); image = s.image }) s) false [] []
    go true = quiet refl refl
    go false = quiet refl refl
view s compact_cut C = quiet refl refl
view s turn C = turn-view s.second s C C.second
view s (turn_cut true) C = turn-cut-view s.second s C C.second
view s (turn_cut false) C = quiet refl refl
view s cut C = quiet refl refl
