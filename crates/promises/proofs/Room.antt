-- Room in the log and in the map. The thought: a log says what its map says, so that what was noted since a time goes on top of the map's runs of then.
use Prim.Native.Nat.{ℕ, ◌+◌, ◌*◌, ◌-◌, ◌≤◌, max}
use native.Mathlib.Omega.{arith}
use mathlib.Core.Path.{◌≡◌, refl, sym, ap, subst, ◌∙◌}
use mathlib.Core.Bool.{Bool, true, false, not, cond}
use mathlib.Core.Logic.{◌⊎◌, inl, inr, ⊎_elim}
use mathlib.Core.List.{List, [], ◌∷◌, ◌++◌, map, map-append, append_assoc}
use lib.Dec.{eqb, ltb, leb}
use lib.ListN.{length, length-append, length-map}
use borrow.Author.Tests.{eq-eqb, le-ltb, lt-leb}
use Rattle.common.specs.Counters.{width}
use Rattle.common.specs.Refusals.{rule, first_hit}
use Rattle.common.proofs.Bools.{never}
use Rattle.xdr.specs.Be.{Bytes}
use Rattle.runs.specs.declared.Run.{Run}
use Rattle.runs.specs.Owner.{over, owner}
use Rattle.runs.specs.Map.{map_of, raise}
use Rattle.runs.specs.Sound.{max_runs, max_entries, sound_map}
use Rattle.runs.specs.Bytes.{runs_of, log_size, sound_map_bytes, sound_log_bytes, log_bytes}
use Rattle.runs.proofs.Ages.{highest_age}
use Rattle.runs.proofs.Over.{owner-append}
use Rattle.runs.proofs.Draw.{map-canon, map-owner}
use Rattle.runs.proofs.Unique.{map-map, map_same, map_snoc}
use Rattle.runs.proofs.Borders.{few-runs, room_after}
use Rattle.runs.proofs.Sound.{sound-is, log_is, map-sound}
use Rattle.runs.proofs.MapBytes.{map-fits, owner-small}
use Rattle.runs.proofs.LogBytes.{log-bytes, entries-back, entries-sound, entries-tail}
use Rattle.stripe.specs.Refusals.{misplaced, misnumbered}
use Rattle.stripe.proofs.Accepted.{CompactFacts, compact-facts, facts-compact}
use Rattle.note.specs.Note.{note_answer}
use Rattle.restart.specs.Restart.{restart_answer, restart_map}
use Rattle.compact.specs.Compact.{compact_answer, compact_log}
use Rattle.promises.specs.Run.{Piece, extent_of, place_of, Map, live, Stripe, begin, Step, next, after, notes, noted, Write, writes, turns}
use Rattle.promises.specs.Among.{Among}
use Rattle.promises.specs.Room.{Compacted, Fits, Room}
use Rattle.promises.proofs.Carried.{entries_of, IsMap, Carried, carried, begin-carried}
use Rattle.promises.proofs.Views.{View, quiet, new, wrote, turned, view}
use Rattle.promises.proofs.Byte.{piece-same}
use Rattle.promises.proofs.Demand3.{run-carried, said, always}

-- An accepted compaction
module _ (old buffer : List ℕ) (h : Bytes old) (z : compact_answer old buffer ≡ 0) where
  abbrev rs : List Run
  rs = map_of (runs_of width old)

  abbrev log : List ℕ
  log = log_bytes width rs

  F : CompactFacts (eqb (length buffer) (log_size width)) (sound_log_bytes old) (runs_of width old)
  unfolding compact_answer
  F = compact-facts (eqb (length buffer) (log_size width)) (sound_log_bytes old) (runs_of width old) z

  sound : sound_map rs ≡ true
  sound = map-sound (runs_of width old) (log_is (runs_of width old) (log-bytes old F.logged).sound).good F.few

  small : (b : ℕ) → owner rs b ≤ highest_age
  small b = rw (map-owner (runs_of width old) b) (owner-small old h b)

  is-log : sound_log_bytes log ≡ true
  is-log = entries-sound rs (map-fits rs sound small) (sound-is rs sound).good (omega (arith, F.few))

  back : runs_of width log ≡ rs
  back = entries-back rs (map-fits rs sound small) (sound-is rs sound).good (omega (arith, F.few))

  same_map : map_of (runs_of width log) ≡ rs
  same_map = ap map_of back ∙ map-map rs (map-canon (runs_of width old))

  same_answer : (map : List ℕ) → restart_answer map log ≡ restart_answer map old
  unfolding restart_answer
  same_answer map = rw (is-log, F.logged, same_map)

  same-restart : (map : List ℕ) → restart_map map log ≡ restart_map map old
  unfolding restart_map
  same-restart map = rw (same_answer map, same_map)

  again : (b : List ℕ) → length b ≡ log_size width → compact_answer log b ≡ 0
  unfolding compact_answer
  again b e =
      facts-compact (eqb (length b) (log_size width)) (sound_log_bytes log) (runs_of width log)
      (record { fits = eq-eqb (length b) (log_size width) e; logged = is-log; few = rw same_map F.few })

  twice : (b : List ℕ) → length b ≡ log_size width → compact_log log b ≡ log
  unfolding compact_log
  twice b e = ap (λ (n : ℕ). cond (eqb n 0) (log_bytes width (map_of (runs_of width log))) b) (again b e) ∙ ap (log_bytes width) same_map

  compacted : Compacted old log
  compacted =
      let n : length (runs_of width log) ≤ 1024 = rw back F.few in
      record {
        sound = is-log;
        entries = back;
        rising = rw back (sound-is rs sound).apart;
        behind = entries-tail rs (map-fits rs sound small) (sound-is rs sound).good (omega (arith, F.few));
        says = λ b. ap (λ (l : List Run). owner l b) back ∙ map-owner (runs_of width old) b;
        restarts = λ map. (same_answer map, same-restart map);
        few = n;
        twice = λ b answer newer e C. (C.answers ∙ again b e, C.log ∙ twice b e);
      }

  new-log : compact_log old buffer ≡ log
  unfolding compact_log
  new-log = ap (λ (n : ℕ). cond (eqb n 0) log buffer) z

-- How long the log gets
longer-step : (s s' : Stripe) (t : Bool) (ns : List Piece) (ws : List Write) → View s s' t ns ws → Carried s → length (entries_of s') ≤ max (length (entries_of s)) max_runs + length ns
longer-step s s' t ns ws (quiet i o) C = let e = ap length o in omega arith
longer-step s s' t ns ws (new p i l o) C = let e = ap length l ∙ length-append (entries_of s) (place_of p ∷ []) in omega arith
longer-step s s' t ns ws (wrote p c W) C = let e = ap length W.log in omega arith
longer-step s s' t ns ws (turned i o) C = let e = ap length o in omega (arith, C.log.few)

longer : (es : List Step) (s : Stripe) → Carried s → length (entries_of (after s es)) ≤ max (length (entries_of s)) max_runs + length (noted s es)
unfolding after noted
longer [] s C = omega arith
longer (e ∷ es) s C =
    let l = longer-step s (next s e) (turns s e) (notes s e) (writes s e) (view s e C) C in
    let r = longer es (next s e) (carried s e C) in
    let a = length-append (notes s e) (noted (next s e) es) in
    omega arith

-- A note is not refused with a number whose rule it keeps
not_16 : (a b c d x f : Bool) → x ≡ false → first_hit (rule 12 a ∷ rule 13 b ∷ rule 14 c ∷ rule 15 d ∷ rule 16 x ∷ rule 17 f ∷ []) ≡ 16 → ⊥
not_16 true b c d x f z e = omega arith
not_16 false true c d x f z e = omega arith
not_16 false false true d x f z e = omega arith
not_16 false false false true x f z e = omega arith
not_16 false false false false true f z e = never (sym z)
not_16 false false false false false true z e = omega arith
not_16 false false false false false false z e = omega arith

not-17 : (a b c d x f : Bool) → f ≡ false → first_hit (rule 12 a ∷ rule 13 b ∷ rule 14 c ∷ rule 15 d ∷ rule 16 x ∷ rule 17 f ∷ []) ≡ 17 → ⊥
not-17 true b c d x f z e = omega arith
not-17 false true c d x f z e = omega arith
not-17 false false true d x f z e = omega arith
not-17 false false false true x f z e = omega arith
not-17 false false false false true f z e = omega arith
not-17 false false false false false true z e = never (sym z)
not-17 false false false false false false z e = omega arith

is-map : (mp : Map) (log map : List ℕ) → mp ≡ live map → IsMap mp log → runs_of width map ≡ map_of (runs_of width log)
is-map mp log map e M = (subst (λ (x : Map). IsMap x log) e M).1

-- Pieces that are among others say no more than these
says-one : (q : Piece) (ps : List Piece) (b : ℕ) → Among q ps → over (place_of q) b ≤ owner (map place_of ps) b
unfolding owner
says-one q [] b m = absurd m
says-one q (p ∷ ps) b (inl e) = subst (λ (x : Piece). over (place_of q) b ≤ max (over (place_of x) b) (owner (map place_of ps) b)) e (omega arith)
says-one q (p ∷ ps) b (inr m) = omega (arith, says-one q ps b m)

says_less : (ns ps : List Piece) (b : ℕ) → ((q : Piece) → Among q ns → Among q ps) → owner (map place_of ns) b ≤ owner (map place_of ps) b
unfolding owner
says_less [] ps b h = omega arith
says_less (n ∷ ns) ps b h = omega (arith, says-one n ps b (h n (inl refl)), says_less ns ps b (λ q m. h q (inr m)))

among? : (q : Piece) (ps : List Piece) → Among q ps ⊎ (Among q ps → ⊥)
among? q [] = inr (λ m. m)
among? q (p ∷ ps) =
    ⊎_elim (λ (e : q ≡ p). inl (inl e))
    (λ (d : q ≡ p → ⊥). ⊎_elim (λ (m : Among q ps). inl (inr m)) (λ (m : Among q ps → ⊥). inr (⊎_elim d m)) (among? q ps))
    (piece-same q p)

-- qs are those of the pieces ps that are among ns: however often each was noted, it is there once
record Thinned (ns ps qs : List Piece) : Type 0 where
  few : length qs ≤ length ps
  all : (q : Piece) → Among q ns → Among q ps → Among q qs
  only : (q : Piece) → Among q qs → Among q ns

thinned : (ns ps : List Piece) → (qs : List Piece) × Thinned ns ps qs
thinned ns [] = ([], record { few = omega arith; all = λ q m k. k; only = λ q k. absurd k })
thinned ns (p ∷ ps) =
    let ih = thinned ns ps in
    let T = ih.1 in
    ⊎_elim
    (λ (m : Among p ns). (
      p ∷ ih.0,
      record {
        few = omega (arith, T.few);
        all = λ q n. ⊎_elim (λ (e : q ≡ p). inl e) (λ (k : Among q ps). inr (T.all q n k));
        only = λ q. ⊎_elim (λ (e : q ≡ p). subst (λ (x : Piece). Among x ns) (sym e) m) (T.only q);
      },
    ))
    (λ (m : Among p ns → ⊥). (
      ih.0,
      record {
        few = omega (arith, T.few);
        all = λ q n. ⊎_elim (λ (e : q ≡ p). absurd (m (subst (λ (x : Piece). Among x ns) e n))) (λ (k : Among q ps). T.all q n k);
        only = T.only;
      },
    ))
    (among? p ns)

-- one more, behind them
among-snoc : (P : Piece → Type 0) (p : Piece) (ns : List Piece) → ((q : Piece) → Among q ns → P q) → P p → (q : Piece) → Among q (ns ++ (p ∷ [])) → P q
among-snoc P p [] h k q (inl e) = subst P (sym e) k
among-snoc P p [] h k q (inr m) = absurd m
among-snoc P p (n ∷ ns) h k q (inl e) = h q (inl e)
among-snoc P p (n ∷ ns) h k q (inr m) = among-snoc P p ns (λ x y. h x (inr y)) k q m

-- entries that say what the pieces os say, and on them pieces that are all among ps or os
module _ (es : List Run) (os : List Piece) (said : (b : ℕ) → owner es b ≡ owner (map place_of os) b) (ns ps : List Piece) (h : (q : Piece) → Among q ns → Among q ps ⊎ Among q os) where
  qs : List Piece
  qs = (thinned ns ps).0

  T : Thinned ns ps qs
  unfolding qs
  T = (thinned ns ps).1

  -- what is noted again is said already
  no_more : (ms : List Piece) (b : ℕ) → ((q : Piece) → Among q ms → Among q ns) → owner (map place_of ms) b ≤ max (owner es b) (owner (map place_of qs) b)
  unfolding owner
  no_more [] b i = omega arith
  no_more (m ∷ ms) b i =
      let r = no_more ms b (λ q k. i q (inr k)) in
      let o : over (place_of m) b ≤ max (owner es b) (owner (map place_of qs) b) =
      ⊎_elim
      (λ (k : Among m ps). omega (arith, says-one m qs b (T.all m (i m (inl refl)) k)))
      (λ (k : Among m os). omega (arith, says-one m os b k, said b))
      (h m (i m (inl refl))) in
      omega arith

  same : (b : ℕ) → owner (es ++ map place_of ns) b ≡ owner (es ++ map place_of qs) b
  same b =
      owner-append es (map place_of ns) b
      ∙ (let u = no_more ns b (λ q m. m) in let v = says_less qs ns b T.only in omega arith)
      ∙ sym (owner-append es (map place_of qs) b)

  with-pieces : length (map_of (es ++ map place_of ns)) ≤ 2 * (length (map_of es) + length ps) - 1
  with-pieces =
      let l = ap length (map_same (es ++ map place_of ns) (es ++ map place_of qs) same) in
      let r = room_after es (map place_of qs) in
      let k = length-map qs place_of in
      let f = T.few in
      omega arith

module _ (es : List Step) (os : List Piece) (s : Stripe) (C : Carried s) (from : (b : ℕ) → owner (entries_of s) b ≡ owner (map place_of os) b) where
  abbrev t : Stripe
  t = after s es

  abbrev ns : List Piece
  ns = noted s es

  -- the map with one piece more is that of then with all pieces since
  raised : (m : List ℕ) (p : Piece) → t.map ≡ live m → raise (place_of p) (runs_of width m) ≡ map_of (entries_of s ++ map place_of (ns ++ (p ∷ [])))
  raised m p e =
      let r : Run = place_of p in
      ap (λ (l : List Run). raise r l) (is-map t.map t.log m e (run-carried es s C).map)
      ∙ sym (map_snoc (entries_of t) r)
      ∙ map_same (entries_of t ++ (r ∷ [])) ((entries_of s ++ map place_of ns) ++ (r ∷ []))
      (λ b. owner-append (entries_of t) (r ∷ []) b ∙ ap (λ (n : ℕ). max n (owner (r ∷ []) b)) (said es s C b) ∙ sym (owner-append (entries_of s ++ map place_of ns) (r ∷ []) b))
      ∙ ap map_of (append_assoc (entries_of s) (map place_of ns) (r ∷ []) ∙ ap (λ (l : List Run). entries_of s ++ l) (sym (map-append place_of ns (p ∷ []))))

  few : (ps : List Piece) → 2 * (length (map_of (entries_of s)) + length ps) - 1 ≤ max_runs → ((q : Piece) → Among q ns → Among q ps ⊎ Among q os)
      → (p : Piece) → Among p ps ⊎ Among p os → (m : List ℕ) → t.map ≡ live m → length (raise (place_of p) (runs_of width m)) ≤ max_runs
  few ps h a p k m e =
      let b = with-pieces (entries_of s) os from (ns ++ (p ∷ [])) ps (among-snoc (λ q. Among q ps ⊎ Among q os) p ns a k) in
      let u = ap length (raised m p e) in
      omega arith

  fits : Fits os s ns t
  unfolding note_answer
  fits =
      record {
        pieces = λ ps h a p k m e.
            not_16 (not (sound_map_bytes m)) (not (sound_log_bytes t.log)) (misplaced (extent_of p) (length t.image)) (misnumbered (extent_of p)) _ (leb max_entries (length (entries_of t)))
            (le-ltb max_runs (length (raise (place_of p) (runs_of width m))) (few ps h a p k m e));
        entries = λ h p m e.
            not-17 (not (sound_map_bytes m)) (not (sound_log_bytes t.log)) (misplaced (extent_of p) (length t.image)) (misnumbered (extent_of p)) (ltb max_runs (length (raise (place_of p) (runs_of width m)))) _
            (lt-leb max_entries (length (entries_of t)) (let l = longer es s C in omega arith));
      }

pub room : Room
room = record {
  compacted = λ old buffer answer new h C z.
      subst (Compacted old) (sym (C.log ∙ new-log old buffer h (sym C.answers ∙ z))) (compacted old buffer h (sym C.answers ∙ z));
  borders = few-runs;
  fits = λ log image before since empty.
      let s : Stripe = after (begin log image) before in
      fits since (noted (begin log image) before) s (run-carried before (begin log image) (begin-carried log image empty)) (always log image before empty).says;
}
