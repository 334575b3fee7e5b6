-- Demand 3, proved over the outcomes that the entries' contracts cite. Pieces are followed by their ages; at the end an age is a pair.
use Prim.Native.Nat.{ℕ, ◌≤◌, max}
use native.Mathlib.Omega.{arith}
use mathlib.Core.Path.{◌≡◌, refl, sym, ◌∙◌, ap, subst}
use mathlib.Core.Logic.{inl, inr, ⊎_elim}
use mathlib.Core.Bool.{Bool, cond}
use mathlib.Core.List.{List, [], ◌∷◌, ◌++◌, map, map-append, append-nil}
use lib.ListN.{length, get_or}
use Rattle.runs.specs.declared.Run.{Run}
use Rattle.runs.specs.Owner.{owner}
use Rattle.runs.specs.Map.{map_of}
use Rattle.runs.proofs.Over.{owner-append}
use Rattle.runs.proofs.Draw.{map-owner}
use Rattle.runs.proofs.Blank.{none-counted}
use Rattle.promises.specs.Run.{Piece, age_of, Covers, byte_of, place_of, Map, lost, live, Stripe, begin, Step, next, after, notes, noted, Write, writes, accepted, turns, entries}
use Rattle.promises.specs.Among.{Among}
use Rattle.promises.specs.Demand3.{HasWrite, Finished, Demand3, LogsMap, Steady, Always}
use Rattle.promises.proofs.Carried.{entries_of, IsMap, Carried, carried, begin-carried, restarts, compacts}
use Rattle.promises.proofs.Views.{covered, given, given-in, given_out, View, quiet, new, wrote, turned, view}
use Rattle.promises.proofs.Byte.{Start, finished-drop, has_right, step}
use Rattle.promises.proofs.Pieces.{latest}
use Rattle.promises.proofs.Pairs.{Counted, age-same, at_most, most-at, noted-counted, accepted-counted}

-- the greatest age that pieces give a byte
top : List Piece → ℕ → ℕ
top [] b = 0
top (p ∷ ps) b = max (given p b) (top ps b)

-- no step takes the age of b past N, if no piece noted from here on does
bound : (s s' : Stripe) (t : Bool) (ns ps : List Piece) (ws : List Write) (b N : ℕ) → View s s' t ns ws → owner (entries_of s) b ≤ N → top (ns ++ ps) b ≤ N → (owner (entries_of s') b ≤ N) × (top ps b ≤ N)
unfolding top
bound s s' t ns ps ws b N (quiet i o) h k = (subst (λ (l : List Run). owner l b ≤ N) (sym o) h, k)
bound s s' t ns ps ws b N (new p i l o) h k = (omega (arith, o b), omega arith)
bound s s' t ns ps ws b N (wrote p c W) h k = (subst (λ (l : List Run). owner l b ≤ N) (sym W.log) h, k)
bound s s' t ns ps ws b N (turned i o) h k = (subst (λ (l : List Run). owner l b ≤ N) (sym o) (omega (arith, map-owner (entries_of s) b)), k)

-- a byte under a written piece of the greatest age N
under :
    (es : List Step) (s : Stripe) (b N v : ℕ) → Carried s → owner (entries_of s) b ≤ N → top (noted s es) b ≤ N → Finished (accepted s es)
    → ((q : Piece) → HasWrite q (accepted s es) → Covers q b → age_of q ≡ N → byte_of q b ≡ v) → Start b N v s (accepted s es) → get_or (after s es).image b 0 ≡ v
unfolding after noted accepted
under [] s b N v g h k f a (inl w) = w.0
under [] s b N v g h k f a (inr w) = absurd w.1
under (e ∷ es) s b N v g h k f a w =
    let t : Stripe = next s e in
    let did : View s t (turns s e) (notes s e) (writes s e) = view s e g in
    let l : (owner (entries_of t) b ≤ N) × (top (noted t es) b ≤ N) = bound s t (turns s e) (notes s e) (noted t es) (writes s e) b N did h k in
    under es t b N v (carried s e g) l.0 l.1 (finished-drop (writes s e) (accepted t es) f) (λ q m. a q (has_right q (writes s e) (accepted t es) m))
    (step b N v s t (turns s e) (notes s e) (writes s e) (accepted t es) did l.0 f a w)

-- a byte under no noted piece
kept_step : (s s' : Stripe) (t : Bool) (ns : List Piece) (ws : List Write) (b : ℕ) → View s s' t ns ws → owner (entries_of s) b ≤ 0 → get_or s'.image b 0 ≡ get_or s.image b 0
kept_step s s' t ns ws b (quiet i o) z = ap (λ (x : List ℕ). get_or x b 0) i
kept_step s s' t ns ws b (new p i l o) z = ap (λ (x : List ℕ). get_or x b 0) i
kept_step s s' t ns ws b (wrote p c W) z = W.kept b (λ k o. omega (arith, W.some))
kept_step s s' t ns ws b (turned i o) z = ap (λ (x : List ℕ). get_or x b 0) i

other : (es : List Step) (s : Stripe) (b : ℕ) → Carried s → owner (entries_of s) b ≤ 0 → top (noted s es) b ≤ 0 → get_or (after s es).image b 0 ≡ get_or s.image b 0
unfolding after noted
other [] s b g h k = refl
other (e ∷ es) s b g h k =
    let did : View s (next s e) (turns s e) (notes s e) (writes s e) = view s e g in
    let l : (owner (entries_of (next s e)) b ≤ 0) × (top (noted (next s e) es) b ≤ 0) = bound s (next s e) (turns s e) (notes s e) (noted (next s e) es) (writes s e) b 0 did h k in
    other es (next s e) b (carried s e g) l.0 l.1 ∙ kept_step s (next s e) (turns s e) (notes s e) (writes s e) b did h

long-step : (s s' : Stripe) (t : Bool) (ns : List Piece) (ws : List Write) → View s s' t ns ws → length s'.image ≡ length s.image
long-step s s' t ns ws (quiet i o) = ap length i
long-step s s' t ns ws (new p i l o) = ap length i
long-step s s' t ns ws (wrote p c W) = W.long
long-step s s' t ns ws (turned i o) = ap length i

long : (es : List Step) (s : Stripe) → Carried s → length (after s es).image ≡ length s.image
unfolding after
long [] s g = refl
long (e ∷ es) s g = long es (next s e) (carried s e g) ∙ long-step s (next s e) (turns s e) (notes s e) (writes s e) (view s e g)

top-most : (ps : List Piece) (b N : ℕ) → ((q : Piece) → Among q ps → Covers q b → age_of q ≤ N) → top ps b ≤ N
unfolding top
top-most [] b N h = omega arith
top-most (p ∷ ps) b N h =
    let t : top ps b ≤ N = top-most ps b N (λ q m. h q (inr m)) in
    ⊎_elim (λ (c : Covers p b). omega (arith, given-in p b c, h p (inl refl) c)) (λ (c : Covers p b → ⊥). omega (arith, given_out p b c)) (covered p b)

pub demand3 : Demand3
unfolding owner
demand3 log image es empty agree sent finished =
    let s : Stripe = begin log image in
    let g : Carried s = begin-carried log image empty in
    let z : (b : ℕ) → owner (entries_of s) b ≡ 0 = λ b. ap (λ (rs : List Run). owner rs b) (none-counted log empty.1) in
    let counted : (q : Piece) → Among q (noted s es) → Counted q = noted-counted es s in
    record {
      some = λ b p m c.
          let L = latest (noted s es) b p m c in
          (L.0, (L.1.0, L.1.1, (λ q n k. most-at q L.0 (counted q n) (counted L.0 L.1.0) (L.1.2 q n k))));
      under = λ b p G.
          under es s b (age_of p) (byte_of p b) g (omega (arith, z b))
          (top-most (noted s es) b (age_of p) (λ q n k. at_most q p (counted q n) (counted p G.0) (G.2 q n k))) finished
          (λ q h k a. agree q p h (sent p G.0) (age-same q p (accepted-counted es s q h) (counted p G.0) a) b k G.1)
          (inr (p, sent p G.0, G.1, refl));
      other = λ b h. other es s b g (omega (arith, z b)) (top-most (noted s es) b 0 (λ q m c. absurd (h q m c)));
      long = long es s g;
    }

-- "With it: in every run the map is the log's map, and no restart is refused"
pub run-carried : (es : List Step) (s : Stripe) → Carried s → Carried (after s es)
unfolding after
run-carried [] s C = C
run-carried (e ∷ es) s C = run-carried es (next s e) (carried s e C)

-- the log has the entries that the steps make
grown-step : (s s' : Stripe) (t : Bool) (ns : List Piece) (ws : List Write) → View s s' t ns ws → entries_of s' ≡ cond t (map_of (entries_of s)) (entries_of s ++ map place_of ns)
grown-step s s' t ns ws (quiet i o) = o ∙ sym (append-nil (entries_of s))
grown-step s s' t ns ws (new p i l o) = l
grown-step s s' t ns ws (wrote p c W) = W.log ∙ sym (append-nil (entries_of s))
grown-step s s' t ns ws (turned i o) = o

grown : (es : List Step) (s : Stripe) → Carried s → entries_of (after s es) ≡ entries (entries_of s) s es
unfolding after entries
grown [] s g = refl
grown (e ∷ es) s g =
    grown es (next s e) (carried s e g)
    ∙ ap (λ (l : List Run). entries l (next s e) es) (grown-step s (next s e) (turns s e) (notes s e) (writes s e) (view s e g))

-- and says what the noted pieces say
said-step : (s s' : Stripe) (t : Bool) (ns : List Piece) (ws : List Write) → View s s' t ns ws → (b : ℕ) → owner (entries_of s') b ≡ max (owner (entries_of s) b) (owner (map place_of ns) b)
unfolding owner
said-step s s' t ns ws (quiet i o) b = ap (λ (l : List Run). owner l b) o ∙ omega arith
said-step s s' t ns ws (new p i l o) b = ap (λ (x : List Run). owner x b) l ∙ owner-append (entries_of s) (place_of p ∷ []) b
said-step s s' t ns ws (wrote p c W) b = ap (λ (l : List Run). owner l b) W.log ∙ omega arith
said-step s s' t ns ws (turned i o) b = ap (λ (l : List Run). owner l b) o ∙ map-owner (entries_of s) b ∙ omega arith

pub said : (es : List Step) (s : Stripe) → Carried s → (b : ℕ) → owner (entries_of (after s es)) b ≡ owner (entries_of s ++ map place_of (noted s es)) b
unfolding after noted
said [] s g b = ap (λ (l : List Run). owner l b) (sym (append-nil (entries_of s)))
said (e ∷ es) s g b =
    let t : Stripe = next s e in
    let ns : List Run = map place_of (notes s e) in
    let ps : List Run = map place_of (noted t es) in
    let m : map place_of (notes s e ++ noted t es) ≡ ns ++ ps = map-append place_of (notes s e) (noted t es) in
    said es t (carried s e g) b
    ∙ owner-append (entries_of t) ps b
    ∙ ap (λ (n : ℕ). max n (owner ps b)) (said-step s t (turns s e) (notes s e) (writes s e) (view s e g) b)
    ∙ (let o = owner-append ns ps b in let q = owner-append (entries_of s) (ns ++ ps) b in omega arith)
    ∙ ap (λ (l : List Run). owner (entries_of s ++ l) b) (sym m)

steady : (ps : List Piece) (rs : List Run) (s : Stripe) → Carried s → entries_of s ≡ rs → ((b : ℕ) → owner (entries_of s) b ≡ owner (map place_of ps) b) → Steady ps rs s
steady ps rs s C e o = record {
  log = e;
  says = o;
  map = go s.map C.map;
  second = C.second;
  restarts = λ buffer h. restarts buffer s.log C.log h;
  compacts = λ buffer h. compacts buffer s.log C.log h;
}
  where
    go : (m : Map) → IsMap m s.log → LogsMap m s.log
    go lost M = tt
    go (live m) M = (M.0, M.2)

pub always : Always
always log image es empty =
    let s : Stripe = begin log image in
    let C : Carried s = begin-carried log image empty in
    let z : entries_of s ≡ [] = none-counted log empty.1 in
    steady (noted s es) (entries [] s es) (after s es) (run-carried es s C)
    (grown es s C ∙ ap (λ (l : List Run). entries l s es) z)
    (λ b. said es s C b ∙ ap (λ (l : List Run). owner (l ++ map place_of (noted s es)) b) z)
