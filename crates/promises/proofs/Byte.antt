-- One byte followed through a run. The thought: once a byte has its greatest age N, what stands there is right, or an accepted write of a piece of
-- age N is still to come; a cut write is followed by another of its piece.
use Prim.Native.Nat.{ℕ, ◌≤◌}
use native.Mathlib.Omega.{arith}
use mathlib.Core.Path.{◌≡◌, refl, sym, ◌∙◌, ap, subst}
use mathlib.Core.Logic.{◌⊎◌, inl, inr, ⊎_elim}
use mathlib.Core.Bool.{Bool, true, false}
use mathlib.Core.List.{List, [], ◌∷◌, ◌++◌}
use lib.ListN.{get_or}
use Rattle.common.proofs.Bools.{never}
use Rattle.common.proofs.Order.{same}
use Rattle.runs.specs.declared.Run.{Run}
use Rattle.runs.specs.Owner.{owner}
use Rattle.runs.proofs.Draw.{map-owner}
use Rattle.promises.specs.Run.{Piece, age_of, Covers, byte_of, Stripe, Write}
use Rattle.promises.specs.Demand3.{HasWrite, Finished}
use Rattle.promises.proofs.Carried.{entries_of}
use Rattle.promises.proofs.Views.{covered, Wrote, View, quiet, new, wrote, turned}

-- the bytes of one place b, whose age at the end is N
abbrev pub Start : ℕ → ℕ → ℕ → Stripe → List Write → Type 0
Start b N v s ws =
    ((get_or s.image b 0 ≡ v) × (owner (entries_of s) b ≡ N)) ⊎ ((q : Piece) × HasWrite q ws × Covers q b × (age_of q ≡ N))

pub finished-drop : (ws rest : List Write) → Finished (ws ++ rest) → Finished rest
finished-drop [] rest f = f
finished-drop (w ∷ ws) rest f = finished-drop ws rest f.1

pub has_right : (q : Piece) (ws rest : List Write) → HasWrite q rest → HasWrite q (ws ++ rest)
has_right q [] rest h = h
has_right q (w ∷ ws) rest h = inr (has_right q ws rest h)

-- pieces are told apart, so a cut write is followed by another of its piece
bytes_same : (xs ys : List ℕ) → (xs ≡ ys) ⊎ (xs ≡ ys → ⊥)
bytes_same [] [] = inl refl
bytes_same [] (y ∷ ys) = inr (λ e. let z : ◌≡◌ {A = ℕ} 0 1 = cc in omega arith)
bytes_same (x ∷ xs) [] = inr (λ e. let z : ◌≡◌ {A = ℕ} 0 1 = cc in omega arith)
bytes_same (x ∷ xs) (y ∷ ys) =
    ⊎_elim
    (λ (u : x ≡ y). ⊎_elim (λ (v : xs ≡ ys). inl (cc)) (λ (v : xs ≡ ys → ⊥). inr (λ e. v (cc))) (bytes_same xs ys))
    (λ (u : x ≡ y → ⊥). inr (λ e. u (cc)))
    (same x y)

pub piece-same : (p q : Piece) → (p ≡ q) ⊎ (p ≡ q → ⊥)
piece-same p q =
    ⊎_elim
    (λ (u : p.first ≡ q.first). ⊎_elim
    (λ (v : p.bytes ≡ q.bytes). ⊎_elim
    (λ (w : p.number ≡ q.number). ⊎_elim
    (λ (x : p.pass ≡ q.pass). inl (λ i. record { first = u i; bytes = v i; number = w i; pass = x i }))
    (λ (x : p.pass ≡ q.pass → ⊥). inr (λ e. x (ap (λ (y : Piece). y.pass) e)))
    (same p.pass q.pass))
    (λ (w : p.number ≡ q.number → ⊥). inr (λ e. w (ap (λ (x : Piece). x.number) e)))
    (same p.number q.number))
    (λ (v : p.bytes ≡ q.bytes → ⊥). inr (λ e. v (ap (λ (x : Piece). x.bytes) e)))
    (bytes_same p.bytes q.bytes))
    (λ (u : p.first ≡ q.first → ⊥). inr (λ e. u (ap (λ (x : Piece). x.first) e)))
    (same p.first q.first)

has-write : (p : Piece) (ws : List Write) → HasWrite p ws ⊎ (HasWrite p ws → ⊥)
has-write p [] = inr (λ h. h)
has-write p (w ∷ ws) =
    ⊎_elim (λ (e : p ≡ w.piece). inl (inl e))
    (λ (e : p ≡ w.piece → ⊥). ⊎_elim (λ (h : HasWrite p ws). inl (inr h)) (λ (h : HasWrite p ws → ⊥). inr (⊎_elim e h)) (has-write p ws))
    (piece-same p w.piece)

again : (p : Piece) (c : Bool) (ws : List Write) → ((HasWrite p ws → ⊥) → c ≡ true) → c ≡ false → HasWrite p ws
again p c ws f e = ⊎_elim (λ (h : HasWrite p ws). h) (λ (h : HasWrite p ws → ⊥). never (sym e ∙ f h)) (has-write p ws)

-- a write that stores at b leaves v there, or, cut, is followed by another of its piece
stepped :
    (b N v : ℕ) (s s' : Stripe) (p : Piece) (c : Bool) (rest : List Write) → Wrote s s' p c → (c ≡ false → HasWrite p rest) → byte_of p b ≡ v
    → Covers p b → age_of p ≡ N → owner (entries_of s) b ≡ age_of p → Start b N v s' rest
stepped b N v s s' p true rest W f e k n o =
    inl (W.put refl b k o ∙ e, ap (λ (l : List Run). owner l b) W.log ∙ o ∙ n)
stepped b N v s s' p false rest W f e k n o = inr (p, f refl, k, n)

-- what is known of b goes on being known
pub step :
    (b N v : ℕ) (s s' : Stripe) (t : Bool) (ns : List Piece) (ws rest : List Write) → View s s' t ns ws → owner (entries_of s') b ≤ N → Finished (ws ++ rest)
    → ((q : Piece) → HasWrite q (ws ++ rest) → Covers q b → age_of q ≡ N → byte_of q b ≡ v) → Start b N v s (ws ++ rest) → Start b N v s' rest
step b N v s s' t ns ws rest (quiet i o) n f a (inl w) = inl (ap (λ (x : List ℕ). get_or x b 0) i ∙ w.0, ap (λ (l : List Run). owner l b) o ∙ w.1)
step b N v s s' t ns ws rest (quiet i o) n f a (inr w) = inr w
step b N v s s' t ns ws rest (turned i o) n f a (inl w) = inl (ap (λ (x : List ℕ). get_or x b 0) i ∙ w.0, ap (λ (l : List Run). owner l b) o ∙ map-owner (entries_of s) b ∙ w.1)
step b N v s s' t ns ws rest (turned i o) n f a (inr w) = inr w
step b N v s s' t ns ws rest (new p i l o) n f a (inl w) = inl (ap (λ (x : List ℕ). get_or x b 0) i ∙ w.0, omega (arith, o b, w.1))
step b N v s s' t ns ws rest (new p i l o) n f a (inr w) = inr w
step b N v s s' t ns ws rest (wrote p c W) n f a (inl w) =
    ⊎_elim
    (λ (k : Covers p b). ⊎_elim
    (λ (o : owner (entries_of s) b ≡ age_of p).
    let m : age_of p ≡ N = sym o ∙ w.1 in
    stepped b N v s s' p c rest W (again p c rest f.0) (a p (inl refl) k m) k m o)
    (λ (o : owner (entries_of s) b ≡ age_of p → ⊥). stay (λ _. o))
    (same (owner (entries_of s) b) (age_of p)))
    (λ (k : Covers p b → ⊥). stay (λ z _. k z))
    (covered p b)
  where
    stay : (Covers p b → owner (entries_of s) b ≡ age_of p → ⊥) → Start b N v s' rest
    stay h = inl (W.kept b h ∙ w.0, ap (λ (l : List Run). owner l b) W.log ∙ w.1)
step b N v s s' t ns ws rest (wrote p c W) n f a (inr w) =
    ⊎_elim
    (λ (e : w.0 ≡ p).
    let k : Covers p b = subst (λ (q : Piece). Covers q b) e w.2 in
    let m : age_of p ≡ N = subst (λ (q : Piece). age_of q ≡ N) e w.3 in
    let l : owner (entries_of s') b ≡ owner (entries_of s) b = ap (λ (x : List Run). owner x b) W.log in
    let o : owner (entries_of s) b ≡ age_of p = omega (arith, W.above b k) in
    stepped b N v s s' p c rest W (again p c rest f.0) (a p (inl refl) k m) k m o)
    (λ (h : HasWrite w.0 rest). inr (w.0, h, w.2, w.3))
    w.1
