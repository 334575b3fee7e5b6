-- A call that is not refused breaks no rule: what an accepted note, write, restart and compaction know.
use Prim.Native.Nat.{ℕ, zero, suc, pred, ◌+◌, ◌≤◌, ◌<◌}
use mathlib.Core.Path.{◌≡◌, subst}
use mathlib.Core.Logic.{⊎_elim}
use mathlib.Core.Bool.{Bool, true, false, not, ◌||◌}
use mathlib.Core.List.{List}
use native.Mathlib.Omega.{arith}
use lib.Dec.{T}
use lib.ListN.{length}
use borrow.Author.Tests.{ltb-false, leb-false, lt-ltb, le-ltb, le-leb, not-false}
use Rattle.common.specs.Counters.{width, highest}
use Rattle.common.specs.Ranges.{eof}
use Rattle.common.specs.Refusals.{Rule, first_hit}
use Rattle.common.proofs.Bools.{and_l, and_r, or_left, or_right, undo, true-is, false-is}
use Rattle.common.proofs.Order.{below, not-zero, eq→eqb}
use Rattle.common.proofs.Refusals.{counted, kept, unbroken}
use Rattle.runs.specs.declared.Run.{Run}
use Rattle.runs.specs.Ages.{highest_pass, Exact}
use Rattle.runs.specs.Owner.{age_of, owner}
use Rattle.runs.specs.Map.{raise, map_of}
use Rattle.runs.specs.Sound.{max_runs, max_entries, sane}
use Rattle.runs.proofs.Ages.{highest_age, fits-age, sane-pos, sane-exact}
use Rattle.runs.specs.Valid.{Valid}
use Rattle.stripe.specs.declared.Extent.{Extent}
use Rattle.stripe.specs.Piece.{place}
use Rattle.stripe.specs.Refusals.{misplaced, zero_or_above, misnumbered, behind, note_rules, write_rules, restart_rules, compact_rules}

-- Refusal 14
pub record Placed (e : Extent) (image : ℕ) : Type 0 where
  pub some : 0 < e.len
  pub inside : e.first + e.len ≤ image
  pub short : pred (e.first + e.len) ≤ eof

pub placed : (e : Extent) (image : ℕ) → misplaced e image ≡ false → Placed e image
placed e image h = search (or_left, or_right, not-zero, ltb-false)

-- Refusal 15: the age of the place is sane, and fits its bytes
pub record Numbered (e : Extent) : Type 0 where
  pub sane : sane (place e).age ≡ true
  pub fits : age_of (place e) ≤ highest_age

above_zero : (most n : ℕ) → zero_or_above most n ≡ false → 0 < n
above_zero most n h = search (or_left, not-zero)

not-above : (most n : ℕ) → zero_or_above most n ≡ false → n ≤ most
not-above most n h = search (or_right, ltb-false)

pub numbered : (e : Extent) → misnumbered e ≡ false → Numbered e
unfolding sane
numbered e h =
    let n : zero_or_above (highest width) e.age.number.0 ≡ false = or_left (zero_or_above (highest width) e.age.number.0) (zero_or_above highest_pass e.age.pass.0) h in
    let p : zero_or_above highest_pass e.age.pass.0 ≡ false = or_right (zero_or_above (highest width) e.age.number.0) (zero_or_above highest_pass e.age.pass.0) h in
    let a = above_zero (highest width) e.age.number.0 n in
    let b = above_zero highest_pass e.age.pass.0 p in
    let c = not-above highest_pass e.age.pass.0 p in
    record { sane = rw (lt-ltb 0 e.age.number.0 a, lt-ltb 0 e.age.pass.0 b, le-leb e.age.pass.0 highest_pass c); fits = fits-age e.age (not-above (highest width) e.age.number.0 n) c }

pub numbered-pos : (e : Extent) → Numbered e → 0 < age_of (place e)
numbered-pos e n = sane-pos (place e).age n.sane

pub numbered-exact : (e : Extent) → Numbered e → Exact (place e).age
numbered-exact e n = sane-exact (place e).age n.sane

pub place-valid : {image : ℕ} (e : Extent) → Placed e image → Numbered e → Valid (place e)
place-valid e p n =
    let h : e.first ≤ pred (e.first + e.len) = omega arith in
    record { rising = h; short = p.short; some = n.sane }

-- Refusal 18
pub not_behind : (map : List Run) (age b len : ℕ) → behind map age b len ≡ false → (x : ℕ) → b ≤ x → x < b + len → age ≤ owner map x
unfolding behind
not_behind map age b zero e x h k = absurd (omega arith)
not_behind map age b (suc len) e x h k =
    ⊎_elim
    (λ (u : suc b ≤ x). not_behind map age (suc b) len (search or_right) x u (omega arith))
    (λ (u : x ≤ b).
    let q : b ≡ x = omega arith in
    subst (λ (y : ℕ). age ≤ owner map y) q (search (or_left, ltb-false)))
    (below b x)

-- The facts are read off the kept rules. Whether map and log are sound is a test of the caller's
all-kept : (rs : List Rule) → T (counted rs) → first_hit rs ≡ 0 → T (kept rs)
all-kept rs c e = unbroken rs c (eq→eqb (first_hit rs) 0 e)

ruleset reading = (and_l, and_r, undo, true-is, false-is, placed, numbered, not_behind, ltb-false, leb-false)

pub record NoteFacts (map_sound log_sound : Bool) (map log : List Run) (e : Extent) (image : ℕ) : Type 0 where
  pub mapped : map_sound ≡ true
  pub logged : log_sound ≡ true
  pub placed : Placed e image
  pub numbered : Numbered e
  pub few : length (raise (place e) map) ≤ max_runs
  pub room : length log < max_entries

pub note-facts :
    (map_sound log_sound : Bool) (map log : List Run) (e : Extent) (image : ℕ) → first_hit (note_rules map_sound log_sound map log e image) ≡ 0
    → NoteFacts map_sound log_sound map log e image
note-facts m l map log e image h =
    let k = all-kept (note_rules m l map log e image) tt h in
    search reading depth 12

pub record WriteFacts (map_sound : Bool) (map : List Run) (e : Extent) (image : ℕ) : Type 0 where
  pub mapped : map_sound ≡ true
  pub placed : Placed e image
  pub numbered : Numbered e
  pub above : (b : ℕ) → e.first ≤ b → b < e.first + e.len → age_of (place e) ≤ owner map b

pub write-facts :
    (map_sound : Bool) (map : List Run) (e : Extent) (image : ℕ) → first_hit (write_rules map_sound map e image) ≡ 0
    → WriteFacts map_sound map e image
write-facts m map e image h =
    let k = all-kept (write_rules m map e image) tt h in
    search reading depth 12

pub record RestartFacts (map_fits log_sound : Bool) (log : List Run) : Type 0 where
  pub mapped : map_fits ≡ true
  pub logged : log_sound ≡ true
  pub few : length (map_of log) ≤ max_runs

pub restart-facts : (map_fits log_sound : Bool) (log : List Run) → first_hit (restart_rules map_fits log_sound log) ≡ 0 → RestartFacts map_fits log_sound log
restart-facts m l log e =
    let k = all-kept (restart_rules m l log) tt e in
    search reading depth 12

pub facts-restart : (map_fits log_sound : Bool) (log : List Run) → RestartFacts map_fits log_sound log → first_hit (restart_rules map_fits log_sound log) ≡ 0
facts-restart m l log k = rw (k.mapped, k.logged, le-ltb max_runs (length (map_of log)) k.few)

pub record CompactFacts (new_fits log_sound : Bool) (log : List Run) : Type 0 where
  pub fits : new_fits ≡ true
  pub logged : log_sound ≡ true
  pub few : length (map_of log) ≤ max_runs

pub compact-facts : (new_fits log_sound : Bool) (log : List Run) → first_hit (compact_rules new_fits log_sound log) ≡ 0 → CompactFacts new_fits log_sound log
compact-facts n l log e =
    let k = all-kept (compact_rules n l log) tt e in
    let b : (not n || not l) ≡ false = search reading depth 12 in
    record {
      fits = not-false n (or_left (not n) (not l) b);
      logged = not-false l (or_right (not n) (not l) b);
      few = search reading depth 12;
    }

pub facts-compact : (new_fits log_sound : Bool) (log : List Run) → CompactFacts new_fits log_sound log → first_hit (compact_rules new_fits log_sound log) ≡ 0
facts-compact n l log k = rw (k.fits, k.logged, le-ltb max_runs (length (map_of log)) k.few)
