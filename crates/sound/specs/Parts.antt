-- What the parts of the test answer to each other. No public contract cites this file.
use Rattle.std.specs.Prelude.{ℕ, ◌+◌, ◌≤◌, ◌<◌, Bool, true, ◌&&◌, cond, ◌≡◌, List, [], ◌∷◌, ltb, eqb, length, get_or, drop}
use Rattle.common.specs.Counters.{width, highest}
use Rattle.common.specs.Ranges.{within}
use Rattle.common.specs.Tests.{all, count}
use Rattle.modes.specs.Codes.{waiting, pr, nbw, bw, canceling}
use Rattle.table.specs.declared.Lock.{Lock}
use Rattle.table.specs.Table.{Table, handle_of, number_of, stripe_count, max_records}
use Rattle.table.specs.Sound.{valid, differ, share, wants, room, stripes}
use Rattle.table.specs.Bytes.{table_size}
use Rattle.table.specs.Places.{count_of}

-- bytes of a table's length that say n records
pub record Sized (n : ℕ) (t : List ℕ) : Type 0 where
  pub size : length t ≡ table_size width
  pub count : count_of t ≡ n
  pub most : n ≤ max_records

-- ks has, for each stripe, how many write requests wait for it among the first i of the records
pub record Tallied (i : ℕ) (ks : List ℕ) (rs : List Lock) : Type 0 where
  pub long : length ks ≡ stripe_count
  pub few : (s : ℕ) → s < stripe_count → get_or ks s 0 ≤ i
  pub left : (s : ℕ) → s < stripe_count → get_or ks s 0 + count (wants s) (drop i rs) ≡ count (wants s) rs

-- the handles rise, from above h
unfoldable pub climbs : ℕ → List Lock → Bool
climbs h [] = true
climbs h (r ∷ rs) = ltb h (handle_of r) && climbs (handle_of r) rs

-- what one pass over the records tests
abbrev pub each_sound : ℕ → Table → Bool
each_sound issued t = (all (valid issued t.lasts) t.locks && climbs 0 t.locks) && all (room issued t.lasts t.locks) stripes

-- the number that no other held write lock of its stripe may have; a PR lock has none, and no number is as high
abbrev pub owned : Lock → ℕ
owned a = cond (eqb a.mode pr) (highest width + 1) (number_of a)

-- a is held, and owns this number
pub record Owns (a : Lock) (own : ℕ) : Type 0 where
  pub held : a.state ≡ waiting → ⊥
  pub owns : own ≡ owned a

-- what two records are to each other, but for their handles
unfoldable pub friendly : Lock → Lock → Bool
friendly a b = differ a b && share a b

-- "the one with the smaller number is a canceling NBW and the other is NBW or BW": a, and one of number n, mode m and state s
unfoldable pub smaller_yields : Lock → ℕ → ℕ → ℕ → Bool
smaller_yields a n m s =
    cond (ltb (number_of a) n) ((eqb a.mode nbw && eqb a.state canceling) && within nbw m bw) ((eqb m nbw && eqb s canceling) && within nbw a.mode bw)
