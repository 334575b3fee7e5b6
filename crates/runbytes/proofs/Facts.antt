-- What is known of sound bytes: their length, their count, and each of their runs.
use Prim.Native.Nat.{ℕ, ◌≤◌, ◌<◌}
use mathlib.Core.Path.{◌≡◌}
use mathlib.Core.Bool.{true}
use mathlib.Core.List.{List}
use lib.ListN.{length}
use borrow.Author.Tests.{eqb-true}
use Rattle.common.specs.Counters.{width}
use Rattle.common.proofs.Bools.{and_left, and_right}
use Rattle.xdr.specs.Be.{be}
use Rattle.common.proofs.Rests.{all-get}
use Rattle.runs.specs.Owner.{run}
use Rattle.runs.specs.Sound.{max_runs, max_entries, valid, all_valid, sound_map}
use Rattle.runs.specs.Bytes.{map_size, log_size, runs_of, sound_map_bytes, sound_log_bytes}
use Rattle.runs.specs.Valid.{Valid}
use Rattle.runs.proofs.Valid.{valid-is}
use Rattle.runs.proofs.Sound.{sound-is, log_is}
use Rattle.runbytes.specs.Places.{run_at}
use Rattle.runbytes.proofs.Places.{runs-length, runs-at}

pub record MapFacts (s : List ℕ) : Type 0 where
  pub long : length s ≡ map_size width
  pub few : be 4 s 0 ≤ max_runs
  pub sound : sound_map (runs_of width s) ≡ true
  pub good : all_valid (runs_of width s) ≡ true

pub map-facts : (s : List ℕ) → sound_map_bytes s ≡ true → MapFacts s
unfolding sound_map_bytes
map-facts s e =
    let e' : sound_map (runs_of width s) ≡ true = search (and_left, and_right) in
    let f = sound-is (runs_of width s) e' in
    record { long = search (eqb-true, and_left); few = rw runs-length at f.few; sound = e'; good = f.good }

pub record LogFacts (s : List ℕ) : Type 0 where
  pub long : length s ≡ log_size width
  pub few : be 4 s 0 ≤ max_entries
  pub good : all_valid (runs_of width s) ≡ true

pub log_facts : (s : List ℕ) → sound_log_bytes s ≡ true → LogFacts s
unfolding sound_log_bytes
log_facts s e =
    let f = log_is (runs_of width s) (search and_right) in
    record { long = search (eqb-true, and_left); few = rw runs-length at f.few; good = f.good }

pub valid-at : (s : List ℕ) (i : ℕ) → i < be 4 s 0 → all_valid (runs_of width s) ≡ true → Valid (run_at s i)
valid-at s i h v = rw (← runs-at s i h (run 0 0 0)) (valid-is _ (all-get valid (run 0 0 0) (runs_of width s) i (rw runs-length h) v))
