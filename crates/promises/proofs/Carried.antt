-- What every run carries: the log's bytes are sound, its numbers small, its map short; the map, while it is not lost, is sound and is the log's map;
-- and a second log that is ready has the runs of that map.
use Prim.Native.Nat.{ℕ, ◌≤◌, ◌<◌}
use native.Mathlib.Omega.{arith}
use mathlib.Core.Bool.{Bool, true, false, ◌&&◌, cond}
use mathlib.Core.List.{List, [], ◌∷◌, ◌++◌}
use mathlib.Core.Path.{◌≡◌, refl, sym, ap, subst, subst₂, ◌∙◌}
use lib.Dec.{eqb, ltb}
use lib.ListN.{length, get_or, replicate, length-replicate}
use borrow.Author.Tests.{eqb-true, eq-eqb, lt-ltb}
use Rattle.common.specs.Counters.{width}
use Rattle.xdr.specs.Be.{put_be}
use Rattle.xdr.specs.Array.{put_array, put_elements}
use Rattle.xdr.proofs.Numbers.{put-be}
use Rattle.xdr.proofs.Tabs.{length-tab, get_or-tab}
use Rattle.runs.specs.declared.Run.{Run}
use Rattle.runs.specs.Owner.{owner}
use Rattle.runs.specs.Map.{map_of, raise, draw, end}
use Rattle.runs.specs.Sound.{max_runs, sound_map}
use Rattle.runs.specs.Bytes.{runs_of, runs_end, map_size, log_size, sound_map_bytes, sound_log_bytes, bytes_of, map_bytes, log_bytes, appended}
use Rattle.runs.proofs.Ages.{highest_age}
use Rattle.runs.proofs.Over.{over-is, owner-snoc}
use Rattle.runs.proofs.Draw.{map-canon, map-owner}
use Rattle.runs.proofs.Unique.{map-map, map_snoc}
use Rattle.runs.proofs.Sound.{sound-is, log_is, map-sound}
use Rattle.common.proofs.Blank.{blank, be-blank}
use Rattle.runs.proofs.Blank.{none-counted, none-logged, no-runs, empty-map}
use Rattle.runs.proofs.MapBytes.{map-fits, map_back, map-back-sound}
use Rattle.runs.proofs.LogBytes.{LogBytes, log-bytes, bytes-log, entries-back, entries-sound, entries, log-same}
use Rattle.stripe.specs.declared.Extent.{Extent}
use Rattle.stripe.specs.Piece.{place}
use Rattle.note.specs.Note.{note_answer, note_map, note_log}
use Rattle.restart.specs.Restart.{restart_answer, restart_map}
use Rattle.compact.specs.Compact.{compact_answer, compact_log}
use Rattle.stripe.proofs.Accepted.{NoteFacts, facts-restart, facts-compact}
use Rattle.promises.specs.Logged.{Appends, Raises}
use Rattle.promises.specs.Run.{Piece, extent_of, place_of, size, Map, lost, live, Second, none, ready, Stripe, EmptyLog, begin}
use Rattle.promises.specs.Run.{Step, note, note_cut, write, write_cut, restart, compact, compact_cut, turn, turn_cut, cut, note_ok, outdated, after_note, after_write, after_turn, scrambled, unplugged, next}
use Rattle.promises.specs.Demand3.{SecondLog}
use Rattle.promises.proofs.Logged.{accepted, appends, raises}

abbrev pub entries_of : Stripe → List Run
entries_of s = runs_of width s.log

abbrev pub IsMap : Map → List ℕ → Type 0
IsMap lost log = Unit {0}
IsMap (live m) log = (sound_map_bytes m ≡ true) × (runs_of width m ≡ map_of (runs_of width log)) × (m ≡ map_bytes width (map_of (runs_of width log)))

pub record Log (log : List ℕ) : Type 0 where
  pub sound : LogBytes log
  pub small : (b : ℕ) → owner (runs_of width log) b ≤ highest_age
  pub few : length (map_of (runs_of width log)) ≤ max_runs

pub record Carried (s : Stripe) : Type 0 where
  pub log : Log s.log
  pub map : IsMap s.map s.log
  pub second : SecondLog s.second s.log

-- An accepted note: the log's bytes say one entry more, and the map's bytes are those of its map
pub record Noted (m l : List ℕ) (p : Piece) (image : ℕ) : Type 0 where
  pub some : 0 < size p
  pub log : Log (note_log m l (extent_of p) image)
  pub entries : runs_of width (note_log m l (extent_of p) image) ≡ runs_of width l ++ (place_of p ∷ [])
  pub map : IsMap (live (note_map m l (extent_of p) image)) (note_log m l (extent_of p) image)

pub noted : (m log : List ℕ) (p : Piece) (image : ℕ) → Log log → IsMap (live m) log → eqb (note_answer m log (extent_of p) image) 0 ≡ true → Noted m log p image
noted m log p image L M e =
    record {
      some = F.placed.some;
      log = record {
        sound = log-bytes _ A.sound;
        small = λ b. rw (A.entries, owner-snoc (runs_of width log) r b) (let o = over-is (λ (k : ℕ). k ≤ highest_age) r b F.numbered.fits (omega arith) in omega (arith, L.small b));
        few = rw (A.entries, map_snoc (runs_of width log) r) (rw M.1 at F.few);
      };
      entries = A.entries;
      map = (R.sound, R.runs ∙ drawn, R.bytes ∙ ap (map_bytes width) drawn);
    }
  where
    r : Run
    r = place_of p

    z : note_answer m log (extent_of p) image ≡ 0
    z = eqb-true _ 0 e

    F : NoteFacts (sound_map_bytes m) (sound_log_bytes log) (runs_of width m) (runs_of width log) (extent_of p) image
    F = accepted m log (extent_of p) image z

    A : Appends log r (note_log m log (extent_of p) image)
    A = appends m log (extent_of p) image z

    R : Raises m r (note_map m log (extent_of p) image)
    R = raises m log (extent_of p) image z (λ b. rw (M.1, map-owner (runs_of width log) b) (L.small b))

    drawn : raise r (runs_of width m) ≡ map_of (runs_of width (note_log m log (extent_of p) image))
    drawn = ap (λ (l : List Run). raise r l) M.1 ∙ sym (map_snoc (runs_of width log) r) ∙ ap map_of (sym A.entries)

-- Bytes past the entries say nothing
module _ (junk : ℕ → ℕ) (log : List ℕ) (L : Log log) where
  inside : runs_end width log ≤ length log
  inside = let e = entries log in let h = (log_is (runs_of width log) L.sound.sound).few in let l = L.sound.long in omega arith

  scrambled-same : (b : ℕ) → b < runs_end width log → get_or log b 0 ≡ get_or (scrambled junk log) b 0
  unfolding scrambled
  scrambled-same b h =
      sym (get_or-tab (length log) (λ b. cond (ltb b (runs_end width log)) (get_or log b 0) (junk b)) b 0 (let i = inside in omega arith)
      ∙ ap (λ (t : Bool). cond t (get_or log b 0) (junk b)) (lt-ltb b (runs_end width log) h))

  pub scrambled-entries : runs_of width (scrambled junk log) ≡ runs_of width log
  scrambled-entries = sym (log-same log (scrambled junk log) scrambled-same)

  long : length (scrambled junk log) ≡ length log
  unfolding scrambled
  long = length-tab (length log) (λ b. cond (ltb b (runs_end width log)) (get_or log b 0) (junk b))

  pub scrambled-log : Log (scrambled junk log)
  scrambled-log =
      record {
        sound = record { long = long ∙ L.sound.long; sound = rw scrambled-entries L.sound.sound };
        small = λ b. rw scrambled-entries (L.small b);
        few = rw scrambled-entries L.few;
      }

-- A restart answers 0, and leaves the log's map
pub restarts : (buffer log : List ℕ) → Log log → length buffer ≡ map_size width → restart_answer buffer log ≡ 0
unfolding restart_answer
restarts buffer log L h =
    facts-restart (eqb (length buffer) (map_size width)) (sound_log_bytes log) (runs_of width log)
    (record { mapped = eq-eqb (length buffer) (map_size width) h; logged = bytes-log log L.sound; few = L.few })

-- A compaction answers 0
pub compacts : (buffer log : List ℕ) → Log log → length buffer ≡ log_size width → compact_answer log buffer ≡ 0
unfolding compact_answer
compacts buffer log L h =
    facts-compact (eqb (length buffer) (log_size width)) (sound_log_bytes log) (runs_of width log)
    (record { fits = eq-eqb (length buffer) (log_size width) h; logged = bytes-log log L.sound; few = L.few })

-- The log's map is sound: it can be the map, and the entries of a log
module _ (log : List ℕ) (L : Log log) where
  abbrev rs : List Run
  rs = map_of (runs_of width log)

  rs-sound : sound_map rs ≡ true
  rs-sound = map-sound (runs_of width log) (log_is (runs_of width log) L.sound.sound).good L.few

  rs-small : (b : ℕ) → owner rs b ≤ highest_age
  rs-small b = rw (map-owner (runs_of width log) b) (L.small b)

  restarted : (buffer : List ℕ) → eqb (restart_answer buffer log) 0 ≡ true → IsMap (live (restart_map buffer log)) log
  unfolding restart_map
  restarted buffer e =
      subst (λ (m : List ℕ). IsMap (live m) log) (sym (ap (λ (t : Bool). cond t (map_bytes width rs) buffer) e))
      (map-back-sound rs rs-sound rs-small, map_back rs rs-sound rs-small, refl)

  pub turned-entries : runs_of width (log_bytes width rs) ≡ rs
  turned-entries = entries-back rs (map-fits rs rs-sound rs-small) (sound-is rs rs-sound).good (omega (arith, L.few))

  turned-map : map_of (runs_of width (log_bytes width rs)) ≡ rs
  turned-map = ap map_of turned-entries ∙ map-map rs (map-canon (runs_of width log))

  turned-log : Log (log_bytes width rs)
  turned-log =
      record {
        sound = log-bytes (log_bytes width rs) (entries-sound rs (map-fits rs rs-sound rs-small) (sound-is rs rs-sound).good (omega (arith, L.few)));
        small = λ b. rw turned-entries (rs-small b);
        few = rw turned-map L.few;
      }

compacted : (buffer log : List ℕ) → eqb (compact_answer log buffer) 0 ≡ true → compact_log log buffer ≡ log_bytes width (map_of (runs_of width log))
unfolding compact_log
compacted buffer log e = ap (λ (t : Bool). cond t (log_bytes width (map_of (runs_of width log))) buffer) e

-- Map and second log go by the log's map alone
map-for : (mp : Map) (log log' : List ℕ) → map_of (runs_of width log') ≡ map_of (runs_of width log) → IsMap mp log → IsMap mp log'
map-for lost log log' e M = tt
map-for (live m) log log' e M = (M.0, M.1 ∙ sym e, M.2 ∙ ap (map_bytes width) (sym e))

second-for : (x : Second) (log log' : List ℕ) → map_of (runs_of width log') ≡ map_of (runs_of width log) → SecondLog x log → SecondLog x log'
second-for none log log' e S = tt
second-for (ready n) log log' e S = S ∙ ap (log_bytes width) (sym e)

-- A note leaves no second log, and a refused note leaves it as it was
spent : (x : Second) (log : List ℕ) → SecondLog (outdated true x) log
spent none log = tt
spent (ready n) log = tt

spared : (x : Second) (log : List ℕ) → SecondLog x log → SecondLog (outdated false x) log
spared none log S = tt
spared (ready n) log S = S

-- A refused note changes nothing
pub same_log : (m log : List ℕ) (x : Extent) (i : ℕ) → eqb (note_answer m log x i) 0 ≡ false → note_log m log x i ≡ log
unfolding note_log
same_log m log x i e = ap (λ (t : Bool). cond t (appended width log (place x)) log) e

pub same_map : (m log : List ℕ) (x : Extent) (i : ℕ) → eqb (note_answer m log x i) 0 ≡ false → note_map m log x i ≡ m
unfolding note_map
same_map m log x i e = ap (λ (t : Bool). cond t (map_bytes width (raise (place x) (runs_of width m))) m) e

-- Each step keeps what is carried
note-kept : (mp : Map) (log : List ℕ) (x : Second) (image : List ℕ) (p : Piece) → Log log → IsMap mp log → SecondLog x log
    → Carried (after_note (record { map = mp; log = log; second = x; image = image }) mp p)
unfolding after_note note_ok
note-kept lost log x image p L M S = record { log = L; map = M; second = S }
note-kept (live m) log x image p L M S = go (eqb (note_answer m log (extent_of p) (length image)) 0) refl
  where
    new : Bool → Stripe
    new t = record { map = live (note_map m log (extent_of p) (length image)); log = note_log m log (extent_of p) (length image); second = outdated t x; image = image }

    go : (t : Bool) → eqb (note_answer m log (extent_of p) (length image)) 0 ≡ t → Carried (new t)
    go true e = let N = noted m log p (length image) L M e in record { log = N.log; map = N.map; second = spent x _ }
    go false e =
        let l = same_log m log (extent_of p) (length image) e in
        record {
          log = subst Log (sym l) L;
          map = subst₂ (λ (a l : List ℕ). IsMap (live a) l) (sym (same_map m log (extent_of p) (length image) e)) (sym l) M;
          second = spared x _ (subst (SecondLog x) (sym l) S);
        }

write_kept : (mp : Map) (log : List ℕ) (x : Second) (image : List ℕ) (p : Piece) → Log log → IsMap mp log → SecondLog x log
    → Carried (after_write (record { map = mp; log = log; second = x; image = image }) mp p)
unfolding after_write
write_kept lost log x image p L M S = record { log = L; map = M; second = S }
write_kept (live m) log x image p L M S = record { log = L; map = M; second = S }

-- a cut after bytes past the entries were changed
scrambled-kept : (junk : ℕ → ℕ) (log : List ℕ) (x : Second) (image : List ℕ) → Log log → SecondLog x log → Carried (unplugged (scrambled junk log) x image)
scrambled-kept junk log x image L S =
    record { log = scrambled-log junk log L; map = tt; second = second-for x log (scrambled junk log) (ap map_of (scrambled-entries junk log L)) S }

-- the second log becomes the log
turn-kept : (x : Second) (s : Stripe) → Carried s → SecondLog x s.log → Carried (after_turn s x)
turn-kept none s C S = C
turn-kept (ready n) s C S =
    record {
      log = subst Log (sym S) (turned-log s.log C.log);
      map = map-for s.map s.log n (ap (λ (l : List ℕ). map_of (runs_of width l)) S ∙ turned-map s.log C.log) C.map;
      second = tt;
    }

pub carried : (s : Stripe) (e : Step) → Carried s → Carried (next s e)
unfolding next
carried s (note p) C = note-kept s.map s.log s.second s.image p C.log C.map C.second
carried s (note_cut new junk p) C = go (new && note_ok s s.map p)
  where
    go : (t : Bool) → Carried (unplugged (scrambled junk (cond t (after_note s s.map p).log s.log)) (outdated t s.second) s.image)
    go true = scrambled-kept junk (after_note s s.map p).log (outdated true s.second) s.image (note-kept s.map s.log s.second s.image p C.log C.map C.second).log (spent s.second _)
    go false = scrambled-kept junk s.log (outdated false s.second) s.image C.log (spared s.second s.log C.second)
carried s (write p) C = write_kept s.map s.log s.second s.image p C.log C.map C.second
carried s (write_cut junk p) C = record { log = C.log; map = tt; second = C.second }
carried s (restart buffer) C = go (eqb (restart_answer buffer s.log) 0) refl
  where
    go : (t : Bool) → eqb (restart_answer buffer s.log) 0 ≡ t → Carried (cond t (record { map = live (restart_map buffer s.log); log = s.log; second = s.second; image = s.image }) s)
    go true e = record { log = C.log; map = restarted s.log C.log buffer e; second = C.second }
    go false e = C
carried s (compact buffer) C = go (eqb (compact_answer s.log buffer) 0) refl
  where
    go : (t : Bool) → eqb (compact_answer s.log buffer) 0 ≡ t → Carried (cond t (record { map = s.map; log = s.log; second = ready (compact_log s.log buffer); image = s.image }) s)
    go true e = record { log = C.log; map = C.map; second = compacted buffer s.log e }
    go false e = C
carried s compact_cut C = record { log = C.log; map = tt; second = tt }
carried s turn C = turn-kept s.second s C C.second
carried s (turn_cut true) C = record { log = (turn-kept s.second s C C.second).log; map = tt; second = tt }
carried s (turn_cut false) C = record { log = C.log; map = tt; second = C.second }
carried s cut C = record { log = C.log; map = tt; second = C.second }

-- no runs, in zeros
empty-bytes : (n : ℕ) → bytes_of width n [] ≡ replicate n 0
unfolding put_array put_elements
empty-bytes n = ap (put_be 4 (replicate n 0) 0) (sym (be-blank 4 n 0)) ∙ put-be 4 (replicate n 0) 0 (λ b. let e = blank n b in omega arith)

pub begin-carried : (log image : List ℕ) → EmptyLog log → Carried (begin log image)
unfolding owner map_of draw end map_bytes
begin-carried log image E =
    let no-entry : runs_of width log ≡ [] = none-counted log E.1 in
    record {
      log = record { sound = log-bytes log (none-logged log E.0 E.1); small = λ b. rw no-entry (omega arith); few = rw no-entry (omega arith) };
      map = (
        empty-map,
        no-runs (map_size width) ∙ sym (ap map_of no-entry),
        sym (ap (λ (rs : List Run). map_bytes width (map_of rs)) no-entry ∙ empty-bytes (map_size width)),
      );
      second = tt;
    }

-- all zeros is an empty log
pub zeros-log : EmptyLog (replicate (log_size width) 0)
zeros-log = (length-replicate {A = ℕ} (log_size width) 0, be-blank 4 (log_size width) 0)
