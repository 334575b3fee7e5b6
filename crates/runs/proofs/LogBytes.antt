-- The bytes of a log with these entries say them; with one entry more they say one entry more; and the bytes past a log's entries say nothing.
use Prim.Native.Nat.{ℕ, ◌+◌, ◌≤◌, ◌<◌}
use native.Mathlib.Omega.{arith}
use native.Mathlib.Numerals.{add-one}
use mathlib.Core.Bool.{true}
use mathlib.Core.List.{List, [], ◌∷◌, ◌++◌, map, map-append}
use mathlib.Core.Path.{◌≡◌, refl, ap, subst, ◌∙◌}
use lib.Dec.{eqb}
use lib.ListN.{length, get_or, drop, length-append, length-map}
use borrow.Author.Tests.{eq-eqb, eqb-true}
use Rattle.common.specs.Counters.{width}
use Rattle.common.specs.Tests.{zeros}
use Rattle.common.proofs.Bools.{and_left, and_right}
use Rattle.xdr.specs.Be.{be, put_be}
use Rattle.xdr.specs.Layout.{fields, put_fields, size, Fit}
use Rattle.xdr.specs.Array.{array, Fits}
use Rattle.xdr.specs.Tab.{tab}
use Rattle.xdr.proofs.Numbers.{be-put-same, put-length, put_other}
use Rattle.xdr.proofs.Fields.{fields-ext, fields-put, put-fields-length, put-fields-other}
use Rattle.xdr.proofs.Tabs.{tab-ext, tab-snoc, length-tab}
use Rattle.xdr.proofs.Arrays.{fields-put-count, array-ext}
use Rattle.runs.specs.declared.Run.{Run}
use Rattle.runs.specs.Sound.{max_entries, all_valid, sound_log}
use Rattle.runs.specs.Valid.{Valid}
use Rattle.runs.specs.Bytes.{run_layout, run_of, run_fields, runs_of, log_size, run_place, runs_end, sound_log_bytes, log_bytes, appended}
use Rattle.runs.proofs.Valid.{valid-snoc}
use Rattle.runs.proofs.Sound.{log_is, is-log}
use Rattle.runs.proofs.MapBytes.{bytes-length, bytes_back, bytes-tail}

-- What a sound log's bytes have
pub record LogBytes (log : List ℕ) : Type 0 where
  pub long : length log ≡ log_size width
  pub sound : sound_log (runs_of width log) ≡ true

pub log-bytes : (log : List ℕ) → sound_log_bytes log ≡ true → LogBytes log
unfolding sound_log_bytes
log-bytes log e =
    record {
      long = eqb-true (length log) (log_size width) (and_left (eqb (length log) (log_size width)) (sound_log (runs_of width log)) e);
      sound = and_right (eqb (length log) (log_size width)) (sound_log (runs_of width log)) e;
    }

pub bytes-log : (log : List ℕ) → LogBytes log → sound_log_bytes log ≡ true
unfolding sound_log_bytes
bytes-log log b = rw (eq-eqb (length log) (log_size width) b.long, b.sound)

-- A log with these entries and zeros after
module _ (es : List Run) (fit : Fits (run_layout width) (map run_fields es)) (good : all_valid es ≡ true) (few : length es ≤ max_entries) where
  pub entries-back : runs_of width (log_bytes width es) ≡ es
  unfolding log_bytes
  entries-back = bytes_back (log_size width) es fit (omega arith) (omega arith)

  pub entries-sound : sound_log_bytes (log_bytes width es) ≡ true
  unfolding log_bytes
  entries-sound =
      bytes-log (log_bytes width es)
      (record { long = bytes-length (log_size width) es fit (omega arith) (omega arith); sound = rw entries-back (is-log es (record { few = few; good = good })) })

  pub entries-tail : zeros (drop (runs_end width (log_bytes width es)) (log_bytes width es)) ≡ true
  unfolding log_bytes
  entries-tail = bytes-tail (log_size width) es fit (omega arith) (omega arith)

-- the fields of entry i; how many entries there are
abbrev entry : List ℕ → ℕ → List ℕ
entry log i = fields (run_layout width) log (run_place width i) 0

pub entries : (log : List ℕ) → length (runs_of width log) ≡ be 4 log 0
unfolding runs_of array
entries log = length-map (tab (be 4 log 0) (entry log)) run_of ∙ length-tab (be 4 log 0) (entry log)

-- A log with one entry more: no byte changes but those of the new entry and of the count
module _ (log : List ℕ) (r : Run) where
  pub log-other : (k : ℕ) → 4 ≤ k → ((j : ℕ) → j < size (run_layout width) → k ≡ runs_end width log + j → ⊥) → get_or (appended width log r) k 0 ≡ get_or log k 0
  unfolding appended
  log-other k h o =
      put_other 4 _ 0 _ k (λ j p e. omega arith)
      ∙ put-fields-other (run_layout width) log _ 0 (run_fields r) k (λ j p e. o j p (omega arith))

  pub log-long : length (appended width log r) ≡ length log
  unfolding appended
  log-long = put-length 4 _ 0 _ ∙ put-fields-length (run_layout width) log _ 0 (run_fields r)

module _ (log : List ℕ) (r : Run) (l : LogBytes log) (room : length (runs_of width log) < max_entries) (fit : Fit (run_layout width) (run_fields r)) where
  n : ℕ
  n = be 4 log 0

  -- the entry is put down, and then the count
  put : List ℕ
  put = put_fields (run_layout width) log (run_place width n) 0 (run_fields r)

  appended-is : appended width log r ≡ put_be 4 put 0 (n + 1)
  unfolding appended put n
  appended-is = refl

  few : n < max_entries
  unfolding n
  few = subst (λ (k : ℕ). k < max_entries) (entries log) room

  pub log-count : be 4 (appended width log r) 0 ≡ be 4 log 0 + 1
  unfolding n put
  log-count = rw appended-is (be-put-same 4 put 0 (n + 1) (rw put-fields-length (let z = l.long in omega arith)) (let z = few in omega arith))

  older : (i : ℕ) → i < n → entry (appended width log r) i ≡ entry log i
  unfolding n
  older i h = fields-ext (run_layout width) _ log (run_place width i) (run_place width i) 0 (λ j p. log-other log r (run_place width i + (0 + j)) (omega arith) (λ k q e. omega arith))

  newer : entry (appended width log r) n ≡ run_fields r
  unfolding put
  newer =
      rw appended-is (fields-put-count (run_layout width) put 0 (n + 1) n)
      ∙ fields-put (run_layout width) log (run_place width n) 0 (run_fields r) (let z = few in let y = l.long in omega arith) fit

  pub log_back : runs_of width (appended width log r) ≡ runs_of width log ++ (r ∷ [])
  unfolding runs_of array n
  log_back =
      ap (λ (k : ℕ). map run_of (tab k (entry (appended width log r)))) (log-count ∙ add-one n)
      ∙ ap (map run_of) (tab-snoc n (entry (appended width log r)) ∙ ap (λ (x : List ℕ). tab n (entry (appended width log r)) ++ (x ∷ [])) newer
      ∙ ap (λ (xs : List (List ℕ)). xs ++ (run_fields r ∷ [])) (tab-ext n (entry (appended width log r)) (entry log) older))
      ∙ map-append run_of (tab n (entry log)) (run_fields r ∷ [])

  pub log-back-sound : Valid r → sound_log_bytes (appended width log r) ≡ true
  log-back-sound v =
      bytes-log (appended width log r)
      (record {
        long = log-long log r ∙ l.long;
        sound = rw log_back (is-log (runs_of width log ++ (r ∷ []))
            (record { few = omega (arith, length-append (runs_of width log) (r ∷ [])); good = valid-snoc (runs_of width log) r (log_is (runs_of width log) l.sound).good v }));
      })

-- Two logs that agree up to the end of the entries
pub log-same : (log log' : List ℕ) → ((b : ℕ) → b < runs_end width log → get_or log b 0 ≡ get_or log' b 0) → runs_of width log ≡ runs_of width log'
unfolding runs_of
log-same log log' h = ap (map run_of) (array-ext (run_layout width) log log' 0 0 (λ j p. let q : ◌≡◌ {A = ℕ} (0 + j) j = omega arith in rw q (h j (omega arith))))
