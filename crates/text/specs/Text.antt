-- Numbers and lines as text, in bytes.
use Rattle.std.specs.Prelude.{ℕ, zero, suc, ◌+◌, ◌*◌, ◌/◌, ◌%◌, cond, List, [], ◌∷◌, ◌++◌, ltb, eqb}
use Prim.Native.Char.{code}
use Rattle.locks.specs.declared.Message.{Message}
use Rattle.locks.specs.declared.Message.TheVariants.{Request, Acknowledge, Downgrade, Release}
use Rattle.line.specs.Format.{bytes}

-- n, which has at most k + 1 digits, in decimal
unfoldable pub digits_of : ℕ → ℕ → List ℕ
digits_of zero n = (code "0" + n) ∷ []
digits_of (suc k) n = cond (ltb n 10) ((code "0" + n) ∷ []) (digits_of k (n / 10) ++ ((code "0" + n % 10) ∷ []))

-- Numbers up to 2^64 - 1 have at most 20
unfoldable pub decimal : ℕ → List ℕ
decimal n = digits_of 19 n

-- Each number behind a comma
unfoldable pub fields_text : List ℕ → List ℕ
fields_text [] = []
fields_text (n ∷ ns) = code "," ∷ (decimal n ++ fields_text ns)

-- A message as a line
abbrev pub letter_of : Message → ℕ
letter_of (Request c s m f l k) = code "R"
letter_of (Acknowledge c h) = code "A"
letter_of (Downgrade c h) = code "D"
letter_of (Release c h) = code "F"

abbrev pub numbers_of : Message → List ℕ
numbers_of (Request c s m f l k) = c ∷ s ∷ m ∷ f ∷ l ∷ []
numbers_of (Acknowledge c h) = c ∷ h ∷ []
numbers_of (Downgrade c h) = c ∷ h ∷ []
numbers_of (Release c h) = c ∷ h ∷ []

abbrev pub message_text : Message → List ℕ
message_text m = letter_of m ∷ fields_text (numbers_of m)

-- "writes CR LF lines": a line's letter, its numbers, its break
abbrev pub line_break : List ℕ
line_break = bytes "\r\n"

unfoldable pub line_text : ℕ → List ℕ → List ℕ
line_text l ns = l ∷ (fields_text ns ++ line_break)

-- "Any other line is answered `?` alone. Otherwise `=,refusal,handle` .."
abbrev pub bad_text : List ℕ
bad_text = line_text (code "?") []

abbrev pub answer_text : ℕ → ℕ → List ℕ
answer_text refusal handle = line_text (code "=") (refusal ∷ handle ∷ [])

-- ".. then per event `G` or `V`, handle, client, stripe, mode, state, number, first, last". An event is its numbers, the kind in front
abbrev pub kind_letter : ℕ → ℕ
kind_letter k = cond (eqb k 1) (code "G") (cond (eqb k 2) (code "V") (code "?"))

unfoldable pub event_text : List ℕ → List ℕ
event_text [] = []
event_text (kind ∷ ns) = line_text (kind_letter kind) ns

unfoldable pub events_text : List (List ℕ) → List ℕ
events_text [] = []
events_text (e ∷ es) = event_text e ++ events_text es

abbrev pub outcome_text : ℕ → ℕ → List (List ℕ) → List ℕ
outcome_text refusal handle es = answer_text refusal handle ++ events_text es

-- The most bytes of a line of n numbers, with 20 digits each; of an answer's line and the lines of n events
abbrev pub line_size : ℕ → ℕ
line_size n = 3 + 21 * n

abbrev pub outcome_size : ℕ → ℕ
outcome_size n = line_size 2 + line_size 8 * n
