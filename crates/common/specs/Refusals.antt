-- Document 01, "Refusal numbers": the first hit answers, and accepted is 0.
use Rattle.std.specs.Prelude.{ℕ, Bool, cond, List, [], ◌∷◌, eqb, Result, Ok, Err}
use Rattle.common.specs.declared.Refusal.{Refusal}
use Rattle.common.specs.declared.Refusal.TheVariants as r

-- A row of the list of refusals: its number, and whether the call breaks it
pub record Rule : Type 0 where
  pub answer : ℕ
  pub broken : Bool

abbrev pub rule : ℕ → Bool → Rule
rule n b = record { answer = n; broken = b }

abbrev pub first_hit : List Rule → ℕ
first_hit [] = 0
first_hit (r ∷ rs) = cond r.broken r.answer (first_hit rs)

-- "A refused call changes nothing": what a buffer holds after a call that answers n, if an accepted one leaves `new`
abbrev pub leaves : {A : Type 0} → ℕ → A → A → A
leaves n new old = cond (eqb n 0) new old

-- The numbers of the list: "no. 1, event buffer under 11,268 bytes", and so on; document 02, #101, adds 19
abbrev pub refusal_number : Refusal → ℕ
refusal_number r.EventBuffer = 1
refusal_number r.Table = 2
refusal_number r.Client = 3
refusal_number r.Stripe = 4
refusal_number r.Mode = 5
refusal_number r.Range = 6
refusal_number r.Handles = 7
refusal_number r.Records = 8
refusal_number r.NoRecord = 9
refusal_number r.OtherClient = 10
refusal_number r.State = 11
refusal_number r.Map = 12
refusal_number r.Log = 13
refusal_number r.Piece = 14
refusal_number r.Number = 15
refusal_number r.Runs = 16
refusal_number r.Entries = 17
refusal_number r.Smaller = 18
refusal_number r.Items = 19

-- "Accepted is 0": the number that a call answers
abbrev pub answer_of : {A : Type 0} → Result A Refusal → ℕ
answer_of (Ok _) = 0
answer_of (Err r) = refusal_number r
