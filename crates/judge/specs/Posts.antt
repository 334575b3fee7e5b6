-- What judging and finding promise to serving. No public contract of the store cites this file.
use Rattle.std.specs.Prelude.{ℕ, ◌<◌, ◌≡◌, Bool, true, false, List, Option, MatchOption, ◌&&◌, T, eqb, Result, IfOk}
use Rattle.common.specs.Ranges.{within}
use Rattle.common.specs.declared.Refusal.{Refusal}
use Rattle.common.specs.Tests.{any}
use Rattle.common.specs.Refusals.{first_hit, answer_of}
use Rattle.modes.specs.Codes.{asked, canceling, bw, pw}
use Rattle.table.specs.declared.Lock.{Lock}
use Rattle.table.specs.Table.{Table, handle_of, nth}
use Rattle.table.specs.Places.{First}
use Rattle.locks.specs.declared.Item.{Item}
use Rattle.locks.specs.declared.Message.{Message}
use Rattle.locks.specs.declared.Message.TheVariants.{Request, Acknowledge, Downgrade}
use Rattle.locks.specs.Settle.{in_state}
use Rattle.locks.specs.Refusals.{named, naming_rules}
use Rattle.locks.specs.Serve.{downgraded}
use Rattle.judge.specs.declared.Asked.{Asked}
use Rattle.judge.specs.declared.Becomes.{Becomes}
use Rattle.judge.specs.declared.Becomes.TheVariants.{Canceling, Nbw}

-- the message of a request; what an item of a list asks for: "such a request is marked"
abbrev pub requests : Asked → Message
requests a = Request a.client a.stripe a.mode a.first a.last a.marked

abbrev pub asked_by : Item → Asked
asked_by x = record { client = x.client; stripe = x.stripe; mode = x.mode; first = x.first; last = x.last; marked = true }

-- the record with the handle h
abbrev pub has : ℕ → Lock → Bool
has h r = eqb (handle_of r) h

-- where the first of the n records rs that has the handle h stands, if one has it
abbrev pub FindsFirst : ℕ → List Lock → ℕ → Option ℕ → Type 0
FindsFirst n rs h r = MatchOption r (any (has h) rs ≡ false) (λ i. (i < n) × First (has h) n rs i)

-- what a message of the client c on the handle h finds in the table X of n records: its refusal by 3, 9 and 10, or the place of its record
pub record Finds (n : ℕ) (X : Table) (c h : ℕ) (r : Result ℕ Refusal) : Type 0 where
  pub judges : answer_of r ≡ first_hit (naming_rules X c h (named c h))
  pub inside : IfOk r (λ i. i < n)
  pub its : IfOk r (λ i. T (named c h (nth X i)))

-- a message that makes another of the client's record: what 11 asks of the record, and what it becomes
abbrev pub asks : Becomes → ℕ → ℕ → Message
asks Canceling c h = Acknowledge c h
asks Nbw c h = Downgrade c h

abbrev pub ready : Becomes → Lock → Bool
ready Canceling r = eqb r.state asked
ready Nbw r = eqb r.state canceling && within bw r.mode pw

abbrev pub becoming : Becomes → Lock → Lock
becoming Canceling r = in_state canceling r
becoming Nbw r = downgraded r
