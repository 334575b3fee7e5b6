-- Ages: by what runs and pieces are judged. Document 02, #103: "age is judged by number first and pass second". What is judged
-- speaks of an age by its one ℕ.
use Rattle.std.specs.Prelude.{ℕ, ◌+◌, ◌*◌, ◌-◌, ◌/◌, ◌%◌, ◌^◌, ◌≡◌}
use Rattle.common.specs.Counters.{number}
use Rattle.runs.specs.declared.Pass.{Pass}
use Rattle.runs.specs.declared.Age.{Age}

abbrev pub pass : ℕ → Pass
pass n = record { 0 = n }

-- The age of a number and a pass
abbrev pub pair : ℕ → ℕ → Age
pair n p = record { number = number n; pass = pass p }

-- "a 4-byte pass": how many numbers its bytes tell apart, and the highest of them
abbrev pub pass_width : ℕ
pass_width = 4

abbrev pub passes : ℕ
passes = 256 ^ pass_width

abbrev pub highest_pass : ℕ
highest_pass = passes - 1

-- The ℕ of an age: the older of two ages has the smaller
unfoldable pub value_of : Age → ℕ
value_of a = a.number.0 * passes + a.pass.0

-- The age of an ℕ. "A byte in no run has number 0", and pass 0
unfoldable pub age : ℕ → Age
age n = pair (n / passes) (n % passes)

-- The ℕ says all of the age: its pass is one of the `passes`
unfoldable pub Exact : Age → Type 0
Exact a = age (value_of a) ≡ a
