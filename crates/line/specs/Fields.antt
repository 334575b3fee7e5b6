-- What is read of a line so far: the number that was taken, if one was, and what is left.
use Rattle.std.specs.Prelude.{ℕ, cond, ◌-◌, List, Some, None}
use Prim.Native.Char.{code}
use Rattle.std.specs.declared.option.Option.{Option}
use Rattle.common.specs.Ranges.{within}
use Rattle.line.specs.Format.{Reading, right, wrong}

-- What a number and what is left say of a line
abbrev pub reading : Option ℕ → List ℕ → Reading
reading None s = wrong
reading (Some v) s = right v s

-- A digit's value, if a byte is one
abbrev pub digit_in : ℕ → Option ℕ
digit_in b = cond (within (code "0") b (code "9")) (Some (b - code "0")) None
