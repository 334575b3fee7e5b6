-- Document 01: "Handles and sequence numbers are counted apart."
use Rattle.std.specs.Prelude.{ℕ, ◌-◌, ◌^◌, min}
use Rattle.common.specs.declared.Handle.{Handle}
use Rattle.common.specs.declared.Number.{Number}
use Rattle.common.specs.Ranges.{eof}

abbrev pub handle : ℕ → Handle
handle n = record { 0 = n }

abbrev pub number : ℕ → Number
number n = record { 0 = n }

-- How many bytes a counter has; the highest count of w bytes, never above 2^63 - 1
abbrev pub width : ℕ
width = 4

abbrev pub highest : ℕ → ℕ
highest w = min (256 ^ w - 1) eof
