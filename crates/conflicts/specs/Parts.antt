-- What the parts of the questions answer to each other. No public contract cites this file.
use Rattle.std.specs.Prelude.{ℕ, ◌-◌, min, Bool, not, ◌&&◌, cond, eqb}
use Rattle.common.specs.Ranges.{overlap}
use Rattle.modes.specs.Codes.{nbw, canceling}
use Rattle.modes.specs.Conflict.{conflict}
use Rattle.table.specs.declared.Lock.{Lock}
use Rattle.locks.specs.Settle.{ahead}

-- r has w's stripe, and a byte of what w asks up to l
abbrev pub near : Lock → ℕ → Lock → Bool
near w l r = eqb w.stripe r.stripe && overlap w.first l r.first r.last

-- r is a canceling NBW, which w's mode need not heed
abbrev pub ignores : Lock → Lock → Bool
ignores w r = (eqb r.state canceling && eqb r.mode nbw) && not (conflict w.mode nbw canceling)

-- w's last byte, m so far, cut by r
abbrev pub cut_by : Lock → ℕ → Lock → ℕ
cut_by w m r = cond (ahead w r) (min (r.first - 1) m) m
