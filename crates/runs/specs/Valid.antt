-- What a valid run has, as facts: what functions ask of a run. No public contract cites this file.
use Rattle.std.specs.Prelude.{◌≤◌, ◌≡◌, true}
use Rattle.common.specs.Ranges.{eof}
use Rattle.runs.specs.declared.Run.{Run}
use Rattle.runs.specs.Sound.{sane}

pub record Valid (r : Run) : Type 0 where
  pub rising : r.first ≤ r.last
  pub short : r.last ≤ eof
  pub some : sane r.age ≡ true
