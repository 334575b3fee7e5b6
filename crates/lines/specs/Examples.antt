-- Lines with each kind of break.
use Rattle.std.specs.Prelude.{◌≡◌, refl, [], ◌∷◌}
use Rattle.line.specs.Format.{bytes}
use Rattle.lines.specs.Lines.{lines_from}

pub lines_end : lines_from [] (bytes "a\r\n\nb\rc\r\r\nd\r") ≡ bytes "a" ∷ [] ∷ bytes "b\rc\r" ∷ bytes "d\r" ∷ []
unfolding lines_from
lines_end = refl
