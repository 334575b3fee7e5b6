-- What storing zeros leaves. No public contract cites this file.
use Rattle.std.specs.Prelude.{ℕ, zero, suc, List, [], ◌∷◌}

-- the bytes with zeros from a place on
unfoldable pub cleared : ℕ → List ℕ → List ℕ
cleared from [] = []
cleared zero (x ∷ xs) = 0 ∷ cleared zero xs
cleared (suc from) (x ∷ xs) = x ∷ cleared from xs
