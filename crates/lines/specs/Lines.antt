-- The input as lines: "CR LF or LF", "The last line may lack its line break."
use Rattle.std.specs.Prelude.{ℕ, ◌-◌, cond, List, [], ◌∷◌, ◌++◌, eqb, length, get_or, take}
use Prim.Native.Char.{code}

-- A line up to its LF, without the CR of its break
abbrev pub bare : List ℕ → List ℕ
bare p = cond (eqb (get_or p (length p - 1) 0) (code "\r")) (take (length p - 1) p) p

-- The lines of the input s, where p is what came of the first line before s
unfoldable pub lines_from : List ℕ → List ℕ → List (List ℕ)
lines_from p [] = cond (eqb (length p) 0) [] (p ∷ [])
lines_from p (b ∷ s) = cond (eqb b (code "\n")) (bare p ∷ lines_from [] s) (lines_from (p ++ (b ∷ [])) s)

-- The lines that end in a piece s of the input, and what it leaves of the next
unfoldable pub lines_in : List ℕ → List ℕ → List (List ℕ)
lines_in p [] = []
lines_in p (b ∷ s) = cond (eqb b (code "\n")) (bare p ∷ lines_in [] s) (lines_in (p ++ (b ∷ [])) s)

unfoldable pub left : List ℕ → List ℕ → List ℕ
left p [] = p
left p (b ∷ s) = cond (eqb b (code "\n")) (left [] s) (left (p ++ (b ∷ [])) s)
