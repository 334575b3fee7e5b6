-- "Mode codes: 1 PR, 2 NBW, 3 BW, 4 PW. State codes: 0 waiting, 1 granted, 2 asked (revocation sent), 3 canceling."
use Rattle.std.specs.Prelude.{ℕ, Bool, cond, eqb, leb, Option, Some, None}
use Rattle.common.specs.Ranges.{within}
use Rattle.modes.specs.declared.Mode.{Mode}
use Rattle.modes.specs.declared.Mode.TheVariants as m
use Rattle.modes.specs.declared.State.{State}
use Rattle.modes.specs.declared.State.TheVariants as s

abbrev pub pr : ℕ
pr = 1

abbrev pub nbw : ℕ
nbw = 2

abbrev pub bw : ℕ
bw = 3

abbrev pub pw : ℕ
pw = 4

abbrev pub code_of : Mode → ℕ
code_of m.Pr = pr
code_of m.Nbw = nbw
code_of m.Bw = bw
code_of m.Pw = pw

abbrev pub waiting : ℕ
waiting = 0

abbrev pub granted : ℕ
granted = 1

abbrev pub asked : ℕ
asked = 2

abbrev pub canceling : ℕ
canceling = 3

abbrev pub known_mode : ℕ → Bool
known_mode code = within pr code pw

abbrev pub known_state : ℕ → Bool
known_state code = leb code canceling

abbrev pub mode_of : ℕ → Option Mode
mode_of code = cond (eqb code pr) (Some m.Pr) (cond (eqb code nbw) (Some m.Nbw) (cond (eqb code bw) (Some m.Bw) (cond (eqb code pw) (Some m.Pw) None)))

abbrev pub state_of : ℕ → Option State
state_of code = cond (eqb code waiting) (Some s.Waiting) (cond (eqb code granted) (Some s.Granted) (cond (eqb code asked) (Some s.Asked) (cond (eqb code canceling) (Some s.Canceling) None)))
