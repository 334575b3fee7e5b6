-- `said`: the kept bytes are read as the line, without the CR that is the last of them.
use Rattle.std.proofs.Common.{◌∙◌, ap}
use Rattle.line.specs.Format.{read_line}
use Rattle.lines.proofs.Keeping.{keeps-read, keeps-bare, stripped}
use Rattle.lines.proofs.said.Goals as goal

pub returns-then-last : goal.returns-then-last
returns-then-last c = λ p k. rw (c.if-last.true, c.read_line.ensures) (keeps-read _ p k)

pub returns : goal.returns
returns c =
    λ p k. rw (c.if-last.false, c.read_line-2.ensures, c.unwrap_or.ensures)
    (ap read_line (stripped c.args.kept c.strip_suffix.result c.strip_suffix.ensures.cases) ∙ keeps-bare c.args.kept.now p k)
