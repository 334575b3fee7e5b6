-- `new`: all zeros is the empty table, which is sound.
use Rattle.table.proofs.Zeros.{zeros-sound}
use Rattle.session.proofs.Session.new.Goals as goal

pub invariant_of-result : goal.invariant_of-result
invariant_of-result c = record { sound = zeros-sound }
