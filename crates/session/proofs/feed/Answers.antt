-- `feed`: a line that ends in the piece is answered; where none does, nothing is to be written.
use Rattle.session.proofs.Feeding.{said-single}
use Rattle.session.proofs.feed.Goals as goal

pub answer-requires : goal.answer-requires
answer-requires g c = search said-single
