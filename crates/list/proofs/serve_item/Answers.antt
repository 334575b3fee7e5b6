-- `serve_item`: what the single request answers goes into the item.
use Rattle.serve.specs.Posts.{answer_to}
use Rattle.list.proofs.Serving.{item-served}
use Rattle.list.proofs.serve_item.Goals as goal

pub returns : goal.returns
returns c =
    let served = rw c.into.ensures at c.ask.ensures.0 in
    rw c.from-a.ensures (item-served _ _ _ _ (answer_to c.ask.result) _ _ _ _ c.args.t.now.shape served, c.ask.ensures.1)
