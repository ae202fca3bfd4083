use Rattle.std.proofs.Common.{◌∙◌, drop, ap}
use Rattle.std.proofs.lemmas.List.{drop-drop}
use Rattle.partition_server.proofs.waiting.WaitingRequests.settle.Goals as goal

pub loop-preserved : goal.loop-preserved
loop-preserved c = c.drop_first.ensures ∙ (ap (drop 1) c.loop.invariant ∙ drop-drop 1 c.loop.counter c.args.self.now)
