use Rattle.std.proofs.lemmas.List.Elements.{All-push}
use Rattle.tx_model.specs.Records.{IsRecord}
use Rattle.suite_nodes.proofs.asks.entries.Goals as goal

pub loop-k-preserved : goal.loop-k-preserved
loop-k-preserved c = rw c.in_ok-push.ensures.items (All-push IsRecord _ _ c.loop-k.invariant c.in_ok-entry.ensures)
