use Rattle.std.proofs.lemmas.List.Elements.{All-push}
use Rattle.tx_model.specs.Records.{IsRecord}
use Rattle.suite_values.proofs.transactions.entries.Goals as goal

pub loop-id-preserved : goal.loop-id-preserved
loop-id-preserved c = rw c.in_ok-push.ensures.items (All-push IsRecord _ _ c.loop-id.invariant c.in_ok-entry.ensures)
