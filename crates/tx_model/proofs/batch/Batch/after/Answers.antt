use Rattle.std.proofs.Common.{◌≡◌, List, take, drop, sym, subst, lit≤, arith}
use Rattle.std.proofs.lemmas.Grind.{common_steps}
use Rattle.tx_model.specs.Records.{IsBatch}
use Rattle.tx_model.proofs.Batches.{IsBatch-part}
use Rattle.tx_model.proofs.batch.Batch.after.Goals as goal

pub invariant_of-result : goal.invariant_of-result
invariant_of-result c =
    let all : c.in_ok-records.records.items ≡ take 8 (drop c.args.place c.args.log.now) = grind (arith, common_steps) in
    subst IsBatch (sym all) (IsBatch-part c.args.log.now c.args.place 8 c.requires.rise c.requires.within (lit≤ tt) (lit≤ tt))
