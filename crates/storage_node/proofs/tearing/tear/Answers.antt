use Rattle.std.proofs.Common.{◌≡◌, rules}
use Rattle.storage_node.proofs.Restarts.{torn, untorn}
use Rattle.storage_node.proofs.tearing.tear.Goals as goal

pub returns-then-keep-eq0 : goal.returns-then-keep-eq0
returns-then-keep-eq0 c = untorn c.args.m.now c.args.keep c.args.store.now c.restart.new.store c.restart.result c.requires.on c.requires.steady c.restart.ensures

pub returns-then-stop_within : goal.returns-then-stop_within
returns-then-stop_within c =
    let some : c.args.keep ≡ 0 → ⊥ = search rules in
    torn c.args.m.now c.args.keep c.args.store.now c.stop_within.new.store c.restart-then-stop_within.new.store c.restart-then-stop_within.result some c.stop_within.ensures c.restart-then-stop_within.ensures
