use Rattle.std.proofs.Common.{◌≡◌, ◌-◌, ◌≤◌, false}
use Rattle.proto_model.specs.Quorums.{count}
use Rattle.session_recovery.specs.Known.{column}
use Rattle.session_recovery.proofs.nodes.adopters.Given as goal

abbrev pub invariant-loop-node : goal.invariant-loop-node
invariant-loop-node l = record {
  counted : l.adopters ≡ count (column false l.adopted) (l.node - 1);
  few : l.adopters ≤ l.node - 1;
}
