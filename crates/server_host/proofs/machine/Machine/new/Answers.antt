use Rattle.server_host.proofs.Machines.{new_machine}
use Rattle.server_host.proofs.machine.Machine.new.Goals as goal

pub invariant_of-result : goal.invariant_of-result
invariant_of-result c =
    new_machine c.in_ok-server.server (record { nodes = c.args.nodes; rows = c.args.rows; slots = c.args.slots }) c.in_ok-server.ensures.value c.in_ok-server.ensures.config c.requires.few_nodes
