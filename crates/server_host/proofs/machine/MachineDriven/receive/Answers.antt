use Rattle.server_host.proofs.Machines.{received_machine, received_forward}
use Rattle.server_host.proofs.machine.MachineDriven.receive.Goals as goal
use Rattle.server_host.proofs.machine.MachineDriven.receive.Goals.{in-Ok, in-Err}

pub invariant_of-self : goal.invariant_of-self
invariant_of-self c =
    received_machine c.self.inside.server c.receive.new.self c.self.inside.nodes c.args.node c.args.m c.receive.result c.self.invariant c.requires.valid c.receive.ensures.config c.receive.ensures.ok c.receive.ensures.err

pub returns-clause-forward : goal.returns-clause-forward
returns-clause-forward c = elim c.match-receive.branch [
  | in-Ok w ↦ rw w.result-is (received_forward c.args.self.now c.self.inside.server c.receive.new.self c.self.inside.nodes c.args.node c.args.m c.self.view_is c.self.invariant c.requires.valid c.requires.some c.requires.within w.in-Ok.ensures.ok)
  | in-Err w ↦ rw w.result-is tt
]
