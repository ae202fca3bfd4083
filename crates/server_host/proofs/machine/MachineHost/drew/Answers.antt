use Rattle.server_host.proofs.Machines.{drew_machine}
use Rattle.server_host.proofs.machine.MachineHost.drew.Goals as goal

pub invariant_of-self : goal.invariant_of-self
invariant_of-self c = drew_machine c.self.inside.server c.drew.new.self c.self.inside.nodes c.args.session c.self.invariant c.requires c.drew.ensures.config c.drew.ensures.value
