use Rattle.server_host.proofs.Machines.{served_machine, served_places}
use Rattle.server_host.proofs.machine.MachineHost.serve.Goals as goal

pub invariant_of-self : goal.invariant_of-self
invariant_of-self c =
    served_machine c.self.inside.server c.serve.new.self c.self.inside.nodes c.args.m c.serve.result c.self.invariant c.requires c.serve.ensures.config c.serve.ensures.after c.serve.ensures.kept

pub returns-clause-assigned : goal.returns-clause-assigned
returns-clause-assigned c =
    served_places c.self.inside.server c.serve.new.self c.self.inside.nodes c.args.m c.serve.result c.self.invariant c.serve.ensures.answers c.serve.ensures.after
