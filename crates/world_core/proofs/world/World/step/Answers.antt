use Rattle.std.proofs.Common.{◌+◌}
use Rattle.world_core.proofs.Leading.{world_leads}
use Rattle.world_core.proofs.world.World.step.Goals as goal

pub invariant_of-self-2 : goal.invariant_of-self-2
invariant_of-self-2 g c = λ going.
    rw c.note.ensures.same (record {
      system = c.in_ok-outcome.ensures.system c.self.inside.stepped (c.self.invariant c.if-self.false).system;
      of_nodes = c.note.ensures.rows;
    })

pub note-requires-clause-running : goal.note-requires-clause-running
note-requires-clause-running g c = record { events = c.self.inside.stepped + 1; system = c.in_ok-outcome.ensures.system c.self.inside.stepped (c.self.invariant c.if-self.false).system }

pub returns-clause-step : goal.returns-clause-step
returns-clause-step g c = rw (← c.self.view_is) (world_leads _ _ _ _ c.take.new.self _ _ c.in_ok-outcome.ensures.cluster_same c.in_ok-outcome.ensures.goes c.note.ensures.same c.in_ok-note.ensures.tallied)

pub returns-clause-whole : goal.returns-clause-whole
returns-clause-whole g c =
    rw c.note.ensures.same (record {
      system = c.in_ok-outcome.ensures.system c.self.inside.stepped (c.self.invariant c.if-self.false).system;
      of_nodes = c.note.ensures.rows;
    })
