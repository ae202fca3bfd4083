use Rattle.world_core.proofs.Tallying.{tallies}
use Rattle.world_core.proofs.system.System.note.Goals as goal

pub returns-clause-tallied : goal.returns-clause-tallied
returns-clause-tallied g c = λ w after e o run step has is.
    let running = rw (← c.self.view_is) at c.requires.running in
    tallies g.R.Replica.state g.R.Replica.files _ w e o after c.args.rows.now.items c.grow.new.rows.items c.note_nodes.new.rows.items c.note_servers.new.rows.items run step (rw (← c.self.view_is) at has) is
    running.system.server_count (rw c.read_number-number.ensures.value at c.in_ok-grow.ensures.size) c.grow.ensures.acks c.grow.ensures.entries c.note_nodes.ensures.size c.note_nodes.ensures.votes c.note_nodes.ensures.entries
    c.note_servers.ensures.size (c.note_servers.ensures.acks _) c.in_ok-note_servers.ensures.entries

pub returns-in_err-note_servers-clause-rows : goal.returns-in_err-note_servers-clause-rows
returns-in_err-note_servers-clause-rows g c = rw (← c.self.view_is) (c.note_servers.ensures.rows _ c.note_nodes.ensures.rows)

pub returns-clause-rows : goal.returns-clause-rows
returns-clause-rows g c = rw (← c.self.view_is) (c.note_servers.ensures.rows _ c.note_nodes.ensures.rows)
