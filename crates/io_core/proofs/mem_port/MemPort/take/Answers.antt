use Rattle.std.proofs.Common.{◌<◌, length, map, rules, refl}
use Rattle.std.specs.Vec.{vec_items}
use Rattle.std.proofs.lemmas.List.{drop-drop}
use Rattle.io_core.proofs.Coming.{coming-front}
use Rattle.io_core.proofs.mem_port.MemPort.take.Goals as goal

pub returns-clause-turn : goal.returns-clause-turn
returns-clause-turn c =
    let within : c.self.inside.at < length c.self.inside.requests.items = search rules in
    let front = coming-front vec_items c.self.inside.requests.items c.self.inside.at c.index.result.now within c.index.ensures in
    rw (← c.self.view_is, front) (rw c.deref.ensures.value at c.show_request-turn.ensures.turn)

pub returns-clause-room : goal.returns-clause-room
returns-clause-room c =
    let within : c.self.inside.at < length c.self.inside.requests.items = search rules in
    let front = coming-front vec_items c.self.inside.requests.items c.self.inside.at c.index.result.now within c.index.ensures in
    rw (← c.self.view_is, front) (rw c.deref.ensures.value at c.show_request-turn.ensures.room)

pub returns-clause-after : goal.returns-clause-after
returns-clause-after c = rw (← c.self.view_is, drop-drop 1 c.self.inside.at (map vec_items c.self.inside.requests.items)) refl
