use Rattle.std.proofs.Common.{◌≡◌, ◌∙◌, sym, ap, true}
use Rattle.proto_model.specs.Servers.{has_fetched}
use Rattle.partition_server.specs.Held.{state_of}
use Rattle.world_core.proofs.Noting.{server_noted}
use Rattle.world_core.proofs.one_log.note_server.Goals as goal

pub returns-clause-entries : goal.returns-clause-entries
returns-clause-entries c = λ target targets fronts.
    let fetched : has_fetched (state_of c.args.server.now).phase ≡ true = ap has_fetched (sym c.phase.ensures) ∙ (sym c.has_log.ensures ∙ c.if-not-has_log.false) in
    let has = targets fetched in
    let entries = rw c.session.ensures at c.in_ok-note_log.ensures.entries in
    server_noted target _ _ (state_of c.args.server.now) _ has (entries has.some has.known) fronts
