use Rattle.std.proofs.Common.{◌∙◌, length, sym, ap, refl, rules}
use Rattle.proto_model.specs.Tables.{put}
use Rattle.world_core.specs.Tallies.{entries_of, continued}
use Rattle.world_core.proofs.Casting.{is_some, is_listed, acks_stay, entries_set, entries_at}
use Rattle.world_core.proofs.tally.note_log.Goals as goal

pub returns-in_err-add_entries-clause-acks : goal.returns-in_err-add_entries-clause-acks
returns-in_err-add_entries-clause-acks c = λ nodes.
    let some = is_some c.args.session c.if-session-eq0.false in
    let fits = is_listed c.args.session c.len.result (length c.args.rows.now.items) (search rules) c.if-session-len.false in
    acks_stay nodes c.args.rows.now.items c.args.session c.index_mut-row.result.now _ some fits c.index_mut-row.ensures.value refl

pub returns-clause-acks : goal.returns-clause-acks
returns-clause-acks c = λ nodes.
    let some = is_some c.args.session c.if-session-eq0.false in
    let fits = is_listed c.args.session c.len.result (length c.args.rows.now.items) (search rules) c.if-session-len.false in
    acks_stay nodes c.args.rows.now.items c.args.session c.index_mut-row.result.now _ some fits c.index_mut-row.ensures.value refl

pub returns-clause-entries : goal.returns-clause-entries
returns-clause-entries c = λ some fits.
    let at = entries_at c.args.rows.now.items c.args.session c.index_mut-row.result.now some fits c.index_mut-row.ensures.value in
    entries_set c.args.rows.now.items c.args.session _ some fits ∙ ap (put (entries_of c.args.rows.now.items) c.args.session) (c.in_ok-add_entries.ensures ∙ ap (λ es. continued es c.args.server.now.log) (sym at))
