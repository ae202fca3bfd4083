use Rattle.std.proofs.Common.{◌∙◌, ◌-◌, length, ap, refl, rules}
use Rattle.proto_model.specs.Tables.{put}
use Rattle.world_core.specs.Tallies.{IsRowOf, acks_of}
use Rattle.world_core.proofs.Rows.{all_at, all_set}
use Rattle.world_core.proofs.Casting.{row_noted, vote_noted, acks_at, acks_set, entries_stay, is_some, is_listed, fits_places}
use Rattle.world_core.proofs.tally.note_vote.Goals as goal

pub returns-clause-rows : goal.returns-clause-rows
returns-clause-rows c =
    let some = is_some c.args.status.adopted c.if-status-eq0.false in
    let fits = is_listed c.args.status.adopted c.len.result (length c.args.rows.now.items) (search rules) c.if-status-len.false in
    let is = all_at (IsRowOf c.args.nodes) c.args.rows.now.items c.args.status.adopted c.index_mut-row.result.now some fits c.index_mut-row.ensures.value c.requires.rows in
    all_set (IsRowOf c.args.nodes) c.args.rows.now.items (c.args.status.adopted - 1) _ (row_noted c.args.nodes c.args.node c.args.status.length c.index_mut-row.result.now _ c.requires.node c.requires.few is c.ack.ensures.value) c.requires.rows

pub returns-clause-votes : goal.returns-clause-votes
returns-clause-votes c = λ s k i known.
    let some = is_some c.args.status.adopted c.if-status-eq0.false in
    let fits = is_listed c.args.status.adopted c.len.result (length c.args.rows.now.items) (search rules) c.if-status-len.false in
    let is = all_at (IsRowOf c.args.nodes) c.args.rows.now.items c.args.status.adopted c.index_mut-row.result.now some fits c.index_mut-row.ensures.value c.requires.rows in
    let at = acks_at c.args.nodes c.args.rows.now.items c.args.status.adopted c.index_mut-row.result.now some fits c.index_mut-row.ensures.value in
    vote_noted c.args.status.adopted c.args.node c.args.status.length (acks_of c.args.nodes c.args.rows.now.items) _ c.index_mut-row.result.now.acks some
    (fits_places c.args.node c.args.nodes (length c.index_mut-row.result.now.acks.lens) c.requires.node c.requires.few is.places) at
    (acks_set c.args.nodes c.args.rows.now.items c.args.status.adopted _ some fits ∙ ap (put (acks_of c.args.nodes c.args.rows.now.items) c.args.status.adopted) c.ack.ensures.value) s k i

pub returns-clause-entries : goal.returns-clause-entries
returns-clause-entries c =
    let some = is_some c.args.status.adopted c.if-status-eq0.false in
    let fits = is_listed c.args.status.adopted c.len.result (length c.args.rows.now.items) (search rules) c.if-status-len.false in
    entries_stay c.args.rows.now.items c.args.status.adopted c.index_mut-row.result.now _ some fits c.index_mut-row.ensures.value refl
