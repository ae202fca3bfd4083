use Rattle.std.proofs.Common.{◌≡◌, length, rules}
use Rattle.quorum_append.specs.Kept.{has_kept}
use Rattle.world_core.proofs.Tallied.{reached_fits}
use Rattle.world_core.proofs.Casting.{least_is}
use Rattle.world_core.proofs.one_log.row_length.Goals as goal

pub returns-clause-value : goal.returns-clause-value
returns-clause-value c = λ bounded.
    let size : c.len-len.result ≡ length c.args.row.now.entries.items = search rules in
    least_is c.min.result c.mark-mark.result c.len-len.result (length c.args.row.now.entries.items) _ c.min.ensures size (c.mark-mark.ensures.value (length c.args.row.now.entries.items) bounded) (reached_fits c.args.row.now.acks.nodes (has_kept c.args.row.now.acks) (length c.args.row.now.entries.items))
