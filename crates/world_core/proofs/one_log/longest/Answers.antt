use Rattle.std.proofs.Common.{◌<◌, length, rules}
use Rattle.world_core.proofs.Casting.{longest_step}
use Rattle.world_core.proofs.one_log.longest.Goals as goal

pub loop-i-preserved : goal.loop-i-preserved
loop-i-preserved c =
    let within : c.loop-i.i < length c.args.rows.now.items = search rules in
    let r = longest_step c.args.nodes c.args.rows.now.items c.loop-i.i c.loop-i.session c.loop-i.len c.row_length-mark.result c.longer-best.result c.index-row.result.now within c.index-row.ensures c.requires.rows
    c.loop-i.invariant.within c.loop-i.invariant.fits c.row_length-mark.ensures.fits c.loop-i.invariant.found c.row_length-mark.ensures.value c.longer-best.ensures.more c.longer-best.ensures.same in
    record { within = r.0; fits = r.1; found = r.2 }
