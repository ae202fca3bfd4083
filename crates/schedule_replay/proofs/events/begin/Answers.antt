use Rattle.std.specs.Io.KnownBytes.{prepend_known}
use Rattle.schedule_replay.proofs.Ending.{begins_err}
use Rattle.schedule_replay.proofs.events.begin.Goals as goal

pub returns-in-Err-clause-begins : goal.returns-in-Err-clause-begins
returns-in-Err-clause-begins g c =
    begins_err g.P.Play.shows g.P.Play.cluster_of g.S.Source.left g.S.Source.before _ _ (prepend_known c.args.input.now.pending (g.S.Source.left c.args.source.now)) (prepend_known c.read_first.new.input.pending (g.S.Source.left c.read_first.new.source)) _ c.read_first.result c.in-Err.is c.in-Err.ensures.first c.read_first.ensures.begun c.read_first.ensures.reads
