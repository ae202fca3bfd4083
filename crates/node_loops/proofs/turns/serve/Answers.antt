use Rattle.node_loops.proofs.Counted.{disk_cause, peer_cause, disk_told, peer_told}
use Rattle.node_loops.proofs.Printing.{prints}
use Rattle.node_loops.proofs.turns.serve.Goals as goal

pub returns-clause-runs : goal.returns-clause-runs
returns-clause-runs g c = (
  c.listen_and_serve-end.result,
  c.listen_and_serve-end.ensures.runs,
  prints _ _ _ _ c.listen_and_serve-end.result _ c.listen_and_serve-end.ensures.begun c.finish.ensures.prints,
  c.listen_and_serve-end.ensures.cause,
)

pub returns-clause-disk : goal.returns-clause-disk
returns-clause-disk g c =
    disk_cause _ _ _ c.listen_and_serve-end.result _ _ _ c.finish.ensures.prints c.listen_and_serve-end.ensures.cause.disk

pub returns-clause-peer : goal.returns-clause-peer
returns-clause-peer g c =
    peer_cause _ _ _ c.listen_and_serve-end.result _ _ _ c.finish.ensures.prints c.listen_and_serve-end.ensures.cause.peer

pub returns-clause-disk_told : goal.returns-clause-disk_told
returns-clause-disk_told g c =
    disk_told _ _ _ c.listen_and_serve-end.result _ _ _ c.finish.ensures.prints c.listen_and_serve-end.ensures.cause.disk

pub returns-clause-peer_told : goal.returns-clause-peer_told
returns-clause-peer_told g c =
    peer_told _ _ _ c.listen_and_serve-end.result _ _ _ c.finish.ensures.prints c.listen_and_serve-end.ensures.cause.peer
