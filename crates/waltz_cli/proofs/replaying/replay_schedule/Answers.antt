use Rattle.std.proofs.Common.{ap, inl, inr}
use Rattle.io_core.specs.Causes.{Rose}
use Rattle.schedule_replay.specs.declared.fault.ReplayFault.TheVariants.{Read, Write}
use Rattle.waltz_cli.proofs.Statuses.{replay_status}
use Rattle.waltz_cli.proofs.Printing.{told, prints, exactly, read_told, stopped, write_status, write_told, rose_early, rose_late}
use Rattle.waltz_cli.proofs.replaying.replay_schedule.Goals as goal

pub returns-clause-replay : goal.returns-clause-replay
returns-clause-replay g c =
    prints _ _ _ _ _ _ _ _ (Rose (g.W.Sink.wants c.args.sink.now) (g.W.Sink.wants c.finish.new.sink)) _ _ _ c.end_of-end.ensures
    (rose_early _ _ _ c.finish.ensures.wants)
    (rose_late _ _ _ c.replay-replayed.ensures.wants)
    c.replay-replayed.ensures.replay c.finish.ensures.ends
    (λ none. let s = c.finish.ensures.silent none in (s.0, ap (λ s. g.W.Sink.contents s) s.1))

pub returns-clause-exactly : goal.returns-clause-exactly
returns-clause-exactly g c = exactly _ _ _ _ _ _ c.end_of-end.ensures c.finish.ensures.ends _ c.replay-replayed.ensures.exactly

pub returns-clause-read : goal.returns-clause-read
returns-clause-read g c is =
    c.replay-replayed.ensures.read (stopped _ _ Read c.end_of-end.ensures (c.finish.ensures.read_fault is))

pub returns-clause-write : goal.returns-clause-write
returns-clause-write g c is = elim (c.finish.ensures.fault is) [
  | inl end ↦ rose_early _ _ _ c.finish.ensures.later (c.replay-replayed.ensures.write (stopped _ _ Write c.end_of-end.ensures end))
  | inr rose ↦ rose_late _ _ _ c.replay-replayed.ensures.later rose
]

pub returns-clause-read_told : goal.returns-clause-read_told
returns-clause-read_told g c rose = read_told _ _ _ _ _ _ c.end_of-end.ensures c.finish.ensures.ends (c.replay-replayed.ensures.read_told rose)

pub returns-clause-write_told : goal.returns-clause-write_told
returns-clause-write_told g c rose =
    write_told _ _ _ _ c.replay-replayed.ensures.later
    (λ early. write_status _ _ _ c.end_of-end.ensures (c.replay-replayed.ensures.write_told early) (λ none. (c.finish.ensures.silent none).0))
    c.finish.ensures.told rose

pub returns-clause-of_a_replay : goal.returns-clause-of_a_replay
returns-clause-of_a_replay g c = replay_status _ _ (told _ _ _ _ _ _ c.end_of-end.ensures c.finish.ensures.ends)
