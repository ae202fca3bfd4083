use Rattle.command_words.specs.declared.command.Command.TheVariants as commands
use Rattle.io_core.proofs.Known.{Appends-nothing}
use Rattle.std.proofs.Common.{inl, inr, refl, subst}
use Rattle.world_law.proofs.SoundRuns.{every_run}
use Rattle.waltz_cli.proofs.CommandWords.{none_of, some_of}
use Rattle.waltz_cli.proofs.OneCommand.{one_command}
use Rattle.waltz_cli.specs.Partitions.{ServesPartition}
use Rattle.server_loop.specs.Sessions.{Post}
use Rattle.waltz_cli.proofs.Statuses.{no_node, no_register, no_server, no_script, no_stop, unread_exactly}
use Rattle.waltz_cli.proofs.top.run.Goals as goal

pub returns-in-Ok-None-clause-storage : goal.returns-in-Ok-None-clause-storage
returns-in-Ok-None-clause-storage g c number are =
    absurd (none_of c.in-Ok-None.field-0 _ _ c.in-Ok-None.field-0-is c.in-Ok-None.ensures.read (commands.Storage number) are)

pub returns-in-Ok-None-clause-register : goal.returns-in-Ok-None-clause-register
returns-in-Ok-None-clause-register g c number are =
    absurd (none_of c.in-Ok-None.field-0 _ _ c.in-Ok-None.field-0-is c.in-Ok-None.ensures.read (commands.Register number) are)

pub returns-in-Ok-None-clause-server : goal.returns-in-Ok-None-clause-server
returns-in-Ok-None-clause-server g c s are =
    absurd (none_of c.in-Ok-None.field-0 _ _ c.in-Ok-None.field-0-is c.in-Ok-None.ensures.read (commands.Server s) are)

pub returns-in-Err-clause-storage : goal.returns-in-Err-clause-storage
returns-in-Err-clause-storage g c number are = no_node _ _ _ _ _ _ _ _

pub returns-in-Err-clause-register : goal.returns-in-Err-clause-register
returns-in-Err-clause-register g c number are = no_register _ _ _ _ _ _ _ _

pub returns-in-Err-clause-server : goal.returns-in-Err-clause-server
returns-in-Err-clause-server g c s are = no_server _ _ _ _ _ _ _ _

pub returns-in-Err-clause-usage : goal.returns-in-Err-clause-usage
returns-in-Err-clause-usage g c none = inr (inl (refl, Appends-nothing _))

pub returns-in-Ok-None-clause-client : goal.returns-in-Ok-None-clause-client
returns-in-Ok-None-clause-client g c id server are =
    absurd (none_of c.in-Ok-None.field-0 _ _ c.in-Ok-None.field-0-is c.in-Ok-None.ensures.read (commands.Client id server) are)

pub returns-in-Ok-None-clause-client_exactly : goal.returns-in-Ok-None-clause-client_exactly
returns-in-Ok-None-clause-client_exactly g c id server are =
    absurd (none_of c.in-Ok-None.field-0 _ _ c.in-Ok-None.field-0-is c.in-Ok-None.ensures.read (commands.Client id server) are)

pub returns-in-Ok-None-clause-stop : goal.returns-in-Ok-None-clause-stop
returns-in-Ok-None-clause-stop g c number are =
    absurd (none_of c.in-Ok-None.field-0 _ _ c.in-Ok-None.field-0-is c.in-Ok-None.ensures.read (commands.Stop number) are)

pub returns-in-Err-clause-client : goal.returns-in-Err-clause-client
returns-in-Err-clause-client g c id server are = no_script _ _ _ _ _ _ _ _

pub returns-in-Err-clause-client_exactly : goal.returns-in-Err-clause-client_exactly
returns-in-Err-clause-client_exactly g c id server are = unread_exactly _

pub returns-in-Err-clause-stop : goal.returns-in-Err-clause-stop
returns-in-Err-clause-stop g c number are = no_stop _ _ _ _ _

pub returns-in-Ok-Some-clause-generate : goal.returns-in-Ok-Some-clause-generate
returns-in-Ok-Some-clause-generate g c number events are =
    c.serve.ensures.generate number events
    (one_command _ c.in-Ok-Some.command (commands.Generate number events) (some_of c.in-Ok-Some.field-0 c.in-Ok-Some.command _ _ c.in-Ok-Some.field-0-is c.in-Ok-Some.ensures.read) are)

pub returns-in-Ok-Some-clause-drill : goal.returns-in-Ok-Some-clause-drill
returns-in-Ok-Some-clause-drill g c number events are =
    c.serve.ensures.drill number events
    (one_command _ c.in-Ok-Some.command (commands.Drill number events) (some_of c.in-Ok-Some.field-0 c.in-Ok-Some.command _ _ c.in-Ok-Some.field-0-is c.in-Ok-Some.ensures.read) are)

pub returns-in-Ok-Some-clause-storage : goal.returns-in-Ok-Some-clause-storage
returns-in-Ok-Some-clause-storage g c number are =
    c.serve.ensures.storage number
    (one_command _ c.in-Ok-Some.command (commands.Storage number) (some_of c.in-Ok-Some.field-0 c.in-Ok-Some.command _ _ c.in-Ok-Some.field-0-is c.in-Ok-Some.ensures.read) are)

pub returns-in-Ok-Some-clause-register : goal.returns-in-Ok-Some-clause-register
returns-in-Ok-Some-clause-register g c number are =
    c.serve.ensures.register number
    (one_command _ c.in-Ok-Some.command (commands.Register number) (some_of c.in-Ok-Some.field-0 c.in-Ok-Some.command _ _ c.in-Ok-Some.field-0-is c.in-Ok-Some.ensures.read) are)

pub returns-in-Ok-Some-clause-client : goal.returns-in-Ok-Some-clause-client
returns-in-Ok-Some-clause-client g c id server are =
    c.serve.ensures.client id server
    (one_command _ c.in-Ok-Some.command (commands.Client id server) (some_of c.in-Ok-Some.field-0 c.in-Ok-Some.command _ _ c.in-Ok-Some.field-0-is c.in-Ok-Some.ensures.read) are)

pub returns-in-Ok-Some-clause-client_exactly : goal.returns-in-Ok-Some-clause-client_exactly
returns-in-Ok-Some-clause-client_exactly g c id server are =
    c.serve.ensures.client_exactly id server
    (one_command _ c.in-Ok-Some.command (commands.Client id server) (some_of c.in-Ok-Some.field-0 c.in-Ok-Some.command _ _ c.in-Ok-Some.field-0-is c.in-Ok-Some.ensures.read) are)

pub returns-in-Ok-Some-clause-stop : goal.returns-in-Ok-Some-clause-stop
returns-in-Ok-Some-clause-stop g c number are =
    c.serve.ensures.stop number
    (one_command _ c.in-Ok-Some.command (commands.Stop number) (some_of c.in-Ok-Some.field-0 c.in-Ok-Some.command _ _ c.in-Ok-Some.field-0-is c.in-Ok-Some.ensures.read) are)

pub returns-in-Ok-Some-clause-server : goal.returns-in-Ok-Some-clause-server
returns-in-Ok-Some-clause-server g c s are =
    let a = (one_command _ c.in-Ok-Some.command (commands.Server s) (some_of c.in-Ok-Some.field-0 c.in-Ok-Some.command _ _ c.in-Ok-Some.field-0-is c.in-Ok-Some.ensures.read) are) in
    let Served : Post → Type 0 = λ p. ServesPartition g.L.Link.tells g.P.Port.tells p
    (g.L.Link.transcript c.args.link.now) (g.L.Link.transcript c.serve.new.link)
    (g.L.Link.faults c.args.link.now) (g.L.Link.faults c.serve.new.link)
    (g.P.Port.coming c.args.port.now) (g.P.Port.coming c.serve.new.port)
    (g.P.Port.answers c.args.port.now) (g.P.Port.answers c.serve.new.port)
    (g.W.Sink.contents c.args.sink.now) (g.W.Sink.contents c.serve.new.sink) c.serve.result in
    subst Served a.2 (c.serve.ensures.server a.0 a.1)

pub returns-in-Ok-None-clause-generate : goal.returns-in-Ok-None-clause-generate
returns-in-Ok-None-clause-generate g c number events are =
    absurd (none_of c.in-Ok-None.field-0 _ _ c.in-Ok-None.field-0-is c.in-Ok-None.ensures.read (commands.Generate number events) are)

pub returns-in-Ok-None-clause-drill : goal.returns-in-Ok-None-clause-drill
returns-in-Ok-None-clause-drill g c number events are =
    absurd (none_of c.in-Ok-None.field-0 _ _ c.in-Ok-None.field-0-is c.in-Ok-None.ensures.read (commands.Drill number events) are)

pub returns-in-Ok-None-clause-replay : goal.returns-in-Ok-None-clause-replay
returns-in-Ok-None-clause-replay g c is =
    absurd (none_of c.in-Ok-None.field-0 _ _ c.in-Ok-None.field-0-is c.in-Ok-None.ensures.read commands.Replay (record { range = tt; are = is }))

pub returns-in-Ok-None-clause-exactly : goal.returns-in-Ok-None-clause-exactly
returns-in-Ok-None-clause-exactly g c is =
    absurd (none_of c.in-Ok-None.field-0 _ _ c.in-Ok-None.field-0-is c.in-Ok-None.ensures.read commands.Replay (record { range = tt; are = is }))

pub returns-in-Ok-Some-clause-replay : goal.returns-in-Ok-Some-clause-replay
returns-in-Ok-Some-clause-replay g c is =
    c.serve.ensures.replay
    (one_command _ c.in-Ok-Some.command commands.Replay (some_of c.in-Ok-Some.field-0 c.in-Ok-Some.command _ _ c.in-Ok-Some.field-0-is c.in-Ok-Some.ensures.read) (record { range = tt; are = is }))

pub returns-in-Ok-Some-clause-exactly : goal.returns-in-Ok-Some-clause-exactly
returns-in-Ok-Some-clause-exactly g c is =
    c.serve.ensures.exactly
    (one_command _ c.in-Ok-Some.command commands.Replay (some_of c.in-Ok-Some.field-0 c.in-Ok-Some.command _ _ c.in-Ok-Some.field-0-is c.in-Ok-Some.ensures.read) (record { range = tt; are = is }))

pub returns-in-Ok-Some-clause-sound : goal.returns-in-Ok-Some-clause-sound
returns-in-Ok-Some-clause-sound g c = every_run

pub returns-in-Ok-None-clause-sound : goal.returns-in-Ok-None-clause-sound
returns-in-Ok-None-clause-sound g c = every_run

pub returns-in-Err-clause-sound : goal.returns-in-Err-clause-sound
returns-in-Err-clause-sound g c = every_run
