use Rattle.std.proofs.Common.{◌++◌, refl}
use Rattle.server_loop.specs.declared.end.End.TheVariants.{Memory}
use Rattle.server_loop.specs.Ends.{session_line, listening_line}
use Rattle.server_loop.specs.Serving.{standing}
use Rattle.server_loop.specs.Sessions.{post, unstarted, unbegun}
use Rattle.server_loop.proofs.Causes.{rose_after}
use Rattle.server_loop.proofs.Counting.{serving_counted, unannounced_counted}
use Rattle.server_loop.proofs.Growing.{unannounced_opens, served_opens}
use Rattle.server_loop.proofs.Printing.{all_printed}
use Rattle.server_loop.proofs.Running.{unbegun_run, unannounced_run, served_run}
use Rattle.server_loop.proofs.server.run.Goals as goal

pub returns-in_default-clause-runs : goal.returns-in_default-clause-runs
returns-in_default-clause-runs g c =
    let r = unbegun_run (post (g.H.Driven.config c.args.host.now) c.args.register c.args.nodes.now c.args.number) (g.L.Link.transcript c.args.link.now) (g.P.Port.coming c.args.port.now) (g.P.Port.answers c.args.port.now)
    (standing (g.H.Driven.state c.args.host.now) (g.L.Link.transcript c.args.link.now)) (g.W.Sink.contents c.args.sink.now) Memory in
    (r.0, r.1, λ t u. r.2 (unstarted _ refl))

pub returns-in-Err-clause-runs : goal.returns-in-Err-clause-runs
returns-in-Err-clause-runs g c =
    let r = unbegun_run (post (g.H.Driven.config c.args.host.now) c.args.register c.args.nodes.now c.args.number) (g.L.Link.transcript c.args.link.now) (g.P.Port.coming c.args.port.now) (g.P.Port.answers c.args.port.now)
    (standing (g.H.Driven.state c.begin_session.new.host) (g.L.Link.transcript c.begin_session.new.link)) (g.W.Sink.contents c.args.sink.now) c.in-Err.end in
    (r.0, r.1, λ t u. r.2 (c.in-Err.ensures.begins t c.args.number))

pub returns-in-Err-clause-peer : goal.returns-in-Err-clause-peer
returns-in-Err-clause-peer g c e = absurd (rw e at c.in-Err.ensures.ends)

pub returns-in-Err-clause-write : goal.returns-in-Err-clause-write
returns-in-Err-clause-write g c e = absurd (rw e at c.in-Err.ensures.ends)

pub returns-in-Ok-announce-clause-register : goal.returns-in-Ok-announce-clause-register
returns-in-Ok-announce-clause-register g c e = absurd (rw e at c.take_turns.ensures.ends)

pub returns-in-Ok-announce-clause-write : goal.returns-in-Ok-announce-clause-write
returns-in-Ok-announce-clause-write g c e = absurd (rw e at c.take_turns.ensures.ends)

pub returns-in-Ok-announce-clause-peer_told : goal.returns-in-Ok-announce-clause-peer_told
returns-in-Ok-announce-clause-peer_told g c =
    rose_after (g.P.Port.faults c.args.port.now) (g.P.Port.faults c.announce.new.port) (g.P.Port.faults c.take_turns.new.port) c.announce.ensures.port_later
    (λ first. let e = c.in-Ok-announce.ensures.peer_told first in cc) c.take_turns.ensures.peer_told

pub returns-in-Ok-announce-clause-runs : goal.returns-in-Ok-announce-clause-runs
returns-in-Ok-announce-clause-runs g c = (
  session_line c.in-Ok-begin_session.session c.last.result ++ listening_line c.args.number,
  all_printed _ _ _ c.take_turns.result c.in-Ok-announce.ensures.announced,
  (λ t u. served_run _ _ _ _ _ _ _ c.in-Ok-begin_session.session c.last.result _ _
      c.last.ensures
      (c.in-Ok-begin_session.ensures.begins t c.args.number)
      (c.announce.ensures.coming u) (c.announce.ensures.answers u)
      (rw c.begin_session.ensures.config at (c.take_turns.ensures.serves t u))),
)

pub returns-clause-runs : goal.returns-clause-runs
returns-clause-runs g c =
    let r = unannounced_run (post (g.H.Driven.config c.args.host.now) c.args.register c.args.nodes.now c.args.number) (g.L.Link.transcript c.args.link.now)
    (g.P.Port.coming c.args.port.now) (g.P.Port.coming c.announce.new.port) (g.P.Port.answers c.args.port.now) (g.P.Port.answers c.announce.new.port)
    (standing (g.H.Driven.state c.begin_session.new.host) (g.L.Link.transcript c.begin_session.new.link)) c.in-Ok-begin_session.session c.last.result
    (g.W.Sink.contents c.args.sink.now) (g.W.Sink.contents c.announce.new.sink) c.in-Err-announce.end
    c.last.ensures c.in-Err-announce.ensures.unannounced in
    (r.0, r.1, λ t u. r.2 (c.in-Ok-begin_session.ensures.begins t c.args.number) (c.announce.ensures.coming u) (c.announce.ensures.answers u))

pub returns-in-Ok-announce-clause-counted : goal.returns-in-Ok-announce-clause-counted
returns-in-Ok-announce-clause-counted g c = serving_counted _ _ c.take_turns.result c.take_turns.ensures.ends

pub returns-clause-counted : goal.returns-clause-counted
returns-clause-counted g c = unannounced_counted _ _ _ _ _ _ c.in-Err-announce.end c.in-Err-announce.ensures.unannounced

pub returns-in_default-clause-opens : goal.returns-in_default-clause-opens
returns-in_default-clause-opens g c t = unbegun (standing (g.H.Driven.state c.args.host.now) (g.L.Link.transcript c.args.link.now)) Memory (unstarted _ refl) refl

pub returns-in-Err-clause-opens : goal.returns-in-Err-clause-opens
returns-in-Err-clause-opens g c t = unbegun _ c.in-Err.end (c.in-Err.ensures.begins t c.args.number) refl

pub returns-clause-opens : goal.returns-clause-opens
returns-clause-opens g c t =
    unannounced_opens _ _ _ c.in-Ok-begin_session.session _ _ _ _ c.in-Err-announce.end (c.in-Ok-begin_session.ensures.begins t c.args.number) c.in-Err-announce.ensures.unannounced

pub returns-in-Ok-announce-clause-opens : goal.returns-in-Ok-announce-clause-opens
returns-in-Ok-announce-clause-opens g c t =
    served_opens _ _ _ _ c.in-Ok-begin_session.session c.take_turns.result
    (c.in-Ok-begin_session.ensures.begins t c.args.number) (c.take_turns.ensures.grows t) c.take_turns.ensures.ends
