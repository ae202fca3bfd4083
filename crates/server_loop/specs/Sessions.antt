-- A server's command: it draws a session, recovers, and serves up to an end.
use Rattle.std.specs.Prelude.{◌≡◌, ℕ, List, length, [], ◌++◌, Option, None, Some, Result, Ok, Err}
use Rattle.io_core.specs.Ports.{Answered}
use Rattle.io_core.specs.Links.{Exchange}
use Rattle.proto_model.specs.declared.message.Phase.{Phase}
use Rattle.proto_model.specs.declared.message.Phase.TheVariants.{Running, Closed}
use Rattle.proto_model.specs.Servers.{Config, drawn}
use Rattle.server_loop.specs.declared.driving.Out.{Out}
use Rattle.server_loop.specs.declared.end.End.{End}
use Rattle.server_loop.specs.declared.end.End.TheVariants as ends
use Rattle.session_register.specs.declared.register.Cas.{Cas}
use Rattle.session_register.specs.declared.register.Cas.TheVariants as cas
use Rattle.session_register.specs.declared.register.RegisterFault.{RegisterFault}
use Rattle.session_register.specs.declared.register.RegisterFault.TheVariants as faults
use Rattle.server_loop.specs.Exchanges.{Grows}
use Rattle.server_loop.specs.Registers.{IsDraw}
use Rattle.server_loop.specs.Turns.{Desk, desk}
use Rattle.server_loop.specs.Serving.{Standing, standing, IsFreshDrive, IsFreshCut, Serves}
use Rattle.server_loop.specs.Ends.{IsBrokenEnd, IsSessionEnd, session_line, listening_line}

-- what doesn't change in a run: the server's config, the ports of the register and of the nodes, and the server's own
pub record Post : Type 0 where
  pub config : Config
  pub register : ℕ
  pub nodes : List ℕ
  pub number : ℕ

abbrev pub post : Config → ℕ → List ℕ → ℕ → Post
post config register nodes number = record { config = config; register = register; nodes = nodes; number = number }

-- the session of a draw, or the end that it is
abbrev pub session_of : Result Cas RegisterFault → Result ℕ End
session_of (Ok (cas.Won session)) = Ok session
session_of (Ok (cas.Lost other)) = Err (ends.TakenOver other)
session_of (Ok cas.Exhausted) = Err ends.Exhausted
session_of (Err faults.Failed) = Err ends.Register
session_of (Err faults.Garbled) = Err ends.Garbled
session_of (Err faults.Memory) = Err ends.Memory

-- what a recovery's drive leads to, by the phase after it: the server runs, or this is the end
abbrev pub recovery_end : Phase → List Out → Option End
recovery_end Running out = None
recovery_end (Closed p) out = Some (ends.TakenOver p)
recovery_end _ out = Some (ends.NoQuorum out)

-- the session is drawn, and recovered by a drive
pub record IsRecovered (at : Post) (old : List Exchange) (b : Standing) (session : ℕ) (out : List Out) : Type 0 where
  pub between : List Exchange
  pub draw : IsDraw at.register old between (Ok (cas.Won session))
  pub driven : IsFreshDrive at.config at.nodes (standing (drawn session) between) b out

-- the session is drawn, and memory ran out in the drive by which it was to be recovered
pub record IsCutRecovery (at : Post) (old new : List Exchange) (session : ℕ) : Type 0 where
  pub between : List Exchange
  pub draw : IsDraw at.register old between (Ok (cas.Won session))
  pub cut : IsFreshCut at.config at.nodes (standing (drawn session) between) new

-- how a session begins, or by which end it doesn't: memory may run out before anything is sent, in the draw, or in the
-- drive
pub data Begins (at : Post) (old : List Exchange) : Standing → Result ℕ End → Type 0 where
  undrawn : (b : Standing) (answer : Result Cas RegisterFault) (end : End) → IsDraw at.register old b.past answer → session_of answer ≡ Err end → Begins at old b (Err end)
  unrecovered : (b : Standing) (session : ℕ) (out : List Out) (end : End) → IsRecovered at old b session out → recovery_end b.state.phase out ≡ Some end → Begins at old b (Err end)
  recovered : (b : Standing) (session : ℕ) (out : List Out) → IsRecovered at old b session out → recovery_end b.state.phase out ≡ None → Begins at old b (Ok session)
  unstarted : (b : Standing) → b.past ≡ old → Begins at old b (Err ends.Memory)
  cut : (b : Standing) (session : ℕ) → IsCutRecovery at old b.past session → Begins at old b (Err ends.Memory)

-- the lines of a server that serves
abbrev pub begun_lines : Post → ℕ → Standing → List ℕ
begun_lines at session b = session_line session (length b.state.log) ++ listening_line at.number

-- all of a run, with the lines before the last one, and the end. Nothing is served before the server runs and listens
pub data Runs (at : Post) (old : List Exchange) (coming : List (List ℕ)) (answers : List Answered) : Desk Standing → List ℕ → End → Type 0 where
  unbegun : (b : Standing) (end : End) → Begins at old b (Err end) → Runs at old coming answers (desk coming answers b) [] end
  unheard : (b : Standing) (session : ℕ) → Begins at old b (Ok session) → Runs at old coming answers (desk coming answers b) (session_line session (length b.state.log)) ends.Peer
  unprinted : (b : Standing) (session : ℕ) (end : End) → Begins at old b (Ok session) → IsBrokenEnd end → Runs at old coming answers (desk coming answers b) (begun_lines at session b) end
  served : (b : Standing) (session : ℕ) (d : Desk Standing) (end : End) → Begins at old b (Ok session) → Serves at.config at.nodes (desk coming answers b) d end → Runs at old coming answers d (begun_lines at session b) end

-- How a run opens, which is told over the link alone. No session begins, and nothing is exchanged after that; or one
-- begins, and the exchanges go on from there up to an end that is none of beginning.
pub data Opens (at : Post) (old new : List Exchange) : End → Type 0 where
  unbegun : (b : Standing) (end : End) → Begins at old b (Err end) → new ≡ b.past → Opens at old new end
  begun : (b : Standing) (session : ℕ) (end : End) → Begins at old b (Ok session) → IsSessionEnd end → Grows b.past new → Opens at old new end
