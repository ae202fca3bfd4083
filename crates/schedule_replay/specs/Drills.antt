-- What a drill prints: the counts of the world that the schedule of a number leads to.
use Rattle.std.specs.Prelude.{◌≡◌, ℕ, ◌+◌, ◌⊎◌, Bool, true, false, if◌then◌else◌, List, [], ◌∷◌, ◌++◌, length, codes, decimal, Option, Result, Ok, Err}
use Rattle.std.specs.Io.KnownBytes.{Appends, Keeps}
use Rattle.io_core.specs.Bytes.{AppendsPrefix}
use Rattle.proto_model.specs.declared.client_message.FromServer.TheVariants as answer
use Rattle.net_model.specs.declared.mail.Mail.{Mail}
use Rattle.net_model.specs.declared.mail.Mail.TheVariants as mail
use Rattle.net_model.specs.declared.mail.Envelope.{Envelope}
use Rattle.net_model.specs.declared.outcome.Outcome.{Outcome}
use Rattle.world_law.specs.Worlds.{WorldState, start}
use Rattle.world_law.specs.Runs.{IsRunOnFiles, last_world}
use Rattle.world_law.specs.OneLog.{one_log}
use Rattle.schedule_replay.specs.Plays.{StandFor}
use Rattle.schedule_replay.specs.Replays.{IsReliable}
use Rattle.schedule_replay.specs.Numbered.{numbered_cluster, numbered_events}
use Rattle.schedule_replay.specs.declared.fault.ReplayFault.{ReplayFault}
use Rattle.schedule_replay.specs.declared.fault.ReplayFault.TheVariants.{Write, Memory}

-- ---- the counts

abbrev pub is_refusal : Mail → Bool
is_refusal (mail.FromServer (answer.Refused request refusal)) = true
is_refusal _ = false

-- so many of these envelopes are refusals
abbrev pub refusals : List Envelope → ℕ
refusals [] = 0
refusals (e ∷ envelopes) = if is_refusal e.message then refusals envelopes + 1 else refusals envelopes

abbrev pub summary_text : ℕ → ℕ → ℕ → ℕ → ℕ → List ℕ
summary_text events envelopes sessions committed refused =
    codes "events " ++ (decimal events ++ (codes " envelopes " ++ (decimal envelopes ++ (codes " sessions " ++ (decimal sessions
    ++ (codes " committed " ++ (decimal committed ++ (codes " refused " ++ decimal refused))))))))

-- of a world after so many events: the envelopes that were made, the register's number, the length of the one log, and
-- the envelopes that are refusals
abbrev pub summary_of : ℕ → WorldState → List ℕ
summary_of events w = summary_text events (length w.sent) w.number (length (one_log w)) (refusals w.sent) ++ 10 ∷ []

-- ---- the drill

-- The first events of a number's schedule lead to this world: its events and some outcomes are a run of the world of its
-- cluster, in which the files of each node stand for its state and which can be relied on.
pub record LeadsTo (number events : ℕ) (world : WorldState) : Type 0 where
  pub outcomes : List Outcome
  pub worlds : List WorldState
  pub run : IsRunOnFiles StandFor (start numbered_cluster) (numbered_events number events) outcomes worlds
  pub reliable : IsReliable (start numbered_cluster ∷ worlds) outcomes
  pub last : last_world (start numbered_cluster) worlds ≡ world

-- a prefix of the counts is printed
pub record PrintsPart (number events : ℕ) (held_old held_new : Option (List ℕ)) : Type 0 where
  pub world : WorldState
  pub leads : LeadsTo number events world
  pub text : AppendsPrefix held_old held_new (summary_of events world)

-- all of them
pub record PrintsCounts (number events : ℕ) (held_old held_new : Option (List ℕ)) : Type 0 where
  pub world : WorldState
  pub leads : LeadsTo number events world
  pub text : Appends held_old held_new (summary_of events world)

-- What is printed at each end. Nothing is printed where memory ran out, unless the sink met that.
abbrev pub PrintsDrill : ℕ → ℕ → Option (List ℕ) → Option (List ℕ) → Type 0 → Result Unit ReplayFault → Type 0
PrintsDrill number events held_old held_new refused (Ok _) = PrintsCounts number events held_old held_new
PrintsDrill number events held_old held_new refused (Err Write) = PrintsPart number events held_old held_new
PrintsDrill number events held_old held_new refused (Err Memory) =
    Keeps held_old held_new ⊎ (refused × PrintsPart number events held_old held_new)
PrintsDrill number events held_old held_new refused (Err _) = ⊥
