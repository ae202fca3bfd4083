-- What holds of sessions, promises and envelopes.
use Rattle.std.specs.Prelude.{◌≡◌, ◌≢◌, ℕ, ◌<◌, ◌≤◌, ◌^◌, List, slice_get, Some}
use Rattle.std.specs.List.{AllByRecursion}
use Rattle.proto_model.specs.declared.message.Phase.TheVariants.{Idle}
use Rattle.proto_model.specs.Servers.{ServerState}
use Rattle.net_model.specs.declared.mail.Envelope.{Envelope}
use Rattle.net_model.specs.declared.outcome.Outcome.{Outcome}
use Rattle.net_model.specs.declared.outcome.Outcome.TheVariants.{Won}
use Rattle.world_law.specs.Worlds.{WorldState}

-- no two servers that are not idle have one session
abbrev pub HaveOwnSessions : (ℕ → ServerState) → Type 0
HaveOwnSessions servers =
    (u v : ℕ) → u ≢ v → (servers u).phase ≢ Idle → (servers v).phase ≢ Idle → (servers u).session ≢ (servers v).session

pub record IsSoundWorld (w : WorldState) : Type 0 where
  -- the register holds 0 or a session number, and no server keeps a number above it
  pub number : w.number < 2 ^ 48
  pub kept : (server from : ℕ) → w.kept server ≡ Some from → from ≤ w.number
  -- a node's adopted session is at most its promised one, and no promised session is above the register's number
  pub adopted : (node : ℕ) → (w.nodes node).adopted ≤ (w.nodes node).promised
  pub promised : (node : ℕ) → (w.nodes node).promised ≤ w.number
  pub sessions : HaveOwnSessions w.servers

-- no session is won by two events
abbrev pub WonAtMostOnce : List Outcome → Type 0
WonAtMostOnce outcomes =
    (i j session : ℕ) → i < j → slice_get outcomes i ≡ Some (Won session) → slice_get outcomes j ≡ Some (Won session) → ⊥

-- an envelope of a number stays what it was
abbrev pub EnvelopesStay : List WorldState → Type 0
EnvelopesStay worlds =
    (i j k : ℕ) (v w : WorldState) (e : Envelope) → i ≤ j → slice_get worlds i ≡ Some v → slice_get worlds j ≡ Some w →
    slice_get v.sent k ≡ Some e → slice_get w.sent k ≡ Some e

pub record IsSound (worlds : List WorldState) (outcomes : List Outcome) : Type 0 where
  pub each : AllByRecursion IsSoundWorld worlds
  pub won : WonAtMostOnce outcomes
  pub envelopes : EnvelopesStay worlds
