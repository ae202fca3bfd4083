-- What a delivery makes of the parties, and what it gives.
use Rattle.std.specs.Prelude.{◌≡◌, ℕ, Bool, ◌+◌, List, [], ◌∷◌, length}
use Rattle.proto_model.specs.declared.client_message.FromServer.{FromServer}
use Rattle.proto_model.specs.Quorums.{is_within}
use Rattle.net_model.specs.declared.mail.Envelope.{Envelope}
use Rattle.net_model.specs.declared.mail.Party.{Party}
use Rattle.net_model.specs.declared.mail.Party.TheVariants as party
use Rattle.net_model.specs.declared.mail.Mail.{Mail}
use Rattle.net_model.specs.declared.shown.Item.{Item}
use Rattle.net_model.specs.declared.outcome.Outcome.{Outcome}
use Rattle.net_model.specs.declared.outcome.Outcome.TheVariants as outcome
use Rattle.net_model.specs.Briefs.{items_from}
use Rattle.world_law.specs.Worlds.{WorldState}
use Rattle.world_law.specs.Deliveries.{answer_from, taken, sends}
use Rattle.world_law.specs.Outcomes.{mail_outcome}
use Rattle.world_core.specs.declared.deliver.Got.{Got}
use Rattle.world_core.specs.declared.deliver.Got.TheVariants as got
use Rattle.world_core.specs.Kept.{Parties, HasParties}
use Rattle.world_core.specs.Fit.{AreFit}

-- a client's number that is in the cluster
abbrev pub is_to_client : ℕ → (ℕ × FromServer) → Bool
is_to_client clients answer = is_within clients answer.0

-- a server's answer with its client, as an envelope
abbrev pub pair_envelope : ℕ → (ℕ × FromServer) → Envelope
pair_envelope server answer = answer_from server (party.Client answer.0) answer.1

-- the envelopes that a delivery made
abbrev pub made_by : Got → List Envelope
made_by (got.Made envelopes) = envelopes.items
made_by (got.Client client mark) = []

-- the outcome of the envelopes that were sent
abbrev pub items_outcome : List Item → Outcome
items_outcome [] = outcome.Quiet
items_outcome (item ∷ items) = outcome.Sent (item ∷ items)

-- the outcome of a delivery, where so many envelopes were sent before
abbrev pub outcome_got : ℕ → Got → Outcome
outcome_got count (got.Made envelopes) = items_outcome (items_from (count + 1) envelopes.items)
outcome_got count (got.Client client mark) = outcome.Client client mark

-- A delivery makes of each world with the old parties one with the new, and gives this. A node that gets it has these files
-- afterwards.
pub record Delivers (old new : Parties) (from to : Party) (m : Mail) (given : Got) : Type 0 where
  pub files : ℕ → List ℕ
  pub leads : (w : WorldState) → HasParties old w → HasParties new (taken w files from to m)
  pub made : (w : WorldState) → HasParties old w → made_by given ≡ sends w from to m
  pub gives : (w : WorldState) → HasParties old w → outcome_got (length w.sent) given ≡ mail_outcome w from to m
  pub fit : AreFit (made_by given)
