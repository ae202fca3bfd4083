-- The parts of a drill: what its events made, and where it stands after some of them.
use Rattle.std.specs.Prelude.{◌≡◌, ℕ, ◌+◌, Bool, true, false, if◌then◌else◌, List, [], ◌∷◌, length, ⊤, ◌++◌}
use Rattle.net_model.specs.declared.brief.Brief.{Brief}
use Rattle.net_model.specs.declared.brief.Brief.TheVariants as brief
use Rattle.net_model.specs.declared.brief.FromServerBrief.TheVariants as answer
use Rattle.net_model.specs.declared.shown.Item.{Item}
use Rattle.net_model.specs.declared.outcome.Outcome.{Outcome}
use Rattle.net_model.specs.declared.outcome.Outcome.TheVariants as outcome
use Rattle.world_law.specs.Worlds.{WorldState, start}
use Rattle.world_law.specs.Runs.{IsRunOnFiles, last_world}
use Rattle.schedule_replay.specs.Plays.{StandFor}
use Rattle.schedule_replay.specs.Numbered.{numbered_cluster, numbered_events}
use Rattle.schedule_replay.specs.Drills.{refusals, summary_text, summary_of, LeadsTo}
use Rattle.schedule_replay.specs.declared.drilling.Tally.{Tally}
use Rattle.schedule_replay.specs.declared.summary.Summary.{Summary}

-- ---- what an outcome tells of envelopes

abbrev pub items_of : Outcome → List Item
items_of (outcome.Sent items) = items
items_of _ = []

abbrev pub tells_refusal : Brief → Bool
tells_refusal (brief.FromServer (answer.Refused request refusal)) = true
tells_refusal _ = false

abbrev pub one_more_if : Bool → ℕ → ℕ
one_more_if b count = if b then count + 1 else count

-- so many of these items tell of refusals
abbrev pub refusals_told : List Item → ℕ
refusals_told [] = 0
refusals_told (i ∷ items) = one_more_if (tells_refusal i.brief) (refusals_told items)

-- items whose numbers rise by one, the first of them this
abbrev pub AreNumberedFrom : ℕ → List Item → Type 0
AreNumberedFrom number [] = ⊤
AreNumberedFrom number (i ∷ items) = (i.number ≡ number) × AreNumberedFrom (number + 1) items

-- ---- the drill

-- the envelopes and refusals of a world
pub record IsTallyOf (w : WorldState) (t : Tally) : Type 0 where
  pub envelopes : t.envelopes ≡ length w.sent
  pub refused : t.refused ≡ refusals w.sent

-- after so many events of a number's schedule
pub record Drilled {P : Type 0} (shows : P → WorldState → Type 0) (number events : ℕ) (p : P) (t : Tally) : Type 0 where
  pub outcomes : List Outcome
  pub worlds : List WorldState
  pub run : IsRunOnFiles StandFor (start numbered_cluster) (numbered_events number events) outcomes worlds
  pub shown : shows p (last_world (start numbered_cluster) worlds)
  pub tally : IsTallyOf (last_world (start numbered_cluster) worlds) t

-- what each world that was shown tells of itself
pub record Shows {P : Type 0} (shows : P → WorldState → Type 0) (old new : P) (tells : WorldState → Type 0) : Type 0 where
  pub same : (w : WorldState) → shows old w → shows new w
  pub told : (w : WorldState) → shows old w → tells w

-- some world is shown
abbrev pub IsShown : {P : Type 0} → (P → WorldState → Type 0) → P → Type 0
IsShown shows p = (w : WorldState) × shows p w

abbrev pub text_of_summary : Summary → List ℕ
text_of_summary s = summary_text s.events s.envelopes s.sessions s.committed s.refused

-- the counts are those of the world that the schedule leads to
pub record Sums (number events : ℕ) (s : Summary) : Type 0 where
  pub world : WorldState
  pub leads : LeadsTo number events world
  pub text : text_of_summary s ++ 10 ∷ [] ≡ summary_of events world
