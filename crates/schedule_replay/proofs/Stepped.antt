-- A step of the world of a cluster, as a step of a world that is replayed.
use Rattle.std.proofs.Common.{◌≡◌, ℕ, List, false, Result, Ok, Err, IfOk, OnOk}
use Rattle.proto_model.specs.declared.message.Status.{Status}
use Rattle.proto_model.specs.Replicas.{ReplicaState}
use Rattle.net_model.specs.declared.event.Event.{Event}
use Rattle.net_model.specs.declared.outcome.Outcome.{Outcome}
use Rattle.world_core.specs.Kept.{KeptWorld}
use Rattle.world_core.specs.Fit.{IsWhole}
use Rattle.world_core.specs.Stepping.{LeadsTo}
use Rattle.schedule_replay.specs.Plays.{Leads}
use Rattle.schedule_replay.specs.Seen.{IsSeenAs}

pub seen_leads : {R E : Type 0} (state : R → ReplicaState) (files : R → ℕ → List ℕ) (f : R → Type 0) (s : R → Status) (old new : KeptWorld R) (e : Event) (result : Result Outcome E) → IfOk result (LeadsTo state files old new e) → OnOk result (new.spent ≡ false)
    → OnOk result (IsWhole f s new.stepped new.system new.rows) → IfOk result (Leads (IsSeenAs state files f s old) (IsSeenAs state files f s new) e)
seen_leads state files f s old new e (Err fault) leads going whole = tt
seen_leads state files f s old new e (Ok outcome) leads going whole = λ w is.
    let to = leads w is.shown in
    record { new = to.after; step = to.step; shown = record { going = going; whole = whole; shown = to.shown } }
