-- What a node shows, and what its files stand for.
use Rattle.std.specs.Prelude.{◌≡◌, refl}
use Rattle.std.proofs.Common.{sym, subst}
use Rattle.disk_model.specs.History.{Files}
use Rattle.proto_model.specs.Crashes.{unstaged}
use Rattle.proto_model.specs.Held.{Stands}
use Rattle.proto_model.specs.Nodes.{IsShown}
use Rattle.proto_model.specs.declared.message.Status.{Status}
use Rattle.partition_store.specs.Stands.{reads_of, held_now}
use Rattle.partition_store.specs.Stores.{Kept, state_of, IsStanding}

pub store-shown : {D : Type 0} (s : Files) (k : Kept D) → IsStanding s k → IsShown (state_of s k) k.status
store-shown s k is = record { promised = is.promised; adopted = is.adopted; low = is.low; length = is.length }

pub store-stands : {D : Type 0} (s : Files) (k : Kept D) → IsStanding s k → Stands (λ r. r ≡ unstaged (state_of s k)) (reads_of s)
store-stands s k is = record { held = held_now s; is = is.held; has = refl }

pub node-stands : {D : Type 0} (s : Files) (k : Kept D) (shown : Status) → shown ≡ k.status → IsStanding s k → IsShown (state_of s k) shown × Stands (λ r. r ≡ unstaged (state_of s k)) (reads_of s)
node-stands s k shown same is = (subst (IsShown (state_of s k)) (sym same) (store-shown s k is), store-stands s k is)
