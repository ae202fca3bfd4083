-- What the fields of `WaitingRequests` hold.
use Rattle.std.specs.Prelude.{◌≡◌, ℕ, zero, suc, ◌+◌, ◌<◌, ◌^◌, ◌&&◌, nat_eq, nat_lt, nat_le, List, [], ◌∷◌, Option, None, Some, is_some}
use Rattle.proto_model.specs.Servers.{Waiting}
use Rattle.indexmap.specs.IndexMap.{get, index_map_len}
use Rattle.partition_server.specs.declared.waiting.Asker.{Asker}
use Rattle.partition_server.specs.declared.waiting.WaitingRequests.TheInside.{Inside}

abbrev pub client_of : Option Asker → ℕ
client_of None = 0
client_of (Some asker) = asker.client

abbrev pub request_of : Option Asker → ℕ
request_of None = 0
request_of (Some asker) = asker.request

abbrev pub waiting_at : (ℕ → Option Asker) → ℕ → Waiting
waiting_at askers id = record { id = id; client = client_of (askers id); request = request_of (askers id) }

-- those at so many ids after this one
abbrev pub listed : (ℕ → Option Asker) → ℕ → ℕ → List Waiting
listed askers before zero = []
listed askers before (suc n) = waiting_at askers (suc before) ∷ listed askers (suc before) n

abbrev pub waiting_by : Inside → List Waiting
waiting_by r = listed (get nat_eq r.by_id) r.before (index_map_len r.by_id)

-- there is one at each of these ids, and at no other
pub record AreById (r : Inside) : Type 0 where
  pub keys : (id : ℕ) → is_some (get nat_eq r.by_id id) ≡ (nat_lt r.before id && nat_le id (r.before + index_map_len r.by_id))
  pub fits : r.before + index_map_len r.by_id < 2 ^ 64
