-- A client as clauses see it.
use Rattle.std.specs.Prelude.{ℕ, List}
use Rattle.tx_model.specs.declared.record.Head.{Head}
use Rattle.tx_model.specs.Applications.{Application}
use Rattle.client_core.specs.Clients.{ClientOf, ClientState}

-- over the value of its application
pub record Kept (A : Type 0) : Type 0 where
  -- the client's number, which stands in what it builds
  pub client : ℕ
  pub mark : ℕ
  pub heads : List Head
  pub app : A
  -- the number of the next request
  pub request : ℕ

-- its state, over the state of its application
abbrev pub state_of : {A S : Type 0} → (A → S) → Kept A → ClientOf S
state_of app_state kept = record { mark = kept.mark; heads = kept.heads; app = app_state kept.app; request = kept.request }

-- the state of a client whose application's value is its state
abbrev pub client_state : Kept Application → ClientState
client_state kept = state_of (λ app. app) kept
