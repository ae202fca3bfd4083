-- What a client has applied, after any calls.
use Rattle.std.specs.Prelude.{ℕ, if◌then◌else◌, List, [], ◌∷◌, ◌++◌}
use Rattle.tx_model.specs.declared.record.Record.{Record}
use Rattle.proto_model.specs.declared.client_message.FromServer.{FromServer}
use Rattle.proto_model.specs.declared.client_message.FromServer.TheVariants.{Entry}
use Rattle.client_core.specs.Clients.{ClientState, fresh_client, client_step, after_build, applies}

-- what a call does: it takes an answer, builds a transaction, or is refused and changes nothing, as where memory runs out
pub data Does : Type 0 where
  Takes : FromServer → Does
  Builds : Does
  Fails : Does

-- a client at mark 0 that numbers its requests from this one on
abbrev pub new_client : ℕ → ClientState
new_client request = record fresh_client { request = request }

abbrev pub after_call : ClientState → Does → ClientState
after_call cl (Takes m) = client_step cl m
after_call cl Builds = after_build cl
after_call cl Fails = cl

abbrev pub after_calls : ClientState → List Does → ClientState
after_calls cl [] = cl
after_calls cl (call ∷ calls) = after_calls (after_call cl call) calls

-- the record that an answer has applied, if any
abbrev pub applied_of : ClientState → FromServer → List Record
applied_of cl (Entry r) = if applies cl r cl.heads then r ∷ [] else []
applied_of cl _ = []

abbrev pub applied_at : ClientState → Does → List Record
applied_at cl (Takes m) = applied_of cl m
applied_at cl _ = []

-- the records that calls have applied, in their order
abbrev pub applied_by : ClientState → List Does → List Record
applied_by cl [] = []
applied_by cl (call ∷ calls) = applied_at cl call ++ applied_by (after_call cl call) calls
