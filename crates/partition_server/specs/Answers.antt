-- What a server answers to its clients.
use Rattle.std.specs.Prelude.{◌≡◌, ℕ, Some}
use Rattle.proto_model.specs.declared.client_message.FromServer.{FromServer}
use Rattle.proto_model.specs.declared.refusal.ReadRefusal.{ReadRefusal}
use Rattle.proto_model.specs.declared.client_message.FromServer.TheVariants.{Refused, Unserved}
use Rattle.proto_model.specs.Servers.{Waiting}
use Rattle.proto_model.specs.Serving.{committed_answer}
use Rattle.proto_model.specs.declared.refusal.Refusal.{Refusal}
use Rattle.partition_server.specs.declared.fault.AppendFault.{AppendFault}
use Rattle.partition_server.specs.declared.fault.ReadFault.{ReadFault}
use Rattle.partition_server.specs.Faults.{refusal_of, read_refusal_of}

-- what a waiting request is answered once its record is committed, with its client
abbrev pub addressed : Waiting → ℕ × FromServer
addressed w = (w.client, committed_answer w)

-- the answer to an append tells of the refusal of a fault
pub record IsRefused (fault : AppendFault) (request : ℕ) (answer : FromServer) : Type 0 where
  pub refusal : Refusal
  pub told : refusal_of fault ≡ Some refusal
  pub is : answer ≡ Refused request refusal

-- the answer to another request does
pub record IsUnserved (fault : ReadFault) (answer : FromServer) : Type 0 where
  pub refusal : ReadRefusal
  pub told : read_refusal_of fault ≡ Some refusal
  pub is : answer ≡ Unserved refusal
