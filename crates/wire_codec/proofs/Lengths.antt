-- How long the body of a message is.
use Rattle.std.proofs.Common.{◌≡◌, ℕ, ◌+◌, ◌≤◌, List, [], length, length-append, arith}
use Rattle.std.specs.Int.{w32, w64, to_be_bytes}
use Rattle.tx_model.specs.declared.record.Record.{Record}
use Rattle.tx_model.specs.declared.record.Head.{Head}
use Rattle.tx_model.specs.Transactions.{Transaction, IsTransaction}
use Rattle.tx_model.specs.Records.{IsRecord, IsBatch, first_id}
use Rattle.tx_model.specs.Spelling.{spelled_names, spelled_transaction, record_body}
use Rattle.proto_model.specs.declared.message.ToNode.{ToNode}
use Rattle.proto_model.specs.declared.message.ToNode.TheVariants as to_node
use Rattle.proto_model.specs.declared.message.FromNode.{FromNode}
use Rattle.proto_model.specs.declared.message.FromNode.TheVariants as from_node
use Rattle.proto_model.specs.declared.refusal.Refusal.{Refusal}
use Rattle.proto_model.specs.declared.refusal.Refusal.TheVariants as refused
use Rattle.proto_model.specs.declared.refusal.ReadRefusal.{ReadRefusal}
use Rattle.proto_model.specs.declared.refusal.ReadRefusal.TheVariants as unserved
use Rattle.proto_model.specs.declared.client_message.ToServer.{ToServer}
use Rattle.proto_model.specs.declared.client_message.ToServer.TheVariants as to_server
use Rattle.proto_model.specs.declared.client_message.FromServer.{FromServer}
use Rattle.proto_model.specs.declared.client_message.FromServer.TheVariants as from_server
use Rattle.proto_model.specs.Validity.{IsValidToNode, IsValidFromNode, IsValidToServer, IsValidFromServer, IsValidRefusal, AreHeads}
use Rattle.record_frame.proofs.Parts.{names-length, record-length}
use Rattle.wire_codec.specs.declared.message.ToRegister.{ToRegister}
use Rattle.wire_codec.specs.declared.message.ToRegister.TheVariants.{Read, Cas}
use Rattle.wire_codec.specs.declared.message.FromRegister.{FromRegister}
use Rattle.wire_codec.specs.declared.message.FromRegister.TheVariants.{Value, Won, Lost, Exhausted}
use Rattle.wire_codec.specs.declared.message.Control.{Control}
use Rattle.wire_codec.specs.declared.message.Control.TheVariants.{Bye, Done, No}
use Rattle.wire_codec.specs.declared.message.Message.{Message}
use Rattle.wire_codec.specs.declared.message.Message.TheVariants as of
use Rattle.wire_codec.specs.Spelling.{spelled_entry, spelled_batch, spelled_head, spelled_heads, spelled_refusal, spelled_read_refusal, spelled_to_node, spelled_from_node, spelled_to_server, spelled_from_server, spelled_to_register, spelled_from_register, spelled_control, message_body, IsValidMessage}
use Rattle.wire_codec.specs.Faults.{IsMessageLength}
use Rattle.wire_codec.proofs.Runs.{items-length}
use Rattle.wire_codec.proofs.Formats.{IsEntryAt, IsHeadAt, entries_run, heads_run}

-- ---- lists

entry-length : (r : Record) → IsRecord r → length (spelled_entry r) ≤ 69747
entry-length r is = omega (arith, record-length r is, length-append (to_be_bytes w32 (length (record_body r))) (record_body r))

batch-length : (batch : List Record) → IsBatch batch → length (spelled_batch batch) ≤ 557977
batch-length batch is =
    let items = items-length spelled_entry IsEntryAt 69747 (λ id r at. entry-length r at.is) (first_id batch) batch (entries_run (first_id batch) batch is.rise) in
    omega (arith, items, is.few)

head-length : (id : ℕ) (h : Head) → IsHeadAt id h → length (spelled_head h) ≤ 4186
unfolding spelled_head
head-length id h at =
    let reads = names-length [] h.reads at.is.reads in
    let writes = names-length [] h.writes at.is.writes in
    omega (arith, at.is.count, length-append (spelled_names h.reads) (spelled_names h.writes))

heads-length : (from : ℕ) (heads : List Head) → AreHeads from heads → length (spelled_heads heads) ≤ 66977
heads-length from heads are =
    let items = items-length spelled_head IsHeadAt 4186 head-length from heads (heads_run from heads are.rise) in
    omega (arith, items, are.few)

transaction-length : (tx : Transaction) → IsTransaction tx → length (spelled_transaction tx) ≤ 69743
unfolding record_body
transaction-length tx is =
    let r : Record = record { id = 1; session = 1; tx = tx } in
    let whole = record-length r (record { id = record { some = omega arith; below = omega arith }; session = record { some = omega arith; below = omega arith }; tx = is }) in
    let front : length (record_body r) ≡ 17 + length (spelled_transaction tx) = omega arith in
    omega (arith, whole.most)

-- ---- messages

abbrev IsFit : List ℕ → Type 0
IsFit body = IsMessageLength (length body)

refusal-length : (reason : Refusal) → IsValidRefusal reason → length (spelled_refusal reason) ≤ 74
refusal-length (refused.NotRunning phase) is = omega arith
refusal-length (refused.Closed session) is = omega arith
refusal-length (refused.MarkAhead last) is = omega arith
refusal-length (refused.Locked lock mark) is = omega (arith, is.0.short, length-append lock (to_be_bytes w64 mark))
refusal-length refused.WindowFull is = omega arith
refusal-length refused.LogFull is = omega arith

read_refusal-length : (reason : ReadRefusal) → length (spelled_read_refusal reason) ≤ 9
read_refusal-length (unserved.NotRunning phase) = omega arith
read_refusal-length unserved.BadId = omega arith
read_refusal-length (unserved.NotYet committed) = omega arith

to_node-fits : (m : ToNode) → IsValidToNode m → IsFit (spelled_to_node m)
to_node-fits (to_node.Open s) is = record { least = omega arith; most = omega arith }
to_node-fits (to_node.Fetch s from max) is = record { least = omega arith; most = omega arith }
to_node-fits (to_node.Stage s batch) is = record { least = omega arith; most = omega (arith, batch-length batch is.1) }
to_node-fits (to_node.Adopt s len) is = record { least = omega arith; most = omega arith }
to_node-fits (to_node.Append s batch) is = record { least = omega arith; most = omega (arith, batch-length batch is.1) }
to_node-fits (to_node.Low s low) is = record { least = omega arith; most = omega arith }

from_node-fits : (m : FromNode) → IsValidFromNode m → IsFit (spelled_from_node m)
from_node-fits (from_node.Opened s adopted low len) is = record { least = omega arith; most = omega arith }
from_node-fits (from_node.Stale s n) is = record { least = omega arith; most = omega arith }
from_node-fits (from_node.Unopened s n) is = record { least = omega arith; most = omega arith }
from_node-fits (from_node.Records s batch) is = record { least = omega arith; most = omega (arith, batch-length batch is.1) }
from_node-fits (from_node.Staged s n) is = record { least = omega arith; most = omega arith }
from_node-fits (from_node.StageAt s n) is = record { least = omega arith; most = omega arith }
from_node-fits (from_node.Adopted s n) is = record { least = omega arith; most = omega arith }
from_node-fits (from_node.Acked s n) is = record { least = omega arith; most = omega arith }
from_node-fits (from_node.Gap s n) is = record { least = omega arith; most = omega arith }
from_node-fits (from_node.NotAdopted s n) is = record { least = omega arith; most = omega arith }
from_node-fits (from_node.LowSet s n) is = record { least = omega arith; most = omega arith }

to_server-fits : (m : ToServer) → IsValidToServer m → IsFit (spelled_to_server m)
to_server-fits (to_server.Append tx) is = record { least = omega arith; most = omega (arith, transaction-length tx is) }
to_server-fits (to_server.Feed from max) is = record { least = omega arith; most = omega arith }
to_server-fits (to_server.Get id) is = record { least = omega arith; most = omega arith }
to_server-fits to_server.Flush is = record { least = omega arith; most = omega arith }

from_server-fits : (m : FromServer) → IsValidFromServer m → IsFit (spelled_from_server m)
from_server-fits (from_server.Committed request id) is = record { least = omega arith; most = omega arith }
from_server-fits (from_server.Pending request id) is = record { least = omega arith; most = omega arith }
from_server-fits (from_server.Refused request reason) is = record { least = omega arith; most = omega (arith, refusal-length reason is.1) }
from_server-fits (from_server.Heads from committed heads) is = record { least = omega arith; most = omega (arith, heads-length from heads is.2) }
from_server-fits (from_server.Entry r) is = record { least = omega arith; most = omega (arith, entry-length r is) }
from_server-fits (from_server.Flushed committed) is = record { least = omega arith; most = omega arith }
from_server-fits (from_server.Unserved reason) is = record { least = omega arith; most = omega (arith, read_refusal-length reason) }

to_register-fits : (m : ToRegister) → IsFit (spelled_to_register m)
to_register-fits Read = record { least = omega arith; most = omega arith }
to_register-fits (Cas from) = record { least = omega arith; most = omega arith }

from_register-fits : (m : FromRegister) → IsFit (spelled_from_register m)
from_register-fits (Value number) = record { least = omega arith; most = omega arith }
from_register-fits (Won number) = record { least = omega arith; most = omega arith }
from_register-fits (Lost number) = record { least = omega arith; most = omega arith }
from_register-fits Exhausted = record { least = omega arith; most = omega arith }

control-fits : (m : Control) → IsFit (spelled_control m)
control-fits Bye = record { least = omega arith; most = omega arith }
control-fits Done = record { least = omega arith; most = omega arith }
control-fits No = record { least = omega arith; most = omega arith }

pub message-fits : (m : Message) → IsValidMessage m → IsFit (message_body m)
message-fits (of.ToNode m) is = to_node-fits m is
message-fits (of.FromNode m) is = from_node-fits m is
message-fits (of.ToServer m) is = to_server-fits m is
message-fits (of.FromServer m) is = from_server-fits m is
message-fits (of.ToRegister m) is = to_register-fits m
message-fits (of.FromRegister m) is = from_register-fits m
message-fits (of.Control m) is = control-fits m
