-- The bytes that spell a message of any family: its family, its kind and its fields. Numbers are big-endian.
use Rattle.std.specs.Prelude.{ℕ, List, [], ◌∷◌, ◌++◌, length}
use Rattle.std.specs.List.{flat_map}
use Rattle.std.specs.Int.{w64, to_be_bytes}
use Rattle.tx_model.specs.declared.record.Record.{Record}
use Rattle.tx_model.specs.declared.record.Head.{Head}
use Rattle.tx_model.specs.Spelling.{Spells, with_length, spelled_name, spelled_locks, spelled_transaction, record_body, IsCount}
use Rattle.proto_model.specs.declared.message.Phase.{Phase}
use Rattle.proto_model.specs.declared.message.Phase.TheVariants.{Idle, Opening, Fetching, Repairing, Running, Closed}
use Rattle.proto_model.specs.declared.message.ToNode.{ToNode}
use Rattle.proto_model.specs.declared.message.ToNode.TheVariants as to_node
use Rattle.proto_model.specs.declared.message.FromNode.{FromNode}
use Rattle.proto_model.specs.declared.message.FromNode.TheVariants as from_node
use Rattle.proto_model.specs.declared.refusal.Refusal.{Refusal}
use Rattle.proto_model.specs.declared.refusal.Refusal.TheVariants as refused
use Rattle.proto_model.specs.declared.refusal.ReadRefusal.{ReadRefusal}
use Rattle.proto_model.specs.declared.refusal.ReadRefusal.TheVariants as unserved
use Rattle.proto_model.specs.declared.client_message.ToServer.{ToServer}
use Rattle.proto_model.specs.declared.client_message.ToServer.TheVariants as to_server
use Rattle.proto_model.specs.declared.client_message.FromServer.{FromServer}
use Rattle.proto_model.specs.declared.client_message.FromServer.TheVariants as from_server
use Rattle.proto_model.specs.Validity.{IsValidToNode, IsValidFromNode, IsValidToServer, IsValidFromServer}
use Rattle.wire_codec.specs.declared.message.ToRegister.{ToRegister}
use Rattle.wire_codec.specs.declared.message.ToRegister.TheVariants.{Read, Cas}
use Rattle.wire_codec.specs.declared.message.FromRegister.{FromRegister}
use Rattle.wire_codec.specs.declared.message.FromRegister.TheVariants.{Value, Won, Lost, Exhausted}
use Rattle.wire_codec.specs.declared.message.Control.{Control}
use Rattle.wire_codec.specs.declared.message.Control.TheVariants.{Bye, Done, No}
use Rattle.wire_codec.specs.declared.message.Message.{Message}
use Rattle.wire_codec.specs.declared.message.Message.TheVariants as of

-- ---- numbers

abbrev pub one : ℕ → List ℕ
one a = to_be_bytes w64 a

abbrev pub two : ℕ → ℕ → List ℕ
two a b = one a ++ one b

abbrev pub four : ℕ → ℕ → ℕ → ℕ → List ℕ
four a b c d = one a ++ (one b ++ (one c ++ one d))

-- ---- lists

-- the length of a record's body, and the body
abbrev pub spelled_entry : Record → List ℕ
spelled_entry r = with_length (record_body r)

abbrev pub spelled_batch : List Record → List ℕ
spelled_batch records = length records ∷ flat_map spelled_entry records

unfoldable pub spelled_head : Head → List ℕ
spelled_head h = one h.id ++ (one h.session ++ (one h.mark ++ spelled_locks h.reads h.writes))

abbrev pub spelled_heads : List Head → List ℕ
spelled_heads heads = length heads ∷ flat_map spelled_head heads

-- ---- reasons

-- a refusal names none of the last two
abbrev pub phase_byte : Phase → ℕ
phase_byte Idle = 0
phase_byte Opening = 1
phase_byte Fetching = 2
phase_byte Repairing = 3
phase_byte Running = 4
phase_byte (Closed session) = 5

abbrev pub spelled_refusal : Refusal → List ℕ
spelled_refusal (refused.NotRunning phase) = 1 ∷ phase_byte phase ∷ []
spelled_refusal (refused.Closed session) = 2 ∷ one session
spelled_refusal (refused.MarkAhead last) = 3 ∷ one last
spelled_refusal (refused.Locked lock mark) = 4 ∷ (spelled_name lock ++ one mark)
spelled_refusal refused.WindowFull = 5 ∷ []
spelled_refusal refused.LogFull = 6 ∷ []

abbrev pub spelled_read_refusal : ReadRefusal → List ℕ
spelled_read_refusal (unserved.NotRunning phase) = 1 ∷ phase_byte phase ∷ []
spelled_read_refusal unserved.BadId = 7 ∷ []
spelled_read_refusal (unserved.NotYet committed) = 8 ∷ one committed

-- ---- families

abbrev pub spelled_to_node : ToNode → List ℕ
spelled_to_node (to_node.Open session) = 1 ∷ 1 ∷ one session
spelled_to_node (to_node.Fetch session from max) = 1 ∷ 2 ∷ (one session ++ (one from ++ max ∷ []))
spelled_to_node (to_node.Stage session batch) = 1 ∷ 3 ∷ (one session ++ spelled_batch batch)
spelled_to_node (to_node.Adopt session len) = 1 ∷ 4 ∷ two session len
spelled_to_node (to_node.Append session batch) = 1 ∷ 5 ∷ (one session ++ spelled_batch batch)
spelled_to_node (to_node.Low session low) = 1 ∷ 6 ∷ two session low

abbrev pub spelled_from_node : FromNode → List ℕ
spelled_from_node (from_node.Opened session adopted low len) = 2 ∷ 1 ∷ four session adopted low len
spelled_from_node (from_node.Stale session promised) = 2 ∷ 2 ∷ two session promised
spelled_from_node (from_node.Unopened session promised) = 2 ∷ 3 ∷ two session promised
spelled_from_node (from_node.Records session batch) = 2 ∷ 4 ∷ (one session ++ spelled_batch batch)
spelled_from_node (from_node.Staged session upto) = 2 ∷ 5 ∷ two session upto
spelled_from_node (from_node.StageAt session next) = 2 ∷ 6 ∷ two session next
spelled_from_node (from_node.Adopted session len) = 2 ∷ 7 ∷ two session len
spelled_from_node (from_node.Acked session len) = 2 ∷ 8 ∷ two session len
spelled_from_node (from_node.Gap session len) = 2 ∷ 9 ∷ two session len
spelled_from_node (from_node.NotAdopted session adopted) = 2 ∷ 10 ∷ two session adopted
spelled_from_node (from_node.LowSet session low) = 2 ∷ 11 ∷ two session low

abbrev pub spelled_to_server : ToServer → List ℕ
spelled_to_server (to_server.Append tx) = 3 ∷ 1 ∷ spelled_transaction tx
spelled_to_server (to_server.Feed from max) = 3 ∷ 2 ∷ (one from ++ max ∷ [])
spelled_to_server (to_server.Get id) = 3 ∷ 3 ∷ one id
spelled_to_server to_server.Flush = 3 ∷ 4 ∷ []

abbrev pub spelled_from_server : FromServer → List ℕ
spelled_from_server (from_server.Committed request id) = 4 ∷ 1 ∷ two request id
spelled_from_server (from_server.Pending request id) = 4 ∷ 2 ∷ two request id
spelled_from_server (from_server.Refused request reason) =
    4 ∷ 3 ∷ (one request ++ spelled_refusal reason)
spelled_from_server (from_server.Heads from committed heads) =
    4 ∷ 4 ∷ (one from ++ (one committed ++ spelled_heads heads))
spelled_from_server (from_server.Entry r) = 4 ∷ 5 ∷ spelled_entry r
spelled_from_server (from_server.Flushed committed) = 4 ∷ 6 ∷ one committed
spelled_from_server (from_server.Unserved reason) = 4 ∷ 7 ∷ spelled_read_refusal reason

abbrev pub spelled_to_register : ToRegister → List ℕ
spelled_to_register Read = 5 ∷ 1 ∷ []
spelled_to_register (Cas from) = 5 ∷ 2 ∷ one from

abbrev pub spelled_from_register : FromRegister → List ℕ
spelled_from_register (Value number) = 6 ∷ 1 ∷ one number
spelled_from_register (Won number) = 6 ∷ 2 ∷ one number
spelled_from_register (Lost number) = 6 ∷ 3 ∷ one number
spelled_from_register Exhausted = 6 ∷ 4 ∷ []

abbrev pub spelled_control : Control → List ℕ
spelled_control Bye = 7 ∷ 1 ∷ []
spelled_control Done = 7 ∷ 2 ∷ []
spelled_control No = 7 ∷ 3 ∷ []

-- ---- messages

abbrev pub message_body : Message → List ℕ
message_body (of.ToNode m) = spelled_to_node m
message_body (of.FromNode m) = spelled_from_node m
message_body (of.ToServer m) = spelled_to_server m
message_body (of.FromServer m) = spelled_from_server m
message_body (of.ToRegister m) = spelled_to_register m
message_body (of.FromRegister m) = spelled_from_register m
message_body (of.Control m) = spelled_control m

-- a frame of the wire has no check
abbrev pub message_frame : Message → List ℕ
message_frame m = with_length (message_body m)

abbrev pub IsValidToRegister : ToRegister → Type 0
IsValidToRegister Read = Unit {0}
IsValidToRegister (Cas from) = IsCount from

abbrev pub IsValidFromRegister : FromRegister → Type 0
IsValidFromRegister (Value number) = IsCount number
IsValidFromRegister (Won number) = IsCount number
IsValidFromRegister (Lost number) = IsCount number
IsValidFromRegister Exhausted = Unit {0}

abbrev pub IsValidMessage : Message → Type 0
IsValidMessage (of.ToNode m) = IsValidToNode m
IsValidMessage (of.FromNode m) = IsValidFromNode m
IsValidMessage (of.ToServer m) = IsValidToServer m
IsValidMessage (of.FromServer m) = IsValidFromServer m
IsValidMessage (of.ToRegister m) = IsValidToRegister m
IsValidMessage (of.FromRegister m) = IsValidFromRegister m
IsValidMessage (of.Control m) = Unit {0}

abbrev pub SpellsMessageBody : List ℕ → Message → Type 0
SpellsMessageBody bytes m = Spells IsValidMessage message_body bytes m

abbrev pub SpellsMessage : List ℕ → Message → Type 0
SpellsMessage bytes m = Spells IsValidMessage message_frame bytes m
