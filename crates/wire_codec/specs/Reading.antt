-- Reading a message from left to right: whether the bytes are in form, and what they then say.
use Rattle.std.specs.Prelude.{ℕ, ◌+◌, ◌^◌, Bool, ◌&&◌, not, nat_le, nat_lt, ◌==◌, List, length, take, drop, slice_index, Option, Some, None, Result, Ok, Err, if◌then◌else◌}
use Rattle.std.specs.Int.{w32, w64}
use Rattle.tx_model.specs.declared.record.Record.{Record}
use Rattle.tx_model.specs.declared.record.Head.{Head}
use Rattle.proto_model.specs.declared.message.Phase.{Phase}
use Rattle.proto_model.specs.declared.message.Phase.TheVariants.{Idle, Opening, Fetching, Repairing}
use Rattle.proto_model.specs.declared.message.ToNode.{ToNode}
use Rattle.proto_model.specs.declared.message.ToNode.TheVariants as to_node
use Rattle.proto_model.specs.declared.message.FromNode.{FromNode}
use Rattle.proto_model.specs.declared.message.FromNode.TheVariants as from_node
use Rattle.proto_model.specs.declared.refusal.Refusal.{Refusal}
use Rattle.proto_model.specs.declared.refusal.Refusal.TheVariants as refused
use Rattle.proto_model.specs.declared.refusal.ReadRefusal.{ReadRefusal}
use Rattle.proto_model.specs.declared.refusal.ReadRefusal.TheVariants as unserved
use Rattle.proto_model.specs.declared.client_message.ToServer.TheVariants as to_server
use Rattle.proto_model.specs.declared.client_message.FromServer.{FromServer}
use Rattle.proto_model.specs.declared.client_message.FromServer.TheVariants as from_server
use Rattle.record_frame.specs.declared.fault.FrameFault.{FrameFault}
use Rattle.record_frame.specs.declared.fault.FrameFault.TheVariants.{Short, Bad}
use Rattle.tx_model.specs.Reading.{number, length_in, body_in, is_place, is_next_place, is_count, is_body, record_of, is_name_at, name_at, after_name, are_lists, reads_of, writes_of, after_lists, is_transaction, transaction_of}
use Rattle.wire_codec.specs.declared.message.ToRegister.TheVariants.{Read, Cas}
use Rattle.wire_codec.specs.declared.message.FromRegister.{FromRegister}
use Rattle.wire_codec.specs.declared.message.FromRegister.TheVariants.{Value, Won, Lost, Exhausted}
use Rattle.wire_codec.specs.declared.message.Control.TheVariants.{Bye, Done, No}
use Rattle.wire_codec.specs.declared.message.Message.{Message}
use Rattle.wire_codec.specs.declared.message.Message.TheVariants as of
use Rattle.wire_codec.specs.Runs.{are_items, items_of, past_items}

-- the number in the eight bytes at a place
abbrev pub word : ℕ → List ℕ → ℕ
word at bytes = number w64 at bytes

-- ---- records behind their lengths, and batches

abbrev pub entry_body : List ℕ → List ℕ
entry_body bytes = take (number w32 0 bytes) (drop 4 bytes)

abbrev pub after_entry : List ℕ → List ℕ
after_entry bytes = drop (number w32 0 bytes) (drop 4 bytes)

abbrev pub entry_of : List ℕ → Record
entry_of bytes = record_of (entry_body bytes)

-- a record of this id at the front
unfoldable pub is_entry : ℕ → List ℕ → Bool
is_entry id bytes =
    nat_le 4 (length bytes)
    && (nat_le (number w32 0 bytes) (length (drop 4 bytes))
    && (is_body (entry_body bytes)
    && (word 1 (entry_body bytes) == id)))

-- The first id stands behind the count, the length of the first body and its version.
unfoldable pub is_batch : List ℕ → Bool
is_batch bytes =
    nat_le 14 (length bytes)
    && (nat_le 1 (slice_index bytes 0)
    && (nat_le (slice_index bytes 0) 8
    && (is_place (word 6 bytes)
    && (are_items is_entry after_entry (word 6 bytes) (slice_index bytes 0) (drop 1 bytes)
    && (length (past_items after_entry (slice_index bytes 0) (drop 1 bytes)) == 0)))))

unfoldable pub batch_of : List ℕ → List Record
batch_of bytes = items_of entry_of after_entry (slice_index bytes 0) (drop 1 bytes)

-- ---- heads

-- a head of this id at the front
unfoldable pub is_head : ℕ → List ℕ → Bool
is_head id bytes =
    nat_le 24 (length bytes)
    && ((word 0 bytes == id)
    && (is_place (word 0 bytes)
    && (is_place (word 8 bytes)
    && are_lists (drop 24 bytes))))

unfoldable pub head_of : List ℕ → Head
head_of bytes = record {
  id = word 0 bytes;
  session = word 8 bytes;
  mark = word 16 bytes;
  reads = reads_of (drop 24 bytes);
  writes = writes_of (drop 24 bytes);
}

abbrev pub after_head : List ℕ → List ℕ
after_head bytes = after_lists (drop 24 bytes)

unfoldable pub are_heads : ℕ → List ℕ → Bool
are_heads from bytes =
    nat_le 1 (length bytes)
    && (nat_le (slice_index bytes 0) 16
    && (are_items is_head after_head from (slice_index bytes 0) (drop 1 bytes)
    && (length (past_items after_head (slice_index bytes 0) (drop 1 bytes)) == 0)))

unfoldable pub heads_of : List ℕ → List Head
heads_of bytes = items_of head_of after_head (slice_index bytes 0) (drop 1 bytes)

-- ---- fields that are numbers, all of the bytes

abbrev pub is_asked_id : ℕ → Bool
is_asked_id n = nat_le n (2 ^ 48)

-- one to so many
abbrev pub is_up_to : ℕ → ℕ → Bool
is_up_to most n = nat_le 1 n && nat_le n most

abbrev pub one_in : (ℕ → Bool) → List ℕ → Option ℕ
one_in test bytes = if (length bytes == 8) && test (word 0 bytes) then Some (word 0 bytes) else None

abbrev pub two_in : (ℕ → ℕ → Bool) → List ℕ → Option (ℕ × ℕ)
two_in test bytes =
    if (length bytes == 16) && test (word 0 bytes) (word 8 bytes)
    then Some (word 0 bytes, word 8 bytes) else None

abbrev pub session_in : List ℕ → Option ℕ
session_in bytes = one_in is_place bytes

abbrev pub count_in : List ℕ → Option ℕ
count_in bytes = one_in is_count bytes

abbrev pub asked_id_in : List ℕ → Option ℕ
asked_id_in bytes = one_in is_asked_id bytes

abbrev pub session_and_count_in : List ℕ → Option (ℕ × ℕ)
session_and_count_in bytes = two_in (λ session n. is_place session && is_count n) bytes

abbrev pub session_and_next_in : List ℕ → Option (ℕ × ℕ)
session_and_next_in bytes = two_in (λ session n. is_place session && is_next_place n) bytes

abbrev pub request_and_id_in : List ℕ → Option (ℕ × ℕ)
request_and_id_in bytes = two_in (λ request id. is_place id) bytes

-- what is made of one number, of two, and of no field
abbrev pub of_one : {V : Type 0} → (ℕ → V) → Option ℕ → Option V
of_one make None = None
of_one make (Some n) = Some (make n)

abbrev pub of_two : {V : Type 0} → (ℕ → ℕ → V) → Option (ℕ × ℕ) → Option V
of_two make None = None
of_two make (Some x) = Some (make x.0 x.1)

abbrev pub of_none : {V : Type 0} → V → List ℕ → Option V
of_none v bytes = if length bytes == 0 then Some v else None

-- ---- fields that are numbers and more

abbrev pub is_fetch : List ℕ → Bool
is_fetch bytes =
    (length bytes == 17)
    && (is_place (word 0 bytes)
    && (is_next_place (word 8 bytes)
    && is_up_to 8 (slice_index bytes 16)))

abbrev pub fetch_in : List ℕ → Option Message
fetch_in bytes =
    if is_fetch bytes
    then Some (of.ToNode (to_node.Fetch (word 0 bytes) (word 8 bytes) (slice_index bytes 16)))
    else None

abbrev pub is_opened : List ℕ → Bool
is_opened bytes =
    (length bytes == 32)
    && (is_place (word 0 bytes)
    && (is_count (word 8 bytes)
    && (is_count (word 16 bytes)
    && is_count (word 24 bytes))))

abbrev pub opened_in : List ℕ → Option Message
opened_in bytes =
    if is_opened bytes
    then Some (of.FromNode
    (from_node.Opened (word 0 bytes) (word 8 bytes) (word 16 bytes) (word 24 bytes)))
    else None

abbrev pub is_feed : List ℕ → Bool
is_feed bytes =
    (length bytes == 9) && (is_asked_id (word 0 bytes) && is_up_to 16 (slice_index bytes 8))

abbrev pub feed_in : List ℕ → Option Message
feed_in bytes =
    if is_feed bytes
    then Some (of.ToServer (to_server.Feed (word 0 bytes) (slice_index bytes 8)))
    else None

abbrev pub is_session_and_batch : List ℕ → Bool
is_session_and_batch bytes =
    nat_le 8 (length bytes) && (is_place (word 0 bytes) && is_batch (drop 8 bytes))

abbrev pub of_batch : (ℕ → List Record → Message) → List ℕ → Option Message
of_batch make bytes =
    if is_session_and_batch bytes
    then Some (make (word 0 bytes) (batch_of (drop 8 bytes)))
    else None

abbrev pub append_in : List ℕ → Option Message
append_in bytes =
    if is_transaction bytes
    then Some (of.ToServer (to_server.Append (transaction_of bytes)))
    else None

abbrev pub is_from_and_heads : List ℕ → Bool
is_from_and_heads bytes =
    nat_le 16 (length bytes)
    && (is_asked_id (word 0 bytes)
    && (is_count (word 8 bytes)
    && are_heads (word 0 bytes) (drop 16 bytes)))

abbrev pub heads_in : List ℕ → Option Message
heads_in bytes =
    if is_from_and_heads bytes
    then Some (of.FromServer
    (from_server.Heads (word 0 bytes) (word 8 bytes) (heads_of (drop 16 bytes))))
    else None

-- a record behind its length, and nothing more
abbrev pub is_whole_entry : List ℕ → Bool
is_whole_entry bytes =
    nat_le 4 (length bytes) && ((length bytes == 4 + number w32 0 bytes) && is_body (drop 4 bytes))

abbrev pub entry_in : List ℕ → Option Message
entry_in bytes =
    if is_whole_entry bytes
    then Some (of.FromServer (from_server.Entry (record_of (drop 4 bytes))))
    else None

-- ---- reasons

abbrev pub phase_of : ℕ → Option Phase
phase_of byte =
    if byte == 0 then Some Idle
    else if byte == 1 then Some Opening
    else if byte == 2 then Some Fetching
    else if byte == 3 then Some Repairing
    else None

abbrev pub phase_in : List ℕ → Option Phase
phase_in bytes = if length bytes == 1 then phase_of (slice_index bytes 0) else None

abbrev pub of_phase : {V : Type 0} → (Phase → V) → Option Phase → Option V
of_phase make None = None
of_phase make (Some phase) = Some (make phase)

abbrev pub is_locked : List ℕ → Bool
is_locked bytes = is_name_at bytes && (length (after_name bytes) == 8)

abbrev pub refused_with : ℕ → Refusal → Message
refused_with request reason = of.FromServer (from_server.Refused request reason)

abbrev pub locked_in : ℕ → List ℕ → Option Message
locked_in request bytes =
    if is_locked bytes
    then Some (refused_with request (refused.Locked (name_at bytes) (word 0 (after_name bytes))))
    else None

-- why a request is refused, behind the reason's byte
unfoldable pub refusal_in : ℕ → ℕ → List ℕ → Option Message
refusal_in request reason bytes =
    if reason == 1
    then of_phase (λ phase. refused_with request (refused.NotRunning phase)) (phase_in bytes)
    else if reason == 2
    then of_one (λ session. refused_with request (refused.Closed session)) (session_in bytes)
    else if reason == 3
    then of_one (λ last. refused_with request (refused.MarkAhead last)) (count_in bytes)
    else if reason == 4 then locked_in request bytes
    else if reason == 5 then of_none (refused_with request refused.WindowFull) bytes
    else if reason == 6 then of_none (refused_with request refused.LogFull) bytes
    else None

abbrev pub refused_in : List ℕ → Option Message
refused_in bytes =
    if nat_le 9 (length bytes)
    then refusal_in (word 0 bytes) (slice_index bytes 8) (drop 9 bytes)
    else None

abbrev pub unserved_with : ReadRefusal → Message
unserved_with reason = of.FromServer (from_server.Unserved reason)

unfoldable pub read_refusal_in : ℕ → List ℕ → Option Message
read_refusal_in reason bytes =
    if reason == 1
    then of_phase (λ phase. unserved_with (unserved.NotRunning phase)) (phase_in bytes)
    else if reason == 7 then of_none (unserved_with unserved.BadId) bytes
    else if reason == 8
    then of_one (λ committed. unserved_with (unserved.NotYet committed)) (count_in bytes)
    else None

abbrev pub unserved_in : List ℕ → Option Message
unserved_in bytes =
    if nat_le 1 (length bytes) then read_refusal_in (slice_index bytes 0) (drop 1 bytes) else None

-- ---- families, from the byte after the kind on

-- what a server sends to a node of a session and a batch
abbrev pub batch_to_node : (ℕ → List Record → ToNode) → List ℕ → Option Message
batch_to_node make bytes = of_batch (λ session batch. of.ToNode (make session batch)) bytes

-- what a server sends to a node, and what a node answers, of a session and a count
abbrev pub counted_to_node : (ℕ → ℕ → ToNode) → List ℕ → Option Message
counted_to_node make bytes =
    of_two (λ session n. of.ToNode (make session n)) (session_and_count_in bytes)

abbrev pub counted_reply : (ℕ → ℕ → FromNode) → List ℕ → Option Message
counted_reply make bytes =
    of_two (λ session n. of.FromNode (make session n)) (session_and_count_in bytes)

-- what a server answers of a request and an id
abbrev pub answer_in : (ℕ → ℕ → FromServer) → List ℕ → Option Message
answer_in make bytes =
    of_two (λ request id. of.FromServer (make request id)) (request_and_id_in bytes)

-- what the register answers of its number
abbrev pub number_reply : (ℕ → FromRegister) → List ℕ → Option Message
number_reply make bytes = of_one (λ number. of.FromRegister (make number)) (count_in bytes)

unfoldable pub to_node_in : ℕ → List ℕ → Option Message
to_node_in kind bytes =
    if kind == 1 then of_one (λ session. of.ToNode (to_node.Open session)) (session_in bytes)
    else if kind == 2 then fetch_in bytes
    else if kind == 3 then batch_to_node to_node.Stage bytes
    else if kind == 4 then counted_to_node to_node.Adopt bytes
    else if kind == 5 then batch_to_node to_node.Append bytes
    else if kind == 6 then counted_to_node to_node.Low bytes
    else None

-- the replies that are a session and a count
unfoldable pub counted_in : ℕ → List ℕ → Option Message
counted_in kind bytes =
    if kind == 2 then counted_reply from_node.Stale bytes
    else if kind == 3 then counted_reply from_node.Unopened bytes
    else if kind == 5 then counted_reply from_node.Staged bytes
    else if kind == 7 then counted_reply from_node.Adopted bytes
    else if kind == 8 then counted_reply from_node.Acked bytes
    else if kind == 9 then counted_reply from_node.Gap bytes
    else if kind == 10 then counted_reply from_node.NotAdopted bytes
    else if kind == 11 then counted_reply from_node.LowSet bytes
    else None

unfoldable pub from_node_in : ℕ → List ℕ → Option Message
from_node_in kind bytes =
    if kind == 1 then opened_in bytes
    else if kind == 4
    then of_batch (λ session batch. of.FromNode (from_node.Records session batch)) bytes
    else if kind == 6
    then of_two (λ session next. of.FromNode (from_node.StageAt session next))
    (session_and_next_in bytes)
    else counted_in kind bytes

unfoldable pub to_server_in : ℕ → List ℕ → Option Message
to_server_in kind bytes =
    if kind == 1 then append_in bytes
    else if kind == 2 then feed_in bytes
    else if kind == 3 then of_one (λ id. of.ToServer (to_server.Get id)) (asked_id_in bytes)
    else if kind == 4 then of_none (of.ToServer to_server.Flush) bytes
    else None

unfoldable pub from_server_in : ℕ → List ℕ → Option Message
from_server_in kind bytes =
    if kind == 1 then answer_in from_server.Committed bytes
    else if kind == 2 then answer_in from_server.Pending bytes
    else if kind == 3 then refused_in bytes
    else if kind == 4 then heads_in bytes
    else if kind == 5 then entry_in bytes
    else if kind == 6
    then of_one (λ committed. of.FromServer (from_server.Flushed committed)) (count_in bytes)
    else if kind == 7 then unserved_in bytes
    else None

unfoldable pub to_register_in : ℕ → List ℕ → Option Message
to_register_in kind bytes =
    if kind == 1 then of_none (of.ToRegister Read) bytes
    else if kind == 2 then of_one (λ from. of.ToRegister (Cas from)) (count_in bytes)
    else None

unfoldable pub from_register_in : ℕ → List ℕ → Option Message
from_register_in kind bytes =
    if kind == 1 then number_reply Value bytes
    else if kind == 2 then number_reply Won bytes
    else if kind == 3 then number_reply Lost bytes
    else if kind == 4 then of_none (of.FromRegister Exhausted) bytes
    else None

unfoldable pub control_in : ℕ → List ℕ → Option Message
control_in kind bytes =
    if kind == 1 then of_none (of.Control Bye) bytes
    else if kind == 2 then of_none (of.Control Done) bytes
    else if kind == 3 then of_none (of.Control No) bytes
    else None

abbrev pub of_family : ℕ → ℕ → List ℕ → Option Message
of_family family kind bytes =
    if family == 1 then to_node_in kind bytes
    else if family == 2 then from_node_in kind bytes
    else if family == 3 then to_server_in kind bytes
    else if family == 4 then from_server_in kind bytes
    else if family == 5 then to_register_in kind bytes
    else if family == 6 then from_register_in kind bytes
    else if family == 7 then control_in kind bytes
    else None

-- the message that is the whole body
unfoldable pub message_in : List ℕ → Option Message
message_in body =
    if nat_lt (length body) 2
    then None
    else of_family (slice_index body 0) (slice_index body 1) (drop 2 body)

-- ---- frames

abbrev pub is_message_length : ℕ → Bool
is_message_length n = nat_le 2 n && nat_le n 600000

-- the body of the whole frame at the front
unfoldable pub frame_at : List ℕ → Result (List ℕ) FrameFault
frame_at bytes =
    let n = length_in bytes in
    if nat_lt (length bytes) 4 then Err Short
    else if not (is_message_length n) then Err (Bad 0)
    else if nat_lt (length bytes) (4 + n) then Err Short
    else Ok (body_in bytes)

-- the message of a body, and the length of its frame
abbrev pub with_frame_length : ℕ → Option Message → Result (Message × ℕ) FrameFault
with_frame_length n (Some m) = Ok (m, 4 + n)
with_frame_length n None = Err (Bad 4)

abbrev pub if_framed : Result (List ℕ) FrameFault → Result (Message × ℕ) FrameFault
if_framed (Ok body) = with_frame_length (length body) (message_in body)
if_framed (Err e) = Err e

-- the message of the frame at the front, and the frame's length
unfoldable pub message_at : List ℕ → Result (Message × ℕ) FrameFault
message_at bytes = if_framed (frame_at bytes)
