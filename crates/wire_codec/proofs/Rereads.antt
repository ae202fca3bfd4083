-- Every kind of message: what is spelled is in form, and read again.
use Rattle.std.proofs.Common.{◌≡◌, ℕ, ◌+◌, true, ◌&&◌, nat_lt, List, [], ◌∷◌, ◌++◌, length, Some, refl, ap, ◌∙◌, length-append, arith}
use Rattle.std.specs.Int.{w32, w64, to_be_bytes}
use Rattle.std.proofs.lemmas.Bool.{le-leb, lt-ltb, le-ltb}
use Rattle.std.proofs.lemmas.Bool.Decides.{Decides-eqb}
use Rattle.std.proofs.lemmas.List.{take_at, drop_at}
use Rattle.std.proofs.lemmas.Nat.{from_be_bytes-to_be_bytes_4, from_be_bytes-to_be_bytes_8}
use Rattle.tx_model.specs.declared.record.Record.{Record}
use Rattle.tx_model.specs.declared.record.Head.{Head}
use Rattle.tx_model.specs.Transactions.{IsName}
use Rattle.tx_model.specs.Records.{IsPlace, IsRecord}
use Rattle.tx_model.specs.Spelling.{spelled_name, record_body, IsNextPlace, IsCount}
use Rattle.proto_model.specs.declared.message.ToNode.{ToNode}
use Rattle.proto_model.specs.declared.message.ToNode.TheVariants as to_node
use Rattle.proto_model.specs.declared.message.FromNode.{FromNode}
use Rattle.proto_model.specs.declared.message.FromNode.TheVariants as from_node
use Rattle.proto_model.specs.declared.refusal.Refusal.{Refusal}
use Rattle.proto_model.specs.declared.refusal.Refusal.TheVariants as refused
use Rattle.proto_model.specs.declared.refusal.ReadRefusal.{ReadRefusal}
use Rattle.proto_model.specs.declared.refusal.ReadRefusal.TheVariants as unserved
use Rattle.proto_model.specs.declared.client_message.ToServer.{ToServer}
use Rattle.proto_model.specs.declared.client_message.ToServer.TheVariants as to_server
use Rattle.proto_model.specs.declared.client_message.FromServer.{FromServer}
use Rattle.proto_model.specs.declared.client_message.FromServer.TheVariants as from_server
use Rattle.proto_model.specs.Validity.{IsAskedId, IsUpTo, IsWord, AreHeads, IsValidToNode, IsValidFromNode, IsValidToServer, IsValidFromServer, IsValidRefusal, IsValidReadRefusal}
use Rattle.tx_model.specs.Reading.{number, is_place, is_next_place, is_count, name_at, after_name}
use Rattle.record_frame.proofs.Parts.{place-passes, transaction-read, record-read, record-length}
use Rattle.wire_codec.specs.declared.message.ToRegister.{ToRegister}
use Rattle.wire_codec.specs.declared.message.ToRegister.TheVariants.{Read, Cas}
use Rattle.wire_codec.specs.declared.message.FromRegister.{FromRegister}
use Rattle.wire_codec.specs.declared.message.FromRegister.TheVariants.{Value, Won, Lost, Exhausted}
use Rattle.wire_codec.specs.declared.message.Control.{Control}
use Rattle.wire_codec.specs.declared.message.Control.TheVariants.{Bye, Done, No}
use Rattle.wire_codec.specs.declared.message.Message.{Message}
use Rattle.wire_codec.specs.declared.message.Message.TheVariants as of
use Rattle.wire_codec.specs.Spelling.{one, two, four, phase_byte, spelled_entry, spelled_heads, spelled_refusal, spelled_read_refusal, spelled_to_node, spelled_from_node, spelled_to_server, spelled_from_server, spelled_to_register, spelled_from_register, spelled_control, message_body, IsValidMessage, IsValidToRegister, IsValidFromRegister}
use Rattle.wire_codec.specs.Reading.{is_asked_id, session_in, count_in, asked_id_in, session_and_count_in, session_and_next_in, request_and_id_in, of_one, of_two, fetch_in, opened_in, feed_in, are_heads, heads_in, entry_in, refused_with, locked_in, refusal_in, refused_in, unserved_with, read_refusal_in, unserved_in, to_node_in, counted_in, from_node_in, to_server_in, from_server_in, to_register_in, from_register_in, control_in, of_family, message_in}
use Rattle.wire_codec.proofs.Batches.{heads-read}
use Rattle.wire_codec.proofs.Shapes.{both, count-passes, next-passes, asked-passes, one-read, two-read, batch_behind-read, phase-read}

-- ---- numbers

session-read : (make : ℕ → Message) (s : ℕ) → IsPlace s → of_one make (session_in (one s)) ≡ Some (make s)
session-read make s is = one-read is_place make s (omega (arith, is.below)) (place-passes s is)

count-read : (make : ℕ → Message) (n : ℕ) → IsCount n → of_one make (count_in (one n)) ≡ Some (make n)
count-read make n is = one-read is_count make n (omega (arith, is)) (count-passes n is)

asked-read : (make : ℕ → Message) (n : ℕ) → IsAskedId n → of_one make (asked_id_in (one n)) ≡ Some (make n)
asked-read make n is = one-read is_asked_id make n (omega (arith, is)) (asked-passes n is)

counted-read : (make : ℕ → ℕ → Message) (s n : ℕ) → IsPlace s → IsCount n → of_two make (session_and_count_in (two s n)) ≡ Some (make s n)
counted-read make s n p q = two-read (λ session n. is_place session && is_count n) make s n (omega (arith, p.below)) (omega (arith, q)) (both _ _ (place-passes s p) (count-passes n q))

next-read : (make : ℕ → ℕ → Message) (s n : ℕ) → IsPlace s → IsNextPlace n → of_two make (session_and_next_in (two s n)) ≡ Some (make s n)
next-read make s n p q = two-read (λ session n. is_place session && is_next_place n) make s n (omega (arith, p.below)) (omega (arith, q.within)) (both _ _ (place-passes s p) (next-passes n q))

answered-read : (make : ℕ → ℕ → Message) (request id : ℕ) → IsWord request → IsPlace id → of_two make (request_and_id_in (two request id)) ≡ Some (make request id)
answered-read make request id p q = two-read (λ request id. is_place id) make request id p (omega (arith, q.below)) (place-passes id q)

-- ---- numbers and more

fetch-read : (s from max : ℕ) → IsPlace s → IsNextPlace from → IsUpTo 8 max → fetch_in (one s ++ (one from ++ max ∷ [])) ≡ Some (of.ToNode (to_node.Fetch s from max))
fetch-read s from max is is_from is_max =
    let bytes = one s ++ (one from ++ max ∷ []) in
    let n : number w64 0 bytes ≡ s = from_be_bytes-to_be_bytes_8 s (omega (arith, is.below)) in
    let f : number w64 8 bytes ≡ from = from_be_bytes-to_be_bytes_8 from (omega (arith, is_from.within)) in
    let place : is_place (number w64 0 bytes) ≡ true = ap is_place n ∙ place-passes s is in
    let next : is_next_place (number w64 8 bytes) ≡ true = ap is_next_place f ∙ next-passes from is_from in
    rw (place, next, n, f, le-leb _ _ is_max.some, le-leb _ _ is_max.few) refl

opened-read : (s a w len : ℕ) → IsPlace s → IsCount a → IsCount w → IsCount len → opened_in (four s a w len) ≡ Some (of.FromNode (from_node.Opened s a w len))
opened-read s a w len is is_a is_w is_len =
    let bytes = four s a w len in
    let n : number w64 0 bytes ≡ s = from_be_bytes-to_be_bytes_8 s (omega (arith, is.below)) in
    let n_a : number w64 8 bytes ≡ a = from_be_bytes-to_be_bytes_8 a (omega (arith, is_a)) in
    let n_w : number w64 16 bytes ≡ w = from_be_bytes-to_be_bytes_8 w (omega (arith, is_w)) in
    let n_len : number w64 24 bytes ≡ len = from_be_bytes-to_be_bytes_8 len (omega (arith, is_len)) in
    let place : is_place (number w64 0 bytes) ≡ true = ap is_place n ∙ place-passes s is in
    let p_a : is_count (number w64 8 bytes) ≡ true = ap is_count n_a ∙ count-passes a is_a in
    let p_w : is_count (number w64 16 bytes) ≡ true = ap is_count n_w ∙ count-passes w is_w in
    let p_len : is_count (number w64 24 bytes) ≡ true = ap is_count n_len ∙ count-passes len is_len in
    rw (place, p_a, p_w, p_len, n, n_a, n_w, n_len) refl

feed-read : (from max : ℕ) → IsAskedId from → IsUpTo 16 max → feed_in (one from ++ max ∷ []) ≡ Some (of.ToServer (to_server.Feed from max))
feed-read from max is is_max =
    let bytes = one from ++ max ∷ [] in
    let n : number w64 0 bytes ≡ from = from_be_bytes-to_be_bytes_8 from (omega (arith, is)) in
    let asked : is_asked_id (number w64 0 bytes) ≡ true = ap is_asked_id n ∙ asked-passes from is in
    rw (asked, n, le-leb _ _ is_max.some, le-leb _ _ is_max.few) refl

heads_behind-read : (from committed : ℕ) (heads : List Head) → IsAskedId from → IsCount committed → AreHeads from heads → heads_in (one from ++ (one committed ++ spelled_heads heads)) ≡ Some (of.FromServer (from_server.Heads from committed heads))
heads_behind-read from committed heads is is_committed are =
    let bytes = one from ++ (one committed ++ spelled_heads heads) in
    let read = heads-read from heads are in
    let n : number w64 0 bytes ≡ from = from_be_bytes-to_be_bytes_8 from (omega (arith, is)) in
    let c : number w64 8 bytes ≡ committed = from_be_bytes-to_be_bytes_8 committed (omega (arith, is_committed)) in
    let asked : is_asked_id (number w64 0 bytes) ≡ true = ap is_asked_id n ∙ asked-passes from is in
    let count : is_count (number w64 8 bytes) ≡ true = ap is_count c ∙ count-passes committed is_committed in
    let form : are_heads (number w64 0 bytes) (spelled_heads heads) ≡ true = ap (λ (k : ℕ). are_heads k (spelled_heads heads)) n ∙ read.form in
    rw (le-leb 16 (length bytes) (omega arith), asked, count, form, n, c, read.same) refl

entry_behind-read : (r : Record) → IsRecord r → entry_in (spelled_entry r) ≡ Some (of.FromServer (from_server.Entry r))
entry_behind-read r is =
    let body = record_body r in
    let bytes = spelled_entry r in
    let read = record-read r is in
    let long = record-length r is in
    let n : number w32 0 bytes ≡ length body = from_be_bytes-to_be_bytes_4 (length body) (omega (arith, long.most)) in
    let all : length bytes ≡ 4 + number w32 0 bytes = omega (arith, n, length-append (to_be_bytes w32 (length body)) body) in
    rw (le-leb 4 (length bytes) (omega arith), (Decides-eqb _ _).1 all, read.form, read.same) refl

-- ---- reasons

locked-read : (request : ℕ) (lock : List ℕ) (mark : ℕ) → IsName lock → IsWord mark → locked_in request (spelled_name lock ++ one mark) ≡ Some (refused_with request (refused.Locked lock mark))
locked-read request lock mark is word =
    let bytes = spelled_name lock ++ one mark in
    let name : name_at bytes ≡ lock = take_at lock (one mark) (length lock) refl in
    let after : after_name bytes ≡ one mark = drop_at lock (one mark) (length lock) refl in
    let n : number w64 0 (one mark) ≡ mark = from_be_bytes-to_be_bytes_8 mark word in
    let long : nat_lt (length lock) (length bytes) ≡ true = lt-ltb _ _ (omega (arith, length-append lock (one mark))) in
    rw (le-leb _ _ is.some, le-leb _ _ is.short, long, name, after, n) refl

refused-shape : (request reason : ℕ) (bytes : List ℕ) → IsWord request → refused_in (one request ++ reason ∷ bytes) ≡ refusal_in request reason bytes
refused-shape request reason bytes word =
    let n : number w64 0 (one request ++ reason ∷ bytes) ≡ request = from_be_bytes-to_be_bytes_8 request word in
    rw (le-leb 9 (length (one request ++ reason ∷ bytes)) (omega arith), n) refl

refusal-read : (request : ℕ) (reason : Refusal) → IsWord request → IsValidRefusal reason → refused_in (one request ++ spelled_refusal reason) ≡ Some (refused_with request reason)
unfolding refusal_in
refusal-read request (refused.NotRunning phase) word is = refused-shape request 1 (phase_byte phase ∷ []) word ∙ phase-read (λ p. refused_with request (refused.NotRunning p)) phase is
refusal-read request (refused.Closed session) word is = refused-shape request 2 (one session) word ∙ session-read (λ s. refused_with request (refused.Closed s)) session is
refusal-read request (refused.MarkAhead last) word is = refused-shape request 3 (one last) word ∙ count-read (λ n. refused_with request (refused.MarkAhead n)) last is
refusal-read request (refused.Locked lock mark) word is = refused-shape request 4 (spelled_name lock ++ one mark) word ∙ locked-read request lock mark is.0 is.1
refusal-read request refused.WindowFull word is = refused-shape request 5 [] word
refusal-read request refused.LogFull word is = refused-shape request 6 [] word

read_refusal-read : (reason : ReadRefusal) → IsValidReadRefusal reason → unserved_in (spelled_read_refusal reason) ≡ Some (unserved_with reason)
unfolding read_refusal_in
read_refusal-read (unserved.NotRunning phase) is = phase-read (λ p. unserved_with (unserved.NotRunning p)) phase is
read_refusal-read unserved.BadId is = refl
read_refusal-read (unserved.NotYet committed) is = count-read (λ n. unserved_with (unserved.NotYet n)) committed is

-- ---- families

shape : (family kind : ℕ) (bytes : List ℕ) → message_in (family ∷ kind ∷ bytes) ≡ of_family family kind bytes
unfolding message_in
shape family kind bytes = rw (le-ltb (length (family ∷ kind ∷ bytes)) 2 (omega arith)) refl

to_node-read : (m : ToNode) → IsValidToNode m → message_in (spelled_to_node m) ≡ Some (of.ToNode m)
unfolding to_node_in
to_node-read (to_node.Open s) is = shape 1 1 _ ∙ session-read (λ s. of.ToNode (to_node.Open s)) s is
to_node-read (to_node.Fetch s from max) is = shape 1 2 _ ∙ fetch-read s from max is.0 is.1 is.2
to_node-read (to_node.Stage s batch) is = shape 1 3 _ ∙ batch_behind-read (λ s b. of.ToNode (to_node.Stage s b)) s batch is.0 is.1
to_node-read (to_node.Adopt s len) is = shape 1 4 _ ∙ counted-read (λ s n. of.ToNode (to_node.Adopt s n)) s len is.0 is.1
to_node-read (to_node.Append s batch) is = shape 1 5 _ ∙ batch_behind-read (λ s b. of.ToNode (to_node.Append s b)) s batch is.0 is.1
to_node-read (to_node.Low s low) is = shape 1 6 _ ∙ counted-read (λ s n. of.ToNode (to_node.Low s n)) s low is.0 is.1

from_node-read : (m : FromNode) → IsValidFromNode m → message_in (spelled_from_node m) ≡ Some (of.FromNode m)
unfolding from_node_in counted_in
from_node-read (from_node.Opened s adopted low len) is = shape 2 1 _ ∙ opened-read s adopted low len is.0 is.1 is.2 is.3
from_node-read (from_node.Stale s n) is = shape 2 2 _ ∙ counted-read (λ s n. of.FromNode (from_node.Stale s n)) s n is.0 is.1
from_node-read (from_node.Unopened s n) is = shape 2 3 _ ∙ counted-read (λ s n. of.FromNode (from_node.Unopened s n)) s n is.0 is.1
from_node-read (from_node.Records s batch) is = shape 2 4 _ ∙ batch_behind-read (λ s b. of.FromNode (from_node.Records s b)) s batch is.0 is.1
from_node-read (from_node.Staged s n) is = shape 2 5 _ ∙ counted-read (λ s n. of.FromNode (from_node.Staged s n)) s n is.0 is.1
from_node-read (from_node.StageAt s n) is = shape 2 6 _ ∙ next-read (λ s n. of.FromNode (from_node.StageAt s n)) s n is.0 is.1
from_node-read (from_node.Adopted s n) is = shape 2 7 _ ∙ counted-read (λ s n. of.FromNode (from_node.Adopted s n)) s n is.0 is.1
from_node-read (from_node.Acked s n) is = shape 2 8 _ ∙ counted-read (λ s n. of.FromNode (from_node.Acked s n)) s n is.0 is.1
from_node-read (from_node.Gap s n) is = shape 2 9 _ ∙ counted-read (λ s n. of.FromNode (from_node.Gap s n)) s n is.0 is.1
from_node-read (from_node.NotAdopted s n) is = shape 2 10 _ ∙ counted-read (λ s n. of.FromNode (from_node.NotAdopted s n)) s n is.0 is.1
from_node-read (from_node.LowSet s n) is = shape 2 11 _ ∙ counted-read (λ s n. of.FromNode (from_node.LowSet s n)) s n is.0 is.1

to_server-read : (m : ToServer) → IsValidToServer m → message_in (spelled_to_server m) ≡ Some (of.ToServer m)
unfolding to_server_in
to_server-read (to_server.Append tx) is = let read = transaction-read tx is in shape 3 1 _ ∙ rw (read.form, read.same) refl
to_server-read (to_server.Feed from max) is = shape 3 2 _ ∙ feed-read from max is.0 is.1
to_server-read (to_server.Get id) is = shape 3 3 _ ∙ asked-read (λ n. of.ToServer (to_server.Get n)) id is
to_server-read to_server.Flush is = shape 3 4 []

from_server-read : (m : FromServer) → IsValidFromServer m → message_in (spelled_from_server m) ≡ Some (of.FromServer m)
unfolding from_server_in
from_server-read (from_server.Committed request id) is = shape 4 1 _ ∙ answered-read (λ r n. of.FromServer (from_server.Committed r n)) request id is.0 is.1
from_server-read (from_server.Pending request id) is = shape 4 2 _ ∙ answered-read (λ r n. of.FromServer (from_server.Pending r n)) request id is.0 is.1
from_server-read (from_server.Refused request reason) is = shape 4 3 _ ∙ refusal-read request reason is.0 is.1
from_server-read (from_server.Heads from committed heads) is = shape 4 4 _ ∙ heads_behind-read from committed heads is.0 is.1 is.2
from_server-read (from_server.Entry r) is = shape 4 5 _ ∙ entry_behind-read r is
from_server-read (from_server.Flushed committed) is = shape 4 6 _ ∙ count-read (λ n. of.FromServer (from_server.Flushed n)) committed is
from_server-read (from_server.Unserved reason) is = shape 4 7 _ ∙ read_refusal-read reason is

to_register-read : (m : ToRegister) → IsValidToRegister m → message_in (spelled_to_register m) ≡ Some (of.ToRegister m)
unfolding to_register_in
to_register-read Read is = shape 5 1 []
to_register-read (Cas from) is = shape 5 2 _ ∙ count-read (λ n. of.ToRegister (Cas n)) from is

from_register-read : (m : FromRegister) → IsValidFromRegister m → message_in (spelled_from_register m) ≡ Some (of.FromRegister m)
unfolding from_register_in
from_register-read (Value n) is = shape 6 1 _ ∙ count-read (λ k. of.FromRegister (Value k)) n is
from_register-read (Won n) is = shape 6 2 _ ∙ count-read (λ k. of.FromRegister (Won k)) n is
from_register-read (Lost n) is = shape 6 3 _ ∙ count-read (λ k. of.FromRegister (Lost k)) n is
from_register-read Exhausted is = shape 6 4 []

control-read : (m : Control) → message_in (spelled_control m) ≡ Some (of.Control m)
unfolding control_in
control-read Bye = shape 7 1 []
control-read Done = shape 7 2 []
control-read No = shape 7 3 []

pub message-read : (m : Message) → IsValidMessage m → message_in (message_body m) ≡ Some m
message-read (of.ToNode m) is = to_node-read m is
message-read (of.FromNode m) is = from_node-read m is
message-read (of.ToServer m) is = to_server-read m is
message-read (of.FromServer m) is = from_server-read m is
message-read (of.ToRegister m) is = to_register-read m is
message-read (of.FromRegister m) is = from_register-read m is
message-read (of.Control m) is = control-read m
