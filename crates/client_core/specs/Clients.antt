-- A client: its state, the transactions that it builds, what it asks, and its step on a server's answer.
use Rattle.std.specs.Prelude.{ℕ, ◌+◌, ◌==◌, ◌&&◌, not, Bool, true, false, if◌then◌else◌, List, [], ◌∷◌, bytes_eq}
use Rattle.tx_model.specs.declared.record.Record.{Record}
use Rattle.tx_model.specs.declared.record.Head.{Head}
use Rattle.tx_model.specs.Transactions.{Transaction, is_before}
use Rattle.tx_model.specs.Records.{head_of}
use Rattle.tx_model.specs.Applications.{Application, empty_application, after_payload}
use Rattle.proto_model.specs.declared.client_message.ToServer.{ToServer}
use Rattle.proto_model.specs.declared.client_message.ToServer.TheVariants.{Feed, Get}
use Rattle.proto_model.specs.declared.client_message.FromServer.{FromServer}
use Rattle.proto_model.specs.declared.client_message.FromServer.TheVariants.{Heads, Entry}

-- a client of an application whose states are these
pub record ClientOf (S : Type 0) : Type 0 where
  -- so many transactions are applied
  pub mark : ℕ
  -- the heads of the records that follow, which the client was told and has not got yet
  pub heads : List Head
  pub app : S
  -- the number of the next request
  pub request : ℕ

-- a client of the application of keys with numbers
abbrev pub ClientState : Type 0
ClientState = ClientOf Application

abbrev pub fresh_client : ClientState
fresh_client = record { mark = 0; heads = []; app = empty_application; request = 1 }

-- ---- building

abbrev pub with_name : List ℕ → List (List ℕ) → List (List ℕ)
with_name name [] = name ∷ []
with_name name (other ∷ others) = if is_before other name then other ∷ with_name name others else name ∷ other ∷ others

-- names in byte order
abbrev pub in_order : List (List ℕ) → List (List ℕ)
in_order [] = []
in_order (name ∷ names) = with_name name (in_order names)

-- the transaction that a client of this number builds at its mark
abbrev pub built : {S : Type 0} → ClientOf S → ℕ → List (List ℕ) → List (List ℕ) → List ℕ → Transaction
built cl client writes reads ops = record {
  client = client;
  request = cl.request;
  mark = cl.mark;
  reads = in_order reads;
  writes = in_order writes;
  payload = ops;
}

abbrev pub after_build : {S : Type 0} → ClientOf S → ClientOf S
after_build cl = record cl { request = cl.request + 1 }

-- ---- asking

-- heads, where none are kept, else the record of the first one
abbrev pub ask_by : ℕ → List Head → ToServer
ask_by mark [] = Feed (mark + 1) 16
ask_by mark (head ∷ heads) = Get (mark + 1)

abbrev pub next_ask : {S : Type 0} → ClientOf S → ToServer
next_ask cl = ask_by cl.mark cl.heads

-- ---- a server's answer

-- ids that rise by one, the first of them this
abbrev pub have_ids_from : ℕ → List Head → Bool
have_ids_from id [] = true
have_ids_from id (head ∷ heads) = head.id == id && have_ids_from (id + 1) heads

abbrev pub are_same : List (List ℕ) → List (List ℕ) → Bool
are_same [] [] = true
are_same (name ∷ names) (other ∷ others) = bytes_eq name other && are_same names others
are_same _ _ = false

abbrev pub is_same_head : Head → Head → Bool
is_same_head a b =
    a.id == b.id && (a.session == b.session && (a.mark == b.mark && (are_same a.reads b.reads && are_same a.writes b.writes)))

abbrev pub is_none : List Head → Bool
is_none [] = true
is_none (head ∷ heads) = false

-- where no heads are kept, and these go on from the mark
abbrev pub takes_heads : {S : Type 0} → ClientOf S → ℕ → List Head → Bool
takes_heads cl from heads = is_none cl.heads && (from == cl.mark + 1 && have_ids_from from heads)

abbrev pub after_heads : {S : Type 0} → ClientOf S → ℕ → List Head → ClientOf S
after_heads cl from heads = if takes_heads cl from heads then record cl { heads = heads } else cl

abbrev pub applied : {S : Type 0} → (S → List ℕ → S) → ClientOf S → Record → List Head → ClientOf S
applied next cl r rest = record cl { mark = cl.mark + 1; heads = rest; app = next cl.app r.tx.payload }

-- The record that follows is applied where it is the one that the first head told of. Where it is another, all heads are dropped.
abbrev pub entry_by : {S : Type 0} → (S → List ℕ → S) → ClientOf S → Record → List Head → ClientOf S
entry_by next cl r [] = cl
entry_by next cl r (head ∷ rest) =
    if r.id == cl.mark + 1 then (if is_same_head head (head_of r) then applied next cl r rest else record cl { heads = [] }) else cl

abbrev pub after_entry : {S : Type 0} → (S → List ℕ → S) → ClientOf S → Record → ClientOf S
after_entry next cl r = entry_by next cl r cl.heads

-- the client after an answer, where an application's next state is this
abbrev pub after_answer : {S : Type 0} → (S → List ℕ → S) → ClientOf S → FromServer → ClientOf S
after_answer next cl (Heads from committed heads) = after_heads cl from heads
after_answer next cl (Entry r) = after_entry next cl r
after_answer next cl _ = cl

abbrev pub client_step : ClientState → FromServer → ClientState
client_step cl m = after_answer after_payload cl m

-- ---- whether the client moved: it took heads, or applied a record

abbrev pub applies : {S : Type 0} → ClientOf S → Record → List Head → Bool
applies cl r [] = false
applies cl r (head ∷ rest) = r.id == cl.mark + 1 && is_same_head head (head_of r)

abbrev pub moves : {S : Type 0} → ClientOf S → FromServer → Bool
moves cl (Heads from committed heads) = takes_heads cl from heads && not (is_none heads)
moves cl (Entry r) = applies cl r cl.heads
moves cl _ = false

-- what a client that moves may want memory for: heads, and a record whose payload the application may want some for
abbrev pub may_want : (List ℕ → Bool) → FromServer → Bool
may_want app_wants (Entry r) = app_wants r.tx.payload
may_want app_wants _ = true
