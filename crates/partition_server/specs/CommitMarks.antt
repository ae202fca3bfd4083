-- What a session's server is asked, which acknowledgements it takes, and what its commit mark is.
use Rattle.std.specs.Prelude.{ℕ, ◌&&◌, ◌⊎◌, if◌then◌else◌, List, [], ◌∷◌, ◌++◌}
use Rattle.std.proofs.Common.{inl, inr}
use Rattle.tx_model.specs.Transactions.{Transaction}
use Rattle.proto_model.specs.declared.message.FromNode.{FromNode}
use Rattle.proto_model.specs.declared.message.FromNode.TheVariants.{Adopted, Acked}
use Rattle.proto_model.specs.Servers.{Config, ServerState, commit_mark, drawn, is_heard, server_after, takes_ack}
use Rattle.proto_model.specs.Serving.{after_append}
use Rattle.quorum_append.specs.Acknowledgements.{Ack, IsCommitMark}

-- a reply of a node, or a client's transaction
abbrev pub Input : Type 0
Input = (ℕ × FromNode) ⊎ Transaction

abbrev pub after : Config → ServerState → Input → ServerState
after c sv (inl reply) = server_after c sv reply.0 reply.1
after c sv (inr tx) = after_append c sv tx

-- the acknowledgement of a node, where it is taken: by the first one the node has adopted
abbrev pub ack_of : Config → ServerState → ℕ → FromNode → List Ack
ack_of c sv node (Adopted s len) = if is_heard sv (Adopted s len) && takes_ack c sv node len then record { node = node; len = len } ∷ [] else []
ack_of c sv node (Acked s len) = if is_heard sv (Acked s len) && takes_ack c sv node len then record { node = node; len = len } ∷ [] else []
ack_of c sv node _ = []

abbrev pub taken : Config → ServerState → Input → List Ack
taken c sv (inl reply) = ack_of c sv reply.0 reply.1
taken c sv (inr tx) = []

abbrev pub state_after : Config → ServerState → List Input → ServerState
state_after c sv [] = sv
state_after c sv (input ∷ inputs) = state_after c (after c sv input) inputs

-- all that are taken, the last one first
abbrev pub acks_after : Config → ServerState → List Input → List Ack
acks_after c sv [] = []
acks_after c sv (input ∷ inputs) = acks_after c (after c sv input) inputs ++ taken c sv input

-- In every session, whatever comes, the commit mark is that of the acknowledgements that were taken. A later session
-- that closes the server leaves both.
abbrev pub CommitMarksAreExact : Type 0
CommitMarksAreExact = (c : Config) (session : ℕ) (inputs : List Input) →
    IsCommitMark c.nodes (acks_after c (drawn session) inputs) (commit_mark c (state_after c (drawn session) inputs))
