-- What a draft says of the next message for a node.
use Rattle.std.specs.Prelude.{ℕ, ◌<◌, ◌≤◌, take, drop, Option, None, Some, ⊤}
use Rattle.proto_model.specs.declared.message.ToNode.{ToNode}
use Rattle.proto_model.specs.declared.message.ToNode.TheVariants as to_node
use Rattle.proto_model.specs.Servers.{Config, ServerState}
use Rattle.proto_model.specs.Sending.{append_message}
use Rattle.session_recovery.specs.declared.draft.Draft.{Draft}
use Rattle.session_recovery.specs.declared.draft.Draft.TheVariants.{Message, Stage, Adopted}

-- the message that a server sends node i by a draft
abbrev pub drafted : Config → ServerState → ℕ → Option Draft → Option ToNode
drafted c sv i None = None
drafted c sv i (Some (Message m)) = Some m
drafted c sv i (Some (Stage from upto)) = Some (to_node.Stage sv.session (take 8 (drop from (take upto sv.log))))
drafted c sv i (Some Adopted) = append_message c sv i

-- the records that it names are there, in a log of this length
abbrev pub AreThere : ℕ → Draft → Type 0
AreThere last (Stage from upto) = (from < upto) × (upto ≤ last)
AreThere last _ = ⊤
