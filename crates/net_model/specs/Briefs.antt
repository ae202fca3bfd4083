-- What an outcome tells of a message.
use Rattle.std.specs.Prelude.{ℕ, ◌+◌, List, [], ◌∷◌, length}
use Rattle.tx_model.specs.Records.{first_id}
use Rattle.proto_model.specs.declared.message.ToNode.{ToNode}
use Rattle.proto_model.specs.declared.message.ToNode.TheVariants as ask
use Rattle.proto_model.specs.declared.message.FromNode.{FromNode}
use Rattle.proto_model.specs.declared.message.FromNode.TheVariants as reply
use Rattle.proto_model.specs.declared.client_message.ToServer.{ToServer}
use Rattle.proto_model.specs.declared.client_message.ToServer.TheVariants as wish
use Rattle.proto_model.specs.declared.client_message.FromServer.{FromServer}
use Rattle.proto_model.specs.declared.client_message.FromServer.TheVariants as answer
use Rattle.net_model.specs.declared.mail.Mail.{Mail}
use Rattle.net_model.specs.declared.mail.Mail.TheVariants as mail
use Rattle.net_model.specs.declared.mail.Envelope.{Envelope}
use Rattle.net_model.specs.declared.brief.Brief.{Brief}
use Rattle.net_model.specs.declared.brief.Brief.TheVariants as brief
use Rattle.net_model.specs.declared.brief.ToNodeBrief.{ToNodeBrief}
use Rattle.net_model.specs.declared.brief.ToNodeBrief.TheVariants as to_node
use Rattle.net_model.specs.declared.brief.FromNodeBrief.{FromNodeBrief}
use Rattle.net_model.specs.declared.brief.FromNodeBrief.TheVariants as from_node
use Rattle.net_model.specs.declared.brief.ToServerBrief.{ToServerBrief}
use Rattle.net_model.specs.declared.brief.ToServerBrief.TheVariants as to_server
use Rattle.net_model.specs.declared.brief.FromServerBrief.{FromServerBrief}
use Rattle.net_model.specs.declared.brief.FromServerBrief.TheVariants as from_server
use Rattle.net_model.specs.declared.shown.Item.{Item}

abbrev pub to_node_brief : ToNode → ToNodeBrief
to_node_brief (ask.Open s) = to_node.Open s
to_node_brief (ask.Fetch s from max) = to_node.Fetch s from max
to_node_brief (ask.Stage s batch) = to_node.Stage s (first_id batch) (length batch)
to_node_brief (ask.Adopt s len) = to_node.Adopt s len
to_node_brief (ask.Append s batch) = to_node.Append s (first_id batch) (length batch)
to_node_brief (ask.Low s k) = to_node.Low s k

abbrev pub from_node_brief : FromNode → FromNodeBrief
from_node_brief (reply.Opened s adopted low len) = from_node.Opened s adopted low len
from_node_brief (reply.Stale s p) = from_node.Stale s p
from_node_brief (reply.Unopened s p) = from_node.Unopened s p
from_node_brief (reply.Records s batch) = from_node.Records s (first_id batch) (length batch)
from_node_brief (reply.Staged s upto) = from_node.Staged s upto
from_node_brief (reply.StageAt s next) = from_node.StageAt s next
from_node_brief (reply.Adopted s len) = from_node.Adopted s len
from_node_brief (reply.Acked s len) = from_node.Acked s len
from_node_brief (reply.Gap s len) = from_node.Gap s len
from_node_brief (reply.NotAdopted s adopted) = from_node.NotAdopted s adopted
from_node_brief (reply.LowSet s low) = from_node.LowSet s low

abbrev pub to_server_brief : ToServer → ToServerBrief
to_server_brief (wish.Append tx) = to_server.Append tx.request
to_server_brief (wish.Feed from max) = to_server.Feed from max
to_server_brief (wish.Get id) = to_server.Get id
to_server_brief wish.Flush = to_server.Flush

abbrev pub from_server_brief : FromServer → FromServerBrief
from_server_brief (answer.Committed request id) = from_server.Committed request id
from_server_brief (answer.Pending request id) = from_server.Pending request id
from_server_brief (answer.Refused request refusal) = from_server.Refused request refusal
from_server_brief (answer.Heads from committed heads) = from_server.Heads from (length heads) committed
from_server_brief (answer.Entry r) = from_server.Entry r.id
from_server_brief (answer.Flushed committed) = from_server.Flushed committed
from_server_brief (answer.Unserved refusal) = from_server.Unserved refusal

abbrev pub brief_of : Mail → Brief
brief_of (mail.ToNode m) = brief.ToNode (to_node_brief m)
brief_of (mail.FromNode m) = brief.FromNode (from_node_brief m)
brief_of (mail.ToServer m) = brief.ToServer (to_server_brief m)
brief_of (mail.FromServer m) = brief.FromServer (from_server_brief m)

-- what is told of an envelope with this number
abbrev pub item_of : ℕ → Envelope → Item
item_of number e = record { number = number; from = e.from; to = e.to; brief = brief_of e.message }

-- the same of envelopes that are numbered on
abbrev pub items_from : ℕ → List Envelope → List Item
items_from number [] = []
items_from number (e ∷ envelopes) = item_of number e ∷ items_from (number + 1) envelopes
