-- What a layout stands for: the message that is built of it.
use Rattle.std.specs.Prelude.{◌≡◌, Bool, true, ◌&&◌, nat_le, length, Option, Some, None}
use Rattle.proto_model.specs.declared.message.ToNode.TheVariants as to_node
use Rattle.proto_model.specs.declared.message.FromNode.TheVariants as from_node
use Rattle.proto_model.specs.declared.refusal.Refusal.TheVariants as refused
use Rattle.proto_model.specs.declared.client_message.ToServer.TheVariants as to_server
use Rattle.proto_model.specs.declared.client_message.FromServer.TheVariants as from_server
use Rattle.tx_model.specs.Reading.{is_body, record_of, is_transaction, transaction_of}
use Rattle.wire_codec.specs.declared.message.Message.{Message}
use Rattle.wire_codec.specs.declared.message.Message.TheVariants as of
use Rattle.wire_codec.specs.declared.layout.Layout.{Layout}
use Rattle.wire_codec.specs.declared.layout.Layout.TheVariants as layout
use Rattle.wire_codec.specs.Reading.{is_batch, batch_of, are_heads, heads_of, refused_with}

abbrev pub value_of : Layout → Message
value_of (layout.Whole m) = m
value_of (layout.Stage session batch) = of.ToNode (to_node.Stage session (batch_of batch.now))
value_of (layout.AppendBatch session batch) =
    of.ToNode (to_node.Append session (batch_of batch.now))
value_of (layout.Records session batch) =
    of.FromNode (from_node.Records session (batch_of batch.now))
value_of (layout.AppendTx tx) = of.ToServer (to_server.Append (transaction_of tx.now))
value_of (layout.Locked request name mark) = refused_with request (refused.Locked name.now mark)
value_of (layout.Heads from committed heads) =
    of.FromServer (from_server.Heads from committed (heads_of heads.now))
value_of (layout.Entry body) = of.FromServer (from_server.Entry (record_of body.now))

-- whether what it borrows is in form
abbrev pub is_good : Layout → Bool
is_good (layout.Whole m) = true
is_good (layout.Stage session batch) = is_batch batch.now
is_good (layout.AppendBatch session batch) = is_batch batch.now
is_good (layout.Records session batch) = is_batch batch.now
is_good (layout.AppendTx tx) = is_transaction tx.now
is_good (layout.Locked request name mark) =
    nat_le 1 (length name.now) && nat_le (length name.now) 64
is_good (layout.Heads from committed heads) = are_heads from heads.now
is_good (layout.Entry body) = is_body body.now

-- the layout of what reading gives
abbrev pub Sees : Option Layout → Option Message → Type 0
Sees None read = read ≡ None
Sees (Some l) read = (read ≡ Some (value_of l)) × (is_good l ≡ true)
