-- What the fields of a `Tx` say.
use Rattle.std.specs.Rc.{rc_value}
use Rattle.tx_model.specs.declared.tx.Tx.TheInside.{Inside}
use Rattle.tx_model.specs.Transactions.{Transaction, IsTransaction, transaction_of}

abbrev pub said_by : Inside → Transaction
said_by tx =
    let parts = rc_value tx.parts in
    transaction_of parts.client parts.request parts.mark parts.reads.items parts.writes.items parts.payload.items

abbrev pub IsTx : Inside → Type 0
IsTx tx = IsTransaction (said_by tx)
