use Rattle.std.proofs.Common.{◌≡◌, sym, subst, arith, rules}
use Rattle.tx_model.specs.Transactions.{Transaction, IsTransaction}
use Rattle.tx_model.specs.Reading.{transaction_of}
use Rattle.record_frame.proofs.Parts.{transaction-spelled, tx_with}
use Rattle.record_frame.proofs.reading.transaction_of.Goals as goal

pub of_lists-requires : goal.of_lists-requires
unfolding transaction_of
of_lists-requires c =
    let is = (transaction-spelled c.args.bytes.now c.requires (λ i. omega (arith, c.type_inv.bytes i))).is in
    let made : tx_with c.u64_in-client.result c.u64_in-request.result c.u64_in-mark.result c.in_ok-reads.reads.items c.in_ok-reads.writes.items c.in_ok-payload.payload.items ≡ transaction_of c.args.bytes.now = search rules in
    subst (λ (t : Transaction). IsTransaction t) (sym made) is
