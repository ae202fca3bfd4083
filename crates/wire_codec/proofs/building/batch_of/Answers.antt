use Rattle.std.proofs.Common.{◌≡◌, sym, subst, List, arith, rules}
use Rattle.tx_model.specs.declared.record.Record.{Record}
use Rattle.tx_model.specs.Records.{IsBatch}
use Rattle.wire_codec.specs.Reading.{batch_of}
use Rattle.wire_codec.proofs.Batches.{batch-spelled}
use Rattle.wire_codec.proofs.building.batch_of.Goals as goal

pub of_records-requires : goal.of_records-requires
unfolding batch_of
of_records-requires c =
    let is = (batch-spelled c.args.bytes.now c.requires (λ i. omega (arith, c.type_inv.bytes i))).is in
    let made : c.in_ok-records.records.items ≡ batch_of c.args.bytes.now = search rules in
    subst (λ (rs : List Record). IsBatch rs) (sym made) is
