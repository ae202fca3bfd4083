use Rattle.std.proofs.Common.{◌≡◌, length, rules, arith}
use Rattle.tx_model.specs.Spelling.{spelled_names}
use Rattle.record_frame.proofs.Parts.{length-record_body}
use Rattle.record_frame.proofs.writing.body_len.Goals as goal

pub returns-clause-len : goal.returns-clause-len
returns-clause-len c =
    let tx = c.args.entry.now.tx in
    let reads : c.names_len.result ≡ length (spelled_names tx.reads) = search rules in
    let writes : c.names_len-2.result ≡ length (spelled_names tx.writes) = search rules in
    let payload : length c.payload.result.now ≡ length tx.payload = search rules in
    omega (arith, length-record_body c.args.entry.now)
