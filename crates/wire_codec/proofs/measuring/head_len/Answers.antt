use Rattle.std.proofs.Common.{◌≡◌, length, length-append, rules, arith}
use Rattle.tx_model.specs.Spelling.{spelled_names}
use Rattle.wire_codec.specs.Spelling.{spelled_head}
use Rattle.wire_codec.proofs.measuring.head_len.Goals as goal

pub returns-clause-len : goal.returns-clause-len
unfolding spelled_head
returns-clause-len c =
    let head = c.args.head.now in
    let reads : c.names_len.result ≡ length (spelled_names head.reads) = search rules in
    let writes : c.names_len-2.result ≡ length (spelled_names head.writes) = search rules in
    omega (arith, length-append (spelled_names head.reads) (spelled_names head.writes))
