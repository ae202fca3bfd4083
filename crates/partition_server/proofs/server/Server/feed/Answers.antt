use Rattle.std.proofs.Common.{◌≡◌, ◌∙◌, map, take, drop, ◌-◌, ap, sym, subst}
use Rattle.tx_model.specs.Records.{RiseByOne, head_of}
use Rattle.proto_model.specs.Serving.{feed}
use Rattle.proto_model.specs.Validity.{AreHeads}
use Rattle.partition_server.specs.Held.{Held, config_of, state_of}
use Rattle.partition_server.proofs.Answering.{heads_valid}
use Rattle.partition_server.proofs.server.Server.feed.Goals as goal

pub returns-in-Ok-clause-valid : goal.returns-in-Ok-clause-valid
returns-in-Ok-clause-valid c = λ few.
    let s : Held = c.args.self.now in
    let rise : RiseByOne 1 s.log = subst (λ (h : Held). RiseByOne 1 h.log) c.self.view_is c.self.invariant.is.sound.rise in
    let log : c.self.inside.log.log ≡ s.log = ap (λ (h : Held). h.log) c.self.view_is in
    let shown : c.in-Ok.heads.items ≡ feed (config_of s) (state_of s) c.args.from c.args.max =
    c.in-Ok.ensures.value ∙ (λ j. map head_of (take c.args.max (drop (c.args.from - 1) (take (c.committed-committed.ensures.value j) (log j))))) in
    (subst (AreHeads c.args.from) (sym shown) (heads_valid (config_of s) (state_of s) c.args.from c.args.max rise c.in_ok-check_id.ensures.some few), c.committed-committed.ensures.count)
