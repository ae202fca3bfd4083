use Rattle.std.proofs.Common.{◌≡◌, ◌∙◌, ap, length, arith}
use Rattle.proto_model.specs.Servers.{commit_mark}
use Rattle.feed_service.proofs.Parts.{log_within}
use Rattle.partition_server.specs.Held.{Held, config_of, state_of}
use Rattle.partition_server.specs.Layout.{held_by}
use Rattle.partition_server.proofs.Answering.{mark_within}
use Rattle.partition_server.proofs.Helds.{mark_held}
use Rattle.partition_server.proofs.server.Server.committed.Goals as goal

pub returns-clause-value : goal.returns-clause-value
returns-clause-value c =
    mark_held (held_by c.self.inside) c.self.inside.locks c.mark.result c.self.invariant c.mark.ensures.value
    ∙ ap (λ (x : Held). commit_mark (config_of x) (state_of x)) c.self.view_is

pub returns-clause-within : goal.returns-clause-within
returns-clause-within c =
    let h : Held = held_by c.self.inside in
    let mark = mark_held h c.self.inside.locks c.mark.result c.self.invariant c.mark.ensures.value in
    let low = mark_within (config_of h) (state_of h) in
    let same : length h.log ≡ length c.args.self.now.log = ap (λ (x : Held). length x.log) c.self.view_is in
    omega (arith, mark, low, same)

pub returns-clause-count : goal.returns-clause-count
returns-clause-count c =
    let h : Held = held_by c.self.inside in
    let mark = mark_held h c.self.inside.locks c.mark.result c.self.invariant c.mark.ensures.value in
    let low = mark_within (config_of h) (state_of h) in
    let few = log_within h.log c.self.invariant.is.sound.rise in
    omega (arith, mark, low, few)
