use Rattle.std.proofs.Common.{refl, ◌≡◌, ◌∙◌, ◌<◌, ap, sym, true, false, slice_set, arith, rules, length, length-set}
use Rattle.std.proofs.lemmas.Grind.{common_steps}
use Rattle.proto_model.specs.Servers.{after_ack, takes_ack}
use Rattle.session_recovery.specs.Known.{column}
use Rattle.proto_model.specs.declared.message.FromNode.TheVariants.{Adopted}
use Rattle.session_recovery.specs.Recovering.{Recovering, config_of, state_of}
use Rattle.session_recovery.specs.contracts.recovery.Recovery.{the_view}
use Rattle.session_recovery.proofs.Recoveries.{heard_step, ack_missed, ack_recovers, acked_state, carried, rest_of}
use Rattle.session_recovery.proofs.recovery.Recovery.adopted.Goals as goal

pub bounds-self-inside-at : goal.bounds-self-inside-at
bounds-self-inside-at c =
    let nodes : c.self.inside.nodes.nodes ≡ c.args.self.now.known.nodes = ap (λ (x : Recovering). x.known.nodes) c.self.view_is in
    let few = c.self.invariant.few in
    let asked = c.requires.1 in
    omega (arith, nodes, few, asked)

pub bounds-self-inside-at-then-takes_ack : goal.bounds-self-inside-at-then-takes_ack
bounds-self-inside-at-then-takes_ack c =
    let nodes : c.self.inside.nodes.nodes ≡ c.args.self.now.known.nodes = ap (λ (x : Recovering). x.known.nodes) c.self.view_is in
    let few = c.self.invariant.few in
    let asked = c.requires.1 in
    omega (arith, nodes, few, asked)

pub invariant_of-self : goal.invariant_of-self
invariant_of-self c =
    let h : Recovering = the_view c.self.inside in
    let nodes = c.adopted.ensures.nodes in
    let few = c.self.invariant.few in
    let known : h.known.nodes ≡ c.args.self.now.known.nodes = ap (λ (x : Recovering). x.known.nodes) c.self.view_is in
    let asked = c.requires.1 in
    let full = c.self.invariant.acked in
    let at : c.args.node < length h.acked = omega (arith, known, few, asked, full) in
    let last : c.len.result ≡ length h.log = search rules in
    let on : c.takes_ack.result ≡ true = grind (arith, common_steps) in
    let takes : takes_ack (config_of h) (state_of h) c.args.node c.args.len ≡ true =
    sym (c.takes_ack.ensures (rest_of h) (sym last)) ∙ on in
    let made = c.adopted.ensures.value (record (rest_of h) { acked = column 0 (slice_set h.acked c.args.node c.max.result) }) in
    record {
      few = omega (arith, nodes, few);
      acked = length-set h.acked c.args.node c.max.result ∙ full;
      is = carried h.known c.adopted.new.self _ _ nodes (acked_state h c.adopted.new.self c.args.node c.args.len c.max.result at takes c.max.ensures made) (ack_recovers (config_of h) (state_of h) c.args.node c.args.len c.self.invariant.is);
    }

pub returns-then-takes_ack-clause-value : goal.returns-then-takes_ack-clause-value
returns-then-takes_ack-clause-value c =
    let h : Recovering = the_view c.self.inside in
    let few = c.self.invariant.few in
    let known : h.known.nodes ≡ c.args.self.now.known.nodes = ap (λ (x : Recovering). x.known.nodes) c.self.view_is in
    let asked = c.requires.1 in
    let full = c.self.invariant.acked in
    let at : c.args.node < length h.acked = omega (arith, known, few, asked, full) in
    let last : c.len.result ≡ length h.log = search rules in
    let on : c.takes_ack.result ≡ true = grind (arith, common_steps) in
    let takes : takes_ack (config_of h) (state_of h) c.args.node c.args.len ≡ true =
    sym (c.takes_ack.ensures (rest_of h) (sym last)) ∙ on in
    let made = c.adopted.ensures.value (record (rest_of h) { acked = column 0 (slice_set h.acked c.args.node c.max.result) }) in
    acked_state h c.adopted.new.self c.args.node c.args.len c.max.result at takes c.max.ensures made
    ∙ (ap (λ (x : Recovering). after_ack (config_of x) (state_of x) c.args.node c.args.len) c.self.view_is
    ∙ heard_step (the_view c.self.inside) c.args.self.now c.args.node (Adopted c.args.self.now.known.session c.args.len) c.self.view_is c.self.invariant.is refl)

pub returns-else-takes_ack-clause-value : goal.returns-else-takes_ack-clause-value
returns-else-takes_ack-clause-value c =
    let h : Recovering = the_view c.self.inside in
    let last : c.len.result ≡ length h.log = search rules in
    let off : c.takes_ack.result ≡ false = grind (arith, common_steps) in
    let misses : takes_ack (config_of h) (state_of h) c.args.node c.args.len ≡ false =
    sym (c.takes_ack.ensures (rest_of h) (sym last)) ∙ off in
    ap (λ (x : Recovering). state_of x) (sym c.self.view_is) ∙ (ack_missed h c.args.node c.args.len misses
    ∙ (ap (λ (x : Recovering). after_ack (config_of x) (state_of x) c.args.node c.args.len) c.self.view_is
    ∙ heard_step (the_view c.self.inside) c.args.self.now c.args.node (Adopted c.args.self.now.known.session c.args.len) c.self.view_is c.self.invariant.is refl))
