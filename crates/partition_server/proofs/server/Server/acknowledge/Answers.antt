use Rattle.std.proofs.Common.{◌≡◌, ◌∙◌, ◌≤◌, ap, sym, subst, true, false, [], map, arith}
use Rattle.std.proofs.lemmas.Grind.{common_steps}
use Rattle.proto_model.specs.Servers.{ack_answers, after_ack, is_due, takes_ack}
use Rattle.partition_server.specs.Answers.{addressed}
use Rattle.partition_server.specs.Held.{Held, config_of, rest_of, state_of}
use Rattle.partition_server.specs.Layout.{held_by}
use Rattle.partition_server.proofs.Results.{if_err}
use Rattle.partition_server.proofs.Helds.{ack_missed, acked_answers, none_answered}
use Rattle.partition_server.proofs.server.Server.acknowledge.Goals as goal

pub returns-then-not-takes_ack-clause-answers : goal.returns-then-not-takes_ack-clause-answers
returns-then-not-takes_ack-clause-answers c =
    let h : Held = held_by c.self.inside in
    let off : c.takes_ack.result ≡ false = grind (arith, common_steps) in
    let misses : takes_ack (config_of h) (state_of h) c.args.node c.args.upto ≡ false = sym (c.takes_ack.ensures (rest_of h) (sym c.len.ensures.value)) ∙ off in
    let none : ack_answers (config_of h) (state_of h) c.args.node c.args.upto ≡ [] = none_answered (config_of h) (state_of h) c.args.node c.args.upto misses in
    c.new.ensures.items ∙ ap (map addressed) (sym (ap (λ (x : Held). ack_answers (config_of x) (state_of x) c.args.node c.args.upto) (sym c.self.view_is) ∙ none))

pub returns-then-not-takes_ack-clause-ok : goal.returns-then-not-takes_ack-clause-ok
returns-then-not-takes_ack-clause-ok c =
    let h : Held = held_by c.self.inside in
    let off : c.takes_ack.result ≡ false = grind (arith, common_steps) in
    let misses : takes_ack (config_of h) (state_of h) c.args.node c.args.upto ≡ false = sym (c.takes_ack.ensures (rest_of h) (sym c.len.ensures.value)) ∙ off in
    subst (λ (x : Held). state_of x ≡ after_ack (config_of x) (state_of x) c.args.node c.args.upto) c.self.view_is (ack_missed (config_of h) (state_of h) c.args.node c.args.upto misses)

pub returns-in_err-answers-clause-memory : goal.returns-in_err-answers-clause-memory
returns-in_err-answers-clause-memory c =
    let h : Held = held_by c.self.inside in
    let nodes : h.known.nodes ≡ (config_of c.args.self.now).nodes = ap (λ (x : Held). x.known.nodes) c.self.view_is in
    let asked = c.requires.within in
    let within : c.args.node ≤ h.known.nodes = omega (arith, nodes, asked) in
    let on : c.takes_ack.result ≡ true = grind (arith, common_steps) in
    let takes : takes_ack (config_of h) (state_of h) c.args.node c.args.upto ≡ true = sym (c.takes_ack.ensures (rest_of h) (sym c.len.ensures.value)) ∙ on in
    let due : is_due c.mark.result h.waiting ≡ ack_answers (config_of c.args.self.now) (state_of c.args.self.now) c.args.node c.args.upto =
    acked_answers h c.self.inside.locks c.ack.new.self c.args.node c.args.upto c.mark.result c.self.invariant within takes c.ack.ensures.value c.mark.ensures.value
    ∙ ap (λ (x : Held). ack_answers (config_of x) (state_of x) c.args.node c.args.upto) c.self.view_is in
    if_err c.from_residual.result (λ none. c.in_err-answers.ensures.memory (due ∙ none))

pub keep-requires-clause-takes : goal.keep-requires-clause-takes
keep-requires-clause-takes c =
    let h : Held = held_by c.self.inside in
    let on : c.takes_ack.result ≡ true = grind (arith, common_steps) in
    let takes : takes_ack (config_of h) (state_of h) c.args.node c.args.upto ≡ true = sym (c.takes_ack.ensures (rest_of h) (sym c.len.ensures.value)) ∙ on in
    ap (λ (x : Held). takes_ack (config_of x) (state_of x) c.args.node c.args.upto) (sym c.self.view_is) ∙ takes

pub returns-clause-answers : goal.returns-clause-answers
returns-clause-answers c =
    let h : Held = held_by c.self.inside in
    let nodes : h.known.nodes ≡ (config_of c.args.self.now).nodes = ap (λ (x : Held). x.known.nodes) c.self.view_is in
    let asked = c.requires.within in
    let within : c.args.node ≤ h.known.nodes = omega (arith, nodes, asked) in
    let on : c.takes_ack.result ≡ true = grind (arith, common_steps) in
    let takes : takes_ack (config_of h) (state_of h) c.args.node c.args.upto ≡ true = sym (c.takes_ack.ensures (rest_of h) (sym c.len.ensures.value)) ∙ on in
    let due : is_due c.mark.result h.waiting ≡ ack_answers (config_of c.args.self.now) (state_of c.args.self.now) c.args.node c.args.upto =
    acked_answers h c.self.inside.locks c.ack.new.self c.args.node c.args.upto c.mark.result c.self.invariant within takes c.ack.ensures.value c.mark.ensures.value
    ∙ ap (λ (x : Held). ack_answers (config_of x) (state_of x) c.args.node c.args.upto) c.self.view_is in
    c.in_ok-answers.ensures.ok ∙ ap (map addressed) due
