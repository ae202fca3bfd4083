use Rattle.std.proofs.Common.{◌≡◌, ◌∙◌, ◌≤◌, ap, sym, subst, refl, [], ℕ, arith}
use Rattle.tx_model.specs.Probes.{Shape}
use Rattle.lock_table.specs.Tables.{TableStandsFor}
use Rattle.proto_model.specs.Quorums.{quorum}
use Rattle.proto_model.specs.Choices.{recovery_choice}
use Rattle.proto_model.specs.Servers.{ServerState, after_ack, chosen_len, length_of, takes_ack}
use Rattle.quorum_append.specs.Kept.{kept_with}
use Rattle.partition_server.specs.Held.{Held, config_of, rest_of, state_of}
use Rattle.partition_server.specs.Layout.{held_by}
use Rattle.partition_server.proofs.Helds.{AreAcked, acked_held, acked_state, config_same}
use Rattle.partition_server.proofs.server.Server.keep.Goals as goal

pub invariant_of-self : goal.invariant_of-self
invariant_of-self c =
    let h : Held = held_by c.self.inside in
    let nodes : h.known.nodes ≡ (config_of c.args.self.now).nodes = ap (λ (x : Held). x.known.nodes) c.self.view_is in
    let asked = c.requires.within in
    let within : c.args.node ≤ h.known.nodes = omega (arith, nodes, asked) in
    let h' : Held = record {
      rows = c.start_locks.new.locks.rows;
      slots = c.start_locks.new.locks.slots;
      known = c.adopted.new.self;
      kept = c.args.acks;
      log = h.log;
      waiting = c.settle.new.self;
    } in
    let are : AreAcked h h' c.args.node c.args.upto c.mark.result = record {
      within = within;
      takes = ap (λ (x : Held). takes_ack (config_of x) (state_of x) c.args.node c.args.upto) c.self.view_is ∙ c.requires.takes;
      known = c.adopted.ensures.value;
      config = config_same h h' c.adopted.ensures.nodes (ap (λ (s : Shape). s.rows) c.start_locks.ensures.shape) (ap (λ (s : Shape). s.slots) c.start_locks.ensures.shape);
      kept = c.requires.acks ∙ ap (λ (x : Held). kept_with c.args.node c.args.upto x.kept) (sym c.self.view_is);
      found = c.mark.ensures.value;
      log = refl;
      waiting = c.settle.ensures;
    } in
    let next = c.adopted.ensures.value (rest_of h) in
    let start : c.chosen_len.result ≡ chosen_len (config_of h) (state_of h) =
    c.chosen_len.ensures ∙ (λ j. length_of (recovery_choice (quorum (c.adopted.ensures.nodes j)) (next j).reports)) in
    acked_held h h' c.self.inside.locks c.start_locks.new.locks c.args.node c.args.upto c.mark.result c.self.invariant are
    (λ p. c.start_locks.ensures.kept (c.phase-before.ensures ∙ p))
    (λ p q. subst (λ (n : ℕ). TableStandsFor c.start_locks.new.locks n []) start
    (c.start_locks.ensures.begun (c.phase-before.ensures ∙ p) (c.phase.ensures ∙ (ap (λ (x : ServerState). x.phase) next ∙ q))))

pub returns-clause-value : goal.returns-clause-value
returns-clause-value c =
    let h : Held = held_by c.self.inside in
    let nodes : h.known.nodes ≡ (config_of c.args.self.now).nodes = ap (λ (x : Held). x.known.nodes) c.self.view_is in
    let asked = c.requires.within in
    let within : c.args.node ≤ h.known.nodes = omega (arith, nodes, asked) in
    let h' : Held = record {
      rows = c.start_locks.new.locks.rows;
      slots = c.start_locks.new.locks.slots;
      known = c.adopted.new.self;
      kept = c.args.acks;
      log = h.log;
      waiting = c.settle.new.self;
    } in
    let are : AreAcked h h' c.args.node c.args.upto c.mark.result = record {
      within = within;
      takes = ap (λ (x : Held). takes_ack (config_of x) (state_of x) c.args.node c.args.upto) c.self.view_is ∙ c.requires.takes;
      known = c.adopted.ensures.value;
      config = config_same h h' c.adopted.ensures.nodes (ap (λ (s : Shape). s.rows) c.start_locks.ensures.shape) (ap (λ (s : Shape). s.slots) c.start_locks.ensures.shape);
      kept = c.requires.acks ∙ ap (λ (x : Held). kept_with c.args.node c.args.upto x.kept) (sym c.self.view_is);
      found = c.mark.ensures.value;
      log = refl;
      waiting = c.settle.ensures;
    } in
    acked_state h h' c.self.inside.locks c.args.node c.args.upto c.mark.result c.self.invariant are
    ∙ ap (λ (x : Held). after_ack (config_of x) (state_of x) c.args.node c.args.upto) c.self.view_is
