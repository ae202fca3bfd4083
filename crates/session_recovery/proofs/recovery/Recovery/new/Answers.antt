use Rattle.std.proofs.Common.{sym, subst, refl, arith}
use Rattle.proto_model.specs.Servers.{ServerState}
use Rattle.session_recovery.specs.Known.{config_of}
use Rattle.session_recovery.specs.Recovering.{IsRecovering}
use Rattle.session_recovery.proofs.Recoveries.{drawn_recovers, fresh_state}
use Rattle.session_recovery.proofs.recovery.Recovery.new.Goals as goal

pub invariant_of-result : goal.invariant_of-result
invariant_of-result c =
    let nodes = c.new.ensures.nodes in
    let few = c.requires.nodes.1 in
    let state = fresh_state c.new.result c.new-2.result.items _ c.args.session c.new-2.ensures.items refl c.new.ensures.value in
    record {
      few = omega (arith, nodes, few);
      acked = refl;
      is = subst (λ (x : ServerState). IsRecovering (config_of c.new.result) x) (sym state) (drawn_recovers (config_of c.new.result) c.args.session c.requires.session);
    }
