use Rattle.std.proofs.Common.{◌≡◌, false, inl, sym, ◌∙◌, subst, Err, rules}
use Rattle.proto_model.specs.Crashes.{IsCrashOf}
use Rattle.proto_model.specs.declared.message.Status.{Status}
use Rattle.partition_store.specs.Stands.{reads_of, StandsNear}
use Rattle.partition_store.specs.Stores.{state_by}
use Rattle.storage_node.proofs.Torn.{reads-left, held-near, step-left}
use Rattle.storage_node.proofs.node.NodeReplica.step.Goals as goal

pub invariant_of-self-in-Err-1 : goal.invariant_of-self-in-Err-1
invariant_of-self-in-Err-1 g c =
    let H = g.D.Disk.history in
    let step = c.in-Err.ensures.step in
    let old = c.args.self.now.store in
    let new = c.take.new.store in
    let was : c.args.self.now.store.shut ≡ false = search rules in
    let shown = c.args.self.now.shows was in
    record {
      shows = λ on. shown ∙ sym step.answer.shows.0;
      standing = step.steady.standing;
      settled = step.steady.settled;
      near = λ t p.
          let P = IsCrashOf (state_by H old) c.args.m.now in
          let left = reads-left g.D.Disk.plain (H new.disk).now (g.met.D.Disk.sound new.disk t).0 (λ q. inl p) in
          held-near P c.args.self.now.shown.file (H new.disk).now
          (subst (λ (s : Status). StandsNear P s.file (reads_of (H new.disk).now)) (sym shown)
          (step-left g.D.Disk.tells g.D.Disk.plain H c.args.m.now old new t was (Err c.in-Err.fault) step left));
    }

pub returns-in-Err-clause-broken : goal.returns-in-Err-clause-broken
returns-in-Err-clause-broken g c = λ shuts t sure.
    let new = c.take.new.store in
    let s = (g.D.Disk.history new.disk).now in
    (c.in-Err.ensures.step.broken shuts t (reads_of s) (reads-left g.D.Disk.plain s (g.met.D.Disk.sound new.disk t).0 sure)).stands
