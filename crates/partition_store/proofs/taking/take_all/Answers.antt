use Rattle.std.proofs.Common.{ℕ, sym, subst}
use Rattle.disk_model.proofs.Told.{told_by_try}
use Rattle.proto_model.specs.Damages.{IsDamaged}
use Rattle.partition_store.specs.Stands.{reads_of}
use Rattle.partition_store.proofs.Taken.{damaged-last}
use Rattle.partition_store.proofs.taking.take_all.Goals as goal

pub returns-in_err-loaded-2-clause-damaged : goal.returns-in_err-loaded-2-clause-damaged
returns-in_err-loaded-2-clause-damaged g c =
    told_by_try c.from_residual-in_err-loaded-2.result c.in_err-loaded-2.field-0.0 _ _ c.from_residual-in_err-loaded-2.ensures.1 c.in_err-loaded-2.ensures.damaged (λ file at is. λ t same.
    let all = reads_of (g.D.Disk.history c.args.disk.now).now in
    let taken = c.in_ok-loaded.ensures.taken t in
    subst (λ (q : ℕ). IsDamaged all q at) (sym is.0) (damaged-last all c.args.entries.now taken.held c.in_ok-loaded.loaded at taken.of same is.1))
