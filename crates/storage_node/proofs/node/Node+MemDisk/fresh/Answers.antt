use Rattle.std.proofs.Common.{◌≡◌, refl, sym, ◌∙◌, ap, subst, Some, Err}
use Rattle.disk_model.specs.MemDisk.{MemState, mem_history, IsUnfailing}
use Rattle.proto_model.specs.declared.message.Status.{Status}
use Rattle.proto_model.specs.Held.{Held, held_in, none_held, replica_of}
use Rattle.partition_store.specs.Stands.{reads_of, held_now}
use Rattle.partition_store.specs.Loading.{AreTrimmedOf}
use Rattle.storage_node.proofs.Fresh.{first-held, first-some, first-trimmed, only-memory}
use Rattle.storage_node.proofs.node.Node+MemDisk.fresh.Goals as goal

pub returns-in-Ok-clause-state : goal.returns-in-Ok-clause-state
returns-in-Ok-clause-state c =
    let s = (mem_history c.in-Ok.node.store.disk).now in
    let held = subst (λ (d : MemState). held_in (reads_of (mem_history d).now) ≡ Some (held_now s)) c.new.ensures (c.in-Ok.ensures.held tt) in
    c.in-Ok.ensures.state tt ∙ ap replica_of (first-held (held_now s) held)

pub returns-in-Ok-clause-files : goal.returns-in-Ok-clause-files
returns-in-Ok-clause-files c =
    let s = (mem_history c.in-Ok.node.store.disk).now in
    first-trimmed s (subst (λ (d : MemState). AreTrimmedOf (mem_history d).now s) c.new.ensures (c.in-Ok.ensures.files tt))

pub returns-in-Ok-clause-shown : goal.returns-in-Ok-clause-shown
returns-in-Ok-clause-shown c =
    let s = (mem_history c.in-Ok.node.store.disk).now in
    let held = subst (λ (d : MemState). held_in (reads_of (mem_history d).now) ≡ Some (held_now s)) c.new.ensures (c.in-Ok.ensures.held tt) in
    ap (λ (x : Status). x.file) c.in-Ok.ensures.shown ∙ (c.in-Ok.ensures.durable tt).standing.file ∙ ap (λ (h : Held). h.file) (first-held (held_now s) held)

pub returns-in-Err-clause-only : goal.returns-in-Err-clause-only
returns-in-Err-clause-only c =
    let works = subst (λ (d : MemState). IsUnfailing d) (sym c.new.ensures) (refl, refl) in
    let held = subst (λ (d : MemState). held_in (reads_of (mem_history d).now) ≡ Some none_held) (sym c.new.ensures) first-some in
    only-memory c.in-Err.unloaded.fault (λ is. (c.in-Err.ensures.keeps.unfailing works).1 (ap Err is)) (c.in-Err.ensures.not_damaged tt none_held held)
