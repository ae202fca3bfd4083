use Rattle.std.proofs.Common.{refl}
use Rattle.proto_model.proofs.DamagedFiles.{damaged-stands}
use Rattle.partition_store.specs.Stands.{reads_of}
use Rattle.partition_store.proofs.Durable.{durable}
use Rattle.partition_store.proofs.FirmFiles.{firm-plain}
use Rattle.partition_store.proofs.Loads.{loaded-fit, loaded-sound, held-same, leaves-firm, held-firm, trimmed-files}
use Rattle.disk_model.proofs.Told.{told_on}
use Rattle.partition_store.proofs.store.Store.load.Goals as goal

pub invariant_of-result : goal.invariant_of-result
invariant_of-result g c =
    let parts = c.in-Ok.parts in
    let fit = c.in-Ok.ensures.fit in
    record {
      fit = loaded-fit c.load_parts.new.disk parts.journal parts.loaded fit.0 fit.1;
      sound = λ t on. loaded-sound (g.D.Disk.history c.args.disk).now (g.D.Disk.history c.load_parts.new.disk).now parts.journal parts.entries.items parts.loaded (c.in-Ok.ensures.loaded t) fit.1 c.load_parts.new.disk fit.0;
    }

pub returns-in-Ok-clause-held : goal.returns-in-Ok-clause-held
returns-in-Ok-clause-held g c = λ t.
    let parts = c.in-Ok.parts in
    held-same (g.D.Disk.history c.args.disk).now (g.D.Disk.history c.load_parts.new.disk).now parts.journal parts.entries.items parts.loaded (c.in-Ok.ensures.loaded t) c.in-Ok.ensures.fit.1

pub returns-in-Ok-clause-durable : goal.returns-in-Ok-clause-durable
returns-in-Ok-clause-durable g c = λ t.
    let parts = c.in-Ok.parts in
    durable g.D.Disk.plain (g.D.Disk.history c.load_parts.new.disk).now _
    (loaded-sound (g.D.Disk.history c.args.disk).now (g.D.Disk.history c.load_parts.new.disk).now parts.journal parts.entries.items parts.loaded (c.in-Ok.ensures.loaded t) c.in-Ok.ensures.fit.1 c.load_parts.new.disk c.in-Ok.ensures.fit.0)

pub returns-in-Ok-clause-any_moment : goal.returns-in-Ok-clause-any_moment
returns-in-Ok-clause-any_moment g c = λ t firm h is.
    let old = g.D.Disk.history c.args.disk in
    leaves-firm g.D.Disk.plain old.now h is old (g.D.Disk.history c.load_parts.new.disk) refl firm (c.load_parts.ensures.firm t firm) (g.met.D.Disk.sound c.load_parts.new.disk t) (g.met.D.Disk.settles c.load_parts.new.disk t)

pub returns-in-Ok-clause-plain : goal.returns-in-Ok-clause-plain
returns-in-Ok-clause-plain g c = λ t p. firm-plain (g.D.Disk.history c.args.disk).now (g.met.D.Disk.settles c.args.disk t p).0

pub returns-in-Err-clause-not_damaged : goal.returns-in-Err-clause-not_damaged
returns-in-Err-clause-not_damaged g c = λ t h is.
    told_on c.in-Err.fault _ _ c.in-Err.ensures.damaged (λ file at damaged. damaged-stands (reads_of (g.D.Disk.history c.args.disk).now) file at (damaged t).0 h is)

pub returns-in-Err-clause-any_moment : goal.returns-in-Err-clause-any_moment
returns-in-Err-clause-any_moment g c = λ t firm h is.
    let old = g.D.Disk.history c.args.disk in
    leaves-firm g.D.Disk.plain old.now h is old (g.D.Disk.history c.load_parts.new.disk) refl firm (c.load_parts.ensures.firm t firm) (g.met.D.Disk.sound c.load_parts.new.disk t) (g.met.D.Disk.settles c.load_parts.new.disk t)

pub returns-in-Err-clause-plain : goal.returns-in-Err-clause-plain
returns-in-Err-clause-plain g c = λ t p. firm-plain (g.D.Disk.history c.args.disk).now (g.met.D.Disk.settles c.args.disk t p).0

pub returns-in-Ok-clause-files : goal.returns-in-Ok-clause-files
returns-in-Ok-clause-files g c = λ t.
    let parts = c.in-Ok.parts in
    trimmed-files (g.D.Disk.history c.args.disk).now (g.D.Disk.history c.load_parts.new.disk).now parts.journal parts.entries.items parts.loaded (c.in-Ok.ensures.loaded t) c.in-Ok.ensures.fit.1

pub returns-in-Ok-clause-kept : goal.returns-in-Ok-clause-kept
returns-in-Ok-clause-kept g c = λ t p h is.
    let old = g.D.Disk.history c.args.disk in
    let firm = firm-plain old.now (g.met.D.Disk.settles c.args.disk t p).0 in
    held-firm g.D.Disk.plain old.now h is old (g.D.Disk.history c.load_parts.new.disk) firm (c.load_parts.ensures.firm t firm) (g.met.D.Disk.sound c.load_parts.new.disk t) (g.met.D.Disk.settles c.load_parts.new.disk t) p

pub returns-in-Err-clause-kept : goal.returns-in-Err-clause-kept
returns-in-Err-clause-kept g c = λ t p h is.
    let old = g.D.Disk.history c.args.disk in
    let firm = firm-plain old.now (g.met.D.Disk.settles c.args.disk t p).0 in
    held-firm g.D.Disk.plain old.now h is old (g.D.Disk.history c.load_parts.new.disk) firm (c.load_parts.ensures.firm t firm) (g.met.D.Disk.sound c.load_parts.new.disk t) (g.met.D.Disk.settles c.load_parts.new.disk t) p
