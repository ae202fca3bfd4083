use Rattle.std.proofs.Common.{◌≡◌, refl, sym, subst, Some}
use Rattle.proto_model.specs.Held.{Held, held_in, replica_of}
use Rattle.proto_model.proofs.DamagedFiles.{damaged-stands}
use Rattle.partition_store.specs.Stands.{reads_of, held_now, LeavesAtEach}
use Rattle.partition_store.specs.Stores.{Kept}
use Rattle.partition_store.specs.Loading.{HasFirmFiles, AreTrimmedOf}
use Rattle.partition_store.proofs.Durable.{durable}
use Rattle.partition_store.proofs.FirmFiles.{firm-plain}
use Rattle.partition_store.proofs.Loads.{loaded-fit, loaded-sound, held-same, leaves-firm, held-firm, trimmed-files}
use Rattle.disk_model.proofs.Told.{told_on}
use Rattle.partition_store.proofs.store.Store.reload.Goals as goal

pub invariant_of-self : goal.invariant_of-self
invariant_of-self g c =
    let H = g.D.Disk.history in
    let parts = c.in-Ok.parts in
    let fit = c.in-Ok.ensures.fit in
    record {
      fit = loaded-fit c.load_parts.new.disk parts.journal parts.loaded fit.0 fit.1;
      sound = λ t on. loaded-sound (H c.self.inside.disk).now (H c.load_parts.new.disk).now parts.journal parts.entries.items parts.loaded (c.in-Ok.ensures.loaded t) fit.1 c.load_parts.new.disk fit.0;
    }

pub returns-in-Ok-clause-held : goal.returns-in-Ok-clause-held
returns-in-Ok-clause-held g c = λ t.
    let H = g.D.Disk.history in
    let parts = c.in-Ok.parts in
    subst (λ (k : Kept g.row.D.Denot). held_in (reads_of (H k.disk).now) ≡ Some (held_now (H c.load_parts.new.disk).now)) c.self.view_is
    (held-same (H c.self.inside.disk).now (H c.load_parts.new.disk).now parts.journal parts.entries.items parts.loaded (c.in-Ok.ensures.loaded t) c.in-Ok.ensures.fit.1)

pub returns-in-Ok-clause-durable : goal.returns-in-Ok-clause-durable
returns-in-Ok-clause-durable g c = λ t.
    let H = g.D.Disk.history in
    let parts = c.in-Ok.parts in
    durable g.D.Disk.plain (H c.load_parts.new.disk).now _
    (loaded-sound (H c.self.inside.disk).now (H c.load_parts.new.disk).now parts.journal parts.entries.items parts.loaded (c.in-Ok.ensures.loaded t) c.in-Ok.ensures.fit.1 c.load_parts.new.disk c.in-Ok.ensures.fit.0)

pub returns-in-Err-clause-not_damaged : goal.returns-in-Err-clause-not_damaged
returns-in-Err-clause-not_damaged g c = λ t h is.
    let H = g.D.Disk.history in
    let was = subst (λ (k : Kept g.row.D.Denot). held_in (reads_of (H k.disk).now) ≡ Some h) (sym c.self.view_is) is in
    told_on c.in-Err.fault _ _ c.in-Err.ensures.damaged (λ file at damaged. damaged-stands (reads_of (H c.self.inside.disk).now) file at (damaged t).0 h was)

pub returns-in-Ok-clause-any_moment : goal.returns-in-Ok-clause-any_moment
returns-in-Ok-clause-any_moment g c =
    let H = g.D.Disk.history in
    subst (λ (k : Kept g.row.D.Denot). g.D.Disk.tells → HasFirmFiles (H k.disk).now → (h : Held) → held_in (reads_of (H k.disk).now) ≡ Some h → LeavesAtEach g.D.Disk.plain (λ r. r ≡ replica_of h) (H k.disk) (H c.load_parts.new.disk)) c.self.view_is
    (λ t firm h is. leaves-firm g.D.Disk.plain (H c.self.inside.disk).now h is (H c.self.inside.disk) (H c.load_parts.new.disk) refl firm (c.load_parts.ensures.firm t firm) (g.met.D.Disk.sound c.load_parts.new.disk t) (g.met.D.Disk.settles c.load_parts.new.disk t))

pub returns-in-Ok-clause-plain : goal.returns-in-Ok-clause-plain
returns-in-Ok-clause-plain g c = λ t p. firm-plain (g.D.Disk.history c.args.self.now.disk).now (g.met.D.Disk.settles c.args.self.now.disk t p).0

pub returns-in-Ok-clause-kept : goal.returns-in-Ok-clause-kept
returns-in-Ok-clause-kept g c =
    let H = g.D.Disk.history in
    subst (λ (k : Kept g.row.D.Denot). g.D.Disk.tells → g.D.Disk.plain → (h : Held) → held_in (reads_of (H k.disk).now) ≡ Some h → held_in (reads_of (H c.load_parts.new.disk).now) ≡ Some h) c.self.view_is
    (λ t p h is.
    let old = H c.self.inside.disk in
    let firm = firm-plain old.now (g.met.D.Disk.settles c.self.inside.disk t p).0 in
    held-firm g.D.Disk.plain old.now h is old (H c.load_parts.new.disk) firm (c.load_parts.ensures.firm t firm) (g.met.D.Disk.sound c.load_parts.new.disk t) (g.met.D.Disk.settles c.load_parts.new.disk t) p)

pub returns-in-Err-clause-any_moment : goal.returns-in-Err-clause-any_moment
returns-in-Err-clause-any_moment g c =
    let H = g.D.Disk.history in
    subst (λ (k : Kept g.row.D.Denot). g.D.Disk.tells → HasFirmFiles (H k.disk).now → (h : Held) → held_in (reads_of (H k.disk).now) ≡ Some h → LeavesAtEach g.D.Disk.plain (λ r. r ≡ replica_of h) (H k.disk) (H c.load_parts.new.disk)) c.self.view_is
    (λ t firm h is. leaves-firm g.D.Disk.plain (H c.self.inside.disk).now h is (H c.self.inside.disk) (H c.load_parts.new.disk) refl firm (c.load_parts.ensures.firm t firm) (g.met.D.Disk.sound c.load_parts.new.disk t) (g.met.D.Disk.settles c.load_parts.new.disk t))

pub returns-in-Err-clause-plain : goal.returns-in-Err-clause-plain
returns-in-Err-clause-plain g c = λ t p. firm-plain (g.D.Disk.history c.args.self.now.disk).now (g.met.D.Disk.settles c.args.self.now.disk t p).0

pub returns-in-Err-clause-kept : goal.returns-in-Err-clause-kept
returns-in-Err-clause-kept g c =
    let H = g.D.Disk.history in
    subst (λ (k : Kept g.row.D.Denot). g.D.Disk.tells → g.D.Disk.plain → (h : Held) → held_in (reads_of (H k.disk).now) ≡ Some h → held_in (reads_of (H c.load_parts.new.disk).now) ≡ Some h) c.self.view_is
    (λ t p h is.
    let old = H c.self.inside.disk in
    let firm = firm-plain old.now (g.met.D.Disk.settles c.self.inside.disk t p).0 in
    held-firm g.D.Disk.plain old.now h is old (H c.load_parts.new.disk) firm (c.load_parts.ensures.firm t firm) (g.met.D.Disk.sound c.load_parts.new.disk t) (g.met.D.Disk.settles c.load_parts.new.disk t) p)

pub returns-in-Ok-clause-files : goal.returns-in-Ok-clause-files
returns-in-Ok-clause-files g c = λ t.
    let H = g.D.Disk.history in
    let parts = c.in-Ok.parts in
    subst (λ (k : Kept g.row.D.Denot). AreTrimmedOf (H k.disk).now (H c.load_parts.new.disk).now) c.self.view_is
    (trimmed-files (H c.self.inside.disk).now (H c.load_parts.new.disk).now parts.journal parts.entries.items parts.loaded (c.in-Ok.ensures.loaded t) c.in-Ok.ensures.fit.1)
