use Rattle.std.proofs.Common.{◌≡◌, ◌+◌, ◌++◌, ◌∙◌, Option, Err, Some, None, sym, ap, subst}
use Rattle.tx_model.specs.Records.{RiseByOne}
use Rattle.disk_model.specs.History.{History}
use Rattle.segment_store.specs.Index.{Index}
use Rattle.partition_store.specs.Stands.{LeavesAtEach, HasSome}
use Rattle.partition_store.specs.Stores.{Kept, state_by, IsDurable}
use Rattle.partition_store.proofs.Durable.{durable, sound_kept}
use Rattle.partition_store.proofs.Added.{added_ids, added_fit, added_tidy, adds, added_state, added_sound}
use Rattle.partition_store.proofs.store.Store.add.Goals as goal

pub append-requires-clause-tidy : goal.append-requires-clause-tidy
append-requires-clause-tidy g c = λ t.
    let on = ap (λ (k : Kept g.row.D.Denot). k.shut) c.self.view_is ∙ c.requires.on in
    let ids = subst (λ (k : Kept g.row.D.Denot). RiseByOne (k.status.length + 1) c.args.records.now) (sym c.self.view_is) c.requires.ids in
    added_tidy g.D.Disk.plain g.D.Disk.history _ (c.self.invariant.sound t on) c.in-Some.last c.in-Some.is c.args.records.now ids

pub append-requires-clause-ids : goal.append-requires-clause-ids
append-requires-clause-ids g c =
    let ids = subst (λ (k : Kept g.row.D.Denot). RiseByOne (k.status.length + 1) c.args.records.now) (sym c.self.view_is) c.requires.ids in
    added_ids _ c.in-Some.last c.args.records.now c.in-Some.is c.self.invariant.fit ids

pub invariant_of-self-in-Ok : goal.invariant_of-self-in-Ok
invariant_of-self-in-Ok g c =
    let H = g.D.Disk.history in
    let ids = subst (λ (k : Kept g.row.D.Denot). RiseByOne (k.status.length + 1) c.args.records.now) (sym c.self.view_is) c.requires.ids in
    let none = subst (λ (k : Kept g.row.D.Denot). k.staged ≡ None) (sym c.self.view_is) c.requires.none in
    record {
      fit = added_fit _ c.in-Some.last c.append.new.self c.args.records.now c.in-Some.is c.self.invariant.fit ids none c.append.new.disk c.append.ensures.place.1 c.in-Ok.ensures.count;
      sound = λ t on. added_sound g.D.Disk.plain H _ (c.self.invariant.sound t on) c.in-Some.last c.in-Some.is c.args.records.now ids (H c.append.new.disk).now (c.in-Ok.ensures.records t) (c.append.ensures.any_moment t).others_now none c.append.new.disk c.append.new.self c.append.ensures.place.0 (c.in-Ok.ensures.tidy t);
    }

pub returns-in-Ok-clause-durable : goal.returns-in-Ok-clause-durable
returns-in-Ok-clause-durable g c = λ t on.
    let H = g.D.Disk.history in
    let ids = subst (λ (k : Kept g.row.D.Denot). RiseByOne (k.status.length + 1) c.args.records.now) (sym c.self.view_is) c.requires.ids in
    let none = subst (λ (k : Kept g.row.D.Denot). k.staged ≡ None) (sym c.self.view_is) c.requires.none in
    durable g.D.Disk.plain _ _ (added_sound g.D.Disk.plain H _ (c.self.invariant.sound t on) c.in-Some.last c.in-Some.is c.args.records.now ids (H c.append.new.disk).now (c.in-Ok.ensures.records t) (c.append.ensures.any_moment t).others_now none c.append.new.disk c.append.new.self c.append.ensures.place.0 (c.in-Ok.ensures.tidy t))

pub returns-in-Ok-clause-state : goal.returns-in-Ok-clause-state
returns-in-Ok-clause-state g c = λ t.
    let H = g.D.Disk.history in
    let ids = subst (λ (k : Kept g.row.D.Denot). RiseByOne (k.status.length + 1) c.args.records.now) (sym c.self.view_is) c.requires.ids in
    let none = subst (λ (k : Kept g.row.D.Denot). k.staged ≡ None) (sym c.self.view_is) c.requires.none in
    let on = ap (λ (k : Kept g.row.D.Denot). k.shut) c.self.view_is ∙ c.requires.on in
    added_state g.D.Disk.plain H _ (c.self.invariant.sound t on) c.in-Some.last c.in-Some.is c.args.records.now ids (H c.append.new.disk).now (c.in-Ok.ensures.records t) (c.append.ensures.any_moment t).others_now none
    ∙ ap (λ (k : Kept g.row.D.Denot). record (state_by H k) { log = (state_by H k).log ++ c.args.records.now }) c.self.view_is

pub returns-in-Ok-clause-any_moment : goal.returns-in-Ok-clause-any_moment
returns-in-Ok-clause-any_moment g c = λ t.
    let H = g.D.Disk.history in
    let ids = subst (λ (k : Kept g.row.D.Denot). RiseByOne (k.status.length + 1) c.args.records.now) (sym c.self.view_is) c.requires.ids in
    let on = ap (λ (k : Kept g.row.D.Denot). k.shut) c.self.view_is ∙ c.requires.on in
    subst (λ (k : Kept g.row.D.Denot). LeavesAtEach g.D.Disk.plain (HasSome (state_by H k) c.args.records.now) (H k.disk) (H c.append.new.disk)) c.self.view_is
    (adds g.D.Disk.plain H _ (c.self.invariant.sound t on) c.in-Some.last c.in-Some.is c.args.records.now ids (H c.append.new.disk) (c.append.ensures.any_moment t))

pub returns-in-Err-Disk-clause-any_moment : goal.returns-in-Err-Disk-clause-any_moment
returns-in-Err-Disk-clause-any_moment g c = λ t.
    let H = g.D.Disk.history in
    let ids = subst (λ (k : Kept g.row.D.Denot). RiseByOne (k.status.length + 1) c.args.records.now) (sym c.self.view_is) c.requires.ids in
    let on = ap (λ (k : Kept g.row.D.Denot). k.shut) c.self.view_is ∙ c.requires.on in
    subst (λ (k : Kept g.row.D.Denot). LeavesAtEach g.D.Disk.plain (HasSome (state_by H k) c.args.records.now) (H k.disk) (H c.append.new.disk)) c.self.view_is
    (adds g.D.Disk.plain H _ (c.self.invariant.sound t on) c.in-Some.last c.in-Some.is c.args.records.now ids (H c.append.new.disk) (c.append.ensures.any_moment t))

pub returns-in-Err-Memory-clause-any_moment : goal.returns-in-Err-Memory-clause-any_moment
returns-in-Err-Memory-clause-any_moment g c = λ t.
    let H = g.D.Disk.history in
    let ids = subst (λ (k : Kept g.row.D.Denot). RiseByOne (k.status.length + 1) c.args.records.now) (sym c.self.view_is) c.requires.ids in
    let on = ap (λ (k : Kept g.row.D.Denot). k.shut) c.self.view_is ∙ c.requires.on in
    subst (λ (k : Kept g.row.D.Denot). LeavesAtEach g.D.Disk.plain (HasSome (state_by H k) c.args.records.now) (H k.disk) (H c.append.new.disk)) c.self.view_is
    (adds g.D.Disk.plain H _ (c.self.invariant.sound t on) c.in-Some.last c.in-Some.is c.args.records.now ids (H c.append.new.disk) (c.append.ensures.any_moment t))

pub returns-in-Err-Memory-clause-durable : goal.returns-in-Err-Memory-clause-durable
returns-in-Err-Memory-clause-durable g c = λ t on.
    let H = g.D.Disk.history in
    let same = c.append.ensures.memory (c.in-Err-Memory.is ∙ ap Err c.in-Err-Memory.field-0-is) t in
    subst (λ (o : Option Index). IsDurable g.D.Disk.plain (H c.append.new.disk).now (record { disk = c.append.new.disk; journal = c.self.inside.journal; status = c.self.inside.status; closed = c.self.inside.closed.items; last = o; staged = c.self.inside.staged; shut = c.self.inside.shut })) (c.in-Some.is ∙ ap Some (sym c.in-Err-Memory.ensures.err))
    (durable g.D.Disk.plain _ _ (sound_kept _ _ _ c.append.new.disk (ap (λ (h : History). h.now) same) (c.self.invariant.sound t on)))
