use Rattle.std.proofs.Common.{◌≡◌, ◌+◌, ◌++◌, ◌<◌, ◌∙◌, List, Option, Err, Some, None, inl, refl, sym, ap, subst}
use Rattle.std.specs.Option.{option_to_list}
use Rattle.disk_model.specs.History.{History}
use Rattle.segment_store.specs.Index.{Index}
use Rattle.proto_model.specs.Parts.{adopted_to}
use Rattle.partition_store.specs.Stands.{LeavesAtEach, IsOldOrNew}
use Rattle.partition_store.specs.Stores.{Kept, state_by, staged_count, begun, IsChain, AreCut, IsReady, IsKept, IsDurable}
use Rattle.partition_store.proofs.Durable.{durable, entry_kept, stays}
use Rattle.partition_store.proofs.Adopted.{whole-chain, adopted_place, adopted_fit, adopts, adopted_state, adopted_sound}
use Rattle.partition_store.proofs.store.Store.name.Goals as goal

pub adopt-requires-clause-session : goal.adopt-requires-clause-session
adopt-requires-clause-session g c =
    let promised = subst (λ (k : Kept g.row.D.Denot). c.args.session ≡ k.status.promised) (sym c.self.view_is) c.requires.promised in
    let later = subst (λ (k : Kept g.row.D.Denot). k.status.adopted < c.args.session) (sym c.self.view_is) c.requires.later in
    adopted_place _ c.self.invariant.fit c.args.file c.args.session promised later

pub retire-requires-clause-chain : goal.retire-requires-clause-chain
retire-requires-clause-chain g c =
    subst (λ (l : List Index). IsChain 1 (l ++ option_to_list c.take-last.result) (c.self.inside.status.length + 1)) (sym c.reserve.ensures.items)
    (subst (λ (o : Option Index). IsChain 1 (c.self.inside.closed.items ++ option_to_list o) (c.self.inside.status.length + 1)) (sym c.take-last.ensures.value) (whole-chain _ c.self.invariant.fit c.args.file))

pub invariant_of-self-in-Ok : goal.invariant_of-self-in-Ok
invariant_of-self-in-Ok g c =
    let H = g.D.Disk.history in
    let promised = subst (λ (k : Kept g.row.D.Denot). c.args.session ≡ k.status.promised) (sym c.self.view_is) c.requires.promised in
    let later = subst (λ (k : Kept g.row.D.Denot). k.status.adopted < c.args.session) (sym c.self.view_is) c.requires.later in
    let next = subst (λ (k : Kept g.row.D.Denot). c.args.file ≡ k.status.file + 1) (sym c.self.view_is) c.requires.next in
    let counted = c.staged-count.ensures.value ∙ ap (λ (k : Kept g.row.D.Denot). staged_count k.staged) (sym c.self.view_is) in
    let cut =
    subst (λ (l : List Index). AreCut c.self.inside.status.low (l ++ option_to_list c.self.inside.last) c.retire.new.closed.items) c.reserve.ensures.items
    (subst (λ (o : Option Index). AreCut c.self.inside.status.low (c.reserve.new.self.items ++ option_to_list o) c.retire.new.closed.items) c.take-last.ensures.value c.retire.ensures.cut) in
    let last = c.begun.ensures ∙ ap (λ (o : Option Index). begun c.args.file (c.self.inside.status.low + 1) o) c.take.ensures.value in
    subst (λ (o : Option Index). IsKept g.D.Disk.tells H (record { disk = c.adopt.new.disk; journal = c.adopt.new.self; status = record c.self.inside.status { adopted = c.args.session; length = c.self.inside.status.low + c.staged-count.result; file = c.args.file }; closed = c.retire.new.closed.items; last = Some c.begun.result; staged = o; shut = c.self.inside.shut })) (sym c.take.ensures.after)
    (subst (λ (x : Index). IsKept g.D.Disk.tells H (record { disk = c.adopt.new.disk; journal = c.adopt.new.self; status = record c.self.inside.status { adopted = c.args.session; length = c.self.inside.status.low + c.staged-count.result; file = c.args.file }; closed = c.retire.new.closed.items; last = Some x; staged = None; shut = c.self.inside.shut })) (sym last)
    (record {
      fit = adopted_fit _ c.self.invariant.fit c.args.file c.staged-count.result counted c.args.session promised c.adopt.new.disk c.adopt.new.self c.retire.new.closed.items c.retire.ensures.chain;
      sound = λ t on.
          let ready = subst (λ (k : Kept g.row.D.Denot). IsReady (H k.disk).now c.args.file k.staged) (sym c.self.view_is) (c.requires.ready t) in
          adopted_sound g.D.Disk.plain H _ c.self.invariant.fit (c.self.invariant.sound t on) c.args.session promised later c.args.file next c.staged-count.result counted ready c.adopt.new.disk c.adopt.new.self (c.in-Ok.ensures.done t) (c.adopt.ensures.any_moment t).others_now c.retire.new.closed.items cut;
    }))

pub returns-in-Ok-clause-durable : goal.returns-in-Ok-clause-durable
returns-in-Ok-clause-durable g c = λ t on.
    let H = g.D.Disk.history in
    let promised = subst (λ (k : Kept g.row.D.Denot). c.args.session ≡ k.status.promised) (sym c.self.view_is) c.requires.promised in
    let later = subst (λ (k : Kept g.row.D.Denot). k.status.adopted < c.args.session) (sym c.self.view_is) c.requires.later in
    let next = subst (λ (k : Kept g.row.D.Denot). c.args.file ≡ k.status.file + 1) (sym c.self.view_is) c.requires.next in
    let counted = c.staged-count.ensures.value ∙ ap (λ (k : Kept g.row.D.Denot). staged_count k.staged) (sym c.self.view_is) in
    let cut =
    subst (λ (l : List Index). AreCut c.self.inside.status.low (l ++ option_to_list c.self.inside.last) c.retire.new.closed.items) c.reserve.ensures.items
    (subst (λ (o : Option Index). AreCut c.self.inside.status.low (c.reserve.new.self.items ++ option_to_list o) c.retire.new.closed.items) c.take-last.ensures.value c.retire.ensures.cut) in
    let last = c.begun.ensures ∙ ap (λ (o : Option Index). begun c.args.file (c.self.inside.status.low + 1) o) c.take.ensures.value in
    let ready = subst (λ (k : Kept g.row.D.Denot). IsReady (H k.disk).now c.args.file k.staged) (sym c.self.view_is) (c.requires.ready t) in
    subst (λ (o : Option Index). IsDurable g.D.Disk.plain (H c.adopt.new.disk).now (record { disk = c.adopt.new.disk; journal = c.adopt.new.self; status = record c.self.inside.status { adopted = c.args.session; length = c.self.inside.status.low + c.staged-count.result; file = c.args.file }; closed = c.retire.new.closed.items; last = Some c.begun.result; staged = o; shut = c.self.inside.shut })) (sym c.take.ensures.after)
    (subst (λ (x : Index). IsDurable g.D.Disk.plain (H c.adopt.new.disk).now (record { disk = c.adopt.new.disk; journal = c.adopt.new.self; status = record c.self.inside.status { adopted = c.args.session; length = c.self.inside.status.low + c.staged-count.result; file = c.args.file }; closed = c.retire.new.closed.items; last = Some x; staged = None; shut = c.self.inside.shut })) (sym last)
    (durable g.D.Disk.plain _ _ (adopted_sound g.D.Disk.plain H _ c.self.invariant.fit (c.self.invariant.sound t on) c.args.session promised later c.args.file next c.staged-count.result counted ready c.adopt.new.disk c.adopt.new.self (c.in-Ok.ensures.done t) (c.adopt.ensures.any_moment t).others_now c.retire.new.closed.items cut)))

pub returns-in-Ok-clause-state : goal.returns-in-Ok-clause-state
returns-in-Ok-clause-state g c = λ t.
    let H = g.D.Disk.history in
    let promised = subst (λ (k : Kept g.row.D.Denot). c.args.session ≡ k.status.promised) (sym c.self.view_is) c.requires.promised in
    let later = subst (λ (k : Kept g.row.D.Denot). k.status.adopted < c.args.session) (sym c.self.view_is) c.requires.later in
    let next = subst (λ (k : Kept g.row.D.Denot). c.args.file ≡ k.status.file + 1) (sym c.self.view_is) c.requires.next in
    let counted = c.staged-count.ensures.value ∙ ap (λ (k : Kept g.row.D.Denot). staged_count k.staged) (sym c.self.view_is) in
    let ready = subst (λ (k : Kept g.row.D.Denot). IsReady (H k.disk).now c.args.file k.staged) (sym c.self.view_is) (c.requires.ready t) in
    let on = ap (λ (k : Kept g.row.D.Denot). k.shut) c.self.view_is ∙ c.requires.on in
    adopted_state g.D.Disk.plain H _ c.self.invariant.fit (c.self.invariant.sound t on) c.args.session promised later c.args.file next c.staged-count.result counted ready c.adopt.new.disk c.adopt.new.self (c.in-Ok.ensures.done t) (c.adopt.ensures.any_moment t).others_now c.take.new.self c.take.ensures.after
    ∙ ap (λ (k : Kept g.row.D.Denot). adopted_to (state_by H k) c.args.session) c.self.view_is

pub returns-in-Ok-clause-any_moment : goal.returns-in-Ok-clause-any_moment
returns-in-Ok-clause-any_moment g c = λ t.
    let H = g.D.Disk.history in
    let promised = subst (λ (k : Kept g.row.D.Denot). c.args.session ≡ k.status.promised) (sym c.self.view_is) c.requires.promised in
    let later = subst (λ (k : Kept g.row.D.Denot). k.status.adopted < c.args.session) (sym c.self.view_is) c.requires.later in
    let next = subst (λ (k : Kept g.row.D.Denot). c.args.file ≡ k.status.file + 1) (sym c.self.view_is) c.requires.next in
    let counted = c.staged-count.ensures.value ∙ ap (λ (k : Kept g.row.D.Denot). staged_count k.staged) (sym c.self.view_is) in
    let ready = subst (λ (k : Kept g.row.D.Denot). IsReady (H k.disk).now c.args.file k.staged) (sym c.self.view_is) (c.requires.ready t) in
    let on = ap (λ (k : Kept g.row.D.Denot). k.shut) c.self.view_is ∙ c.requires.on in
    subst (λ (k : Kept g.row.D.Denot). LeavesAtEach g.D.Disk.plain (IsOldOrNew (state_by H k) (adopted_to (state_by H k) c.args.session)) (H k.disk) (H c.adopt.new.disk)) c.self.view_is
    (adopts g.D.Disk.plain H _ c.self.invariant.fit (c.self.invariant.sound t on) c.args.session promised later c.args.file next c.staged-count.result counted ready (H c.adopt.new.disk) (c.adopt.ensures.any_moment t))

pub returns-in-Err-Disk-clause-any_moment : goal.returns-in-Err-Disk-clause-any_moment
returns-in-Err-Disk-clause-any_moment g c = λ t.
    let H = g.D.Disk.history in
    let promised = subst (λ (k : Kept g.row.D.Denot). c.args.session ≡ k.status.promised) (sym c.self.view_is) c.requires.promised in
    let later = subst (λ (k : Kept g.row.D.Denot). k.status.adopted < c.args.session) (sym c.self.view_is) c.requires.later in
    let next = subst (λ (k : Kept g.row.D.Denot). c.args.file ≡ k.status.file + 1) (sym c.self.view_is) c.requires.next in
    let counted = c.staged-count.ensures.value ∙ ap (λ (k : Kept g.row.D.Denot). staged_count k.staged) (sym c.self.view_is) in
    let ready = subst (λ (k : Kept g.row.D.Denot). IsReady (H k.disk).now c.args.file k.staged) (sym c.self.view_is) (c.requires.ready t) in
    let on = ap (λ (k : Kept g.row.D.Denot). k.shut) c.self.view_is ∙ c.requires.on in
    subst (λ (k : Kept g.row.D.Denot). LeavesAtEach g.D.Disk.plain (IsOldOrNew (state_by H k) (adopted_to (state_by H k) c.args.session)) (H k.disk) (H c.adopt.new.disk)) c.self.view_is
    (adopts g.D.Disk.plain H _ c.self.invariant.fit (c.self.invariant.sound t on) c.args.session promised later c.args.file next c.staged-count.result counted ready (H c.adopt.new.disk) (c.adopt.ensures.any_moment t))

pub returns-in-Err-Memory-clause-any_moment : goal.returns-in-Err-Memory-clause-any_moment
returns-in-Err-Memory-clause-any_moment g c = λ t.
    let H = g.D.Disk.history in
    let on = ap (λ (k : Kept g.row.D.Denot). k.shut) c.self.view_is ∙ c.requires.on in
    subst (λ (k : Kept g.row.D.Denot). LeavesAtEach g.D.Disk.plain (IsOldOrNew (state_by H k) (adopted_to (state_by H k) c.args.session)) (H k.disk) (H c.adopt.new.disk)) c.self.view_is
    (stays g.D.Disk.plain H _ (c.self.invariant.sound t on) _ (λ r is. inl is) (H c.adopt.new.disk) (c.adopt.ensures.memory (c.in-Err-Memory.is ∙ ap Err c.in-Err-Memory.field-0-is) t))

pub returns-then-is_err-clause-any_moment : goal.returns-then-is_err-clause-any_moment
returns-then-is_err-clause-any_moment g c = λ t.
    let H = g.D.Disk.history in
    let on = ap (λ (k : Kept g.row.D.Denot). k.shut) c.self.view_is ∙ c.requires.on in
    subst (λ (k : Kept g.row.D.Denot). LeavesAtEach g.D.Disk.plain (IsOldOrNew (state_by H k) (adopted_to (state_by H k) c.args.session)) (H k.disk) (H c.self.inside.disk)) c.self.view_is
    (stays g.D.Disk.plain H _ (c.self.invariant.sound t on) _ (λ r is. inl is) (H c.self.inside.disk) refl)

pub returns-then-is_err-clause-durable : goal.returns-then-is_err-clause-durable
returns-then-is_err-clause-durable g c = λ t on.
    let H = g.D.Disk.history in
    subst (λ (l : List Index). IsDurable g.D.Disk.plain (H c.self.inside.disk).now (record { disk = c.self.inside.disk; journal = c.self.inside.journal; status = c.self.inside.status; closed = l; last = c.self.inside.last; staged = c.self.inside.staged; shut = c.self.inside.shut })) (sym c.reserve.ensures.items)
    (durable g.D.Disk.plain _ _ (c.self.invariant.sound t on))

pub returns-in-Err-Memory-clause-durable : goal.returns-in-Err-Memory-clause-durable
returns-in-Err-Memory-clause-durable g c = λ t on.
    let H = g.D.Disk.history in
    let same = c.adopt.ensures.memory (c.in-Err-Memory.is ∙ ap Err c.in-Err-Memory.field-0-is) t in
    subst (λ (l : List Index). IsDurable g.D.Disk.plain (H c.adopt.new.disk).now (record { disk = c.adopt.new.disk; journal = c.adopt.new.self; status = c.self.inside.status; closed = l; last = c.self.inside.last; staged = c.self.inside.staged; shut = c.self.inside.shut })) (sym c.reserve.ensures.items)
    (durable g.D.Disk.plain _ _ (entry_kept _ _ _ c.adopt.new.disk c.adopt.new.self c.in-Err-Memory.ensures.err (ap (λ (h : History). h.now) same) (c.self.invariant.sound t on)))
