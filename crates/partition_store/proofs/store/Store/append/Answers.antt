use Rattle.std.proofs.Common.{◌≡◌, ◌+◌, ◌-◌, ◌∙◌, ℕ, List, drop, refl, sym, ap, subst, arith}
use Rattle.tx_model.specs.declared.record.Record.{Record}
use Rattle.tx_model.specs.Records.{RiseByOne, first_id}
use Rattle.partition_store.specs.Stands.{LeavesAtEach, HasSome}
use Rattle.partition_store.specs.Stores.{Kept, state_by, lacking, IsSound}
use Rattle.partition_store.proofs.Durable.{durable, stays}
use Rattle.partition_store.proofs.Added.{lacking_rise, lacks, same_batch, has_none}
use Rattle.partition_store.proofs.store.Store.append.Goals as goal

pub returns-then-len-known-clause-durable : goal.returns-then-len-known-clause-durable
returns-then-len-known-clause-durable g c = λ t on.
    let H = g.D.Disk.history in
    let sound = subst (λ (k : Kept g.row.D.Denot). IsSound (H k.disk).now k) c.self.view_is (c.self.invariant.sound t c.if-self.false) in
    durable g.D.Disk.plain _ _ sound

pub returns-then-len-known-clause-any_moment : goal.returns-then-len-known-clause-any_moment
returns-then-len-known-clause-any_moment g c = λ t on.
    let H = g.D.Disk.history in
    let sound = subst (λ (k : Kept g.row.D.Denot). IsSound (H k.disk).now k) c.self.view_is (c.self.invariant.sound t c.if-self.false) in
    stays g.D.Disk.plain H _ sound _ (has_none (state_by H c.args.self.now) (lacking (state_by H c.args.self.now).log c.args.b.now)) _ refl

pub returns-then-len-known-clause-state : goal.returns-then-len-known-clause-state
returns-then-len-known-clause-state g c = λ t.
    let H = g.D.Disk.history in
    let len : c.self.inside.status.length ≡ c.args.self.now.status.length = ap (λ (k : Kept g.row.D.Denot). k.status.length) c.self.view_is in
    let n = c.args.self.now.status.length + 1 - first_id c.args.b.now in
    let known : c.self.inside.status.length + 1 - c.first.result ≡ n = ap (λ (m : ℕ). m + 1 - c.first.result) len ∙ ap (λ (m : ℕ). c.args.self.now.status.length + 1 - m) c.first.ensures.value in
    let sound = subst (λ (k : Kept g.row.D.Denot). IsSound (H k.disk).now k) c.self.view_is (c.self.invariant.sound t c.if-self.false) in
    same_batch H _ sound c.args.b.now (omega (arith, c.if-len-known.true, c.len.ensures.value, known))

pub add-requires-clause-ids : goal.add-requires-clause-ids
add-requires-clause-ids g c =
    let len : c.self.inside.status.length ≡ c.args.self.now.status.length = ap (λ (k : Kept g.row.D.Denot). k.status.length) c.self.view_is in
    let n = c.args.self.now.status.length + 1 - first_id c.args.b.now in
    let known : c.self.inside.status.length + 1 - c.first.result ≡ n = ap (λ (m : ℕ). m + 1 - c.first.result) len ∙ ap (λ (m : ℕ). c.args.self.now.status.length + 1 - m) c.first.ensures.value in
    let back : c.split_at.result.1.now ≡ drop n c.args.b.now =
    c.split_at.ensures.back ∙ ap (λ (l : List Record). drop (c.self.inside.status.length + 1 - c.first.result) l) c.records.ensures.value ∙ ap (λ (m : ℕ). drop m c.args.b.now) known in
    subst (λ (l : List Record). RiseByOne (c.args.self.now.status.length + 1) l) (sym back)
    (lacking_rise c.args.self.now.status.length n c.args.b.now c.first.ensures.valid c.requires.first refl (omega (arith, c.if-len-known.false, c.len.ensures.value, known)))

pub returns-clause-any_moment : goal.returns-clause-any_moment
returns-clause-any_moment g c = λ t on.
    let H = g.D.Disk.history in
    let len : c.self.inside.status.length ≡ c.args.self.now.status.length = ap (λ (k : Kept g.row.D.Denot). k.status.length) c.self.view_is in
    let n = c.args.self.now.status.length + 1 - first_id c.args.b.now in
    let known : c.self.inside.status.length + 1 - c.first.result ≡ n = ap (λ (m : ℕ). m + 1 - c.first.result) len ∙ ap (λ (m : ℕ). c.args.self.now.status.length + 1 - m) c.first.ensures.value in
    let back : c.split_at.result.1.now ≡ drop n c.args.b.now =
    c.split_at.ensures.back ∙ ap (λ (l : List Record). drop (c.self.inside.status.length + 1 - c.first.result) l) c.records.ensures.value ∙ ap (λ (m : ℕ). drop m c.args.b.now) known in
    let sound = subst (λ (k : Kept g.row.D.Denot). IsSound (H k.disk).now k) c.self.view_is (c.self.invariant.sound t c.if-self.false) in
    subst (λ (l : List Record). LeavesAtEach g.D.Disk.plain (HasSome (state_by H c.args.self.now) l) (H c.args.self.now.disk) (H c.add.new.self.disk)) (back ∙ lacks H _ sound c.args.b.now) (c.add.ensures.any_moment t)
