use Rattle.std.proofs.Common.{◌≡◌, None, sym, ◌∙◌, ap}
use Rattle.std.specs.BTreeMap.{BTreeMap}
use Rattle.kv_app.specs.Touches.{op_key}
use Rattle.kv_app.specs.Numbers.{application_of, entry_at}
use Rattle.kv_app.proofs.NumberLemmas.{application_untouched, application_written, entry_written}
use Rattle.kv_app.proofs.Empties.{empty_changed}
use Rattle.kv_app.proofs.numbers.change.Goals as goal

pub returns-in-Some-clause-changed : goal.returns-in-Some-clause-changed
returns-in-Some-clause-changed c =
    let key : c.bytes.result.now ≡ op_key c.args.op.now = c.bytes.ensures.value ∙ c.key_of.ensures in
    application_written (λ k. k.items) c.args.numbers.now (c.get_mut.follows.lender c.number_after.result) c.args.op.now c.bytes.result.now c.in-Some.number.now c.number_after.result key
    (sym c.in-Some.ensures.value) c.number_after.ensures (c.get_mut.follows.holds c.number_after.result)

pub returns-in-Some-clause-kept : goal.returns-in-Some-clause-kept
returns-in-Some-clause-kept c q some =
    entry_written (λ k. k.items) c.args.numbers.now (c.get_mut.follows.lender c.number_after.result) c.bytes.result.now c.in-Some.number.now c.number_after.result
    (sym c.in-Some.ensures.value) (c.get_mut.follows.holds c.number_after.result) q some

pub returns-in_default-clause-changed : goal.returns-in_default-clause-changed
returns-in_default-clause-changed c =
    let key : c.bytes.result.now ≡ op_key c.args.op.now = c.bytes.ensures.value ∙ c.key_of.ensures in
    let none : entry_at (λ k. k.items) c.args.numbers.now.entries (op_key c.args.op.now) ≡ None =
    ap (entry_at (λ k. k.items) c.args.numbers.now.entries) (sym key) ∙ sym c.in_default.ensures.value in
    ap (λ (m : BTreeMap _ _). application_of (λ k. k.items) m.entries) c.get_mut.follows.holds-at-none ∙ application_untouched (λ k. k.items) c.args.numbers.now c.args.op.now c.requires none

pub returns-in-Some-clause-empty : goal.returns-in-Some-clause-empty
returns-in-Some-clause-empty c q empty =
    let key : c.bytes.result.now ≡ op_key c.args.op.now = c.bytes.ensures.value ∙ c.key_of.ensures in
    empty_changed (λ k. k.items) c.args.numbers.now (c.get_mut.follows.lender c.number_after.result) c.args.op.now c.bytes.result.now c.in-Some.number.now c.number_after.result key
    (sym c.in-Some.ensures.value) c.number_after.ensures (c.get_mut.follows.holds c.number_after.result) q empty
