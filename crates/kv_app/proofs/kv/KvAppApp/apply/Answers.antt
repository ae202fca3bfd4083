use Rattle.std.proofs.Common.{◌≡◌, ℕ, List, Ok, Err, Result, OnOk, sym, ◌∙◌, ap}
use Rattle.tx_model.specs.declared.op.Op.{Op}
use Rattle.tx_model.specs.Applications.{Application, after_ops, after_read, after_payload, SpellsOps}
use Rattle.kv_app.specs.Numbers.{application_of}
use Rattle.kv_app.proofs.WordTexts.{ops_of-SpellsOps}
use Rattle.kv_app.proofs.kv.KvAppApp.apply.Goals as goal

on_ok : {A E : Type 0} (r : Result A E) (P Q : Type 0) → (P → Q) → OnOk r P → OnOk r Q
on_ok (Ok x) P Q weaker h = weaker h
on_ok (Err e) P Q weaker h = tt

after_payload-read : (app : Application) (payload : List ℕ) (ops : List Op) → SpellsOps payload ops → after_ops app ops ≡ after_payload app payload
after_payload-read app payload ops spells = ap (after_read app) (sym (ops_of-SpellsOps payload ops spells))

pub returns-clause-ok : goal.returns-clause-ok
returns-clause-ok c =
    on_ok c.change_all.result _ _ (λ changed.
    changed
    ∙ (ap (after_ops (application_of (λ k. k.items) c.self.inside.numbers.entries)) c.deref.ensures.value
    ∙ (ap (λ app. after_ops app c.in_ok-ops.ops.items) c.self.view_is
    ∙ after_payload-read c.args.self.now c.args.payload.now c.in_ok-ops.ops.items c.in_ok-ops.ensures))) c.change_all.ensures.ok
