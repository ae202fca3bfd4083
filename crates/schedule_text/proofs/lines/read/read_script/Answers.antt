use Rattle.std.proofs.Common.{refl, Err}
use Rattle.schedule_text.specs.declared.lines.form.TheConstants.{SCRIPT}
use Rattle.schedule_text.specs.declared.lines.form.Form.TheVariants as form
use Rattle.schedule_text.specs.declared.lines.fault.LineFault.TheVariants.{Memory}
use Rattle.schedule_text.specs.Spellings.{script_parts, no_cluster}
use Rattle.schedule_text.specs.Found.{parts_from}
use Rattle.schedule_text.proofs.FoundLemmas.{some_parts}
use Rattle.schedule_text.proofs.ExactLemmas.{exact_fault, exact_other}
use Rattle.schedule_text.proofs.TableLemmas.{script_lines_are_a_table, no_number_out, spells_said}
use Rattle.schedule_text.proofs.lines.read.read_script.Goals as goal

pub find-requires : goal.find-requires
find-requires c = (form.ScriptSync, refl)

pub returns-in-Err-clause-range : goal.returns-in-Err-clause-range
returns-in-Err-clause-range c name e =
    let out = ((exact_fault script_parts SCRIPT script_lines_are_a_table no_cluster c.args.line.now c.in-Err.fault c.in-Err.ensures.fault).range name).0 e in
    no_number_out out.0 no_cluster name out.2

pub returns-in-Err-clause-bad : goal.returns-in-Err-clause-bad
returns-in-Err-clause-bad c = (exact_fault script_parts SCRIPT script_lines_are_a_table no_cluster c.args.line.now c.in-Err.fault c.in-Err.ensures.fault).bad

pub returns-in-Err-clause-memory : goal.returns-in-Err-clause-memory
returns-in-Err-clause-memory c e =
    let script = (exact_fault script_parts SCRIPT script_lines_are_a_table no_cluster c.args.line.now c.in-Err.fault c.in-Err.ensures.fault).memory e in
    (script.0, script.1)

pub returns-in-Ok-script_of-clause-ok : goal.returns-in-Ok-script_of-clause-ok
returns-in-Ok-script_of-clause-ok c =
    let ok = c.in-Ok.ensures.ok in
    let spelled = spells_said SCRIPT c.args.line.now c.in-Ok.found (script_parts c.in-Ok-script_of.script) ok.0 c.in-Ok-script_of.ensures in
    record { short = spelled.short; text = spelled.text; form = spelled.form }

pub returns-in-Err-script_of-clause-bad : goal.returns-in-Err-script_of-clause-bad
returns-in-Err-script_of-clause-bad c =
    let ok = c.in-Ok.ensures.ok in
    let parts = some_parts SCRIPT c.args.line.now c.in-Ok.found ok.0 in
    (exact_other script_parts SCRIPT script_lines_are_a_table no_cluster c.args.line.now (parts_from c.in-Ok.found parts.0) (Err Memory) parts.1 ok.1 (λ name e. cc) (λ at e. cc)).bad

pub returns-in-Err-script_of-clause-memory : goal.returns-in-Err-script_of-clause-memory
returns-in-Err-script_of-clause-memory c e =
    let ok = c.in-Ok.ensures.ok in
    let parts = some_parts SCRIPT c.args.line.now c.in-Ok.found ok.0 in
    let script = (exact_other script_parts SCRIPT script_lines_are_a_table no_cluster c.args.line.now (parts_from c.in-Ok.found parts.0) (Err Memory) parts.1 ok.1 (λ name e. cc) (λ at e. cc)).memory refl in
    (script.0, script.1)
