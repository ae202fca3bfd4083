use Rattle.std.proofs.Common.{refl, Ok}
use Rattle.schedule_text.specs.declared.lines.form.TheConstants.{FIRST}
use Rattle.schedule_text.specs.declared.lines.form.Form.TheVariants as form
use Rattle.schedule_text.specs.Spellings.{first_parts, no_cluster}
use Rattle.schedule_text.proofs.ExactLemmas.{exact_fault, exact_other}
use Rattle.schedule_text.proofs.RangeLemmas.{cluster_range}
use Rattle.schedule_text.proofs.TableLemmas.{first_lines_are_a_table, first_said, spells_said, said_in_range}
use Rattle.schedule_text.proofs.lines.read.read_cluster.Goals as goal

pub find-requires : goal.find-requires
find-requires c = (form.Cluster, refl)

pub returns-in-Ok-clause-ok : goal.returns-in-Ok-clause-ok
returns-in-Ok-clause-ok c =
    let line = c.args.line.now in
    let found = c.in-Ok.found in
    let cluster = c.cluster_of.result in
    let ok = c.in-Ok.ensures.ok in
    let said = first_said line found cluster ok.0 c.cluster_of.ensures in
    let spelled = spells_said FIRST line found (first_parts cluster) ok.0 said in
    (record { short = spelled.short; text = spelled.text; form = spelled.form }, cluster_range cluster (said_in_range no_cluster found (first_parts cluster) said ok.1))

pub returns-in-Ok-clause-range : goal.returns-in-Ok-clause-range
returns-in-Ok-clause-range c =
    let line = c.args.line.now in
    let found = c.in-Ok.found in
    let cluster = c.cluster_of.result in
    let ok = c.in-Ok.ensures.ok in
    let said = first_said line found cluster ok.0 c.cluster_of.ensures in
    let spelled = spells_said FIRST line found (first_parts cluster) ok.0 said in
    let within = said_in_range no_cluster found (first_parts cluster) said ok.1 in
    (exact_other first_parts FIRST first_lines_are_a_table no_cluster line (first_parts cluster) (Ok cluster) spelled within (λ name e. cc) (λ at e. cc)).range

pub returns-in-Err-clause-range : goal.returns-in-Err-clause-range
returns-in-Err-clause-range c = (exact_fault first_parts FIRST first_lines_are_a_table no_cluster c.args.line.now c.in-Err.fault c.in-Err.ensures.fault).range

pub returns-in-Err-clause-bad : goal.returns-in-Err-clause-bad
returns-in-Err-clause-bad c = (exact_fault first_parts FIRST first_lines_are_a_table no_cluster c.args.line.now c.in-Err.fault c.in-Err.ensures.fault).bad
