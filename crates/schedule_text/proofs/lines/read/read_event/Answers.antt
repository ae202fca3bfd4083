use Rattle.std.proofs.Common.{refl, Ok, Err, arith}
use Rattle.schedule_text.specs.declared.lines.form.TheConstants.{EVENTS}
use Rattle.schedule_text.specs.declared.lines.form.Form.TheVariants as form
use Rattle.schedule_text.specs.declared.lines.fault.LineFault.TheVariants.{Memory}
use Rattle.schedule_text.specs.Spellings.{parts_of}
use Rattle.schedule_text.specs.Found.{parts_from}
use Rattle.schedule_text.proofs.FoundLemmas.{some_parts}
use Rattle.schedule_text.proofs.ExactLemmas.{exact_fault, exact_other}
use Rattle.schedule_text.proofs.RangeLemmas.{event_range}
use Rattle.schedule_text.proofs.TableLemmas.{events_are_a_table, spells_said, said_in_range}
use Rattle.schedule_text.proofs.lines.read.read_event.Goals as goal

pub find-requires : goal.find-requires
find-requires c = (form.Read, refl)

pub event_of-requires-clause-in_range : goal.event_of-requires-clause-in_range
event_of-requires-clause-in_range c = (c.args.cluster.now, record { nodes = omega arith; servers = omega arith; clients = omega arith }, c.in-Ok.ensures.ok.1)

pub returns-in-Err-clause-range : goal.returns-in-Err-clause-range
returns-in-Err-clause-range c = (exact_fault parts_of EVENTS events_are_a_table c.args.cluster.now c.args.line.now c.in-Err.fault c.in-Err.ensures.fault).range

pub returns-in-Err-clause-bad : goal.returns-in-Err-clause-bad
returns-in-Err-clause-bad c = (exact_fault parts_of EVENTS events_are_a_table c.args.cluster.now c.args.line.now c.in-Err.fault c.in-Err.ensures.fault).bad

pub returns-in-Err-clause-memory : goal.returns-in-Err-clause-memory
returns-in-Err-clause-memory c e =
    let event = (exact_fault parts_of EVENTS events_are_a_table c.args.cluster.now c.args.line.now c.in-Err.fault c.in-Err.ensures.fault).memory e in
    (event.0, event.1, event_range c.args.cluster.now event.0 event.2)

pub returns-in-Ok-event_of-clause-ok : goal.returns-in-Ok-event_of-clause-ok
returns-in-Ok-event_of-clause-ok c =
    let ok = c.in-Ok.ensures.ok in
    let event = c.in-Ok-event_of.event in
    let spelled = spells_said EVENTS c.args.line.now c.in-Ok.found (parts_of event) ok.0 c.in-Ok-event_of.ensures in
    let within = said_in_range c.args.cluster.now c.in-Ok.found (parts_of event) c.in-Ok-event_of.ensures ok.1 in
    (record { short = spelled.short; text = spelled.text; form = spelled.form }, event_range c.args.cluster.now event within)

pub returns-in-Ok-event_of-clause-range : goal.returns-in-Ok-event_of-clause-range
returns-in-Ok-event_of-clause-range c =
    let ok = c.in-Ok.ensures.ok in
    let event = c.in-Ok-event_of.event in
    let parts = some_parts EVENTS c.args.line.now c.in-Ok.found ok.0 in
    (exact_other parts_of EVENTS events_are_a_table c.args.cluster.now c.args.line.now (parts_from c.in-Ok.found parts.0) (Ok event) parts.1 ok.1 (λ name e. cc) (λ at e. cc)).range

pub returns-in-Err-event_of-clause-range : goal.returns-in-Err-event_of-clause-range
returns-in-Err-event_of-clause-range c =
    let ok = c.in-Ok.ensures.ok in
    let parts = some_parts EVENTS c.args.line.now c.in-Ok.found ok.0 in
    (exact_other parts_of EVENTS events_are_a_table c.args.cluster.now c.args.line.now (parts_from c.in-Ok.found parts.0) (Err Memory) parts.1 ok.1 (λ name e. cc) (λ at e. cc)).range

pub returns-in-Err-event_of-clause-bad : goal.returns-in-Err-event_of-clause-bad
returns-in-Err-event_of-clause-bad c =
    let ok = c.in-Ok.ensures.ok in
    let parts = some_parts EVENTS c.args.line.now c.in-Ok.found ok.0 in
    (exact_other parts_of EVENTS events_are_a_table c.args.cluster.now c.args.line.now (parts_from c.in-Ok.found parts.0) (Err Memory) parts.1 ok.1 (λ name e. cc) (λ at e. cc)).bad

pub returns-in-Err-event_of-clause-memory : goal.returns-in-Err-event_of-clause-memory
returns-in-Err-event_of-clause-memory c e =
    let ok = c.in-Ok.ensures.ok in
    let parts = some_parts EVENTS c.args.line.now c.in-Ok.found ok.0 in
    let event = (exact_other parts_of EVENTS events_are_a_table c.args.cluster.now c.args.line.now (parts_from c.in-Ok.found parts.0) (Err Memory) parts.1 ok.1 (λ name e. cc) (λ at e. cc)).memory refl in
    (event.0, event.1, event_range c.args.cluster.now event.0 event.2)
