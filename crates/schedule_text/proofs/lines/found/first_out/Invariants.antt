use Rattle.std.proofs.Common.{drop}
use Rattle.schedule_text.specs.declared.lines.form.Name.{Name}
use Rattle.schedule_text.specs.Lines.{AreInRanges, IsFirstOut}
use Rattle.schedule_text.proofs.lines.found.first_out.Given as goal

-- what holds from the next number on holds of all
abbrev pub invariant-loop-i : goal.invariant-loop-i
invariant-loop-i l = record {
  out : (name : Name) → IsFirstOut l.cluster (drop l.i l.names) (drop l.i l.numbers) name → IsFirstOut l.cluster l.names l.numbers name;
  within : AreInRanges l.cluster (drop l.i l.names) (drop l.i l.numbers) → AreInRanges l.cluster l.names l.numbers;
}
