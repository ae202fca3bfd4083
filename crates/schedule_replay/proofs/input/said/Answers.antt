use Rattle.std.proofs.Common.{◌≡◌, refl, Err}
use Rattle.schedule_text.specs.declared.lines.fault.LineFault.TheVariants.{Bad, Range}
use Rattle.schedule_replay.proofs.input.said.Goals as goal

pub returns-in-Err-Bad : goal.returns-in-Err-Bad
returns-in-Err-Bad c =
    let is : c.read_event.result ≡ Err (Bad c.in-Err-Bad.at) = cc in
    (refl, (c.read_event.ensures.bad c.in-Err-Bad.at).0 is)

pub returns-in-Err-Range : goal.returns-in-Err-Range
returns-in-Err-Range c =
    let is : c.read_event.result ≡ Err (Range c.in-Err-Range.name) = cc in
    (refl, (c.read_event.ensures.range c.in-Err-Range.name).0 is)
