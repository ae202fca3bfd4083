use Rattle.schedule_text.proofs.LawLemmas.{places_capped}
use Rattle.schedule_text.proofs.lines.laws.places_are_capped.Goals as goal

pub returns : goal.returns
returns c = places_capped
