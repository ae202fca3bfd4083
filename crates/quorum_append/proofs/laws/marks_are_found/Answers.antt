use Rattle.quorum_append.proofs.Counts as counts
use Rattle.quorum_append.proofs.laws.marks_are_found.Goals as goal

pub returns : goal.returns
returns c = counts.marks_are_found
