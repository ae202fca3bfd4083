use Rattle.partition_server.proofs.Exact.{exact_marks}
use Rattle.partition_server.proofs.laws.commit_marks_are_exact.Goals as goal

pub returns : goal.returns
returns c = exact_marks
