use Rattle.world_law.proofs.SafeRuns as runs
use Rattle.world_law.proofs.laws.books_clean.Goals as goal

pub returns : goal.returns
returns c = runs.books_clean
