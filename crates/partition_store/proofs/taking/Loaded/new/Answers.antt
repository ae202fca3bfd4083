use Rattle.std.proofs.Common.{refl}
use Rattle.partition_store.proofs.Taken.{none-loaded}
use Rattle.partition_store.proofs.taking.Loaded.new.Goals as goal

pub returns-clause-none : goal.returns-clause-none
returns-clause-none c = λ all. none-loaded all _ refl refl refl refl refl refl c.new.ensures.items refl refl
