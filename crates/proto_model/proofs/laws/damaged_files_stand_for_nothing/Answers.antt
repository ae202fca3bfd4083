use Rattle.proto_model.proofs.DamagedFiles.{damaged-none, none-damaged}
use Rattle.proto_model.proofs.laws.damaged_files_stand_for_nothing.Goals as goal

pub returns-clause-nothing : goal.returns-clause-nothing
returns-clause-nothing c = damaged-none

pub returns-clause-place : goal.returns-clause-place
returns-clause-place c = λ files none. let damage = none-damaged files none in (damage.file, (damage.at, damage.damaged))
