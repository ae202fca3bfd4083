use Rattle.disk_model.proofs.ByChance.{as_put, no_chance}
use Rattle.disk_model.proofs.laws.images_are_as_put_but_by_chance.Goals as goal

pub returns-clause-as_put : goal.returns-clause-as_put
returns-clause-as_put c = as_put

pub returns-clause-no_chance : goal.returns-clause-no_chance
returns-clause-no_chance c = λ len file image framing put chance. no_chance len framing file image put chance
