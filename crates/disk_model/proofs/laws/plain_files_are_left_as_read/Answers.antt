use Rattle.disk_model.proofs.Images.{plain_image}
use Rattle.disk_model.proofs.Moments.{plain_as_put}
use Rattle.disk_model.proofs.laws.plain_files_are_left_as_read.Goals as goal

pub returns-clause-image : goal.returns-clause-image
returns-clause-image c = plain_image

pub returns-clause-as_put : goal.returns-clause-as_put
returns-clause-as_put c = plain_as_put
