use Rattle.tx_model.proofs.Admission.{admitted_names_no_held}
use Rattle.tx_model.proofs.Names.{is_among-from_Contains}
use Rattle.tx_model.proofs.laws.admitted_name_no_held_lock.Goals as goal

pub returns : goal.returns
returns c = λ shape start log tx none place earlier lock at above held named.
    cc (admitted_names_no_held shape start log tx none place earlier lock at above (is_among-from_Contains lock _ held), is_among-from_Contains lock _ named)
