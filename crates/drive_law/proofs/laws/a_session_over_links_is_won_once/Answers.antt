use Rattle.drive_law.proofs.Winning.{won_once_over_links}
use Rattle.drive_law.proofs.laws.a_session_over_links_is_won_once.Goals as goal

pub returns : goal.returns
returns c = won_once_over_links
