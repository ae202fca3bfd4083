use Rattle.client_core.proofs.Told.{refusal_says, built_if, refused_if, none_if, some_if}
use Rattle.client_core.proofs.laws.refusals_are_in_order.Goals as goal

pub returns-clause-refused : goal.returns-clause-refused
returns-clause-refused c cl d fault same = (refused_if d _ fault (refusal_says cl d same), some_if d _ fault (refusal_says cl d same))

pub returns-clause-built : goal.returns-clause-built
returns-clause-built c cl d same = (built_if d _ (refusal_says cl d same), none_if d _ (refusal_says cl d same))
