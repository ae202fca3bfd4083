use Rattle.std.proofs.Common.{◌∷◌, []}
use Rattle.proto_model.proofs.TableLemmas.{AllByRecursion-append}
use Rattle.world_core.specs.Tallies.{IsRowOf}
use Rattle.world_core.proofs.Casting.{empty_row}
use Rattle.world_core.proofs.tally.grow.Goals as goal

pub returns-in_ok-push-clause-rows : goal.returns-in_ok-push-clause-rows
returns-in_ok-push-clause-rows c =
    rw c.in_ok-push.ensures.items (AllByRecursion-append (IsRowOf c.args.nodes) c.args.rows.now.items (_ ∷ []) c.requires.rows (empty_row c.args.nodes _ c.new.ensures.value, tt))
