use Rattle.std.proofs.Common.{rules}
use Rattle.world_core.proofs.Casting.{shown_by}
use Rattle.world_core.proofs.one_log.shown.Goals as goal

pub returns : goal.returns
returns c = shown_by _ _ _ _ _ _ _ _ c.in_ok-items.ensures.items c.split_at-3.ensures.front (search rules) c.split_at-2.ensures.back c.split_at.ensures.front
