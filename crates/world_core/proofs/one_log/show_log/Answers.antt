use Rattle.std.proofs.Common.{◌∙◌, ◌≤◌, length, sym, subst}
use Rattle.world_core.proofs.Casting.{is_some, entries_at, shows_rows}
use Rattle.world_core.proofs.one_log.show_log.Goals as goal

pub shown-requires-clause-within : goal.shown-requires-clause-within
shown-requires-clause-within c =
    let at = entries_at c.args.rows.now.items c.longest-session.result.0 c.index-row.result.now (is_some c.longest-session.result.0 c.if-session-eq0.false) c.longest-session.ensures.within c.index-row.ensures in
    subst (λ l. c.longest-session.result.1 ≤ length l) (at ∙ sym c.deref.ensures.value) c.longest-session.ensures.fits

pub returns : goal.returns
returns c = λ bounded.
    let at = entries_at c.args.rows.now.items c.longest-session.result.0 c.index-row.result.now (is_some c.longest-session.result.0 c.if-session-eq0.false) c.longest-session.ensures.within c.index-row.ensures in
    shows_rows c.args.nodes c.args.rows.now.items c.args.from c.longest-session.result.0 c.longest-session.result.1 _ c.deref.result.now (c.longest-session.ensures.found bounded) (c.deref.ensures.value ∙ sym at) (c.new-2.ensures ∙ c.in_ok-items.ensures)
