use Rattle.std.proofs.Common.{◌≡◌, ◌++◌, ◌∙◌, codes, decimal, ap, append_assoc}
use Rattle.std.proofs.lemmas.Result.{on_ok_weaker}
use Rattle.schedule_text.proofs.PrintLemmas.{five_texts}
use Rattle.schedule_text.proofs.print.add_server.Goals as goal

pub returns : goal.returns
returns c =
    let first : c.add_named.new.line.items ≡ c.args.line.now.items ++ (codes "s" ++ decimal c.args.server) = c.in_ok-add_named.ensures ∙ ap (λ n. c.args.line.now.items ++ (codes "s" ++ decimal n)) c.from.ensures in
    on_ok_weaker c.add_named-4.result (λ is. is ∙ simp append_assoc)
    (five_texts c.add_named-4.result c.args.line.now.items c.add_named.new.line.items c.add_phase.new.line.items c.add_named-2.new.line.items c.add_named-3.new.line.items c.add_named-4.new.line.items (codes "s" ++ decimal c.args.server) _ (codes " session=" ++ decimal c.args.session) (codes " last=" ++ decimal c.args.last) (codes " committed=" ++ decimal c.args.committed) first c.in_ok-add_phase.ensures c.in_ok-add_named-2.ensures c.in_ok-add_named-3.ensures c.add_named-4.ensures)
