use Rattle.schedule_text.proofs.BuildLemmas.{words_of_found, script_append_said}
use Rattle.schedule_text.proofs.lines.build.script_append.Goals as goal

pub lists_of-requires : goal.lists_of-requires
lists_of-requires c = words_of_found _ c.requires.found.0 c.args.found.now c.args.words c.requires.lists c.requires.found.1

pub returns : goal.returns
returns c =
    let ok = c.in_ok-writes in
    script_append_said c.requires.found.0 c.args.found.now c.args.words ok.writes ok.reads ok.ops c.requires.lists c.requires.found.1 ok.ensures
