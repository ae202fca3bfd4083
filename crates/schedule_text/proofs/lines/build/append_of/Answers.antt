use Rattle.schedule_text.proofs.BuildLemmas.{words_of_found, append_said}
use Rattle.schedule_text.proofs.lines.build.append_of.Goals as goal

pub lists_of-requires : goal.lists_of-requires
lists_of-requires c = words_of_found _ c.requires.found.0 c.args.found.now c.args.words c.requires.lists c.requires.found.1

pub returns : goal.returns
returns c =
    let ok = c.in_ok-writes in
    append_said c.requires.found.0 c.args.found.now c.args.words c.party-client.result c.party-server.result ok.writes ok.reads ok.ops c.requires.lists c.requires.found.1 c.party-client.ensures c.party-server.ensures ok.ensures
