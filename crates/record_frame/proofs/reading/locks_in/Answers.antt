use Rattle.std.proofs.Common.{sym, ◌∙◌, ap, ◌≡◌, ◌++◌, [], ◌∷◌, List, ℕ, append_assoc}
use Rattle.std.proofs.lemmas.List.{append-nil}
use Rattle.tx_model.specs.Reading.{name_at}
use Rattle.record_frame.proofs.Names.{is_good, names_of-next, names_of-none, past_names-next, past_names-none, is_name_from}
use Rattle.record_frame.proofs.reading.locks_in.Goals as goal

pub split_name-requires : goal.split_name-requires
split_name-requires c = (is_good c.loop.invariant.form.0 c.args.count c.loop.counter c.loop.rest.now c.loop-test.true c.loop.invariant.form.1).name

pub of_name-requires : goal.of_name-requires
of_name-requires c = rw c.split_name.ensures.name (is_name_from c.loop.rest.now (is_good c.loop.invariant.form.0 c.args.count c.loop.counter c.loop.rest.now c.loop-test.true c.loop.invariant.form.1).name)

pub loop-preserved : goal.loop-preserved
loop-preserved c =
    let good = is_good c.loop.invariant.form.0 c.args.count c.loop.counter c.loop.rest.now c.loop-test.true c.loop.invariant.form.1 in
    let next = names_of-next c.args.count c.loop.counter c.loop.rest.now c.loop-test.true in
    let past = past_names-next c.args.count c.loop.counter c.loop.rest.now c.loop-test.true in
    let more : c.push.new.self.items ≡ c.loop.locks.items ++ name_at c.loop.rest.now ∷ [] = cc (c.in_ok-push.ensures.items, c.in_ok-of_name.ensures, c.split_name.ensures.name) in
    record {
      form = (name_at c.loop.rest.now, cc (good.rest, c.split_name.ensures.after));
      past = cc (past, c.loop.invariant.past, c.split_name.ensures.after);
      rest = rw (more, c.split_name.ensures.after) (append_assoc c.loop.locks.items _ _ ∙ ap (λ (l : List (List ℕ)). c.loop.locks.items ++ l) (sym next) ∙ c.loop.invariant.rest);
    }

pub returns : goal.returns
returns c = (sym (append-nil c.loop.locks.items) ∙ ap (λ (l : List (List ℕ)). c.loop.locks.items ++ l) (sym (names_of-none c.args.count c.loop.counter c.loop.rest.now c.loop-test.false)) ∙ c.loop.invariant.rest, sym (past_names-none c.args.count c.loop.counter c.loop.rest.now c.loop-test.false) ∙ c.loop.invariant.past)
