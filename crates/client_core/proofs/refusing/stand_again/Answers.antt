use Rattle.std.proofs.Common.{◌≡◌, ◌+◌, drop, get_or, true, false, bytes_eq, inl, inr, rules}
use Rattle.std.specs.List.{list_any}
use Rattle.client_core.proofs.Doubles.{stands_again, stands_once}
use Rattle.client_core.proofs.refusing.stand_again.Goals as goal

pub returns-then-contains : goal.returns-then-contains
returns-then-contains c =
    let at : c.index-names-place.result ≡ get_or c.args.names.now c.loop-place.place c.index-names-place.result = search rules in
    let again : list_any (λ x. bytes_eq x c.index-names-place.result) (drop (c.loop-place.place + 1) c.args.names.now) ≡ true = search rules in
    stands_again c.args.names.now c.args.others.now c.loop-place.place c.index-names-place.result (search rules) at c.loop-place.invariant (inl again)

pub returns-then-contains-2 : goal.returns-then-contains-2
returns-then-contains-2 c =
    let at : c.index-names-place.result ≡ get_or c.args.names.now c.loop-place.place c.index-names-place.result = search rules in
    let again : list_any (λ x. bytes_eq x c.index-names-place.result) c.args.others.now ≡ true = search rules in
    stands_again c.args.names.now c.args.others.now c.loop-place.place c.index-names-place.result (search rules) at c.loop-place.invariant (inr again)

pub loop-place-preserved : goal.loop-place-preserved
loop-place-preserved c =
    let at : c.index-names-place.result ≡ get_or c.args.names.now c.loop-place.place c.index-names-place.result = search rules in
    let one : list_any (λ x. bytes_eq x c.index-names-place.result) (drop (c.loop-place.place + 1) c.args.names.now) ≡ false = search rules in
    let two : list_any (λ x. bytes_eq x c.index-names-place.result) c.args.others.now ≡ false = search rules in
    stands_once c.args.names.now c.args.others.now c.loop-place.place c.index-names-place.result (search rules) at c.loop-place.invariant one two
