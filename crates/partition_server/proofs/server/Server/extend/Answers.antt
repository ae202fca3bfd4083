use Rattle.std.proofs.Common.{◌≡◌, ◌∙◌, ◌<◌, ◌-◌, ap, sym, subst, refl, true, false, ◌++◌, take, length, arith}
use Rattle.std.proofs.lemmas.Grind.{common_steps}
use Rattle.tx_model.specs.Records.{first_id}
use Rattle.proto_model.specs.Servers.{after_records, chosen_len, takes_records}
use Rattle.partition_server.specs.Held.{Held, config_of, rest_of, state_of}
use Rattle.partition_server.specs.Layout.{held_by}
use Rattle.partition_server.proofs.Results.{if_err}
use Rattle.session_recovery.proofs.SoundSteps.{records_taken}
use Rattle.partition_server.proofs.Servings.{records_serve}
use Rattle.partition_server.proofs.Helds.{changed_held, config_same, fetched_state, records_adopters, records_longer, records_missed}
use Rattle.partition_server.proofs.server.Server.extend.Goals as goal

pub returns-then-not-takes_records-clause-ok : goal.returns-then-not-takes_records-clause-ok
returns-then-not-takes_records-clause-ok c =
    let h : Held = held_by c.self.inside in
    let off : c.takes_records.result ≡ false = grind (arith, common_steps) in
    let misses : takes_records (config_of h) (state_of h) c.args.node (first_id c.args.batch) ≡ false =
    (λ j. takes_records (config_of h) (state_of h) c.args.node (sym c.first.ensures.value j)) ∙ (sym (c.takes_records.ensures (rest_of h) (sym c.len.ensures.value)) ∙ off) in
    subst (λ (x : Held). state_of x ≡ after_records (config_of x) (state_of x) c.args.node c.args.batch) c.self.view_is (records_missed (config_of h) (state_of h) c.args.node c.args.batch misses)

pub extend-requires : goal.extend-requires
extend-requires c =
    let h : Held = held_by c.self.inside in
    let on : c.takes_records.result ≡ true = grind (arith, common_steps) in
    let takes : takes_records (config_of h) (state_of h) c.args.node (first_id c.args.batch) ≡ true =
    (λ j. takes_records (config_of h) (state_of h) c.args.node (sym c.first.ensures.value j)) ∙ (sym (c.takes_records.ensures (rest_of h) (sym c.len.ensures.value)) ∙ on) in
    record { next = (records_taken (config_of h) (state_of h) c.args.node (first_id c.args.batch) takes).follow }

pub returns-in_err-extend-clause-memory : goal.returns-in_err-extend-clause-memory
returns-in_err-extend-clause-memory c =
    let h : Held = held_by c.self.inside in
    let on : c.takes_records.result ≡ true = grind (arith, common_steps) in
    let takes : takes_records (config_of h) (state_of h) c.args.node (first_id c.args.batch) ≡ true =
    (λ j. takes_records (config_of h) (state_of h) c.args.node (sym c.first.ensures.value j)) ∙ (sym (c.takes_records.ensures (rest_of h) (sym c.len.ensures.value)) ∙ on) in
    if_err c.from_residual.result (subst (λ (x : Held). length x.log < length (after_records (config_of x) (state_of x) c.args.node c.args.batch).log) c.self.view_is
    (records_longer (config_of h) (state_of h) c.args.node c.args.batch c.self.inside.locks c.self.invariant.is c.first.ensures.valid takes))

pub invariant_of-self-2 : goal.invariant_of-self-2
invariant_of-self-2 c =
    let h : Held = held_by c.self.inside in
    let on : c.takes_records.result ≡ true = grind (arith, common_steps) in
    let takes : takes_records (config_of h) (state_of h) c.args.node (first_id c.args.batch) ≡ true =
    (λ j. takes_records (config_of h) (state_of h) c.args.node (sym c.first.ensures.value j)) ∙ (sym (c.takes_records.ensures (rest_of h) (sym c.len.ensures.value)) ∙ on) in
    let h' : Held = record h { known = c.fetched.new.self; log = c.extend.new.self.log } in
    let locks = c.self.inside.locks in
    let log : c.extend.new.self.log ≡ h.log ++ take (chosen_len (config_of h) (state_of h) - length h.log) c.args.batch =
    c.in_ok-extend.ensures.ok ∙ ap (λ n. h.log ++ take (n - length h.log) c.args.batch) c.chosen_len.ensures in
    let state = fetched_state h c.fetched.new.self c.extend.new.self.log c.len-2.result c.args.node c.args.batch takes log c.len-2.ensures.value (c.fetched.ensures.value (record (rest_of h) { log = c.extend.new.self.log })) in
    changed_held h h' locks locks (after_records (config_of h) (state_of h) c.args.node c.args.batch) c.self.invariant refl (config_same h h' c.fetched.ensures.nodes refl refl)
    state (records_adopters (config_of h) (state_of h) c.args.node c.args.batch)
    (records_serve (config_of h) (state_of h) c.args.node c.args.batch locks c.self.invariant.is c.first.ensures.valid)

pub returns-clause-ok : goal.returns-clause-ok
returns-clause-ok c =
    let h : Held = held_by c.self.inside in
    let on : c.takes_records.result ≡ true = grind (arith, common_steps) in
    let takes : takes_records (config_of h) (state_of h) c.args.node (first_id c.args.batch) ≡ true =
    (λ j. takes_records (config_of h) (state_of h) c.args.node (sym c.first.ensures.value j)) ∙ (sym (c.takes_records.ensures (rest_of h) (sym c.len.ensures.value)) ∙ on) in
    let log : c.extend.new.self.log ≡ h.log ++ take (chosen_len (config_of h) (state_of h) - length h.log) c.args.batch =
    c.in_ok-extend.ensures.ok ∙ ap (λ n. h.log ++ take (n - length h.log) c.args.batch) c.chosen_len.ensures in
    let state = fetched_state h c.fetched.new.self c.extend.new.self.log c.len-2.result c.args.node c.args.batch takes log c.len-2.ensures.value (c.fetched.ensures.value (record (rest_of h) { log = c.extend.new.self.log })) in
    state ∙ ap (λ (x : Held). after_records (config_of x) (state_of x) c.args.node c.args.batch) c.self.view_is
