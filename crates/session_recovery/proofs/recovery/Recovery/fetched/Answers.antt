use Rattle.std.proofs.Common.{refl, ◌≡◌, ◌∙◌, ◌-◌, ap, sym, true, false, List, Result, Ok, Err, OnErr, ◌++◌, take, length, arith, rules}
use Rattle.std.proofs.lemmas.Grind.{common_steps}
use Rattle.tx_model.specs.declared.record.Record.{Record}
use Rattle.tx_model.specs.Records.{first_id}
use Rattle.proto_model.specs.Servers.{after_records, chosen_len, takes_records}
use Rattle.proto_model.specs.declared.message.FromNode.TheVariants.{Records}
use Rattle.session_recovery.specs.Recovering.{Recovering, config_of, state_of}
use Rattle.session_recovery.specs.contracts.recovery.Recovery.{the_view}
use Rattle.session_recovery.proofs.Recoveries.{heard_step, carried, fetched_state, records_longer, records_missed, records_recover, rest_of}
use Rattle.session_recovery.proofs.recovery.Recovery.fetched.Goals as goal

if_err : {A E P : Type 0} (r : Result A E) → P → OnErr r P
if_err (Ok x) h = tt
if_err (Err e) h = h

pub invariant_of-self-2 : goal.invariant_of-self-2
invariant_of-self-2 c =
    let h : Recovering = the_view c.self.inside in
    let batch : List Record = c.args.b in
    let nodes = c.fetched.ensures.nodes in
    let few = c.self.invariant.few in
    let last : c.len-last.result ≡ length h.log = search rules in
    let on : c.takes_records.result ≡ true = grind (arith, common_steps) in
    let takes : takes_records (config_of h) (state_of h) c.args.from (first_id batch) ≡ true =
    (λ j. takes_records (config_of h) (state_of h) c.args.from (sym c.first.ensures.value j)) ∙ (sym (c.takes_records.ensures (rest_of h) (sym last)) ∙ on) in
    let log : c.append.new.self.items ≡ h.log ++ take (chosen_len (config_of h) (state_of h) - length h.log) batch = grind (arith, common_steps) in
    let len : c.len.result ≡ length c.append.new.self.items = search rules in
    let made = c.fetched.ensures.value (record (rest_of h) { log = c.append.new.self.items }) in
    record {
      few = omega (arith, nodes, few);
      acked = c.self.invariant.acked;
      is = carried h.known c.fetched.new.self _ _ nodes (fetched_state h c.fetched.new.self c.append.new.self.items c.len.result c.args.from batch takes log len made) (records_recover (config_of h) (state_of h) c.args.from batch c.self.invariant.is c.first.ensures.valid);
    }

pub returns-clause-value : goal.returns-clause-value
returns-clause-value c =
    let h : Recovering = the_view c.self.inside in
    let batch : List Record = c.args.b in
    let last : c.len-last.result ≡ length h.log = search rules in
    let on : c.takes_records.result ≡ true = grind (arith, common_steps) in
    let takes : takes_records (config_of h) (state_of h) c.args.from (first_id batch) ≡ true =
    (λ j. takes_records (config_of h) (state_of h) c.args.from (sym c.first.ensures.value j)) ∙ (sym (c.takes_records.ensures (rest_of h) (sym last)) ∙ on) in
    let log : c.append.new.self.items ≡ h.log ++ take (chosen_len (config_of h) (state_of h) - length h.log) batch = grind (arith, common_steps) in
    let len : c.len.result ≡ length c.append.new.self.items = search rules in
    let made = c.fetched.ensures.value (record (rest_of h) { log = c.append.new.self.items }) in
    fetched_state h c.fetched.new.self c.append.new.self.items c.len.result c.args.from batch takes log len made
    ∙ (ap (λ (x : Recovering). after_records (config_of x) (state_of x) c.args.from batch) c.self.view_is
    ∙ heard_step (the_view c.self.inside) c.args.self.now c.args.from (Records c.args.self.now.known.session batch) c.self.view_is c.self.invariant.is refl)

pub returns-then-not-takes_records-clause-value : goal.returns-then-not-takes_records-clause-value
returns-then-not-takes_records-clause-value c =
    let h : Recovering = the_view c.self.inside in
    let batch : List Record = c.args.b in
    let last : c.len-last.result ≡ length h.log = search rules in
    let off : c.takes_records.result ≡ false = grind (arith, common_steps) in
    let misses : takes_records (config_of h) (state_of h) c.args.from (first_id batch) ≡ false =
    (λ j. takes_records (config_of h) (state_of h) c.args.from (sym c.first.ensures.value j)) ∙ (sym (c.takes_records.ensures (rest_of h) (sym last)) ∙ off) in
    ap (λ (x : Recovering). state_of x) (sym c.self.view_is) ∙ (records_missed h c.args.from batch misses
    ∙ (ap (λ (x : Recovering). after_records (config_of x) (state_of x) c.args.from batch) c.self.view_is
    ∙ heard_step (the_view c.self.inside) c.args.self.now c.args.from (Records c.args.self.now.known.session batch) c.self.view_is c.self.invariant.is refl))

pub returns-in_err-append-clause-memory : goal.returns-in_err-append-clause-memory
returns-in_err-append-clause-memory c =
    let h : Recovering = the_view c.self.inside in
    let batch : List Record = c.args.b in
    let last : c.len-last.result ≡ length h.log = search rules in
    let on : c.takes_records.result ≡ true = grind (arith, common_steps) in
    let takes : takes_records (config_of h) (state_of h) c.args.from (first_id batch) ≡ true =
    (λ j. takes_records (config_of h) (state_of h) c.args.from (sym c.first.ensures.value j)) ∙ (sym (c.takes_records.ensures (rest_of h) (sym last)) ∙ on) in
    if_err c.from_residual.result (records_longer h c.args.self.now c.args.from batch c.self.view_is c.self.invariant.is c.first.ensures.valid takes)
