use Rattle.std.proofs.Common.{◌≡◌, ◌∙◌, ◌+◌, ◌++◌, ◌∷◌, [], ap, sym, subst, refl, length}
use Rattle.tx_model.specs.declared.record.Record.{Record}
use Rattle.tx_model.specs.Records.{IsRecord}
use Rattle.tx_model.specs.Probes.{Shape}
use Rattle.proto_model.specs.declared.message.Phase.TheVariants.{Running}
use Rattle.proto_model.specs.Servers.{Waiting, chosen_len}
use Rattle.proto_model.specs.Serving.{assigned, assigned_record}
use Rattle.proto_model.specs.Validity.{IsWord}
use Rattle.session_recovery.specs.Known.{server_of}
use Rattle.quorum_append.specs.Kept.{length_kept}
use Rattle.partition_server.specs.Held.{Held, config_of, state_of}
use Rattle.partition_server.specs.Layout.{held_by}
use Rattle.partition_server.proofs.Servings.{assigned_serves}
use Rattle.partition_server.proofs.Helds.{changed_held, config_same}
use Rattle.partition_server.proofs.server.Server.assign.Goals as goal

pub invariant_of-self-2 : goal.invariant_of-self-2
invariant_of-self-2 c =
    let h : Held = held_by c.self.inside in
    let tx = c.args.tx in
    let h' : Held = record h {
      rows = c.note.new.self.rows;
      slots = c.note.new.self.slots;
      log = c.push_reserved.new.log.log;
      waiting = c.add.new.self;
    } in
    let running : h.known.phase ≡ Running = ap (λ (x : Held). x.known.phase) c.self.view_is ∙ c.requires.running in
    let id : c.len-id.result + 1 ≡ length h.log + 1 = ap (λ n. n + 1) c.len-id.ensures.value in
    let r : c.assigned_record-entry.result ≡ assigned_record (state_of h) tx =
    c.assigned_record-entry.ensures.value ∙ (λ j. record { id = id j; session = c.session.ensures j; tx = tx }) in
    let log : c.push_reserved.new.log.log ≡ h.log ++ assigned_record (state_of h) tx ∷ [] =
    c.push_reserved.ensures ∙ (λ j. c.reserve.ensures.log j ++ r j ∷ []) in
    let w : Waiting = record { id = length h.log + 1; client = tx.client; request = tx.request } in
    let waiting : c.add.new.self ≡ h.waiting ++ w ∷ [] =
    c.in_ok-add.ensures.ok ∙ (λ j. h.waiting ++ record { id = id j; client = c.client.ensures j; request = c.request.ensures j } ∷ []) in
    let state : state_of h' ≡ assigned (state_of h) tx = (λ j. server_of h.known (record { log = log j; acked = length_kept h.kept; waiting = waiting j })) in
    changed_held h h' c.self.inside.locks c.note.new.self (assigned (state_of h) tx) c.self.invariant refl
    (config_same h h' refl (ap (λ (s : Shape). s.rows) c.note.ensures.raised.shape) (ap (λ (s : Shape). s.slots) c.note.ensures.raised.shape)) state (λ i. refl)
    (assigned_serves (config_of h) (state_of h) tx c.self.inside.locks c.note.new.self c.self.invariant.is running
    (subst (λ (x : Record). IsRecord x) r c.assigned_record-entry.ensures.valid) (subst IsWord c.request.ensures c.request.type_inv)
    (c.note.ensures.stands (chosen_len (config_of h) (state_of h)) h.log (assigned_record (state_of h) tx) (sym id) refl))
