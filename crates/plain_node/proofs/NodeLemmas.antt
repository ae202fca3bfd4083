-- What keeps a replica one, and why the records that a node sends are a batch.
use Rattle.std.proofs.Common.{◌≡◌, ℕ, ◌+◌, ◌-◌, ◌<◌, ◌≤◌, max, ◌↔◌, List, [], ◌++◌, length, take, drop, Result, Ok, Err, lit<, arith, length-append, length-drop, refl, ap, sym, subst}
use Rattle.std.proofs.lemmas.List.{length-take-le}
use Rattle.std.proofs.Math.Nat.{max-le}
use Rattle.tx_model.specs.declared.record.Record.{Record}
use Rattle.tx_model.specs.declared.batch.BatchFault.{BatchFault}
use Rattle.tx_model.specs.declared.batch.BatchFault.TheVariants.{Empty, TooMany, Gap}
use Rattle.tx_model.specs.Records.{RiseByOne, first_id, IsBatch, IsFirstGap}
use Rattle.tx_model.proofs.Batches.{StepByOne, RiseByOne-append, RiseByOne-take, RiseByOne-drop, IsBatch-from_RiseByOne, IsBatch-id, none_gap}
use Rattle.tx_model.specs.Spelling.{IsCount}
use Rattle.proto_model.specs.declared.message.ToNode.{ToNode}
use Rattle.proto_model.specs.declared.message.FromNode.{FromNode}
use Rattle.proto_model.specs.Validity.{IsValidToNode, IsValidFromNode}
use Rattle.proto_model.specs.Sanity.{IsValidReplica}
use Rattle.proto_model.proofs.SaneSteps.{replies}
use Rattle.proto_model.specs.Replicas.{ReplicaState, fresh_replica, next_staged, grown, replica_reply}
use Rattle.std.specs.Prelude.{IfOk}
use Rattle.plain_node.specs.Nodes.{IsReplica}

-- ---- the effects of messages

pub IsReplica-fresh : IsReplica fresh_replica
unfolding RiseByOne
IsReplica-fresh = record { promised = lit< tt; adopted = omega arith; within = omega arith; log = tt; staged = tt; settled = λ same. refl }

-- nothing is staged
pub IsReplica-unstaged : (r : ReplicaState) → IsCount r.promised → r.adopted ≤ r.promised → r.low ≤ length r.log → RiseByOne 1 r.log → r.staged ≡ [] → IsReplica r
unfolding RiseByOne
IsReplica-unstaged r promised adopted within log none = record { promised = promised; adopted = adopted; within = within; log = log; staged = rw none tt; settled = λ same. none }

pub IsReplica-staged : (r : ReplicaState) (batch : List Record) → IsReplica r → (r.adopted ≡ r.promised → ⊥) → IsBatch batch → first_id batch ≡ next_staged r → IsReplica (record r { staged = r.staged ++ batch })
IsReplica-staged r batch is unsettled batch_is next =
    let place : first_id batch ≡ r.low + 1 + length r.staged = omega arith in
    let rise : RiseByOne (r.low + 1 + length r.staged) batch = rw place at batch_is.rise in
    record {
      promised = is.promised;
      adopted = is.adopted;
      within = is.within;
      log = is.log;
      staged = RiseByOne-append (r.low + 1) r.staged batch is.staged rise;
      settled = λ same. absurd (unsettled same);
    }

pub IsReplica-adopted : (r : ReplicaState) (s : ℕ) → IsReplica r → s ≤ r.promised → IsReplica (record r { adopted = s; log = take r.low r.log ++ r.staged; staged = [] })
IsReplica-adopted r s is promised =
    let within = is.within in
    let kept : length (take r.low r.log) ≡ r.low = length-take-le r.low r.log within in
    let place : r.low + 1 ≡ 1 + length (take r.low r.log) = omega arith in
    let rise : RiseByOne (1 + length (take r.low r.log)) r.staged = rw place at is.staged in
    IsReplica-unstaged (record r { adopted = s; log = take r.low r.log ++ r.staged; staged = [] }) is.promised promised (omega (arith, length-append (take r.low r.log) r.staged)) (RiseByOne-append 1 (take r.low r.log) r.staged (RiseByOne-take 1 r.log r.low is.log) rise) refl

pub IsReplica-grown : (r : ReplicaState) (batch : List Record) → IsReplica r → IsBatch batch → first_id batch ≤ length r.log + 1 → length r.log + 1 - first_id batch ≤ length batch → IsReplica (record r { log = grown r.log batch })
IsReplica-grown r batch is batch_is first known =
    let within = is.within in
    let skip : ℕ = length r.log + 1 - first_id batch in
    let place : first_id batch + skip ≡ 1 + length r.log = omega arith in
    let rise : RiseByOne (1 + length r.log) (drop skip batch) = rw place at (RiseByOne-drop (first_id batch) batch skip known batch_is.rise) in
    record {
      promised = is.promised;
      adopted = is.adopted;
      within = omega (arith, length-append r.log (drop skip batch));
      log = RiseByOne-append 1 r.log (drop skip batch) is.log rise;
      staged = is.staged;
      settled = is.settled;
    }

pub IsReplica-lowered : (r : ReplicaState) (k : ℕ) → IsReplica r → r.adopted ≡ r.promised → k ≤ length r.log → IsReplica (record r { low = max r.low k })
IsReplica-lowered r k is same le =
    IsReplica-unstaged (record r { low = max r.low k }) is.promised is.adopted (max-le is.within le) is.log (is.settled same)

-- ---- what it answers is valid

replica_valid : (r : ReplicaState) → IsReplica r → IsValidReplica r
replica_valid r is = record {
  promised = is.promised;
  adopted = is.adopted;
  low = is.within;
  log = is.log;
  staged = is.staged;
  settled = λ same. ap length (is.settled same);
}

pub reply_valid : {E : Type 0} (old r : ReplicaState) (m : ToNode) (result : Result FromNode E) → old ≡ r → IsReplica old → IfOk result (λ reply. reply ≡ replica_reply r m) → IsValidToNode m → IfOk result IsValidFromNode
reply_valid old r m (Ok reply) same is answers valid = subst IsValidFromNode (sym answers) (replies r m (replica_valid r (subst IsReplica same is)) valid)
reply_valid old r m (Err e) same is answers valid = tt

-- ---- what a fetch sends

-- some records of a log are a batch
pub IsBatch-part : (log : List Record) (at n : ℕ) → RiseByOne 1 log → at + n ≤ length log → 1 ≤ n → n ≤ 8 → IsBatch (take n (drop at log))
IsBatch-part log at n rise within some few =
    let len : length (take n (drop at log)) ≡ n = length-take-le n (drop at log) (omega (arith, length-drop at log)) in
    IsBatch-from_RiseByOne (1 + at) (take n (drop at log)) (omega arith) (omega arith) (RiseByOne-take (1 + at) (drop at log) n (RiseByOne-drop 1 log at (omega arith) rise))

-- ids of a batch step by one
steps_of : (records : List Record) → IsBatch records → StepByOne records (length records)
steps_of records is k other some lt =
    omega (arith, IsBatch-id records k other is lt, IsBatch-id records (k - 1) other is (omega arith))

-- a batch is refused for no fault
pub IsBatch-not_refused : (records : List Record) (result : Result (List Record) BatchFault) (fault : BatchFault) → IsBatch records → ((result ≡ Err Empty) ↔ (records ≡ [])) → ((result ≡ Err TooMany) ↔ (8 < length records)) → ((at : ℕ) → (result ≡ Err (Gap at)) ↔ ((length records ≤ 8) × IsFirstGap records at)) → result ≡ Err fault → ⊥
IsBatch-not_refused records result Empty is empty many gap refused = let some = is.some in omega (arith, ap length (empty.0 refused))
IsBatch-not_refused records result TooMany is empty many gap refused = let few = is.few in omega (arith, many.0 refused)
IsBatch-not_refused records result (Gap at) is empty many gap refused = none_gap records (steps_of records is) at ((gap at).0 refused).1
