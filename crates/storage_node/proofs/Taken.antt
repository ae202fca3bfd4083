-- The effects of messages that are taken.
use Rattle.std.proofs.Common.{◌≡◌, ◌≢◌, ℕ, ◌+◌, ◌<◌, ◌≤◌, true, List, length, arith}
use Rattle.std.proofs.lemmas.Bool.Decides.{nat_tests}
use Rattle.tx_model.specs.declared.record.Record.{Record}
use Rattle.tx_model.specs.Records.{first_id}
use Rattle.proto_model.specs.Replicas.{ReplicaState, next_staged, replica_after}
use Rattle.proto_model.specs.Parts.{promised_to, adopted_to, lowered_to, needs_file}
use Rattle.proto_model.specs.declared.message.ToNode.TheVariants.{Open, Stage, Adopt, Low}

pub opens : (r : ReplicaState) (s : ℕ) → r.promised < s → replica_after r (Open s) ≡ promised_to r s
opens r s above = grind (arith, nat_tests)

pub adopts : (r : ReplicaState) (s len : ℕ) → s ≡ r.promised → r.adopted ≢ s → len + 1 ≡ next_staged r → replica_after r (Adopt s len) ≡ adopted_to r s
adopts r s len promised other next = grind (arith, nat_tests)

pub lowers : (r : ReplicaState) (s k : ℕ) → s ≡ r.promised → r.adopted ≡ s → k ≤ length r.log → r.low < k → replica_after r (Low s k) ≡ lowered_to r k
lowers r s k promised same within above = grind (arith, nat_tests)

-- ---- whether a file is needed

pub adopt-needs : (r : ReplicaState) (s len : ℕ) → s ≡ r.promised → r.adopted ≢ s → len + 1 ≡ next_staged r → needs_file r (Adopt s len) ≡ true
adopt-needs r s len promised other next = grind (arith, nat_tests)

pub stage-needs : (r : ReplicaState) (s : ℕ) (batch : List Record) → s ≡ r.promised → r.adopted ≢ s → first_id batch ≡ next_staged r → length r.staged ≡ 0 → needs_file r (Stage s batch) ≡ true
stage-needs r s batch promised other next none = grind (arith, nat_tests)

pub stage-none : (r : ReplicaState) (s : ℕ) (batch : List Record) → needs_file r (Stage s batch) ≡ true → length r.staged ≡ 0
stage-none r s batch needs = grind (arith, nat_tests)
