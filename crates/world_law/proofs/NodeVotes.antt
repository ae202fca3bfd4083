-- Part 1 at a node that takes a message.
use Rattle.std.proofs.Common.{◌≡◌, ◌≢◌, ℕ, ◌+◌, ◌<◌, ◌≤◌, ◌⊎◌, arith, refl, ◌∙◌, inl, inr, List, [], ◌++◌, length, take}
use Rattle.proto_model.specs.Replicas.{ReplicaState, grown, replica_after}
use Rattle.proto_model.specs.Servers.{length_of}
use Rattle.proto_model.specs.declared.message.ToNode.TheVariants.{Adopt, Append}
use Rattle.world_law.specs.Worlds.{Book, Vote, vote_of}
use Rattle.std.proofs.lemmas.Bool.Decides.{nat_tests}
use Rattle.tx_model.specs.Records.{first_id}
use Rattle.tx_model.specs.declared.record.Record.{Record}
use Rattle.world_law.proofs.Invariant.{NodeFacts}
use Rattle.world_law.proofs.Lists.{IsFront}
use Rattle.world_law.proofs.Votes.{cast_own, cast_other, cast_inv}

-- the node votes, with a log of its session that is no shorter
pub regrown : (books : ℕ → Book) (votes : List Vote) (i : ℕ) (n m : ReplicaState) → NodeFacts books votes i n
    → m.adopted ≡ n.adopted → m.adopted ≤ m.promised → length n.log ≤ length m.log → IsFront m.log (books m.adopted).log
    → NodeFacts books (votes ++ vote_of i m) i m
regrown books votes i n m h same promised longer front = record {
  promised = promised;
  front = front;
  based = (let b = h.based in grind arith);
  own = λ some. cast_own votes i m (length m.log) some (omega arith);
  above = λ s k lt. cast_other votes i m s k i (omega arith) ∙ h.above s k (omega arith);
  most = λ k vote. elim (cast_inv votes i m m.adopted k i vote) [
    | inl v ↦ (let le = h.most k (rw same at v) in omega arith)
    | inr e ↦ e.2
  ];
}

-- the node adopts a later session, with a front of its book
pub adopted_anew : (books : ℕ → Book) (votes : List Vote) (i : ℕ) (n m : ReplicaState) → NodeFacts books votes i n
    → n.adopted < m.adopted → m.adopted ≤ m.promised → length_of (books m.adopted).choice ≤ length m.log → IsFront m.log (books m.adopted).log
    → NodeFacts books (votes ++ vote_of i m) i m
adopted_anew books votes i n m h later promised based front = record {
  promised = promised;
  front = front;
  based = based;
  own = λ some. cast_own votes i m (length m.log) some (omega arith);
  above = λ s k lt. cast_other votes i m s k i (omega arith) ∙ h.above s k (omega arith);
  most = λ k vote. elim (cast_inv votes i m m.adopted k i vote) [
    | inl v ↦ (let none = h.above m.adopted k later in grind arith)
    | inr e ↦ e.2
  ];
}

-- what a node makes of an Append
pub append_cases : (n : ReplicaState) (s : ℕ) (batch : List Record) → (replica_after n (Append s batch) ≡ n)
    ⊎ ((s ≡ n.promised) × (n.adopted ≡ s) × (first_id batch ≤ length n.log + 1)
    × (replica_after n (Append s batch) ≡ record n { log = grown n.log batch }))
append_cases n s batch = grind (arith, nat_tests)

pub adopt_cases : (n : ReplicaState) (s len : ℕ) → (replica_after n (Adopt s len) ≡ n)
    ⊎ ((s ≡ n.promised) × (n.adopted ≢ s) × (len ≡ n.low + length n.staged)
    × (replica_after n (Adopt s len) ≡ record n { adopted = s; log = take n.low n.log ++ n.staged; staged = [] }))
adopt_cases n s len = grind (arith, nat_tests)

-- the node votes once more
pub revoted : (books : ℕ → Book) (votes : List Vote) (i : ℕ) (n : ReplicaState) → NodeFacts books votes i n
    → NodeFacts books (votes ++ vote_of i n) i n
revoted books votes i n h = regrown books votes i n n h refl h.promised (omega arith) h.front
