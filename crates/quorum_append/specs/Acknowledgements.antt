-- What nodes acknowledged, and what of it is committed. Nodes are numbered from 1.
use Rattle.std.specs.Prelude.{◌≡◌, ℕ, ◌≤◌, ◌<◌, nat_le, ◌==◌, ◌&&◌, ◌||◌, Bool, false, List, [], ◌∷◌}
use Rattle.std.specs.List.{AllByRecursion}
use Rattle.proto_model.specs.Quorums.{count, quorum, reached}

-- a node acknowledged a log of this length
pub record Ack : Type 0 where
  pub node : ℕ
  pub len : ℕ

-- whether a node acknowledged this length or more
abbrev pub has_acked : List Ack → ℕ → ℕ → Bool
has_acked [] k node = false
has_acked (ack ∷ acks) k node = (ack.node == node && nat_le k ack.len) || has_acked acks k node

-- the greatest length that a quorum of so many nodes acknowledged, or 0
pub record IsCommitMark (nodes : ℕ) (acks : List Ack) (mark : ℕ) : Type 0 where
  pub held : 0 < mark → quorum nodes ≤ count (has_acked acks mark) nodes
  pub most : (k : ℕ) → quorum nodes ≤ count (has_acked acks k) nodes → k ≤ mark

-- each acknowledged length is within the bound
abbrev pub AreWithin : ℕ → List Ack → Type 0
AreWithin bound acks = AllByRecursion (λ (ack : Ack). ack.len ≤ bound) acks

pub record MarksAreFound : Type 0 where
  pub found : (nodes : ℕ) (acks : List Ack) (bound : ℕ) → AreWithin bound acks → IsCommitMark nodes acks (reached nodes (has_acked acks) bound)
  pub one : (nodes : ℕ) (acks : List Ack) (a b : ℕ) → IsCommitMark nodes acks a → IsCommitMark nodes acks b → a ≡ b
