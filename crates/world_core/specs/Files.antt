-- A node of a list that an event changed.
use Rattle.std.specs.Prelude.{◌≡◌, ℕ, List, map}
use Rattle.proto_model.specs.Tables.{put}
use Rattle.proto_model.specs.Replicas.{ReplicaState}
use Rattle.world_core.specs.Kept.{nodes_of, files_of}

-- this node has this state now and some files, and the others are as they were
pub record SetsNode {R : Type 0} (state : R → ReplicaState) (files_in : R → ℕ → List ℕ) (old new : List R) (node : ℕ) (after : ReplicaState) : Type 0 where
  pub states : nodes_of (map state new) ≡ put (nodes_of (map state old)) node after
  pub bytes : ℕ → List ℕ
  pub files : files_of (map files_in new) ≡ put (files_of (map files_in old)) node bytes
