-- How large a cluster may be.
use Rattle.std.specs.Prelude.{ℕ, ◌≤◌}
use Rattle.net_model.specs.declared.cluster.Cluster.{Cluster}

-- from 1 to the most
pub record IsWithin (most n : ℕ) : Type 0 where
  pub some : 1 ≤ n
  pub fits : n ≤ most

pub record IsClusterInRange (c : Cluster) : Type 0 where
  pub nodes : IsWithin 7 c.nodes
  pub servers : IsWithin 9 c.servers
  pub clients : IsWithin 9 c.clients
  pub rows : IsWithin 8 c.rows
  pub slots : IsWithin 4096 c.slots
