-- What the fields of `Nodes` hold.
use Rattle.std.specs.Prelude.{◌≡◌, ◌≤◌, length, take}
use Rattle.session_recovery.specs.declared.nodes.Nodes.TheInside.{Inside}
use Rattle.session_recovery.specs.Known.{Known, IsKnown}

abbrev pub known_by : Inside → Known
known_by n = record {
  nodes = n.nodes;
  session = n.session;
  phase = n.phase;
  reports = take n.heard n.reports;
  reported = n.reported;
  staged = n.staged;
  lows = n.lows;
  adopted = n.adopted;
}

-- there is room for one report of each node
pub record AreNodes (n : Inside) : Type 0 where
  pub heard : n.heard ≤ 7
  pub room : length n.reports ≡ 8
  pub known : IsKnown (known_by n)
