use Rattle.std.proofs.Common.{◌≡◌, ◌∷◌, [], List, ℕ, refl, sym, subst, Option, None}
use Rattle.std.specs.List.{AllByRecursion}
use Rattle.proto_model.specs.Replicas.{fresh_replica}
use Rattle.proto_model.specs.Servers.{idle_server}
use Rattle.client_core.specs.Clients.{fresh_client}
use Rattle.client_core.specs.States.{client_state}
use Rattle.partition_server.specs.Held.{state_of}
use Rattle.world_law.specs.Worlds.{start}
use Rattle.world_core.specs.Kept.{no_files}
use Rattle.world_core.specs.Tallies.{IsRowOf}
use Rattle.world_core.specs.Told.{IsTallied}
use Rattle.world_core.proofs.Rows.{all_same}
use Rattle.world_core.proofs.Starts.{starts, begins, no_numbers, fresh_states, fresh_files, fresh_going}
use Rattle.world_core.proofs.Leading.{start_run, start_tallied}
use Rattle.world_core.proofs.world.World.new.Goals as goal

abbrev nothing_kept : List (Option ℕ)
nothing_kept = None ∷ None ∷ None ∷ None ∷ None ∷ None ∷ None ∷ None ∷ None ∷ []

each_none : AllByRecursion (λ (o : Option ℕ). o ≡ None) nothing_kept
each_none = (refl, (refl, (refl, (refl, (refl, (refl, (refl, (refl, (refl, tt)))))))))

pub invariant_of-result : goal.invariant_of-result
invariant_of-result g c = λ going. record {
  system =
      begins g.R.Replica.is_faultless g.R.Replica.shown c.args.cluster _ nothing_kept c.args.nodes.items c.in_ok-servers.servers.items c.in_ok-clients.clients.items _ c.requires.cluster c.new.ensures refl each_none
      c.requires.nodes c.in_ok-servers.ensures.size c.in_ok-clients.ensures.size (fresh_going g.R.Replica.state g.R.Replica.files g.R.Replica.is_faultless g.R.Replica.shown c.args.nodes.items c.requires.fresh)
      c.in_ok-servers.ensures.configs c.in_ok-servers.ensures.idle c.in_ok-clients.ensures.numbers c.new-2.ensures;
  of_nodes = subst (AllByRecursion (IsRowOf c.args.cluster.nodes)) (sym c.new-3.ensures.items) tt;
}

pub returns-clause-start : goal.returns-clause-start
returns-clause-start g c = record {
  view =
      starts _ _ _ _ _ nothing_kept _ _ (all_same fresh_replica g.R.Replica.state c.args.nodes.items (fresh_states g.R.Replica.state g.R.Replica.files g.R.Replica.is_faultless g.R.Replica.shown c.args.nodes.items c.requires.fresh))
      (all_same no_files g.R.Replica.files c.args.nodes.items (fresh_files g.R.Replica.state g.R.Replica.files g.R.Replica.is_faultless g.R.Replica.shown c.args.nodes.items c.requires.fresh))
      (all_same idle_server state_of c.in_ok-servers.servers.items c.in_ok-servers.ensures.idle)
      (all_same fresh_client client_state c.in_ok-clients.clients.items c.in_ok-clients.ensures.fresh)
      (no_numbers nothing_kept each_none) c.new.ensures c.new-2.ensures;
  run = start_run c.args.cluster;
  tallied = subst (λ l. IsTallied l (start c.args.cluster)) (sym c.new-3.ensures.items) (start_tallied c.args.cluster);
}

pub returns-clause-whole : goal.returns-clause-whole
returns-clause-whole g c = record {
  system =
      begins g.R.Replica.is_faultless g.R.Replica.shown c.args.cluster _ nothing_kept c.args.nodes.items c.in_ok-servers.servers.items c.in_ok-clients.clients.items _ c.requires.cluster c.new.ensures refl each_none
      c.requires.nodes c.in_ok-servers.ensures.size c.in_ok-clients.ensures.size (fresh_going g.R.Replica.state g.R.Replica.files g.R.Replica.is_faultless g.R.Replica.shown c.args.nodes.items c.requires.fresh)
      c.in_ok-servers.ensures.configs c.in_ok-servers.ensures.idle c.in_ok-clients.ensures.numbers c.new-2.ensures;
  of_nodes = subst (AllByRecursion (IsRowOf c.args.cluster.nodes)) (sym c.new-3.ensures.items) tt;
}
