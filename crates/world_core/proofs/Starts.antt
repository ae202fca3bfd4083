-- The world before the first event.
use Rattle.std.proofs.Common.{◌≡◌, ◌∙◌, ℕ, zero, suc, List, [], ◌∷◌, length, get_or, refl, sym, ap, subst, arith, Option, None, Some}
use Rattle.std.specs.List.{AllByRecursion}
use mathlib.Core.Path.{fun_ext}
use Rattle.proto_model.specs.Replicas.{ReplicaState, fresh_replica}
use Rattle.proto_model.specs.Servers.{ServerState, idle_server}
use Rattle.client_core.specs.Clients.{ClientState, fresh_client}
use Rattle.net_model.specs.declared.cluster.Cluster.{Cluster}
use Rattle.world_law.specs.Worlds.{start}
use Rattle.net_model.specs.Pools.{Post}
use Rattle.tx_model.specs.Applications.{Application}
use Rattle.client_core.specs.States.{Kept}
use Rattle.partition_server.specs.Held.{Held, state_of}
use Rattle.proto_model.specs.declared.message.Status.{Status}
use Rattle.proto_model.proofs.TableLemmas.{AllByRecursion-more}
use Rattle.net_model.specs.Clusters.{IsClusterInRange}
use Rattle.world_core.specs.Kept.{Shows, nodes_of, files_of, no_files, servers_of, clients_of, numbers_of}
use Rattle.world_core.specs.Fit.{IsFresh, IsGoing, HasConfig, AreNumbered, AreCounts, AreFit, IsSystem, waiting_at}

none_in : (xs : List (Option ℕ)) (k : ℕ) → AllByRecursion (λ o. o ≡ None) xs → get_or xs k None ≡ None
none_in [] k all = refl
none_in (o ∷ xs) zero all = all.0
none_in (o ∷ xs) (suc k) all = none_in xs k all.1

none_at : (xs : List (Option ℕ)) (k : ℕ) → AllByRecursion (λ o. o ≡ None) xs → numbers_of xs k ≡ None
none_at xs zero all = refl
none_at xs (suc k) all = none_in xs k all

-- no server keeps a number
pub no_numbers : (xs : List (Option ℕ)) → AllByRecursion (λ o. o ≡ None) xs → numbers_of xs ≡ (λ i. None)
no_numbers xs all = fun_ext (λ k. none_at xs k all)

pub starts : (c : Cluster) (ns : List ReplicaState) (fs : List (ℕ → List ℕ)) (ss : List ServerState) (cs : List ClientState) (ks : List (Option ℕ)) (n : ℕ) (post : Post) → nodes_of ns ≡ (λ i. fresh_replica) → files_of fs ≡ (λ i file. []) → servers_of ss ≡ (λ i. idle_server)
    → clients_of cs ≡ (λ i. fresh_client) → numbers_of ks ≡ (λ i. None) → n ≡ 0 → post ≡ record { sent = []; cursor = 1 }
    → Shows (record { parties = record { cluster = c; nodes = ns; files = fs; servers = ss; clients = cs }; number = n; kept = ks; sent = post.sent; cursor = post.cursor }) (start c)
starts c ns fs ss cs ks n post nodes files servers clients kept none empty = rw (nodes, files, servers, clients, kept, none, empty) refl

-- ---- fresh nodes

pub fresh_states : {R : Type 0} (state : R → ReplicaState) (files_in : R → ℕ → List ℕ) (f : R → Type 0) (s : R → Status) (ns : List R) → AllByRecursion (IsFresh state files_in f s) ns → AllByRecursion (λ r. state r ≡ fresh_replica) ns
fresh_states state files_in f s ns fresh = AllByRecursion-more (IsFresh state files_in f s) (λ r. state r ≡ fresh_replica) ns (λ r is. is.empty) fresh

pub fresh_files : {R : Type 0} (state : R → ReplicaState) (files_in : R → ℕ → List ℕ) (f : R → Type 0) (s : R → Status) (ns : List R) → AllByRecursion (IsFresh state files_in f s) ns → AllByRecursion (λ r. files_in r ≡ no_files) ns
fresh_files state files_in f s ns fresh = AllByRecursion-more (IsFresh state files_in f s) (λ r. files_in r ≡ no_files) ns (λ r is. fun_ext is.files) fresh

pub fresh_going : {R : Type 0} (state : R → ReplicaState) (files_in : R → ℕ → List ℕ) (f : R → Type 0) (s : R → Status) (ns : List R) → AllByRecursion (IsFresh state files_in f s) ns → AllByRecursion (IsGoing f s 1) ns
fresh_going state files_in f s ns fresh = AllByRecursion-more (IsFresh state files_in f s) (IsGoing f s 1) ns (λ r is. record { faultless = is.faultless; file = let one = is.file in omega (arith, one) }) fresh

-- ---- idle servers

pub none_wait : (ss : List Held) → AllByRecursion (λ (h : Held). state_of h ≡ idle_server) ss → waiting_at ss ≡ 0
none_wait [] all = refl
none_wait (h ∷ ss) all =
    let none : length h.waiting ≡ 0 = ap (λ (sv : ServerState). length sv.waiting) all.0 in
    let rest = none_wait ss all.1 in
    omega (arith, none, rest)

none_some : {A : Type 0} (x : A) → None ≡ Some x → ⊥
none_some x is = let e : None ≡ Some x = is in cc

none_counts : (xs : List (Option ℕ)) → AllByRecursion (λ o. o ≡ None) xs → AreCounts (numbers_of xs)
none_counts xs all = λ server number is. let same : numbers_of xs ≡ (λ i. None) = no_numbers xs all in let none : numbers_of xs server ≡ None = ap (λ f. f server) same in absurd (none_some number (sym none ∙ is))

-- what a world begins with
pub begins : {R : Type 0} (f : R → Type 0) (s : R → Status) (c : Cluster) (n : ℕ) (ks : List (Option ℕ)) (ns : List R) (ss : List Held) (cs : List (Kept Application)) (post : Post) → IsClusterInRange c → n ≡ 0 → length ks ≡ 9 → AllByRecursion (λ o. o ≡ None) ks
    → length ns ≡ c.nodes → length ss ≡ c.servers → length cs ≡ c.clients → AllByRecursion (IsGoing f s 1) ns → AllByRecursion (HasConfig c) ss → AllByRecursion (λ (h : Held). state_of h ≡ idle_server) ss → AreNumbered 1 cs
    → post ≡ record { sent = []; cursor = 1 } → IsSystem f s 0 (record { cluster = c; number = n; kept = ks; nodes = ns; servers = ss; clients = cs; sent = post.sent; cursor = post.cursor })
begins f s c n ks ns ss cs post range zero_is count none nodes servers clients going configs idle numbers empty =
    let sent : post.sent ≡ [] = ap (λ (p : Post). p.sent) empty in
    record {
      range = range;
      number = rw zero_is (omega arith);
      kept_count = count;
      kept = none_counts ks none;
      node_count = nodes;
      server_count = servers;
      client_count = clients;
      going = going;
      configs = configs;
      numbers = numbers;
      fit = subst AreFit (sym sent) tt;
      few = let size : length post.sent ≡ 0 = ap length sent in let wait = none_wait ss idle in omega (arith, size, wait);
    }
