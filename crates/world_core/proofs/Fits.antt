-- What holds of a world's lists holds after an event.
use Rattle.std.proofs.Common.{◌≡◌, ◌∙◌, ℕ, zero, suc, ◌+◌, ◌-◌, ◌≤◌, ◌<◌, ◌^◌, List, [], ◌∷◌, ◌++◌, length, map, length-append, Bool, true, false, refl, sym, ap, subst, arith, Option, None, Some}
use Rattle.std.specs.Prelude.{if◌then◌else◌, ◌==◌}
use Rattle.std.specs.List.{AllByRecursion}
use Rattle.std.proofs.lemmas.List.{length-map}
use Rattle.tx_model.specs.Applications.{Application}
use Rattle.tx_model.specs.Spelling.{IsCount}
use Rattle.proto_model.specs.declared.message.Status.{Status}
use Rattle.proto_model.specs.declared.message.ToNode.{ToNode}
use Rattle.proto_model.specs.Validity.{IsValidToNode}
use Rattle.proto_model.specs.Tables.{put}
use Rattle.proto_model.specs.Servers.{ServerState}
use Rattle.proto_model.specs.Sending.{next_messages}
use Rattle.proto_model.proofs.TableLemmas.{AllByRecursion-append, AllByRecursion-more, AllByRecursion-get}
use Rattle.session_register.specs.declared.register.Cas.{Cas}
use Rattle.session_register.specs.declared.register.Cas.TheVariants.{Won, Lost, Exhausted}
use Rattle.session_register.specs.Registers.{IsCas, number_after}
use Rattle.partition_server.specs.Held.{Held}
use Rattle.client_core.specs.States.{Kept}
use Rattle.net_model.specs.declared.mail.Envelope.{Envelope}
use Rattle.net_model.specs.Clusters.{IsWithin}
use Rattle.net_model.specs.Pools.{Post, envelope_at}
use Rattle.world_law.specs.Worlds.{config_of}
use Rattle.world_law.specs.Steps.{envelope_from}
use Rattle.world_core.specs.Kept.{KeptSystem, numbers_of}
use Rattle.world_core.specs.Fit.{IsGoing, HasConfig, AreNumbered, AreCounts, AreFit, IsFit, IsSystem, IsReady, max_events, waiting_at}
use Rattle.world_core.proofs.Waiting.{ticked_few}

-- ---- numbers of a cluster are places in its lists

pub listed : (n most len : ℕ) → IsWithin most n → len ≡ most → (1 ≤ n) × (n ≤ len)
listed n most len within count = let some = within.some in let fits = within.fits in (some, omega (arith, fits, count))

pub node_listed : {R : Type 0} (f : R → Type 0) (s : R → Status) (k : KeptSystem R) (n : ℕ) → IsReady f s k → IsWithin k.cluster.nodes n → (1 ≤ n) × (n ≤ length k.nodes)
node_listed f s k n ready within = listed n k.cluster.nodes (length k.nodes) within ready.system.node_count

pub server_listed : {R : Type 0} (f : R → Type 0) (s : R → Status) (k : KeptSystem R) (n : ℕ) → IsReady f s k → IsWithin k.cluster.servers n → (1 ≤ n) × (n ≤ length k.servers)
server_listed f s k n ready within = listed n k.cluster.servers (length k.servers) within ready.system.server_count

pub client_listed : {R : Type 0} (f : R → Type 0) (s : R → Status) (k : KeptSystem R) (n : ℕ) → IsReady f s k → IsWithin k.cluster.clients n → (1 ≤ n) × (n ≤ length k.clients)
client_listed f s k n ready within = listed n k.cluster.clients (length k.clients) within ready.system.client_count

pub kept_listed : {R : Type 0} (f : R → Type 0) (s : R → Status) (k : KeptSystem R) (n : ℕ) → IsReady f s k → IsWithin k.cluster.servers n → (1 ≤ n) × (n ≤ length k.kept)
kept_listed f s k n ready within =
    let some = within.some in
    let fits = within.fits in
    let nine = ready.system.range.servers.fits in
    let count = ready.system.kept_count in
    (some, omega (arith, fits, nine, count))

-- ---- few events are stepped

pub going_on : {R : Type 0} (f : R → Type 0) (s : R → Status) (k : KeptSystem R) → IsReady f s k → AllByRecursion (IsGoing f s max_events) k.nodes
going_on f s k ready =
    let more = ready.more in
    AllByRecursion-more (IsGoing f s (ready.events + 1)) (IsGoing f s max_events) k.nodes (λ r is. record { faultless = is.faultless; file = let file = is.file in omega (arith, file, more) }) ready.system.going

pub few_sent : {R : Type 0} (f : R → Type 0) (s : R → Status) (k : KeptSystem R) → IsReady f s k → length k.sent + waiting_at k.servers < 7000000
few_sent f s k ready = let more = ready.more in let few = ready.system.few in omega (arith, more, few)

-- there is room for envelopes of one event
pub room : {R : Type 0} (f : R → Type 0) (s : R → Status) (k : KeptSystem R) (made : ℕ) → IsReady f s k → made ≤ waiting_at k.servers + 7 → length k.sent + made ≤ 4294967295
room f s k made ready few = let sent = few_sent f s k ready in omega (arith, sent, few)

pub room_for_one : {R : Type 0} (f : R → Type 0) (s : R → Status) (k : KeptSystem R) → IsReady f s k → length k.sent < 4294967295
room_for_one f s k ready = let sent = few_sent f s k ready in omega (arith, sent)

pub below_last : {R : Type 0} (f : R → Type 0) (s : R → Status) (k : KeptSystem R) → IsReady f s k → length k.sent < 2 ^ 32 - 1
below_last f s k ready = let sent = few_sent f s k ready in omega (arith, sent)

-- ---- the numbers that servers keep

none_some : {A : Type 0} (x : A) → None ≡ Some x → ⊥
none_some x is = let e : None ≡ Some x = is in cc

counts_by : (b : Bool) (x y : Option ℕ) (n : ℕ) → ((m : ℕ) → x ≡ Some m → IsCount m) → ((m : ℕ) → y ≡ Some m → IsCount m) → (if b then x else y) ≡ Some n → IsCount n
counts_by true x y n first second is = first n is
counts_by false x y n first second is = second n is

pub counts_put : (kept new : ℕ → Option ℕ) (v : ℕ) (o : Option ℕ) → ((n : ℕ) → o ≡ Some n → IsCount n) → new ≡ put kept v o → AreCounts kept → AreCounts new
counts_put kept new v o is_count same are = subst AreCounts (sym same) (λ server number is. counts_by (server == v) o (kept server) number is_count (are server) is)

pub counts_none : (kept new : ℕ → Option ℕ) (v : ℕ) → new ≡ put kept v None → AreCounts kept → AreCounts new
counts_none kept new v same are = counts_put kept new v None (λ n is. absurd (none_some n is)) same are

pub counts_some : (kept new : ℕ → Option ℕ) (v number : ℕ) → IsCount number → new ≡ put kept v (Some number) → AreCounts kept → AreCounts new
counts_some kept new v number is_count same are = counts_put kept new v (Some number) (λ n is. let eq : number ≡ n = cc in subst IsCount eq is_count) same are

pub count_after : (number : ℕ) (a : Cas) → IsCount number → IsCas a → IsCount (number_after number a)
count_after number (Won session) old new = new.below
count_after number (Lost current) old new = old
count_after number Exhausted old new = old

-- ---- the whole, after one more event

pub changes : {R : Type 0} (f : R → Type 0) (s : R → Status) (n : ℕ) (k : KeptSystem R) (number : ℕ) (ks : List (Option ℕ)) (ns : List R) (ss : List Held) (cs : List (Kept Application)) (sent : List Envelope) (cursor : ℕ)
    → IsCount number → length ks ≡ length k.kept → AreCounts (numbers_of ks) → length ns ≡ length k.nodes → length ss ≡ length k.servers → length cs ≡ length k.clients → AllByRecursion (IsGoing f s (n + 2)) ns
    → AllByRecursion (HasConfig k.cluster) ss → AreNumbered 1 cs → AreFit sent → length sent + waiting_at ss ≤ length k.sent + waiting_at k.servers + 7 → IsSystem f s n k
    → IsSystem f s (n + 1) (record k { number = number; kept = ks; nodes = ns; servers = ss; clients = cs; sent = sent; cursor = cursor })
changes f s n k number ks ns ss cs sent cursor count kept_size kept nodes servers clients going configs numbers fit few is = record {
  range = is.range;
  number = count;
  kept_count = kept_size ∙ is.kept_count;
  kept = kept;
  node_count = nodes ∙ is.node_count;
  server_count = servers ∙ is.server_count;
  client_count = clients ∙ is.client_count;
  going = AllByRecursion-more (IsGoing f s (n + 2)) (IsGoing f s (n + 1 + 1)) ns (λ r going. record { faultless = going.faultless; file = let file = going.file in omega (arith, file) }) going;
  configs = configs;
  numbers = numbers;
  fit = fit;
  few = let old = is.few in omega (arith, old, few);
}

still_going : {R : Type 0} (f : R → Type 0) (s : R → Status) (n : ℕ) (ns : List R) → AllByRecursion (IsGoing f s (n + 1)) ns → AllByRecursion (IsGoing f s (n + 2)) ns
still_going f s n ns going = AllByRecursion-more (IsGoing f s (n + 1)) (IsGoing f s (n + 2)) ns (λ r is. record { faultless = is.faultless; file = let file = is.file in omega (arith, file) }) going

same_few : (a b : ℕ) → a + b ≤ a + b + 7
same_few a b = omega arith

pub stays : {R : Type 0} (f : R → Type 0) (s : R → Status) (n : ℕ) (k : KeptSystem R) → IsSystem f s n k → IsSystem f s (n + 1) k
stays f s n k is = changes f s n k k.number k.kept k.nodes k.servers k.clients k.sent k.cursor is.number refl is.kept refl refl refl (still_going f s n k.nodes is.going) is.configs is.numbers is.fit (same_few (length k.sent) (waiting_at k.servers)) is

pub moves_on : {R : Type 0} (f : R → Type 0) (s : R → Status) (n : ℕ) (k : KeptSystem R) (cursor : ℕ) → IsSystem f s n k → IsSystem f s (n + 1) (record k { cursor = cursor })
moves_on f s n k cursor is = changes f s n k k.number k.kept k.nodes k.servers k.clients k.sent cursor is.number refl is.kept refl refl refl (still_going f s n k.nodes is.going) is.configs is.numbers is.fit (same_few (length k.sent) (waiting_at k.servers)) is

-- the register, what is kept of it, and servers
pub registers : {R : Type 0} (f : R → Type 0) (s : R → Status) (n : ℕ) (k : KeptSystem R) (number : ℕ) (ks : List (Option ℕ)) (ss : List Held) → IsCount number → length ks ≡ length k.kept → AreCounts (numbers_of ks) → length ss ≡ length k.servers
    → AllByRecursion (HasConfig k.cluster) ss → waiting_at ss ≤ waiting_at k.servers → IsSystem f s n k → IsSystem f s (n + 1) (record k { number = number; kept = ks; servers = ss })
registers f s n k number ks ss count kept_size kept servers configs few is =
    changes f s n k number ks k.nodes ss k.clients k.sent k.cursor count kept_size kept refl servers refl (still_going f s n k.nodes is.going) configs is.numbers is.fit (omega (arith, few)) is

pub keeps : {R : Type 0} (f : R → Type 0) (s : R → Status) (n : ℕ) (k : KeptSystem R) (number : ℕ) (ks : List (Option ℕ)) → IsCount number → length ks ≡ length k.kept → AreCounts (numbers_of ks) → IsSystem f s n k → IsSystem f s (n + 1) (record k { number = number; kept = ks })
keeps f s n k number ks count kept_size kept is = registers f s n k number ks k.servers count kept_size kept refl is.configs (omega arith) is

pub nodes_change : {R : Type 0} (f : R → Type 0) (s : R → Status) (n : ℕ) (k : KeptSystem R) (ns : List R) → length ns ≡ length k.nodes → AllByRecursion (IsGoing f s (n + 1 + 1)) ns → IsSystem f s n k → IsSystem f s (n + 1) (record k { nodes = ns })
nodes_change f s n k ns nodes going is =
    let two = AllByRecursion-more (IsGoing f s (n + 1 + 1)) (IsGoing f s (n + 2)) ns (λ r is. record { faultless = is.faultless; file = let file = is.file in omega (arith, file) }) going in
    changes f s n k k.number k.kept ns k.servers k.clients k.sent k.cursor is.number refl is.kept nodes refl refl two is.configs is.numbers is.fit (same_few (length k.sent) (waiting_at k.servers)) is

-- what is sent, and clients
pub sends_more : {R : Type 0} (f : R → Type 0) (s : R → Status) (n : ℕ) (k : KeptSystem R) (cs : List (Kept Application)) (made : List Envelope) → length cs ≡ length k.clients → AreNumbered 1 cs → AreFit made → length made ≤ 7 → IsSystem f s n k
    → IsSystem f s (n + 1) (record k { clients = cs; sent = k.sent ++ made })
sends_more f s n k cs made clients numbers fit few is =
    let size = length-append k.sent made in
    changes f s n k k.number k.kept k.nodes k.servers cs (k.sent ++ made) k.cursor is.number refl is.kept refl refl clients (still_going f s n k.nodes is.going) is.configs numbers
    (AllByRecursion-append (λ (e : Envelope). IsFit e.message) k.sent made is.fit fit) (omega (arith, size, few)) is

pub clients_change : {R : Type 0} (f : R → Type 0) (s : R → Status) (n : ℕ) (k : KeptSystem R) (cs : List (Kept Application)) → length cs ≡ length k.clients → AreNumbered 1 cs → IsSystem f s n k → IsSystem f s (n + 1) (record k { clients = cs })
clients_change f s n k cs clients numbers is =
    changes f s n k k.number k.kept k.nodes k.servers cs k.sent k.cursor is.number refl is.kept refl refl clients (still_going f s n k.nodes is.going) is.configs numbers is.fit (same_few (length k.sent) (waiting_at k.servers)) is

-- a delivery
pub parties_change : {R : Type 0} (f : R → Type 0) (s : R → Status) (n : ℕ) (k : KeptSystem R) (ns : List R) (ss : List Held) (cs : List (Kept Application)) (made : List Envelope) (cursor : ℕ) → length ns ≡ length k.nodes → length ss ≡ length k.servers → length cs ≡ length k.clients
    → AllByRecursion (IsGoing f s (n + 1 + 1)) ns → AllByRecursion (HasConfig k.cluster) ss → AreNumbered 1 cs → AreFit made → length made + waiting_at ss ≤ waiting_at k.servers + 1 → IsSystem f s n k
    → IsSystem f s (n + 1) (record k { nodes = ns; servers = ss; clients = cs; sent = k.sent ++ made; cursor = cursor })
parties_change f s n k ns ss cs made cursor nodes servers clients going configs numbers fit few is =
    let two = AllByRecursion-more (IsGoing f s (n + 1 + 1)) (IsGoing f s (n + 2)) ns (λ r is. record { faultless = is.faultless; file = let file = is.file in omega (arith, file) }) going in
    let size = length-append k.sent made in
    changes f s n k k.number k.kept ns ss cs (k.sent ++ made) cursor is.number refl is.kept nodes servers clients two configs numbers
    (AllByRecursion-append (λ (e : Envelope). IsFit e.message) k.sent made is.fit fit) (omega (arith, size, few)) is

-- ---- envelopes

found_in : (sent : List Envelope) (cursor number : ℕ) (e : Envelope) → AreFit sent → envelope_at (record { sent = sent; cursor = cursor }) number ≡ Some e → IsFit e.message
found_in sent cursor zero e fit is = absurd (none_some e is)
found_in sent cursor (suc before) e fit is = AllByRecursion-get (λ (e : Envelope). IsFit e.message) sent before e fit is

-- an envelope that was sent can be delivered
pub found_fit : (p : Post) (number : ℕ) (e : Envelope) → AreFit p.sent → envelope_at p number ≡ Some e → IsFit e.message
found_fit p number e fit is = found_in p.sent p.cursor number e fit is

pub messages_fit : (v : ℕ) (messages : List (ℕ × ToNode)) → AllByRecursion (λ (m : ℕ × ToNode). IsValidToNode m.1) messages → AreFit (map (envelope_from v) messages)
messages_fit v [] all = tt
messages_fit v (m ∷ messages) all = (all.0, messages_fit v messages all.1)

-- a tick sends seven at most
pub few_ticked : {R : Type 0} (f : R → Type 0) (s : R → Status) (k : KeptSystem R) (v : ℕ) (sv : ServerState) (made : List Envelope) → IsReady f s k → made ≡ map (envelope_from v) (next_messages (config_of k.cluster) sv k.cluster.nodes) → length made ≤ 7
few_ticked f s k v sv made ready is =
    let messages = ticked_few (config_of k.cluster) sv k.cluster.nodes in
    let seven = ready.system.range.nodes.fits in
    let size : length made ≡ length (next_messages (config_of k.cluster) sv k.cluster.nodes) = ap length is ∙ length-map (next_messages (config_of k.cluster) sv k.cluster.nodes) (envelope_from v) in
    omega (arith, messages, seven, size)
