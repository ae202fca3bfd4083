-- A run that commits, crashes, takes over and applies, computed: the laws speak of something.
use Rattle.std.proofs.Common.{◌≡◌, ℕ, zero, suc, true, arith, refl, ap, sym, ◌∙◌, List, [], ◌∷◌, ◌++◌, length, map, None}
use Rattle.std.specs.FinMap as finite
use Rattle.std.specs.FinMap.{FinMap, len-entries, len-empty}
use Rattle.tx_model.specs.Transactions.{is_among}
use Rattle.tx_model.specs.Applications.{ops_of, name_cmp, named_keys}
use Rattle.proto_model.specs.Replicas.{fresh_replica}
use Rattle.client_core.specs.Clients.{ClientState, fresh_client}
use Rattle.client_core.specs.Building.{build_refusal}
use Rattle.net_model.specs.declared.cluster.Cluster.{Cluster}
use Rattle.net_model.specs.declared.event.Event.{Event}
use Rattle.net_model.specs.declared.event.Event.TheVariants.{Read, Cas, Tick, Next, Crash, Append, Ask}
use Rattle.world_law.specs.Worlds.{WorldState, start}
use Rattle.world_law.specs.Steps.{Fate, submission, submitted, happens}
use Rattle.world_law.specs.OneLog.{longest, one_log}
use Rattle.world_law.specs.Promises.{chosen_log}

-- none of these events leaves anything open but the bytes of files
some_fate : Fate
some_fate = record { torn = fresh_replica; files = λ file. [] }

abbrev after : List Event → WorldState → WorldState
after [] w = w
after (e ∷ events) w = after events (happens w some_fate e)

after-append : (xs ys : List Event) (w : WorldState) → after (xs ++ ys) w ≡ after ys (after xs w)
after-append [] ys w = refl
after-append (x ∷ xs) ys w = after-append xs ys (happens w some_fate x)

abbrev many : ℕ → List Event
many zero = []
many (suc k) = Next ∷ many k

abbrev three : Cluster
three = record { nodes = 3; servers = 2; clients = 1; rows = 1; slots = 4 }

-- ---- a client builds a transaction with one write lock, and no ops

abbrev locks : List (List ℕ)
locks = (97 ∷ []) ∷ []

nothing_named : named_keys [] ≡ []
unfolding ops_of
nothing_named = ap (map (λ (e : List ℕ × Unit {0}). e.0)) (none_of (finite.entries nothing) (sym (len-entries nothing) ∙ len-empty name_cmp (Unit {0})))
  where
    nothing : FinMap name_cmp (Unit {0})
    nothing = finite.empty

    none_of : (xs : List (List ℕ × Unit {0})) → length xs ≡ 0 → xs ≡ []
    none_of [] e = refl
    none_of (x ∷ xs) e = absurd (omega arith)

is_built : build_refusal fresh_client locks [] [] ≡ None
unfolding build_refusal ops_of is_among
is_built = rw nothing_named refl

abbrev appended : WorldState → WorldState
appended w = submitted w 1 (submission w 1 1 locks [] []) None

then_appended : (w : WorldState) (events : List Event) → w.clients 1 ≡ fresh_client
    → after (Append 1 1 locks [] [] ∷ events) w ≡ after events (appended w)
then_appended w events fresh =
    let built : build_refusal (w.clients 1) locks [] [] ≡ None = ap (λ (cl : ClientState). build_refusal cl locks [] []) fresh ∙ is_built in
    ap (λ refusal. after events (submitted w 1 (submission w 1 1 locks [] []) refusal)) built

-- ---- the run

-- a session is won and repaired
abbrev opening : List Event
opening = Read 1 ∷ Cas 1 ∷ Tick 1 ∷ many 6 ++ Tick 1 ∷ many 6

-- the record that was appended is committed, and the client is told
abbrev closing : List Event
closing = Next ∷ Tick 1 ∷ many 7

abbrev a_commit : List Event
a_commit = opening ++ Append 1 1 locks [] [] ∷ closing

-- a node crashes, and another server takes over
abbrev a_takeover : List Event
a_takeover = Crash 1 ∷ Read 2 ∷ Cas 2 ∷ Tick 2 ∷ many 6 ++ Tick 2 ∷ many 2 ++ Tick 2 ∷ many 6

-- the client asks the new server for heads, and then for the record
abbrev an_application : List Event
an_application = Tick 2 ∷ many 6 ++ Ask 1 2 ∷ many 2 ++ Ask 1 2 ∷ many 2

-- the worlds after each part
abbrev first : WorldState
first = after closing (appended (after opening (start three)))

abbrev second : WorldState
second = after a_takeover first

abbrev third : WorldState
third = after an_application second

first_is : after a_commit (start three) ≡ first
first_is = after-append opening (Append 1 1 locks [] [] ∷ closing) (start three) ∙ then_appended (after opening (start three)) closing refl

second_is : after (a_commit ++ a_takeover) (start three) ≡ second
second_is = after-append a_commit a_takeover (start three) ∙ ap (after a_takeover) first_is

third_is : after ((a_commit ++ a_takeover) ++ an_application) (start three) ≡ third
third_is = after-append (a_commit ++ a_takeover) an_application (start three) ∙ ap (after an_application) second_is

-- ---- what they are

committed : length (one_log first) ≡ 1
committed = refl

taken_over : (second.books 2).repaired ≡ true
taken_over = refl

with_the_record : length (chosen_log second 2) ≡ 1
with_the_record = refl

still_one : length (one_log second) ≡ 1
still_one = refl

applied : (third.clients 1).mark ≡ 1
applied = refl

of_the_first : longest third 2 ≡ 1
of_the_first = refl
