-- What noting a party makes of the rows.
use Rattle.std.proofs.Common.{◌≡◌, ◌∙◌, ℕ, zero, suc, ◌+◌, ◌<◌, ◌≤◌, List, [], ◌∷◌, ◌++◌, length, map, take, drop, Bool, true, false, refl, sym, ap, subst, arith, sub-one, get_or}
use Rattle.std.specs.Prelude.{◌==◌, if◌then◌else◌}
use Rattle.std.specs.List.{AllByRecursion}
use Rattle.std.proofs.lemmas.List.{take-append-drop, take_more}
use Rattle.partition_server.specs.Held.{Held, state_of}
use Rattle.std.proofs.lemmas.Bool.Decides.{nat_tests}
use Rattle.tx_model.specs.declared.record.Record.{Record}
use Rattle.proto_model.specs.Tables.{put, table}
use Rattle.proto_model.specs.Servers.{ServerState, has_fetched}
use Rattle.net_model.specs.declared.shown.Entry.{Entry}
use Rattle.world_law.specs.Outcomes.{entry_of}
use Rattle.world_core.specs.Tallies.{continued}
use Rattle.world_core.specs.Noted.{AreFronts, AreTargets, HasTarget, IsNoted, AreNoted}
use Rattle.world_core.proofs.Rows.{all_at}
use Rattle.world_core.proofs.Casting.{map_more, take_past}
use Rattle.world_core.proofs.Recorded.{no_true}
use Rattle.world_core.proofs.Tallied.{map_drop}

-- ---- one server

continued_by : (n : ℕ) (es target : List Entry) (log : List Record) → es ≡ take n target → target ≡ map entry_of log → es ++ map entry_of (drop n log) ≡ target
continued_by n es target log front is =
    let rest : map entry_of (drop n log) ≡ drop n target = map_drop n log ∙ ap (drop n) (sym is) in
    rw (front, rest) (take-append-drop n target)

take_whole : {A : Type 0} (xs : List A) → take (length xs) xs ≡ xs
take_whole [] = refl
take_whole (x ∷ xs) = ap (λ l. x ∷ l) (take_whole xs)

whole_front : (xs ys : List Entry) → xs ≡ ys → xs ≡ take (length xs) ys
whole_front xs ys same = subst (λ l. xs ≡ take (length xs) l) same (sym (take_whole xs))

put_here : {A : Type 0} (f : ℕ → A) (i : ℕ) (x : A) → put f i x i ≡ x
put_here f i x = grind (arith, nat_tests)

-- by cases on whether it is this session
at_each : (P : List Entry → Type 0) (b : Bool) (x y : List Entry) → (b ≡ true → P x) → P y → P (if b then x else y)
at_each P true x y p q = p refl
at_each P false x y p q = q

same_number : (s t : ℕ) → (s == t) ≡ true → s ≡ t
same_number s t h = grind (arith, nat_tests, h)

noted_fronts : (target old : ℕ → List Entry) (session : ℕ) (es : List Entry) → es ≡ target session → AreFronts target old → AreFronts target (put old session es)
noted_fronts target old session es is fronts s =
    at_each (λ l. l ≡ take (length l) (target s)) (s == session) es (old s) (λ at. whole_front es (target s) (is ∙ ap target (sym (same_number s session at)))) (fronts s)

noted_stays : (target old : ℕ → List Entry) (session : ℕ) (es : List Entry) → es ≡ target session → (s : ℕ) → old s ≡ target s → put old session es s ≡ target s
noted_stays target old session es is s kept = at_each (λ l. l ≡ target s) (s == session) es (old s) (λ at. is ∙ ap target (sym (same_number s session at))) kept

-- a server that repairs or runs is noted
pub server_noted : (target old new : ℕ → List Entry) (sv : ServerState) (sessions : ℕ) → HasTarget target sessions sv → new ≡ put old sv.session (continued (old sv.session) sv.log) → AreFronts target old → AreNoted target (sv ∷ []) old new
server_noted target old new sv sessions has after fronts =
    let session : ℕ = sv.session in
    let es : List Entry = continued (old session) sv.log in
    let is : es ≡ target session = continued_by (length (old session)) (old session) (target session) sv.log (fronts session) has.log in
    subst (λ f. AreNoted target (sv ∷ []) old f) (sym after) (record {
      fronts = noted_fronts target old session es is fronts;
      stays = noted_stays target old session es is;
      noted = (λ fetched. put_here old session es ∙ is, tt);
    })

-- another one needs no note
pub server_unnoted : (target old : ℕ → List Entry) (sv : ServerState) → has_fetched sv.phase ≡ false → AreFronts target old → AreNoted target (sv ∷ []) old old
server_unnoted target old sv none fronts = record { fronts = fronts; stays = λ s kept. kept; noted = (λ fetched. absurd (no_true (sym none ∙ fetched)), tt) }

-- ---- all servers

pub none_noted : (target old : ℕ → List Entry) → AreFronts target old → AreNoted target [] old old
none_noted target old fronts = record { fronts = fronts; stays = λ s kept. kept; noted = tt }

still_noted : (target middle new : ℕ → List Entry) (servers : List ServerState) → ((s : ℕ) → middle s ≡ target s → new s ≡ target s) → AllByRecursion (IsNoted target middle) servers → AllByRecursion (IsNoted target new) servers
still_noted target middle new [] stays all = tt
still_noted target middle new (sv ∷ servers) stays all = (λ fetched. stays sv.session (all.0 fetched), still_noted target middle new servers stays all.1)

joined : (P : ServerState → Type 0) (xs : List ServerState) (y : ServerState) → AllByRecursion P xs → P y → AllByRecursion P (xs ++ y ∷ [])
joined P [] y all p = (p, tt)
joined P (x ∷ xs) y all p = (all.0, joined P xs y all.1 p)

pub one_more_noted : (target old middle new : ℕ → List Entry) (servers : List ServerState) (sv : ServerState) → AreNoted target servers old middle → AreNoted target (sv ∷ []) middle new → AreNoted target (servers ++ sv ∷ []) old new
one_more_noted target old middle new servers sv first second = record {
  fronts = second.fronts;
  stays = λ s kept. second.stays s (first.stays s kept);
  noted = joined (IsNoted target new) servers sv (still_noted target middle new servers second.stays first.noted) second.noted.0;
}

-- ---- lists of parties and their tables

pub all_listed : {A B : Type 0} (P : B → Type 0) (d : B) (f : A → B) (xs : List A) → ((u : ℕ) → 1 ≤ u → u ≤ length xs → P (table d (map f xs) u)) → AllByRecursion (λ x. P (f x)) xs
all_listed P d f [] each = tt
all_listed P d f (x ∷ xs) each = (each 1 (omega arith) (omega arith), all_listed P d f xs (λ u some fits. shift u some fits))
  where
    shift : (u : ℕ) → 1 ≤ u → u ≤ length xs → P (table d (map f xs) u)
    shift zero some fits = absurd (omega (arith, some))
    shift (suc i) some fits = each (suc (suc i)) (omega arith) (omega (arith, fits))

pub listed_all : {B : Type 0} (P : B → Type 0) (d : B) (xs : List B) (u : ℕ) → 1 ≤ u → u ≤ length xs → AllByRecursion P xs → P (table d xs u)
listed_all P d xs zero some fits all = absurd (omega (arith, some))
listed_all P d [] (suc i) some fits all = absurd (omega (arith, fits))
listed_all P d (x ∷ xs) (suc zero) some fits all = all.0
listed_all P d (x ∷ xs) (suc (suc i)) some fits all = listed_all P d xs (suc i) (omega arith) (omega (arith, fits)) all.1

-- one more server of a list is noted
pub servers_more : (target old middle new : ℕ → List Entry) (servers : List Held) (i n m : ℕ) (x : Held) → i < length servers → x ≡ get_or servers i x → AllByRecursion (λ h. AreTargets target n (state_of h)) servers → m ≡ n
    → (AreTargets target m (state_of x) → AreFronts target middle → AreNoted target (state_of x ∷ []) middle new) → AreNoted target (map state_of (take i servers)) old middle → AreNoted target (map state_of (take (i + 1) servers)) old new
servers_more target old middle new servers i n m x within is targets same second first =
    let of : AreTargets target m (state_of x) = subst (λ k. AreTargets target k (state_of x)) (sym same) (all_at (λ h. AreTargets target n (state_of h)) servers (suc i) x (omega arith) (omega (arith, within)) (rw sub-one is) targets) in
    let all = one_more_noted target old middle new (map state_of (take i servers)) (state_of x) first (second of first.fronts) in
    let list : map state_of (take (i + 1) servers) ≡ map state_of (take i servers) ++ state_of x ∷ [] = ap (map state_of) (take_more servers i x within ∙ ap (λ y. take i servers ++ y ∷ []) (sym is)) ∙ map_more state_of (take i servers) x in
    subst (λ l. AreNoted target l old new) (sym list) all

pub servers_done : (target old new : ℕ → List Entry) (servers : List Held) (i : ℕ) → length servers ≤ i → AreNoted target (map state_of (take i servers)) old new → AreNoted target (map state_of servers) old new
servers_done target old new servers i past are = subst (λ l. AreNoted target (map state_of l) old new) (take_past servers i past) are
