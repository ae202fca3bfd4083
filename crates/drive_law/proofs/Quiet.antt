-- A round in which nothing is sent.
use Rattle.std.proofs.Common.{◌≡◌, ℕ, zero, suc, ◌+◌, ◌<◌, ◌≤◌, ◌⊎◌, ◌||◌, ◌&&◌, not, nat_le, nat_lt, if◌then◌else◌, Bool, true, false, List, length, Option, Some, None, refl, sym, subst, ◌∙◌, inl, inr, arith}
use Rattle.std.proofs.lemmas.Bool.Decides.{nat_tests}
use Rattle.std.proofs.lemmas.Bool.{cases_eq}
use Rattle.proto_model.specs.declared.message.Phase.{Phase}
use Rattle.proto_model.specs.declared.message.Phase.TheVariants.{Running}
use Rattle.proto_model.specs.declared.message.ToNode.{ToNode}
use Rattle.proto_model.specs.Quorums.{count, quorum, reached}
use Rattle.proto_model.specs.Servers.{Config, ServerState, chosen_len, commit_mark, holds}
use Rattle.proto_model.specs.Sending.{next_message, message_in, chosen_message, append_message, repair_message}
use Rattle.server_loop.specs.Drives.{Driving, IsInRound, IsVisit, at_start, visited, is_in, is_closed}
use Rattle.drive_law.specs.Causes.{PendingHasItsCause}

-- it takes no part, or there is no message for it
abbrev pub IsQuiet : Config → Driving → ℕ → Type 0
IsQuiet c a i = (is_in a.outs i ≡ false) ⊎ (next_message c a.state i ≡ None)

pub record IsQuietUpTo (c : Config) (a d : Driving) (k : ℕ) : Type 0 where
  pub same : d ≡ a
  pub each : (i : ℕ) → 1 ≤ i → i ≤ k → IsQuiet c a i

or_false : (a b : Bool) → (a || b) ≡ false → (a ≡ false) × (b ≡ false)
or_false false b h = (refl, h)
or_false true b h = absurd (let e : true ≡ false = h in cc)

passed : (c : Config) (ports : List ℕ) (i : ℕ) (more : Bool) (b d : Driving) → more ≡ false → IsVisit c ports i more b d → (d ≡ b) × IsQuiet c b i
passed c ports i false b d e visit = visit
passed c ports i true b d e visit = absurd (let f : true ≡ false = e in cc)

one_more : (c : Config) (a b d : Driving) (k : ℕ) → IsQuietUpTo c a b k → (d ≡ b) × IsQuiet c b (k + 1) → IsQuietUpTo c a d (k + 1)
one_more c a b d k quiet last = record {
  same = last.0 ∙ quiet.same;
  each = λ i some low. elim (cases_eq i (k + 1)) [
    | inl here ↦ rw here (subst (λ (x : Driving). IsQuiet c x (k + 1)) quiet.same last.1)
    | inr other ↦ quiet.each i some (omega (arith, other, low))
  ];
}

pub quiet : (c : Config) (ports : List ℕ) (a : Driving) (k : ℕ) (sent : Bool) (d : Driving) → IsInRound c ports a k sent d → sent ≡ false → IsQuietUpTo c a d k
quiet c ports a _ _ _ at_start e = record { same = refl; each = λ i some low. absurd (omega (arith, some, low)) }
quiet c ports a _ _ _ (visited k sent more b d round works visit) e =
    let both = or_false sent more e in
    one_more c a b d k (quiet c ports a k sent b round both.0) (passed c ports (k + 1) more b d both.1 visit)

-- ---- a running server has no message for a node only where the node holds its log

pub if_none : (b : Bool) (x : ToNode) (y : Option ToNode) → (if b then Some x else y) ≡ None → (b ≡ false) × (y ≡ None)
if_none true x y h = absurd (let e : Some x ≡ None = h in cc)
if_none false x y h = (refl, h)

pub some_repair : (b : Bool) (x y : ToNode) → (if b then Some x else Some y) ≡ None → ⊥
some_repair true x y h = let e : Some x ≡ None = h in cc
some_repair false x y h = let e : Some y ≡ None = h in cc

pub adopted_row : (b : Bool) (x y : Option ToNode) → (if b then x else y) ≡ None → (y ≡ None → ⊥) → (b ≡ true) × (x ≡ None)
adopted_row true x y h not = (refl, h)
adopted_row false x y h not = absurd (not h)

held_row : (adopted : Bool) (last acked : ℕ) → adopted ≡ true → nat_lt acked last ≡ false → (adopted && nat_le last acked) ≡ true
held_row adopted last acked e f = grind (arith, nat_tests)

message_none : (c : Config) (sv : ServerState) (i : ℕ) (phase : Phase) → sv.phase ≡ phase → phase ≡ Running → message_in phase c sv i ≡ None → chosen_message c sv i ≡ None
message_none c sv i phase is e none = subst (λ (p : Phase). message_in p c sv i ≡ None) e none

none_holds : (c : Config) (sv : ServerState) (i : ℕ) → sv.phase ≡ Running → next_message c sv i ≡ None → holds sv (length sv.log) i ≡ true
none_holds c sv i running none =
    let chosen = message_none c sv i sv.phase refl running none in
    let rest = (if_none (not (sv.reported i)) _ _ chosen).1 in
    let adopted = adopted_row (sv.adopted i) (append_message c sv i) (repair_message c sv i) rest (some_repair (nat_lt (sv.staged i) (chosen_len c sv)) _ _) in
    let acked = (if_none (nat_lt (sv.acked i) (length sv.log)) _ _ adopted.1).0 in
    held_row (sv.adopted i) (length sv.log) (sv.acked i) adopted.0 acked

-- ---- counting

count_row : (p q : Bool) (m n : ℕ) → (p ≡ true → q ≡ true) → m ≤ n → (if p then 1 else 0) + m ≤ (if q then 1 else 0) + n
count_row true true m n h le = omega (arith, le)
count_row true false m n h le = absurd (let e : false ≡ true = h refl in cc)
count_row false true m n h le = omega (arith, le)
count_row false false m n h le = omega (arith, le)

pub counts : (p q : ℕ → Bool) (n : ℕ) → ((i : ℕ) → 1 ≤ i → i ≤ n → p i ≡ true → q i ≡ true) → count p n ≤ count q n
counts p q zero h = omega arith
counts p q (suc n) h = count_row (p (suc n)) (q (suc n)) (count p n) (count q n) (h (suc n) (omega arith) (omega arith)) (counts p q n (λ i some low. h i some (omega (arith, low))))

reached_top : (n : ℕ) (reaches : ℕ → ℕ → Bool) (k : ℕ) → reached n reaches k < k → count (reaches k) n < quorum n
reached_top n reaches zero h = absurd (omega (arith, h))
reached_top n reaches (suc k) h = elim_top n (count (reaches (suc k)) n) (suc k) (reached n reaches k) (nat_le (quorum n) (count (reaches (suc k)) n)) refl h
  where
    elim_top : (n m top rest : ℕ) (b : Bool) → nat_le (quorum n) m ≡ b → (if b then top else rest) < top → m < quorum n
    elim_top n m top rest true e h = absurd (let f : top < top = h in omega (arith, f))
    elim_top n m top rest false e h = grind (arith, nat_tests, e)

in_holds : (c : Config) (d : Driving) (i : ℕ) → d.state.phase ≡ Running → IsQuiet c d i → is_in d.outs i ≡ true → holds d.state (length d.state.log) i ≡ true
in_holds c d i running (inl out) is = absurd (let e : false ≡ true = sym out ∙ is in cc)
in_holds c d i running (inr none) is = none_holds c d.state i running none

few_in : (c : Config) (d : Driving) → d.state.phase ≡ Running → ((i : ℕ) → 1 ≤ i → i ≤ c.nodes → IsQuiet c d i) → commit_mark c d.state < length d.state.log → count (is_in d.outs) c.nodes < quorum c.nodes
few_in c d running each below =
    let top = reached_top c.nodes (holds d.state) (length d.state.log) below in
    let less = counts (is_in d.outs) (holds d.state (length d.state.log)) c.nodes (λ i some low. in_holds c d i running (each i some low)) in
    omega (arith, top, less)

not_closed : (phase : Phase) → phase ≡ Running → is_closed phase ≡ true → ⊥
not_closed phase e h = let f : is_closed Running ≡ true = subst (λ (p : Phase). is_closed p ≡ true) e h in let g : false ≡ true = f in cc

pub pending : PendingHasItsCause
pending c ports a d drive running below = elim drive.ends [
  | inl silent ↦
      (let up = quiet c ports drive.before c.nodes false d silent refl in
      few_in c d running (λ i some low. subst (λ (x : Driving). IsQuiet c x i) (sym up.same) (up.each i some low)) below)
  | inr closed ↦ absurd (not_closed d.state.phase running closed.closed)
]
