-- Each awaited reply lessens what the nodes lack.
use Rattle.std.proofs.Common.{◌≡◌, ◌≢◌, ℕ, zero, suc, ◌<◌, ◌≤◌, length, inl, inr, ap, sym, subst, arith}
use Rattle.std.proofs.lemmas.Bool.Decides.{nat_tests}
use Rattle.std.proofs.lemmas.Bool.{cases_eq}
use Rattle.proto_model.specs.Tables.{put}
use Rattle.proto_model.specs.Servers.{ServerState}
use Rattle.server_host.specs.Lacking.{lack_at, lack_to, lack_of}

-- ---- one node lacks less, and no other one more

pub same_to : (sv sw : ServerState) (k : ℕ) → ((j : ℕ) → 1 ≤ j → j ≤ k → lack_at sw j ≤ lack_at sv j) → lack_to sw k ≤ lack_to sv k
unfolding lack_to
same_to sv sw zero each = omega arith
same_to sv sw (suc k) each =
    let here = each (suc k) (omega arith) (omega arith) in
    let rest = same_to sv sw k (λ j some low. each j some (omega (arith, low))) in
    omega (arith, here, rest)

less_to : (sv sw : ServerState) (i k : ℕ) → 1 ≤ i → i ≤ k → lack_at sw i < lack_at sv i → ((j : ℕ) → j ≢ i → lack_at sw j ≤ lack_at sv j) → lack_to sw k < lack_to sv k
unfolding lack_to
less_to sv sw i zero some low less each = absurd (omega (arith, some, low))
less_to sv sw i (suc k) some low less each = elim (cases_eq (suc k) i) [
  | inl here ↦
      (let first : lack_at sw (suc k) < lack_at sv (suc k) = subst (λ (n : ℕ). lack_at sw n < lack_at sv n) (sym here) less in
      let rest = same_to sv sw k (λ j _ within. each j (omega (arith, within, here))) in
      omega (arith, first, rest))
  | inr other ↦
      (let first = each (suc k) other in
      let rest = less_to sv sw i k some (omega (arith, low, other)) less each in
      omega (arith, first, rest))
]

pub less_at : (sv sw : ServerState) (i : ℕ) → 1 ≤ i → i ≤ 7 → sw.log ≡ sv.log → lack_at sw i < lack_at sv i → ((j : ℕ) → j ≢ i → lack_at sw j ≤ lack_at sv j) → lack_of sw < lack_of sv
less_at sv sw i some low same less each =
    let tables = less_to sv sw i 7 some low less each in
    let log : length sw.log ≡ length sv.log = ap length same in
    omega (arith, tables, log)

pub put_here : {A : Type 0} (f : ℕ → A) (i : ℕ) (x : A) → put f i x i ≡ x
put_here f i x = grind (arith, nat_tests)

pub put_there : {A : Type 0} (f : ℕ → A) (i : ℕ) (x : A) (k : ℕ) → k ≢ i → put f i x k ≡ f k
put_there f i x k ne = grind (arith, nat_tests)
