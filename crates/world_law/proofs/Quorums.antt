-- Quorums of the same nodes meet.
use Rattle.std.proofs.Common.{◌≡◌, ℕ, zero, suc, ◌+◌, ◌<◌, ◌≤◌, ◌⊎◌, Bool, true, false, arith, refl, inl, inr, subst}
use Rattle.proto_model.specs.Quorums.{count, quorum}
use Rattle.proto_model.specs.Tables.{put}
use Rattle.world_law.proofs.Tables.{put_same, put_other}

-- i is one of the nodes 1 to n
pub record IsNode (n i : ℕ) : Type 0 where
  pub some : 1 ≤ i
  pub fits : i ≤ n

abbrev pub MeetAt : ℕ → (ℕ → Bool) → (ℕ → Bool) → Type 0
MeetAt n p r = quorum n ≤ count p n → quorum n ≤ count r n → (i : ℕ) × IsNode n i × (p i ≡ true) × (r i ≡ true)

-- a node that passes both tests
abbrev pub Shared : ℕ → (ℕ → Bool) → (ℕ → Bool) → Type 0
Shared n p r = (i : ℕ) × IsNode n i × (p i ≡ true) × (r i ≡ true)

wider : (n : ℕ) (p r : ℕ → Bool) → Shared n p r → Shared (suc n) p r
wider n p r m = (let k = m.1 in (m.0, record { some = k.some; fits = omega arith }, m.2, m.3))

pub here : (n : ℕ) → IsNode (suc n) (suc n)
here n = record { some = omega arith; fits = omega arith }

pub step : (n : ℕ) (p r : ℕ → Bool) → (n < count p n + count r n → Shared n p r) → suc n < count p (suc n) + count r (suc n)
    → Shared (suc n) p r
step n p r ih h = grind (arith, wider, here)

-- two counts that are more than n together share a number
pub counts_meet : (n : ℕ) (p r : ℕ → Bool) → n < count p n + count r n → Shared n p r
counts_meet zero p r h = absurd (omega arith)
counts_meet (suc n) p r h = step n p r (counts_meet n p r) h

pub quorums_meet : (n : ℕ) (p r : ℕ → Bool) → MeetAt n p r
quorums_meet n p r hp hr = counts_meet n p r (omega arith)

-- one more is counted
count_put_above : (f : ℕ → Bool) (i n : ℕ) → n < i → count (put f i true) n ≡ count f n
count_put_above f i zero le = refl
count_put_above f i (suc n) le =
    let other : put f i true (suc n) ≡ f (suc n) = put_other f i true (suc n) (λ e. absurd (omega (arith, e))) in
    let ih = count_put_above f i n (omega arith) in
    rw (other, ih) refl

count_put_at : (f : ℕ → Bool) (i n : ℕ) → f i ≡ false → (i ≤ n) ⊎ (i ≡ suc n) → (i ≤ n → count (put f i true) n ≡ count f n + 1)
    → count (put f i true) (suc n) ≡ count f (suc n) + 1
count_put_at f i n e (inl le) ih =
    let other : put f i true (suc n) ≡ f (suc n) = put_other f i true (suc n) (λ q. absurd (omega (arith, q))) in
    rw (other, ih le) (omega arith)
count_put_at f i n e (inr q) ih =
    let own : put f i true (suc n) ≡ true = subst (λ (k : ℕ). put f i true k ≡ true) q (put_same f i true) in
    let was : f (suc n) ≡ false = subst (λ (k : ℕ). f k ≡ false) q e in
    rw (own, was, count_put_above f i n (omega arith)) (omega arith)

within_or_at : (i n : ℕ) → i ≤ suc n → (i ≤ n) ⊎ (i ≡ suc n)
within_or_at i n le = grind arith

count_put_to : (f : ℕ → Bool) (i n : ℕ) → f i ≡ false → 1 ≤ i → i ≤ n → count (put f i true) n ≡ count f n + 1
count_put_to f i zero e some le = absurd (omega arith)
count_put_to f i (suc n) e some le = count_put_at f i n e (within_or_at i n le) (λ l. count_put_to f i n e some l)

pub count_put : (f : ℕ → Bool) (i n : ℕ) → f i ≡ false → IsNode n i → count (put f i true) n ≡ count f n + 1
count_put f i n e k = count_put_to f i n e k.some k.fits
