-- The one log, and that every committed log begins it.
use Rattle.std.proofs.Common.{◌≡◌, ℕ, zero, suc, ◌<◌, ◌≤◌, ◌⊎◌, nat_lt, nat_le, true, false, arith, ap, sym, ◌∙◌, inl, inr, subst, List, length, take, length-take, take-take, le_trans, true≢false}
use Rattle.proto_model.specs.Quorums.{count, quorum, reached}
use Rattle.world_law.specs.OneLog.{voted, IsCommitted, committed_length, longest, one_log}
use Rattle.world_law.specs.Safety.{IsPrefix, IsOnOneLog}
use Rattle.world_law.specs.Worlds.{Book, WorldState}
use Rattle.std.proofs.lemmas.Bool.Decides.{nat_tests}
use Rattle.tx_model.specs.Logs.{IsClean}
use Rattle.tx_model.specs.declared.record.Record.{Record}
use Rattle.world_law.proofs.CommitsStay.{committed_in}
use Rattle.world_law.proofs.Invariant.{Holds}
use Rattle.world_law.proofs.Later.{Later, Onward, committed_later}
use Rattle.world_law.proofs.Lists.{IsFront, HasIds, front_take, take_front, taken, ids_front}
use Rattle.world_law.proofs.Quorums.{counts_meet}
use Rattle.world_law.proofs.Places.{front_at, clean_front}
use Rattle.world_law.proofs.Tests.{if_each, not_above, above, within}

not_within : (a b : ℕ) → nat_le a b ≡ false → b < a
not_within a b e = grind (arith, nat_tests)

pub split_le : (k n : ℕ) → k ≤ suc n → (k ≤ n) ⊎ (k ≡ suc n)
split_le k n le = grind arith

-- what a quorum voted for is within reach
reach_step : (w : WorldState) (s k n : ℕ) → k ≤ suc n → quorum w.cluster.nodes ≤ count (voted w.votes s k) w.cluster.nodes
    → (k ≤ n → k ≤ reached w.cluster.nodes (voted w.votes s) n) → k ≤ reached w.cluster.nodes (voted w.votes s) (suc n)
reach_step w s k n le enough ih =
    if_each (λ (m : ℕ). k ≤ m) (nat_le (quorum w.cluster.nodes) (count (voted w.votes s (suc n)) w.cluster.nodes)) (suc n)
    (reached w.cluster.nodes (voted w.votes s) n) (λ e. le)
    (λ e. elim (split_le k n le) [
      | inl l ↦ ih l
      | inr q ↦ (let few = not_within (quorum w.cluster.nodes) (count (voted w.votes s (suc n)) w.cluster.nodes) e in
          let many = subst (λ (j : ℕ). quorum w.cluster.nodes ≤ count (voted w.votes s j) w.cluster.nodes) q enough in absurd (omega arith))
    ])

reach_covers : (w : WorldState) (s k n : ℕ) → k ≤ n → quorum w.cluster.nodes ≤ count (voted w.votes s k) w.cluster.nodes
    → k ≤ reached w.cluster.nodes (voted w.votes s) n
reach_covers w s k zero le enough = le
reach_covers w s k (suc n) le enough = reach_step w s k n le enough (λ l. reach_covers w s k n l enough)

reach_enough_step : (w : WorldState) (s n : ℕ)
    → (0 < reached w.cluster.nodes (voted w.votes s) n
    → quorum w.cluster.nodes ≤ count (voted w.votes s (reached w.cluster.nodes (voted w.votes s) n)) w.cluster.nodes)
    → 0 < reached w.cluster.nodes (voted w.votes s) (suc n)
    → quorum w.cluster.nodes ≤ count (voted w.votes s (reached w.cluster.nodes (voted w.votes s) (suc n))) w.cluster.nodes
reach_enough_step w s n ih =
    if_each (λ (m : ℕ). 0 < m → quorum w.cluster.nodes ≤ count (voted w.votes s m) w.cluster.nodes)
    (nat_le (quorum w.cluster.nodes) (count (voted w.votes s (suc n)) w.cluster.nodes)) (suc n) (reached w.cluster.nodes (voted w.votes s) n)
    (λ e some. within (quorum w.cluster.nodes) (count (voted w.votes s (suc n)) w.cluster.nodes) e) (λ e. ih)

reach_enough : (w : WorldState) (s n : ℕ) → 0 < reached w.cluster.nodes (voted w.votes s) n
    → quorum w.cluster.nodes ≤ count (voted w.votes s (reached w.cluster.nodes (voted w.votes s) n)) w.cluster.nodes
reach_enough w s zero some = absurd (omega arith)
reach_enough w s (suc n) some = reach_enough_step w s n (reach_enough w s n) some

top_step : (w : WorldState) (s r : ℕ) → s ≤ suc r → (s ≤ r → committed_length w s ≤ committed_length w (longest w r))
    → committed_length w s ≤ committed_length w (longest w (suc r))
top_step w s r le ih =
    if_each (λ (t : ℕ). committed_length w s ≤ committed_length w t) (nat_lt (committed_length w (longest w r)) (committed_length w (suc r))) (suc r)
    (longest w r)
    (λ e. (let lt = above (committed_length w (longest w r)) (committed_length w (suc r)) e in
    elim (split_le s r le) [
      | inl l ↦ le_trans (ih l) (omega arith)
      | inr q ↦ subst (λ (t : ℕ). committed_length w s ≤ committed_length w t) q (omega arith)
    ]))
    (λ e. (let ge = not_above (committed_length w (longest w r)) (committed_length w (suc r)) e in
    elim (split_le s r le) [
      | inl l ↦ ih l
      | inr q ↦ subst (λ (t : ℕ). committed_length w t ≤ committed_length w (longest w r)) (sym q) ge
    ]))

pub top_covers : (w : WorldState) (s r : ℕ) → s ≤ r → committed_length w s ≤ committed_length w (longest w r)
top_covers w s zero le = subst (λ (t : ℕ). committed_length w t ≤ committed_length w 0) (let z : 0 ≡ s = omega arith in z) (omega arith)
top_covers w s (suc r) le = top_step w s r le (top_covers w s r)

-- only a session that came to repairing has a vote
some_session : (w : WorldState) → Holds w → (s : ℕ) → (w.books s).repaired ≡ true → 1 ≤ s
some_session w h zero came = absurd (true≢false (sym came ∙ ap (λ (b : Book). b.repaired) h.none))
some_session w h (suc s) came = omega arith

known_session : (w : WorldState) → Holds w → (s : ℕ) → (w.books s).repaired ≡ true → (s ≤ w.number) ⊎ (w.number < s) → s ≤ w.number
known_session w h s came (inl le) = le
known_session w h s came (inr lt) = absurd (true≢false (sym came ∙ ap (λ (b : Book). b.repaired) (h.unused s lt)))

pub voted_by : (w : WorldState) → Holds w → (s k : ℕ) → quorum w.cluster.nodes ≤ count (voted w.votes s k) w.cluster.nodes
    → ((w.books s).repaired ≡ true) × (k ≤ length (w.books s).log)
voted_by w h s k enough =
    let m = counts_meet w.cluster.nodes (voted w.votes s k) (voted w.votes s k) (omega arith) in
    let f = h.votes m.0 s k m.2 in
    (f.repaired, f.fits)

pub reach_committed : (w : WorldState) → Holds w → (s : ℕ) → 0 < committed_length w s → IsCommitted w s (committed_length w s)
reach_committed w h s some =
    let enough = reach_enough w s (length (w.books s).log) some in
    record { some = some_session w h s (voted_by w h s (committed_length w s) enough).0; enough = enough }

pub either : (a b : ℕ) → (a ≤ b) ⊎ (b < a)
either a b = grind arith

-- the first k records of s and of the session of the greatest reach
joint : (w : WorldState) → Holds w → (s k t n : ℕ) → IsCommitted w s k → IsCommitted w t n → k ≤ n → (s ≤ t) ⊎ (t < s)
    → take k (w.books s).log ≡ take k (w.books t).log
joint w h s k t n c d le (inl st) = (committed_in w h s k t c st (voted_by w h t n d.enough).0).0
joint w h s k t n c d le (inr ts) =
    let e = (committed_in w h t n s d (omega arith) (voted_by w h s k c.enough).0).0 in
    sym (take-take k n (w.books s).log le) ∙ sym (ap (take k) e) ∙ take-take k n (w.books t).log le

front_of : (k n : ℕ) (xs ys : List Record) → k ≤ n → k ≤ length xs → n ≤ length ys → take k xs ≡ take k ys
    → IsFront (take k xs) (take n ys)
front_of k n xs ys le fits fits' e =
    let l : length (take k xs) ≡ k = omega (arith, length-take k xs) in
    take_front (take k xs) (take n ys) (omega (arith, length-take k xs, length-take n ys))
    (e ∙ sym (take-take k n ys le) ∙ ap (λ (j : ℕ). take j (take n ys)) (sym l))

in_one_log_at : (w : WorldState) → Holds w → (s k : ℕ) → IsCommitted w s k → (t : ℕ) → k ≤ committed_length w t
    → k ≤ length (w.books s).log → (1 ≤ k) ⊎ (k < 1) → IsFront (take k (w.books s).log) (take (committed_length w t) (w.books t).log)
in_one_log_at w h s k c t le fits (inl some) =
    let d = reach_committed w h t (omega arith) in
    front_of k (committed_length w t) (w.books s).log (w.books t).log le fits (voted_by w h t (committed_length w t) d.enough).1
    (joint w h s k t (committed_length w t) c d le (either s t))
in_one_log_at w h s k c t le fits (inr none) =
    let z : k ≡ 0 = omega arith in
    subst (λ (j : ℕ). IsFront (take j (w.books s).log) (take (committed_length w t) (w.books t).log)) (sym z)
    (record { fits = omega arith; same = λ i d lt. absurd (omega arith) })

-- what is committed is within what the search finds
pub within_search : (w : WorldState) → Holds w → (s k : ℕ) → IsCommitted w s k → (s ≤ w.number) × (k ≤ committed_length w s)
within_search w h s k c =
    let v = voted_by w h s k c.enough in
    (known_session w h s v.0 (either s w.number), reach_covers w s k (length (w.books s).log) v.1 c.enough)

pub not_longer : (w : WorldState) → Holds w → (s k : ℕ) → IsCommitted w s k → k ≤ committed_length w (longest w w.number)
not_longer w h s k c =
    let f = within_search w h s k c in
    le_trans f.1 (top_covers w s w.number f.0)

pub in_one_log : (w : WorldState) → Holds w → (s k : ℕ) → IsCommitted w s k → IsFront (take k (w.books s).log) (one_log w)
in_one_log w h s k c =
    let t = longest w w.number in
    in_one_log_at w h s k c t (not_longer w h s k c) (voted_by w h s k c.enough).1 (either 1 k)

pub begins_of : (xs ys : List Record) → IsFront xs ys → IsPrefix xs ys
begins_of xs ys f = record { fits = f.fits; same = sym (front_take xs ys f) }

-- all committed logs are prefixes of the one log
pub committed_safe : (w : WorldState) → Holds w → (s k : ℕ) → IsCommitted w s k → IsOnOneLog w s k
committed_safe w h s k c = record { fits = (voted_by w h s k c.enough).1; begins = begins_of (take k (w.books s).log) (one_log w) (in_one_log w h s k c) }

-- the one log is the beginning of a book
pub one_log_front : (w : WorldState) → IsFront (one_log w) (w.books (longest w w.number)).log
one_log_front w = taken (w.books (longest w w.number)).log (committed_length w (longest w w.number))

pub one_log_clean : (w : WorldState) → Holds w → IsClean (one_log w)
one_log_clean w h = clean_front (one_log w) (w.books (longest w w.number)).log (one_log_front w) (h.clean (longest w w.number))

pub one_log_ids : (w : WorldState) → Holds w → HasIds (one_log w)
one_log_ids w h = ids_front (one_log w) (w.books (longest w w.number)).log (one_log_front w) (h.ids (longest w w.number))

-- the one log only grows
grown_at : (w new : WorldState) → Holds w → Holds new → Later w new → (t n : ℕ) → (1 ≤ n) ⊎ (n < 1) → (1 ≤ n → IsCommitted w t n)
    → n ≤ length (w.books t).log → IsFront (take n (w.books t).log) (one_log new)
grown_at w new h g l t n (inl some) c fits =
    subst (λ (xs : List Record). IsFront xs (one_log new)) (front_at n (w.books t).log (new.books t).log (l.grown t) fits)
    (in_one_log new g t n (committed_later w new l t n (c some)))
grown_at w new h g l t n (inr none) c fits =
    let z : n ≡ 0 = omega arith in
    subst (λ (j : ℕ). IsFront (take j (w.books t).log) (one_log new)) (sym z) (record { fits = omega arith; same = λ i d lt. absurd (omega arith) })

reach_fits_step : (w : WorldState) (s n : ℕ) → reached w.cluster.nodes (voted w.votes s) n ≤ n
    → reached w.cluster.nodes (voted w.votes s) (suc n) ≤ suc n
reach_fits_step w s n ih =
    if_each (λ (m : ℕ). m ≤ suc n) (nat_le (quorum w.cluster.nodes) (count (voted w.votes s (suc n)) w.cluster.nodes)) (suc n)
    (reached w.cluster.nodes (voted w.votes s) n) (λ e. omega arith) (λ e. omega arith)

reach_fits : (w : WorldState) (s n : ℕ) → reached w.cluster.nodes (voted w.votes s) n ≤ n
reach_fits w s zero = omega arith
reach_fits w s (suc n) = reach_fits_step w s n (reach_fits w s n)

pub one_log_grows : (w new : WorldState) → Holds w → Onward w new → IsFront (one_log w) (one_log new)
one_log_grows w new h o =
    let t = longest w w.number in
    grown_at w new h o.holds o.later t (committed_length w t) (either 1 (committed_length w t)) (λ some. reach_committed w h t some)
    (reach_fits w t (length (w.books t).log))
