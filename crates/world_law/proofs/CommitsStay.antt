-- What is committed stands in each later book.
use Rattle.std.proofs.Common.{◌≡◌, ℕ, zero, suc, ◌<◌, ◌≤◌, ◌⊎◌, true, arith, ap, sym, ◌∙◌, inl, inr, length, take, take-take, Some}
use Rattle.proto_model.specs.declared.message.Report.{Report}
use Rattle.world_law.specs.OneLog.{voted, IsCommitted}
use Rattle.world_law.specs.Worlds.{WorldState}
use Rattle.world_law.proofs.Invariant.{ChoiceFacts, Holds, Agreement}
use Rattle.world_law.proofs.Quorums.{Shared, counts_meet}

-- what a chosen log of len records of the book c has of k committed ones of s
pub record Within (w : WorldState) (s k c len : ℕ) : Type 0 where
  pub long : k ≤ len
  pub same : take k (w.books s).log ≡ take k (w.books c).log

-- the later session's book goes on from its chosen log
pub carried : (w : WorldState) (s k c t lenc len : ℕ) → Within w s k c lenc → take lenc (w.books t).log ≡ take lenc (w.books c).log → lenc ≤ len
    → Within w s k t len
carried w s k c t lenc len h e le = record {
  long = omega (arith, h.long);
  same = h.same ∙ sym (take-take k lenc (w.books c).log h.long) ∙ sym (ap (take k) e) ∙ take-take k lenc (w.books t).log h.long;
}

-- the member of a commit in s that is in the choice's quorum
shared_member : (w : WorldState) (s k c len t : ℕ) → IsCommitted w s k → (f : ChoiceFacts w t c len)
    → Shared w.cluster.nodes (voted w.votes s k) f.members
shared_member w s k c len t committed f =
    counts_meet w.cluster.nodes (voted w.votes s k) f.members (let a = committed.enough in let b = f.enough in omega arith)

order : (a b : ℕ) → (a < b) ⊎ ((a ≡ b) ⊎ (b < a))
order a b = grind arith

-- where that member's vote is in the chosen session itself
at_chosen : (w : WorldState) (s k t c len i : ℕ) (f : ChoiceFacts w t c len) → s ≡ c → voted w.votes s k i ≡ true → f.members i ≡ true
    → Within w s k c len
at_chosen w s k t c len i f e vote member = record {
  long = f.longest i k member (rw e at vote);
  same = rw e;
}

-- where it is in an earlier one
at_earlier : (w : WorldState) → Holds w → (s k t c len : ℕ) → ChoiceFacts w t c len → (0 < c)
    → ((r : Report) → (w.books c).choice ≡ Some r → Within w s k r.adopted r.length) → Within w s k c len
at_earlier w h s k t c len f some earlier =
    let came : (w.books c).repaired ≡ true = grind (arith, f.came) in
    let r = h.repaired c came in
    let grows : r.0.length ≤ len = grind (arith, f.grows, r.1) in
    carried w s k r.0.adopted c r.0.length len (earlier r.0 r.1) (h.kept c r.0 r.1 came).same grows

from_member : (w : WorldState) → Holds w → (s k t c len : ℕ) → IsCommitted w s k → s < t → (f : ChoiceFacts w t c len)
    → (s < c → (r : Report) → (w.books c).choice ≡ Some r → Within w s k r.adopted r.length)
    → Within w s k c len
from_member w h s k t c len committed st f earlier =
    let m = shared_member w s k c len t committed f in
    elim (order s c) [
      | inl lt ↦ at_earlier w h s k t c len f (omega arith) (earlier lt)
      | inr (inl e) ↦ at_chosen w s k t c len m.0 f e m.2 m.3
      | inr (inr gt) ↦ (let silent = f.silent m.0 s k m.3 gt st in let vote = m.2 in grind arith)
    ]

-- by the bound on the later session
pub within : (w : WorldState) → Holds w → (s k : ℕ) → IsCommitted w s k → (bound t : ℕ) → t < bound → s < t → (r : Report)
    → (w.books t).choice ≡ Some r → Within w s k r.adopted r.length
within w h s k committed zero t lt st r e = absurd (omega arith)
within w h s k committed (suc bound) t lt st r e =
    let f = h.choices t r e in
    from_member w h s k t r.adopted r.length committed st f (λ sc r' e'. within w h s k committed bound r.adopted (omega (arith, f.before)) sc r' e')

pub agreement : (w : WorldState) → Holds w → Agreement w
agreement w h s k t committed st came =
    let r = h.repaired t came in
    let f = h.choices t r.0 r.1 in
    let m = shared_member w s k r.0.adopted r.0.length t committed f in
    let l = within w h s k committed (suc t) t (omega arith) st r.0 r.1 in
    record {
      fits = (h.votes m.0 s k m.2).fits;
      long = rw r.1 l.long;
      same = rw r.1 (l.same ∙ sym (take-take k r.0.length (w.books r.0.adopted).log l.long));
    }

-- a commit has a vote
member_of : (w : WorldState) (s k : ℕ) → IsCommitted w s k → Shared w.cluster.nodes (voted w.votes s k) (voted w.votes s k)
member_of w s k c = counts_meet w.cluster.nodes (voted w.votes s k) (voted w.votes s k) (let a = c.enough in omega arith)

-- what is committed stands in each later book
pub committed_in : (w : WorldState) → Holds w → (s k t : ℕ) → IsCommitted w s k → s ≤ t → (w.books t).repaired ≡ true
    → (take k (w.books s).log ≡ take k (w.books t).log) × (k ≤ length (w.books s).log)
committed_in w h s k t committed le came =
    let r = h.repaired t came in
    let f = h.choices t r.0 r.1 in
    elim (order s t) [
      | inl lt ↦
          (let a = agreement w h s k t committed lt came in
          let g = h.kept t r.0 r.1 came in
          let long : k ≤ r.0.length = rw r.1 at a.long in
          let l : Within w s k r.0.adopted r.0.length = record {
            long = long;
            same = (let e = rw r.1 at a.same in e ∙ take-take k r.0.length (w.books r.0.adopted).log long);
          } in
          ((carried w s k r.0.adopted t r.0.length r.0.length l g.same (omega arith)).same, a.fits))
      | inr (inl e) ↦ (let m = member_of w s k committed in (rw e, (h.votes m.0 s k m.2).fits))
      | inr (inr gt) ↦ absurd (omega arith)
    ]
