-- The search finds the one log, and there is one only.
use Rattle.std.proofs.Common.{◌≡◌, ℕ, zero, suc, ◌<◌, ◌≤◌, ◌⊎◌, nat_lt, arith, refl, ap, sym, ◌∙◌, inl, inr, subst, List, take, le_antisymm}
use Rattle.tx_model.specs.declared.record.Record.{Record}
use Rattle.world_law.specs.Worlds.{WorldState}
use Rattle.world_law.specs.OneLog.{IsCommitted, IsLongestLog, IsNoLog, IsOneLog, committed_length, longest, one_log}
use Rattle.world_law.proofs.Invariant.{Holds}
use Rattle.world_law.proofs.OneLog.{split_le, top_covers, within_search, not_longer, reach_committed, either}
use Rattle.world_law.proofs.Tests.{if_each, above}

longest_small_step : (w : WorldState) (r : ℕ) → longest w r ≤ r → longest w (suc r) ≤ suc r
longest_small_step w r ih =
    if_each (λ (t : ℕ). t ≤ suc r) (nat_lt (committed_length w (longest w r)) (committed_length w (suc r))) (suc r) (longest w r) (λ e. omega arith)
    (λ e. omega arith)

longest_small : (w : WorldState) (r : ℕ) → longest w r ≤ r
longest_small w zero = omega arith
longest_small w (suc r) = longest_small_step w r (longest_small w r)

-- no session before the one that is found has as many
first_step : (w : WorldState) (s r : ℕ) → s ≤ suc r → (s ≤ r → committed_length w (longest w r) ≤ committed_length w s → longest w r ≤ s)
    → committed_length w (longest w (suc r)) ≤ committed_length w s → longest w (suc r) ≤ s
first_step w s r le ih =
    if_each (λ (t : ℕ). committed_length w t ≤ committed_length w s → t ≤ s) (nat_lt (committed_length w (longest w r)) (committed_length w (suc r)))
    (suc r) (longest w r)
    (λ e many. elim (split_le s r le) [
      | inl l ↦ (let more = above (committed_length w (longest w r)) (committed_length w (suc r)) e in let most = top_covers w s r l in absurd (omega arith))
      | inr q ↦ omega (arith, q)
    ])
    (λ e many. elim (split_le s r le) [ inl l ↦ ih l many | inr q ↦ (let small = longest_small w r in omega arith) ])

first_found : (w : WorldState) (s r : ℕ) → s ≤ r → committed_length w (longest w r) ≤ committed_length w s → longest w r ≤ s
first_found w s zero le many = omega arith
first_found w s (suc r) le many = first_step w s r le (first_found w s r) many

found_by : (w : WorldState) → Holds w → (n : ℕ) → n ≡ committed_length w (longest w w.number) → (1 ≤ n) ⊎ (n < 1) → IsOneLog w (one_log w)
found_by w h n e (inl some) = inl (record {
  session = longest w w.number;
  k = committed_length w (longest w w.number);
  longest = record {
    committed = reach_committed w h (longest w w.number) (omega (arith, e, some));
    greatest = not_longer w h;
    least = λ other c. (let f = within_search w h other (committed_length w (longest w w.number)) c in first_found w other w.number f.0 f.1);
  };
  log_is = refl;
})
found_by w h n e (inr none) = inr (record {
  none = λ s k c. (let le = not_longer w h s k c in omega (arith, e, none, le));
  log_is = ap (λ (j : ℕ). take j (w.books (longest w w.number)).log) (let z : committed_length w (longest w w.number) ≡ 0 = omega (arith, e, none) in z);
})

pub found : (w : WorldState) → Holds w → IsOneLog w (one_log w)
found w h = found_by w h (committed_length w (longest w w.number)) refl (either 1 (committed_length w (longest w w.number)))

-- ---- there is one only

same_longest : (w : WorldState) (a b : List Record) → IsLongestLog w a → IsLongestLog w b → a ≡ b
same_longest w a b f g =
    let k : f.k ≡ g.k = le_antisymm (g.longest.greatest f.session f.k f.longest.committed) (f.longest.greatest g.session g.k g.longest.committed) in
    let session : f.session ≡ g.session = le_antisymm
    (f.longest.least g.session (subst (λ (j : ℕ). IsCommitted w g.session j) (sym k) g.longest.committed))
    (g.longest.least f.session (subst (λ (j : ℕ). IsCommitted w f.session j) k f.longest.committed)) in
    f.log_is ∙ (ap (λ (j : ℕ). take j (w.books f.session).log) k ∙ (ap (λ (s : ℕ). take g.k (w.books s).log) session ∙ sym g.log_is))

none_longest : (w : WorldState) (a b : List Record) → IsLongestLog w a → IsNoLog w b → a ≡ b
none_longest w a b f g =
    let none : f.k ≡ 0 = g.none f.session f.k f.longest.committed in
    f.log_is ∙ (ap (λ (j : ℕ). take j (w.books f.session).log) none ∙ sym g.log_is)

pub one_only : (w : WorldState) (a b : List Record) → IsOneLog w a → IsOneLog w b → a ≡ b
one_only w a b (inl f) (inl g) = same_longest w a b f g
one_only w a b (inl f) (inr g) = none_longest w a b f g
one_only w a b (inr f) (inl g) = sym (none_longest w b a g f)
one_only w a b (inr f) (inr g) = f.log_is ∙ sym g.log_is
