-- Counts of nodes, and commit marks.
use Rattle.std.proofs.Common.{◌≡◌, ℕ, zero, suc, ◌+◌, ◌<◌, ◌≤◌, nat_le, ◌&&◌, ◌==◌, if◌then◌else◌, Bool, true, false, ◌⊎◌, inl, inr, List, [], ◌∷◌, refl, ap, ◌∙◌, arith}
use Rattle.std.proofs.lemmas.Bool.Decides.{nat_tests}
use Rattle.std.proofs.lemmas.Bool.{cases_lt, cases_eq}
use Rattle.proto_model.specs.Quorums.{count, quorum, reached}
use Rattle.quorum_append.specs.Acknowledgements.{Ack, has_acked, IsCommitMark, AreWithin, MarksAreFound}

one_more : (a b : Bool) (m n : ℕ) → m ≤ n → (a ≡ true → b ≡ true) → (if a then 1 else 0) + m ≤ (if b then 1 else 0) + n
one_more true true m n h k = omega arith
one_more true false m n h k = absurd (let e : false ≡ true = k refl in cc)
one_more false true m n h k = omega arith
one_more false false m n h k = omega arith

-- numbers of which one test passes all that the other does
pub count-mono : (p r : ℕ → Bool) (n : ℕ) → ((i : ℕ) → 1 ≤ i → i ≤ n → p i ≡ true → r i ≡ true) → count p n ≤ count r n
count-mono p r zero h = omega arith
count-mono p r (suc n) h =
    let rest : count p n ≤ count r n = count-mono p r n (λ i a b e. h i a (omega arith) e) in
    let here : p (suc n) ≡ true → r (suc n) ≡ true = h (suc n) (omega arith) (omega arith) in
    one_more (p (suc n)) (r (suc n)) (count p n) (count r n) rest here

pub count-same : (p r : ℕ → Bool) (n : ℕ) → ((i : ℕ) → 1 ≤ i → i ≤ n → p i ≡ r i) → count p n ≡ count r n
count-same p r zero h = refl
count-same p r (suc n) h =
    let rest : count p n ≡ count r n = count-same p r n (λ i a b. h i a (omega arith)) in
    let here : p (suc n) ≡ r (suc n) = h (suc n) (omega arith) (omega arith) in
    rw (rest, here) refl

pub none_counted : (p : ℕ → Bool) (n : ℕ) → ((j : ℕ) → 1 ≤ j → j ≤ n → p j ≡ false) → count p n ≡ 0
none_counted p zero h = refl
none_counted p (suc n) h =
    let here : p (suc n) ≡ false = h (suc n) (omega arith) (omega arith) in
    let rest : count p n ≡ 0 = none_counted p n (λ j a b. h j a (omega arith)) in
    rw (here, rest) refl

-- ---- of the nodes that pass, one with the least number

record Least (p : ℕ → Bool) (f : ℕ → ℕ) (n : ℕ) : Type 0 where
  pub node : ℕ
  pub some : 1 ≤ node
  pub within : node ≤ n
  pub passes : p node ≡ true
  pub least : (j : ℕ) → 1 ≤ j → j ≤ n → p j ≡ true → f node ≤ f j

last_or_before : (j n : ℕ) → j ≤ suc n → (j ≡ suc n) ⊎ (j ≤ n)
last_or_before j n h = elim (cases_eq j (suc n)) [ inl e ↦ inl e | inr e ↦ inr (omega arith) ]

least_step : (p : ℕ → Bool) (f : ℕ → ℕ) (n : ℕ) (b : Bool) → p (suc n) ≡ b → Least p f n ⊎ ((j : ℕ) → 1 ≤ j → j ≤ n → p j ≡ false) → Least p f (suc n) ⊎ ((j : ℕ) → 1 ≤ j → j ≤ suc n → p j ≡ false)
least_step p f n true e (inr none) = inl (record {
  node = suc n;
  some = omega arith;
  within = omega arith;
  passes = e;
  least = λ j a b h. elim (last_or_before j n b) [ inl same ↦ (rw same (omega arith)) | inr low ↦ absurd (let q : p j ≡ false = none j a low in cc) ];
})
least_step p f n true e (inl l) = elim (cases_lt (f (suc n)) (f l.node)) [
  | inl less ↦ inl (record {
    node = suc n;
    some = omega arith;
    within = omega arith;
    passes = e;
    least = λ j a b h. elim (last_or_before j n b) [ inl same ↦ (rw same (omega arith)) | inr low ↦ (let k = l.least j a low h in omega arith) ];
  })
  | inr more ↦ inl (record {
    node = l.node;
    some = l.some;
    within = omega arith;
    passes = l.passes;
    least = λ j a b h. elim (last_or_before j n b) [ inl same ↦ (rw same (omega arith)) | inr low ↦ l.least j a low h ];
  })
]
least_step p f n false e (inr none) = inr (λ j a b. elim (last_or_before j n b) [ inl same ↦ (rw same e) | inr low ↦ none j a low ])
least_step p f n false e (inl l) = inl (record {
  node = l.node;
  some = l.some;
  within = omega arith;
  passes = l.passes;
  least = λ j a b h. elim (last_or_before j n b) [ inl same ↦ absurd (let q : p j ≡ false = ap p same ∙ e in cc) | inr low ↦ l.least j a low h ];
})

least_or_none : (p : ℕ → Bool) (f : ℕ → ℕ) (n : ℕ) → Least p f n ⊎ ((j : ℕ) → 1 ≤ j → j ≤ n → p j ≡ false)
least_or_none p f zero = inr (λ j a b. absurd (omega arith))
least_or_none p f (suc n) = least_step p f n (p (suc n)) refl (least_or_none p f n)

-- ---- marks

-- the test passes exactly the numbers up to what the node's value is, where it has one
pub record Tests (reaches : ℕ → ℕ → Bool) (heard : ℕ → Bool) (lens : ℕ → ℕ) : Type 0 where
  pub parts : (k i : ℕ) → reaches k i ≡ true → (heard i ≡ true) × (k ≤ lens i)
  pub whole : (k i : ℕ) → heard i ≡ true → k ≤ lens i → reaches k i ≡ true

-- m is the greatest number that a quorum of n nodes reaches, or 0
pub record IsMark (n : ℕ) (reaches : ℕ → ℕ → Bool) (m : ℕ) : Type 0 where
  pub held : 0 < m → quorum n ≤ count (reaches m) n
  pub most : (k : ℕ) → quorum n ≤ count (reaches k) n → k ≤ m

mark_least : (reaches : ℕ → ℕ → Bool) (heard : ℕ → Bool) (lens : ℕ → ℕ) (n m : ℕ) → Tests reaches heard lens →
    ((j : ℕ) → 1 ≤ j → j ≤ n → heard j ≡ true → quorum n ≤ count (reaches (lens j)) n → lens j ≤ m) →
    (k : ℕ) → quorum n ≤ count (reaches k) n → Least (reaches k) lens n ⊎ ((j : ℕ) → 1 ≤ j → j ≤ n → reaches k j ≡ false) → k ≤ m
mark_least reaches heard lens n m tests most k q (inr none) = let e = none_counted (reaches k) n none in absurd (omega (arith, e, q))
mark_least reaches heard lens n m tests most k q (inl l) =
    let mine = tests.parts k l.node l.passes in
    let more : count (reaches k) n ≤ count (reaches (lens l.node)) n =
    count-mono (reaches k) (reaches (lens l.node)) n (λ i p r e. tests.whole (lens l.node) i (tests.parts k i e).0 (l.least i p r e)) in
    let top : lens l.node ≤ m = most l.node l.some l.within mine.0 (omega (arith, more, q)) in
    omega (arith, mine.1, top)

-- it is enough to look at the values that nodes have
pub mark_from_each : (reaches : ℕ → ℕ → Bool) (heard : ℕ → Bool) (lens : ℕ → ℕ) (n m : ℕ) → Tests reaches heard lens →
    (0 < m → quorum n ≤ count (reaches m) n) →
    ((j : ℕ) → 1 ≤ j → j ≤ n → heard j ≡ true → quorum n ≤ count (reaches (lens j)) n → lens j ≤ m) → IsMark n reaches m
mark_from_each reaches heard lens n m tests held most = record {
  held = held;
  most = λ k q. mark_least reaches heard lens n m tests most k q (least_or_none (reaches k) lens n);
}

-- ---- the mark of a list of acknowledgements

pub mark_of_all : (reaches : ℕ → ℕ → Bool) (n : ℕ) (acks : List Ack) (m : ℕ) →
    ((k i : ℕ) → 1 ≤ i → i ≤ n → reaches k i ≡ has_acked acks k i) → IsMark n reaches m → IsCommitMark n acks m
mark_of_all reaches n acks m same mark = record {
  held = λ some. let e = count-same (reaches m) (has_acked acks m) n (λ i p q. same m i p q) in let f = mark.held some in omega (arith, e, f);
  most = λ k q. let e = count-same (reaches k) (has_acked acks k) n (λ i p q. same k i p q) in mark.most k (omega (arith, e, q));
}

-- ---- the mark that a search finds

found_by : (n : ℕ) (reaches : ℕ → ℕ → Bool) (k : ℕ) (b : Bool) → nat_le (quorum n) (count (reaches (suc k)) n) ≡ b →
    ((j : ℕ) → suc k < j → count (reaches j) n < quorum n) →
    (((j : ℕ) → k < j → count (reaches j) n < quorum n) → IsMark n reaches (reached n reaches k)) →
    IsMark n reaches (if b then suc k else reached n reaches k)
found_by n reaches k true e none before = record {
  held = λ some. grind (arith, nat_tests, e);
  most = λ j q. elim (cases_lt (suc k) j) [ inl less ↦ absurd (let f = none j less in omega (arith, f, q)) | inr more ↦ omega arith ];
}
found_by n reaches k false e none before = before (λ j less. elim (cases_eq j (suc k)) [
  | inl same ↦ (rw same (grind (arith, nat_tests, e)))
  | inr other ↦ none j (omega arith)
])

-- no number above the bound is reached
pub mark_found : (n : ℕ) (reaches : ℕ → ℕ → Bool) (bound : ℕ) → ((j : ℕ) → bound < j → count (reaches j) n < quorum n) →
    IsMark n reaches (reached n reaches bound)
mark_found n reaches zero none = record {
  held = λ some. absurd (omega arith);
  most = λ k q. elim (cases_eq k 0) [ inl same ↦ omega arith | inr other ↦ absurd (let f = none k (omega arith) in omega (arith, f, q)) ];
}
mark_found n reaches (suc k) none = found_by n reaches k (nat_le (quorum n) (count (reaches (suc k)) n)) refl none (mark_found n reaches k)

most_of_marks : (n : ℕ) (reaches : ℕ → ℕ → Bool) (a b : ℕ) → IsMark n reaches a → IsMark n reaches b → a ≤ b
most_of_marks n reaches zero b h k = omega arith
most_of_marks n reaches (suc a) b h k = k.most (suc a) (h.held (omega arith))

pub one_mark : (n : ℕ) (reaches : ℕ → ℕ → Bool) (a b : ℕ) → IsMark n reaches a → IsMark n reaches b → a ≡ b
one_mark n reaches a b h k =
    let less = most_of_marks n reaches a b h k in
    let more = most_of_marks n reaches b a k h in
    omega (arith, less, more)

below : (a : Bool) (k len : ℕ) → len < k → (a && nat_le k len) ≡ false
below true k len h = grind (arith, nat_tests, h)
below false k len h = refl

none_above : (bound : ℕ) (acks : List Ack) → AreWithin bound acks → (k i : ℕ) → bound < k → has_acked acks k i ≡ false
none_above bound [] h k i less = refl
none_above bound (ack ∷ acks) h k i less =
    let here : (ack.node == i && nat_le k ack.len) ≡ false = below (ack.node == i) k ack.len (omega (arith, h.0, less)) in
    let rest : has_acked acks k i ≡ false = none_above bound acks h.1 k i less in
    rw (here, rest) refl

found : (nodes : ℕ) (acks : List Ack) (bound : ℕ) → AreWithin bound acks → IsCommitMark nodes acks (reached nodes (has_acked acks) bound)
found nodes acks bound h =
    let mark = mark_found nodes (has_acked acks) bound (λ k less.
    let none = none_counted (has_acked acks k) nodes (λ j a b. none_above bound acks h k j less) in omega (arith, none)) in
    record { held = mark.held; most = mark.most }

at_most : (nodes : ℕ) (acks : List Ack) (a b : ℕ) → IsCommitMark nodes acks a → IsCommitMark nodes acks b → a ≤ b
at_most nodes acks zero b h k = omega arith
at_most nodes acks (suc a) b h k = k.most (suc a) (h.held (omega arith))

pub marks_are_found : MarksAreFound
marks_are_found = record {
  found = found;
  one = λ nodes acks a b h k. let less = at_most nodes acks a b h k in let more = at_most nodes acks b a k h in omega (arith, less, more);
}
