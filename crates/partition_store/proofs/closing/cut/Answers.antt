use Rattle.std.proofs.Common.{◌≡◌, ◌++◌, ◌∷◌, ◌+◌, ◌-◌, ◌≤◌, ℕ, Bool, List, [], sym, ◌∙◌, ap, subst, arith, take, if◌then◌else◌}
use Rattle.std.specs.Prelude.{min}
use Rattle.segment_store.specs.Index.{Index, count_of}
use Rattle.partition_store.specs.Stores.{IsChain, AreCut}
use Rattle.partition_store.proofs.Chains.{IsCutting, cut-begins, cut-none, cut-first, cut-within, cut-goes_on, cut-chain, cut-done}
use Rattle.partition_store.proofs.closing.cut.Goals as goal

pub newest-init : goal.newest-init
newest-init c = (c.requires.room, c.requires.small, cut-begins c.args.len c.args.closed.now.items c.args.end c.requires.chain c.requires.within)

pub returns-in_default-clause-chain : goal.returns-in_default-clause-chain
returns-in_default-clause-chain c =
    let none : c.pop.new.self.items ≡ [] = c.in_default.ensures.rest ∙ ap (λ (n : ℕ). take (n - 1) c.newest.closed.items) c.in_default.ensures.cases.0 in
    let was : c.newest.closed.items ≡ c.pop.new.self.items = c.in_default.ensures.items ∙ ap (λ (l : List Index). l ++ []) none ∙ sym none in
    (cut-none c.args.len c.args.closed.now.items c.pop.new.self.items c.newest.end none (subst (λ (l : List Index). IsCutting c.args.len c.args.closed.now.items l c.newest.end) was c.newest.invariant.2)).0

pub returns-in_default-clause-cut : goal.returns-in_default-clause-cut
returns-in_default-clause-cut c =
    let none : c.pop.new.self.items ≡ [] = c.in_default.ensures.rest ∙ ap (λ (n : ℕ). take (n - 1) c.newest.closed.items) c.in_default.ensures.cases.0 in
    let was : c.newest.closed.items ≡ c.pop.new.self.items = c.in_default.ensures.items ∙ ap (λ (l : List Index). l ++ []) none ∙ sym none in
    (cut-none c.args.len c.args.closed.now.items c.pop.new.self.items c.newest.end none (subst (λ (l : List Index). IsCutting c.args.len c.args.closed.now.items l c.newest.end) was c.newest.invariant.2)).1

pub overflow_sub-first : goal.overflow_sub-first
overflow_sub-first c =
    let cutting = subst (λ (l : List Index). IsCutting c.args.len c.args.closed.now.items l c.newest.end) c.in-Some.ensures.items c.newest.invariant.2 in
    subst (λ (n : ℕ). n ≤ c.newest.end) (sym c.count.ensures) (cut-within c.args.len c.args.closed.now.items c.pop.new.self.items c.in-Some.segment c.newest.end cutting)

pub newest-preserved : goal.newest-preserved
newest-preserved c =
    let cutting = subst (λ (l : List Index). IsCutting c.args.len c.args.closed.now.items l c.newest.end) c.in-Some.ensures.items c.newest.invariant.2 in
    let first : c.newest.end - c.count.result ≡ c.in-Some.segment.first = ap (λ (n : ℕ). c.newest.end - n) c.count.ensures ∙ cut-first c.args.len c.args.closed.now.items c.pop.new.self.items c.in-Some.segment c.newest.end cutting in (
      omega (arith, c.in-Some.ensures.len, c.pop.ensures.capacity, c.newest.invariant.0),
      omega (arith, c.newest.invariant.1),
      subst (λ (n : ℕ). IsCutting c.args.len c.args.closed.now.items c.pop.new.self.items n) (sym first)
          (cut-goes_on c.args.len c.args.closed.now.items c.pop.new.self.items c.in-Some.segment c.newest.end cutting (omega (arith, first, c.if-first-len.false))),
    )

pub returns-then-first-len-clause-chain : goal.returns-then-first-len-clause-chain
returns-then-first-len-clause-chain c =
    let cutting = subst (λ (l : List Index). IsCutting c.args.len c.args.closed.now.items l c.newest.end) c.in-Some.ensures.items c.newest.invariant.2 in
    let first : c.newest.end - c.count.result ≡ c.in-Some.segment.first = ap (λ (n : ℕ). c.newest.end - n) c.count.ensures ∙ cut-first c.args.len c.args.closed.now.items c.pop.new.self.items c.in-Some.segment c.newest.end cutting in
    let ok = c.push.ensures.succeeds (omega (arith, c.in-Some.ensures.len, c.pop.ensures.capacity, c.newest.invariant.0)) in
    let items : c.push.new.self.items ≡ c.pop.new.self.items ++ c.close.new.self ∷ [] = c.push.ensures.items ∙ ap (λ (b : Bool). if b then c.pop.new.self.items ++ c.close.new.self ∷ [] else c.pop.new.self.items) ok in
    subst (λ (l : List Index). IsChain 1 l (c.args.len + 1)) (sym items)
    (cut-chain c.args.len c.args.closed.now.items c.pop.new.self.items c.in-Some.segment c.newest.end cutting (omega (arith, first, c.if-first-len.true)) c.close.new.self c.close.ensures.place.0 c.close.ensures.place.1
    (c.close.ensures.count ∙ ap (λ (n : ℕ). min (c.args.len + 1 - n) (count_of c.in-Some.segment)) first) c.close.ensures.index)

pub returns-then-first-len-clause-cut : goal.returns-then-first-len-clause-cut
returns-then-first-len-clause-cut c =
    let cutting = subst (λ (l : List Index). IsCutting c.args.len c.args.closed.now.items l c.newest.end) c.in-Some.ensures.items c.newest.invariant.2 in
    let first : c.newest.end - c.count.result ≡ c.in-Some.segment.first = ap (λ (n : ℕ). c.newest.end - n) c.count.ensures ∙ cut-first c.args.len c.args.closed.now.items c.pop.new.self.items c.in-Some.segment c.newest.end cutting in
    let ok = c.push.ensures.succeeds (omega (arith, c.in-Some.ensures.len, c.pop.ensures.capacity, c.newest.invariant.0)) in
    let items : c.push.new.self.items ≡ c.pop.new.self.items ++ c.close.new.self ∷ [] = c.push.ensures.items ∙ ap (λ (b : Bool). if b then c.pop.new.self.items ++ c.close.new.self ∷ [] else c.pop.new.self.items) ok in
    subst (λ (l : List Index). AreCut c.args.len c.args.closed.now.items l) (sym items)
    (cut-done c.args.len c.args.closed.now.items c.pop.new.self.items c.in-Some.segment c.newest.end cutting (omega (arith, first, c.if-first-len.true)) c.close.new.self c.close.ensures.place.0 c.close.ensures.place.1
    (c.close.ensures.count ∙ ap (λ (n : ℕ). min (c.args.len + 1 - n) (count_of c.in-Some.segment)) first) c.close.ensures.index)
