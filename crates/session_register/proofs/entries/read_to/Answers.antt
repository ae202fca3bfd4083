use Rattle.std.proofs.Common.{◌≡◌, ◌≢◌, ◌+◌, ℕ, drop, refl, sym, ◌∙◌, subst, arith, rules}
use Rattle.tx_model.specs.declared.meta.Meta.TheVariants.{Value}
use Rattle.tx_model.specs.Spelling.{IsMeta}
use Rattle.tx_model.specs.Framing.{meta_len, framed_meta}
use Rattle.disk_model.specs.History.{History}
use Rattle.disk_model.proofs.Keeping.{kept_so_far, keeps_then}
use Rattle.session_register.specs.Values.{IsFront}
use Rattle.session_register.proofs.Framed.{front-none, front-all, front-ends, front-damaged, front-more}
use Rattle.session_register.proofs.entries.read_to.Goals as goal

pub entries-init : goal.entries-init
entries-init g c = record { range = omega arith; front = λ t same. front-none _; history = λ t. refl; none = refl; keeps = kept_so_far _ }

pub returns-in_default-clause-front : goal.returns-in_default-clause-front
returns-in_default-clause-front g c = λ t same.
    let inv = c.entries.invariant in
    let none = rw c.in_default.is at c.in_ok-entry.ensures.none in
    front-all _ _ _ (inv.front t same) (subst (λ (h : History). meta_len (drop c.entries.front.end (h.now 0).reads) ≡ 0) (inv.history t) (none t))

pub returns-then-ne-clause-damaged : goal.returns-then-ne-clause-damaged
returns-then-ne-clause-damaged g c = (
  refl,
  λ t same.
      (let inv = c.entries.invariant in
      let some = rw c.in-Some.is at c.in_ok-entry.ensures.some in
      let valid = rw c.in-Some.is at c.in_ok-entry.ensures.valid in
      let other : c.in-Some.entry ≢ Value (c.entries.front.number + 1) = search rules in
      let there = subst (λ (h : History). (framed_meta (drop c.entries.front.end (h.now 0).reads) ≡ c.in-Some.entry) × (meta_len (drop c.entries.front.end (h.now 0).reads) ≡ c.in-Some.len)) (inv.history t) (some t) in
      front-damaged _ _ _ (inv.front t same) c.in-Some.entry c.in-Some.len there.0 there.1 valid.1 other),
)

pub entries-preserved : goal.entries-preserved
entries-preserved g c =
    let inv = c.entries.invariant in
    let some = rw c.in-Some.is at c.in_ok-entry.ensures.some in
    let valid = rw c.in-Some.is at c.in_ok-entry.ensures.valid in
    let next : c.in-Some.entry ≡ Value (c.entries.front.number + 1) = search rules in
    record {
      range = subst IsMeta next valid.0;
      front = λ t same. (
          let there = subst (λ (h : History). (framed_meta (drop c.entries.front.end (h.now 0).reads) ≡ c.in-Some.entry) × (meta_len (drop c.entries.front.end (h.now 0).reads) ≡ c.in-Some.len)) (inv.history t) (some t) in
          let more = front-more _ _ _ (inv.front t same) c.in-Some.entry c.in-Some.len there.0 there.1 valid.1 next in
          let end : c.saturating_add.result ≡ c.entries.front.end + c.in-Some.len = omega (arith, c.saturating_add.ensures, more.1, same, c.ranges.size.fits) in
          subst (λ (n : ℕ). IsFront ((g.D.Disk.history c.args.disk.now).now 0).reads (c.entries.front.number + 1) n) (sym end) more.0);
      history = λ t. c.entry_at.ensures.history t ∙ inv.history t;
      none = c.in_ok-entry.ensures.cause.none ∙ inv.none;
      keeps = keeps_then inv.keeps c.in_ok-entry.ensures.keeps (λ no_fault. absurd no_fault);
    }

pub returns-clause-front : goal.returns-clause-front
returns-clause-front g c = λ t same. front-ends _ _ _ (c.entries.invariant.front t same) (omega (arith, c.entries-test.false, same))
