use Rattle.std.proofs.Common.{◌≡◌, ◌≢◌, ◌<◌, ◌+◌, ◌^◌, ◌++◌, ℕ, drop, sym, ◌∙◌, ap, subst, arith}
use Rattle.tx_model.specs.Framing.{framed_record}
use Rattle.segment_store.specs.Index.{Index, count_of, IsIndexOf, IsNext, IsDamagedWithin}
use Rattle.segment_store.specs.declared.reading.Reading.{Reading}
use Rattle.record_frame.proofs.FrontFrames.{framed-spells}
use Rattle.segment_store.proofs.Damaged.{wrong-within}
use Rattle.segment_store.proofs.Noted.{frame-whole, frame-next, frame-wrong, reading-passed, reading-noted}
use Rattle.segment_store.proofs.reading.Reading.note.Goals as goal

pub returns-then-not-is_right-clause-reading : goal.returns-then-not-is_right-clause-reading
returns-then-not-is_right-clause-reading c = λ all more at_end reading.
    let r = c.args.self.now in
    let view = c.self.view_is in
    let some : 0 < c.args.len = c.requires.frame.1 in
    let passed : count_of r.segment < r.frames = omega (arith, c.if-not-is_right.true, c.count.ensures, ap (λ (q : Reading). count_of q.segment) view, ap (λ (q : Reading). q.frames) view, c.requires.fit.more) in
    reading-passed r _ c.args.len all reading some (frame-whole r.segment c.args.bytes.now more (drop r.end all) at_end c.args.len c.requires.frame.0 some) (reading.wrong passed)
    (ap (λ (q : Reading). q.segment) view) (ap (λ (q : Reading). q.frames + 1) view) (ap (λ (q : Reading). q.end + c.args.len) view)

pub returns-then-is_next-clause-reading : goal.returns-then-is_next-clause-reading
returns-then-is_next-clause-reading c = λ all more at_end reading.
    let r = c.args.self.now in
    let view = c.self.view_is in
    let some : 0 < c.args.len = c.requires.frame.1 in
    let right : count_of r.segment ≡ r.frames = omega (arith, c.if-not-is_right.false, c.count.ensures, ap (λ (q : Reading). count_of q.segment) view, ap (λ (q : Reading). q.frames) view) in
    let end : r.segment.end ≡ r.end = c.requires.fit.all right in
    let here : drop r.segment.end all ≡ c.args.bytes.now ++ more = ap (λ (n : ℕ). drop n all) end ∙ at_end in
    let id : (framed_record c.args.bytes.now).id ≡ r.segment.first + count_of r.segment = sym c.framed_id.ensures ∙ c.is_next.ensures.0 c.if-is_next.true ∙ ap (λ (q : Reading). q.segment.first + count_of q.segment) view in
    let next : IsNext r.segment c.args.len (drop r.segment.end all) = frame-next r.segment c.args.bytes.now more (drop r.segment.end all) here c.args.len c.requires.frame.0 some (λ i. omega (arith, c.type_inv.bytes i)) id in
    let index = c.in_ok-note.ensures.index all
    (subst (λ (i : Index). IsIndexOf i all) (sym (ap (λ (q : Reading). q.segment) view)) reading.index)
    (subst (λ (i : Index). IsNext i c.args.len (drop i.end all)) (sym (ap (λ (q : Reading). q.segment) view)) next) in
    reading-noted r _ c.args.len all reading some (frame-whole r.segment c.args.bytes.now more (drop r.end all) at_end c.args.len c.requires.frame.0 some) index right
    (c.in_ok-note.ensures.count ∙ ap (λ (q : Reading). count_of q.segment + 1) view) (ap (λ (q : Reading). q.frames + 1) view) (ap (λ (q : Reading). q.end + c.args.len) view)

pub returns-then-count-self-clause-damaged : goal.returns-then-count-self-clause-damaged
returns-then-count-self-clause-damaged c =
    let r = c.args.self.now in
    let view = c.self.view_is in
    let some : 0 < c.args.len = c.requires.frame.1 in
    let right : count_of r.segment ≡ r.frames = omega (arith, c.if-not-is_right.false, c.count.ensures, ap (λ (q : Reading). count_of q.segment) view, ap (λ (q : Reading). q.frames) view) in
    let end : r.segment.end ≡ r.end = c.requires.fit.all right in
    let next = sym (ap (λ (q : Reading). q.segment.first + count_of q.segment) view) in
    let other : (framed_record c.args.bytes.now).id ≢ r.segment.first + count_of r.segment =
    λ same. let yes = c.is_next.ensures.1 (c.framed_id.ensures ∙ same ∙ next) in let no_other = c.if-is_next.false in absurd (cc) in
    let few : count_of r.segment < r.count = omega (arith, c.if-count-self.true, c.count-2.ensures, ap (λ (q : Reading). count_of q.segment) view, ap (λ (q : Reading). q.count) view) in (
      ap (λ (q : Reading). q.segment.file) view,
      λ all more at_end reading.
          let here : drop r.segment.end all ≡ c.args.bytes.now ++ more = ap (λ (n : ℕ). drop n all) end ∙ at_end in
          subst (λ (n : ℕ). IsDamagedWithin r.segment.first r.count all n) (sym (ap (λ (q : Reading). q.segment.end) view))
          (wrong-within r.segment r.count all reading.index (frame-wrong r.segment c.args.bytes.now more (drop r.segment.end all) here c.args.len c.requires.frame.0 some other) few),
    )

pub returns-clause-reading : goal.returns-clause-reading
returns-clause-reading c = λ all more at_end reading.
    let r = c.args.self.now in
    let view = c.self.view_is in
    let some : 0 < c.args.len = c.requires.frame.1 in
    let right : count_of r.segment ≡ r.frames = omega (arith, c.if-not-is_right.false, c.count.ensures, ap (λ (q : Reading). count_of q.segment) view, ap (λ (q : Reading). q.frames) view) in
    let end : r.segment.end ≡ r.end = c.requires.fit.all right in
    let next = sym (ap (λ (q : Reading). q.segment.first + count_of q.segment) view) in
    let other : (framed_record c.args.bytes.now).id ≢ r.segment.first + count_of r.segment =
    λ same. let yes = c.is_next.ensures.1 (c.framed_id.ensures ∙ same ∙ next) in let no_other = c.if-is_next.false in absurd (cc) in
    let here : drop r.segment.end all ≡ c.args.bytes.now ++ more = ap (λ (n : ℕ). drop n all) end ∙ at_end in
    reading-passed r _ c.args.len all reading some (frame-whole r.segment c.args.bytes.now more (drop r.end all) at_end c.args.len c.requires.frame.0 some)
    (frame-wrong r.segment c.args.bytes.now more (drop r.segment.end all) here c.args.len c.requires.frame.0 some other)
    (ap (λ (q : Reading). q.segment) view) (ap (λ (q : Reading). q.frames + 1) view) (ap (λ (q : Reading). q.end + c.args.len) view)

pub returns-then-is_next-clause-fit : goal.returns-then-is_next-clause-fit
returns-then-is_next-clause-fit c =
    let r = c.args.self.now in
    let view = c.self.view_is in
    let some : 0 < c.args.len = c.requires.frame.1 in
    let right : count_of r.segment ≡ r.frames = omega (arith, c.if-not-is_right.false, c.count.ensures, ap (λ (q : Reading). count_of q.segment) view, ap (λ (q : Reading). q.frames) view) in
    let end : r.segment.end ≡ r.end = c.requires.fit.all right in
    let id : (framed_record c.args.bytes.now).id ≡ r.segment.first + count_of r.segment = sym c.framed_id.ensures ∙ c.is_next.ensures.0 c.if-is_next.true ∙ ap (λ (q : Reading). q.segment.first + count_of q.segment) view in
    let small : (framed_record c.args.bytes.now).id < 2 ^ 48 = (framed-spells c.args.bytes.now (omega (arith, c.requires.frame.0, some)) (λ i. omega (arith, c.type_inv.bytes i))).valid.id.below in
    let count = c.in_ok-note.ensures.count ∙ ap (λ (q : Reading). count_of q.segment + 1) view in
    let first = c.in_ok-note.ensures.place.1 ∙ ap (λ (q : Reading). q.segment.first) view in
    let ends = c.in_ok-note.ensures.end ∙ ap (λ (q : Reading). q.segment.end + c.args.len) view in
    record {
      more = omega (arith, count, right, ap (λ (q : Reading). q.frames) view);
      few = omega (arith, c.requires.fit.few, some, ap (λ (q : Reading). q.frames) view, ap (λ (q : Reading). q.end) view);
      all = λ same. omega (arith, ends, end, ap (λ (q : Reading). q.end) view);
      ids = λ within. omega (arith, count, first, id, small);
    }
