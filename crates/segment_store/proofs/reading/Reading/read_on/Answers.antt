use Rattle.std.proofs.Common.{◌≡◌, ◌+◌, ◌-◌, ◌++◌, List, ℕ, length, take, drop, sym, ◌∙◌, ap, arith}
use Rattle.tx_model.specs.Framing.{record_len}
use Rattle.disk_model.proofs.Stretches.{stands, read_further, read_wholly}
use Rattle.disk_model.proofs.Told.{told_by_try}
use Rattle.segment_store.proofs.reading.Reading.read_on.Goals as goal

pub note_all-requires : goal.note_all-requires
note_all-requires g c = omega (arith, c.in_ok-refill.ensures.bound, ap length c.deref.ensures.value, c.in_ok-refill.ensures.read.0, c.in_ok-refill.ensures.read.1, c.in_ok-refill.ensures.read.2, c.refill.ensures.same, c.requires.aligned.next)

pub returns-in_err-more-clause-damaged : goal.returns-in_err-more-clause-damaged
returns-in_err-more-clause-damaged g c =
    told_by_try c.from_residual-in_err-more.result c.in_err-more.field-0.0 _ _ c.from_residual-in_err-more.ensures.1 c.in_err-more.ensures.damaged (λ file at is. (
      is.0,
      λ t read.
          let all = ((g.D.Disk.history c.args.disk.now).now c.args.self.now.segment.file).reads in
          let bytes : c.deref.result.now ≡ c.args.stretch.now.bytes.items ++ take c.in_ok-refill.field-0 (drop c.args.stretch.now.next all) = c.deref.ensures.value ∙ c.in_ok-refill.ensures.bytes t ∙ ap (λ (f : ℕ). c.args.stretch.now.bytes.items ++ take c.in_ok-refill.field-0 (drop c.args.stretch.now.next ((g.D.Disk.history c.args.disk.now).now f).reads)) c.requires.aligned.file in
          is.1 all (drop (c.args.stretch.now.next + c.in_ok-refill.field-0) all) (stands record_len c.args.self.now.end c.args.self.now.end c.args.stretch.now all c.deref.result.now c.in_ok-refill.field-0 read.read bytes) read.reading,
    ))

pub returns-clause-read : goal.returns-clause-read
returns-clause-read g c = λ yes t read.
    let all = ((g.D.Disk.history c.args.disk.now).now c.args.self.now.segment.file).reads in
    let r = c.args.self.now in
    let r' = c.note_all.new.self in
    let bytes : c.deref.result.now ≡ c.args.stretch.now.bytes.items ++ take c.in_ok-refill.field-0 (drop c.args.stretch.now.next all) = c.deref.ensures.value ∙ c.in_ok-refill.ensures.bytes t ∙ ap (λ (f : ℕ). c.args.stretch.now.bytes.items ++ take c.in_ok-refill.field-0 (drop c.args.stretch.now.next ((g.D.Disk.history c.args.disk.now).now f).reads)) c.requires.aligned.file in
    let reading = c.in_ok-more.ensures.reading all (drop (c.args.stretch.now.next + c.in_ok-refill.field-0) all) (stands record_len r.end r'.end c.args.stretch.now all c.deref.result.now c.in_ok-refill.field-0 read.read bytes) read.reading in
    let rest : c.forget.new.self.bytes.items ≡ drop (r'.end - r.end) c.deref.result.now = c.forget.ensures.bytes ∙ ap (λ (l : List ℕ). drop (r'.end - r.end) l) (sym c.deref.ensures.value) in
    let next : c.forget.new.self.next ≡ c.args.stretch.now.next + c.in_ok-refill.field-0 = c.forget.ensures.same.1 ∙ c.in_ok-refill.ensures.read.0 in
    let end : c.forget.new.self.end ≡ c.args.stretch.now.end = c.forget.ensures.same.2 ∙ c.refill.ensures.same.1 in
    record {
      reading = reading;
      read = read_further record_len r.end r'.end c.args.stretch.now all c.deref.result.now c.in_ok-refill.field-0 read.read bytes c.in_ok-more.ensures.used.0 c.in_ok-more.ensures.used.1 c.forget.new.self rest next end c.in_ok-more.ensures.none;
    }

pub returns-clause-last : goal.returns-clause-last
returns-clause-last g c = λ not t read.
    let all = ((g.D.Disk.history c.args.disk.now).now c.args.self.now.segment.file).reads in
    let r = c.args.self.now in
    let r' = c.note_all.new.self in
    let bytes : c.deref.result.now ≡ c.args.stretch.now.bytes.items ++ take c.in_ok-refill.field-0 (drop c.args.stretch.now.next all) = c.deref.ensures.value ∙ c.in_ok-refill.ensures.bytes t ∙ ap (λ (f : ℕ). c.args.stretch.now.bytes.items ++ take c.in_ok-refill.field-0 (drop c.args.stretch.now.next ((g.D.Disk.history c.args.disk.now).now f).reads)) c.requires.aligned.file in
    let more = drop (c.args.stretch.now.next + c.in_ok-refill.field-0) all in
    let reading = c.in_ok-more.ensures.reading all more (stands record_len r.end r'.end c.args.stretch.now all c.deref.result.now c.in_ok-refill.field-0 read.read bytes) read.reading in
    record {
      reading = reading;
      none = read_wholly record_len r.end r'.end c.args.stretch.now all c.deref.result.now c.in_ok-refill.field-0 read.read bytes c.in_ok-more.ensures.used.0 c.in_ok-more.ensures.used.1 (c.in_ok-more.ensures.last not more);
    }
