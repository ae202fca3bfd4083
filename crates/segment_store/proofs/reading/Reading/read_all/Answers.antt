use Rattle.std.proofs.Common.{◌≡◌, ℕ, length, refl, sym, ◌∙◌, ap, subst, arith}
use Rattle.tx_model.specs.Framing.{record_len}
use Rattle.disk_model.proofs.Stretches.{not_read}
use Rattle.disk_model.proofs.Told.{told_by_try}
use Rattle.disk_model.specs.History.{History}
use Rattle.segment_store.specs.Index.{IsDamagedWithin}
use Rattle.segment_store.specs.Loading.{IsReadOf}
use Rattle.segment_store.specs.declared.reading.Reading.{Reading}
use Rattle.segment_store.proofs.Indexing.{framing}
use Rattle.segment_store.proofs.Noted.{within-same}
use Rattle.segment_store.proofs.reading.Reading.read_all.Goals as goal

pub pieces-init : goal.pieces-init
pieces-init g c =
    let r = c.args.self.now in
    let s = c.in_ok-stretch.stretch in
    let at = ap (λ (q : Reading). q.end) c.self.view_is in
    let file = ap (λ (q : Reading). q.segment.file) c.self.view_is in
    let next : r.end ≡ s.next = sym at ∙ sym c.in_ok-stretch.ensures.place.1 in
    let bytes : length s.bytes.items ≡ 0 = ap length c.in_ok-stretch.ensures.none in
    record {
      same = record { file = refl; first = refl; count = refl };
      fit = c.requires.fit;
      aligned = record {
        file = c.in_ok-stretch.ensures.place.0 ∙ file;
        next = omega (arith, next, bytes);
        within = omega (arith, next, c.requires.none);
        piece = omega (arith, c.in_ok-stretch.ensures.piece);
      };
      read = λ told.
          let len : c.in_ok-len.len ≡ length ((g.D.Disk.history c.args.disk.now).now r.segment.file).reads = c.in_ok-len.ensures.len told ∙ ap (λ (f : ℕ). length ((g.D.Disk.history c.args.disk.now).now f).reads) file in
          record { reading = c.requires.reading _; read = not_read record_len framing r.end s ((g.D.Disk.history c.args.disk.now).now r.segment.file).reads next c.in_ok-stretch.ensures.none (c.in_ok-stretch.ensures.place.2 ∙ len) };
      history = λ told. c.len.ensures.same told;
      none = c.in_ok-len.ensures.cause.none;
      keeps = record { reliable = c.len.ensures.keeps.reliable; unfailing = λ u. ((c.len.ensures.keeps.unfailing u).0, λ no_fault. no_fault) };
    }

pub returns-in_err-read_on-clause-damaged : goal.returns-in_err-read_on-clause-damaged
returns-in_err-read_on-clause-damaged g c =
    let inv = c.pieces.invariant in
    told_by_try c.from_residual-in_err-read_on.result c.in_err-read_on.field-0.0 _ _ c.from_residual-in_err-read_on.ensures.1 c.in_err-read_on.ensures.damaged (λ file at is. (
      is.0 ∙ inv.same.file,
      λ t.
          let r = c.args.self.now in
          let old = (g.D.Disk.history c.args.disk.now).now in
          let Held : ℕ → History → Type 0 = λ q h. IsReadOf c.pieces.self c.pieces.stretch (h.now q).reads → IsDamagedWithin c.pieces.self.segment.first c.pieces.self.count (h.now q).reads at in
          within-same r c.pieces.self inv.same (old r.segment.file).reads at
          (subst (λ (q : ℕ). Held q (g.D.Disk.history c.args.disk.now)) inv.same.file (subst (λ (h : History). Held c.pieces.self.segment.file h) (inv.history t) (is.1 t)) (inv.read t)),
    ))
