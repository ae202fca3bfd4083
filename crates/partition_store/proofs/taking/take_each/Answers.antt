use Rattle.std.proofs.Common.{rules, ◌≡◌, ◌+◌, ◌++◌, ◌∷◌, [], List, length, take, drop, get_or, refl, sym, ◌∙◌, ap, subst, arith}
use Rattle.std.specs.List.{flat_map}
use Rattle.std.proofs.lemmas.List.{take_more}
use Rattle.tx_model.specs.declared.meta.Meta.{Meta}
use Rattle.tx_model.specs.declared.meta.Meta.TheVariants.{Promise}
use Rattle.tx_model.specs.Spelling.{meta_frame}
use Rattle.tx_model.specs.Contents.{entries_in}
use Rattle.disk_model.specs.History.{History}
use Rattle.disk_model.proofs.Told.{told_by_try}
use Rattle.disk_model.proofs.Keeping.{kept_so_far, keeps_then}
use Rattle.proto_model.specs.Held.{held_after, table_of}
use Rattle.proto_model.specs.Damages.{IsDamaged}
use Rattle.partition_store.specs.Stands.{reads_of}
use Rattle.partition_store.specs.Loading.{IsLoadedOf}
use Rattle.partition_store.proofs.Places.{next-entry, frames-more, place-within}
use Rattle.partition_store.proofs.taking.take_each.Goals as goal

pub loop-entry-init : goal.loop-entry-init
loop-entry-init g c = record {
  fit = c.new-loaded.ensures.fit;
  place = refl;
  taken = λ t. record { held = _; of = c.new-loaded.ensures.none (reads_of (g.D.Disk.history c.args.disk.now).now) };
  history = λ t. refl;
  none = refl;
  keeps = kept_so_far c.args.disk.now;
}

pub returns-in_err-take-clause-damaged : goal.returns-in_err-take-clause-damaged
returns-in_err-take-clause-damaged g c =
    let inv = c.loop-entry.invariant in
    told_by_try c.from_residual.result c.in_err-take.field-0.0 _ _ c.from_residual.ensures.1 c.in_err-take.ensures.damaged (λ file at is. λ t same.
    let es = c.args.entries.now in
    let i = c.loop-entry.entry-index in
    let held = inv.taken t in
    let now = sym (inv.history t) in
    let next = next-entry es i (Promise 0) c.loop-entry-test.true in
    subst (λ (hs : History). IsDamaged (reads_of hs.now) file at) (inv.history t)
    (is t (take i es) (drop (i + 1) es) held.held
    (subst (λ (hs : History). entries_in (reads_of hs.now 0) ≡ take i es ++ get_or es i (Promise 0) ∷ drop (i + 1) es) now (same ∙ next)) inv.place
    (subst (λ (hs : History). IsLoadedOf (reads_of hs.now) (take i es) held.held c.loop-entry.loaded) now held.of)))

pub overflow_add-place : goal.overflow_add-place
overflow_add-place g c =
    let e = get_or c.args.entries.now c.loop-entry.entry-index (Promise 0) in
    let long : c.meta_frame_len.result ≡ length (meta_frame e) = c.meta_frame_len.ensures.len in
    let within = place-within c.args.entries.now c.loop-entry.entry-index (Promise 0) c.loop-entry-test.true in
    omega (arith, long, within, c.loop-entry.invariant.place, c.requires.short)

pub loop-entry-preserved : goal.loop-entry-preserved
loop-entry-preserved g c =
    let inv = c.loop-entry.invariant in
    let es = c.args.entries.now in
    let i = c.loop-entry.entry-index in
    let more : take (i + 1) es ≡ take i es ++ get_or es i (Promise 0) ∷ [] = take_more es i (Promise 0) c.loop-entry-test.true in
    let long : c.meta_frame_len.result ≡ length (meta_frame (get_or es i (Promise 0))) = c.meta_frame_len.ensures.len in
    record {
      fit = c.in_ok-take.ensures.fit;
      place = omega (arith, inv.place, long, frames-more es i (Promise 0) c.loop-entry-test.true, ap (λ (l : List Meta). length (flat_map meta_frame l)) more);
      taken = λ t.
          let held = inv.taken t in
          let old = (g.D.Disk.history c.args.disk.now).now in
          let of = subst (λ (hs : History). IsLoadedOf (reads_of hs.now) (take i es) held.held c.loop-entry.loaded) (sym (inv.history t)) held.of in
          let now = c.in_ok-take.ensures.taken t (take i es) held.held of in
          let moved = subst (λ (hs : History). IsLoadedOf (reads_of hs.now) (take i es ++ get_or es i (Promise 0) ∷ []) (held_after (table_of (reads_of hs.now)) held.held (get_or es i (Promise 0))) c.take.new.self) (inv.history t) now in
          record {
            held = held_after (table_of (reads_of old)) held.held (get_or es i (Promise 0));
            of = subst (λ (l : List Meta). IsLoadedOf (reads_of old) l (held_after (table_of (reads_of old)) held.held (get_or es i (Promise 0))) c.take.new.self) (sym more) moved;
          };
      history = λ t. c.take.ensures.history t ∙ inv.history t;
      none = c.in_ok-take.ensures.cause.none (search rules) ∙ inv.none;
      keeps = keeps_then inv.keeps c.take.ensures.keeps (λ no. absurd no);
    }
