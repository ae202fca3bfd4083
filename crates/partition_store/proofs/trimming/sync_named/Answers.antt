use Rattle.std.proofs.Common.{rules, ◌≡◌, ◌+◌, ◌++◌, ◌∷◌, [], List, take, get_or, refl, sym, ◌∙◌, subst}
use Rattle.std.proofs.lemmas.List.{take_more}
use Rattle.tx_model.specs.declared.meta.Meta.{Meta}
use Rattle.tx_model.specs.declared.meta.Meta.TheVariants.{Promise}
use Rattle.disk_model.specs.File.{IsPlain}
use Rattle.disk_model.proofs.Keeping.{kept_so_far, keeps_then}
use Rattle.disk_model.proofs.Moments.{begins, and_then, each_now}
use Rattle.proto_model.specs.Held.{EachNamed}
use Rattle.proto_model.proofs.Folding.{named-map}
use Rattle.partition_store.specs.Loading.{AreFirm}
use Rattle.partition_store.proofs.FirmFiles.{none-named, named-next, hold-same}
use Rattle.partition_store.proofs.trimming.sync_named.Goals as goal

pub loop-entry-init : goal.loop-entry-init
loop-entry-init g c = record {
  named = λ t. none-named _;
  plain = λ t q was. was;
  reads = λ t q. refl;
  firm = λ t frames same firm. begins (AreFirm frames) (g.D.Disk.history c.args.disk.now);
  none = refl;
  keeps = kept_so_far c.args.disk.now;
}

pub returns-in_err-sync_file-clause-firm : goal.returns-in_err-sync_file-clause-firm
returns-in_err-sync_file-clause-firm g c = λ t frames same firm.
    let inv = c.loop-entry.invariant in
    let old = g.D.Disk.history c.args.disk.now in
    let mid = g.D.Disk.history c.loop-entry.disk in
    let run = inv.firm t frames same firm in
    and_then (AreFirm frames) old mid _ run (c.sync_file.ensures.firm t frames (hold-same frames old.now mid.now (inv.reads t) same) (each_now (AreFirm frames) old mid run firm))

pub loop-entry-preserved : goal.loop-entry-preserved
loop-entry-preserved g c =
    let inv = c.loop-entry.invariant in
    let done = c.in_ok-sync_file.ensures in
    let es = c.args.entries.now in
    let i = c.loop-entry.entry-index in
    let more : take (i + 1) es ≡ take i es ++ get_or es i (Promise 0) ∷ [] = take_more es i (Promise 0) c.loop-entry-test.true in
    record {
      named = λ t.
          let now = (g.D.Disk.history c.sync_file.new.disk).now in
          subst (λ (l : List Meta). EachNamed (λ q. IsPlain (now q)) l) (sym more)
          (named-next (λ q. IsPlain (now q)) (take i es) (get_or es i (Promise 0)) (named-map _ (λ q. IsPlain (now q)) (take i es) (done.plain t) (inv.named t)) (done.named t));
      plain = λ t q was. done.plain t q (inv.plain t q was);
      reads = λ t q. done.reads t q ∙ inv.reads t q;
      firm = λ t frames same firm.
          let old = g.D.Disk.history c.args.disk.now in
          let mid = g.D.Disk.history c.loop-entry.disk in
          let run = inv.firm t frames same firm in
          and_then (AreFirm frames) old mid _ run (c.sync_file.ensures.firm t frames (hold-same frames old.now mid.now (inv.reads t) same) (each_now (AreFirm frames) old mid run firm));
      none = c.in_ok-sync_file.ensures.cause.none (search rules) ∙ inv.none;
      keeps = keeps_then inv.keeps c.sync_file.ensures.keeps (λ no. absurd no);
    }
