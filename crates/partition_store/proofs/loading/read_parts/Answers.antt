use Rattle.std.proofs.Common.{List, subst}
use Rattle.tx_model.specs.declared.meta.Meta.{Meta}
use Rattle.disk_model.specs.History.{History}
use Rattle.partition_store.specs.Stands.{reads_of}
use Rattle.partition_store.specs.Loading.{AreLoaded}
use Rattle.partition_store.proofs.Loads.{read-parts}
use Rattle.partition_store.proofs.loading.read_parts.Goals as goal

pub returns-clause-read : goal.returns-clause-read
returns-clause-read g c = λ t.
    let old = (g.D.Disk.history c.args.disk.now).now in
    let loaded : AreLoaded (reads_of old) c.in_ok-journal.entries.items c.in_ok-loaded.loaded =
    subst (λ (es : List Meta). AreLoaded (reads_of old) es c.in_ok-loaded.loaded) c.deref.ensures.value
    (subst (λ (h : History). AreLoaded (reads_of h.now) c.deref.result.now c.in_ok-loaded.loaded) (c.read.ensures.history t) (c.in_ok-loaded.ensures.taken t)) in
    read-parts old c.in_ok-journal.journal c.in_ok-journal.entries.items c.in_ok-loaded.loaded loaded c.in_ok-loaded.ensures.whole (c.in_ok-journal.ensures.entries t) (c.in_ok-journal.ensures.end t)
