use Rattle.std.proofs.Common.{rules, ◌≡◌, sym, subst}
use Rattle.disk_model.specs.History.{History}
use Rattle.partition_store.specs.Loading.{frames_of, HoldFrames}
use Rattle.partition_store.proofs.Trimmed.{cut-firm, cut-hold, cut-last-read, firm-last, firm-journal, firm-named, all-trimmed}
use Rattle.partition_store.proofs.trimming.trim.Goals as goal

pub returns-in_err-cut-clause-firm : goal.returns-in_err-cut-clause-firm
returns-in_err-cut-clause-firm g c = λ t firm.
    cut-firm (g.D.Disk.history c.args.disk.now) c.args.journal.now c.args.last.now c.args.entries.now (c.requires t) c.end.result (g.D.Disk.history c.cut.new.self) c.end.ensures (c.cut.ensures.moments t) (g.met.D.Disk.sound c.cut.new.self t) firm

pub returns-in_err-cut_last-clause-firm : goal.returns-in_err-cut_last-clause-firm
returns-in_err-cut_last-clause-firm g c = λ t firm.
    firm-last (g.D.Disk.history c.args.disk.now) c.args.journal.now c.args.last.now c.args.entries.now (c.requires t) c.end.result (g.D.Disk.history c.cut.new.self) c.end.ensures (c.cut.ensures.moments t) (c.in_ok-cut.ensures.reads t)
    (g.D.Disk.history c.cut_last.new.disk) (g.met.D.Disk.sound c.cut.new.self t) firm (c.cut_last.ensures.firm t)

pub returns-in_err-cut_last-clause-memory : goal.returns-in_err-cut_last-clause-memory
returns-in_err-cut_last-clause-memory g c = λ memory t.
    let same : g.D.Disk.history c.cut_last.new.disk ≡ g.D.Disk.history c.cut.new.self = search rules in
    let hold = cut-hold (g.D.Disk.history c.args.disk.now) c.args.journal.now c.args.last.now c.args.entries.now (c.requires t) c.end.result (g.D.Disk.history c.cut.new.self) c.end.ensures (c.cut.ensures.moments t) (c.in_ok-cut.ensures.reads t) in
    subst (λ (h : History). HoldFrames (frames_of (g.D.Disk.history c.args.disk.now).now) h.now) (sym same) hold

pub returns-in_err-sync-clause-firm : goal.returns-in_err-sync-clause-firm
returns-in_err-sync-clause-firm g c = λ t firm.
    let old = g.D.Disk.history c.args.disk.now in
    let cut = g.D.Disk.history c.cut.new.self in
    let next = g.D.Disk.history c.cut_last.new.disk in
    let moments = c.cut.ensures.moments t in
    let reads = c.in_ok-cut.ensures.reads t in
    let last = firm-last old c.args.journal.now c.args.last.now c.args.entries.now (c.requires t) c.end.result cut c.end.ensures moments reads next (g.met.D.Disk.sound c.cut.new.self t) firm (c.cut_last.ensures.firm t) in
    let read = cut-last-read old c.args.journal.now c.args.last.now c.args.entries.now (c.requires t) c.end.result cut c.end.ensures moments reads in
    firm-journal old c.args.journal.now c.args.last.now c.args.entries.now (c.requires t) c.end.result cut c.end.ensures moments reads
    next (c.in_ok-cut_last.ensures.others t) (c.in_ok-cut_last.ensures.cut t c.args.entries.now read) (g.D.Disk.history c.sync.new.self) firm last (c.sync.ensures.moments t)

pub returns-in_err-sync_named-clause-firm : goal.returns-in_err-sync_named-clause-firm
returns-in_err-sync_named-clause-firm g c = λ t firm.
    let old = g.D.Disk.history c.args.disk.now in
    let cut = g.D.Disk.history c.cut.new.self in
    let next = g.D.Disk.history c.cut_last.new.disk in
    let moments = c.cut.ensures.moments t in
    let reads = c.in_ok-cut.ensures.reads t in
    let last = firm-last old c.args.journal.now c.args.last.now c.args.entries.now (c.requires t) c.end.result cut c.end.ensures moments reads next (g.met.D.Disk.sound c.cut.new.self t) firm (c.cut_last.ensures.firm t) in
    let read = cut-last-read old c.args.journal.now c.args.last.now c.args.entries.now (c.requires t) c.end.result cut c.end.ensures moments reads in
    let others = c.in_ok-cut_last.ensures.others t in
    let short = c.in_ok-cut_last.ensures.cut t c.args.entries.now read in
    let journal = firm-journal old c.args.journal.now c.args.last.now c.args.entries.now (c.requires t) c.end.result cut c.end.ensures moments reads next others short (g.D.Disk.history c.sync.new.self) firm last (c.sync.ensures.moments t) in
    firm-named old c.args.journal.now c.args.last.now c.args.entries.now (c.requires t) c.end.result cut c.end.ensures moments reads next others short
    (g.D.Disk.history c.sync.new.self) (g.D.Disk.history c.sync_named.new.disk) (c.in_ok-sync.ensures.synced t) (c.sync.ensures.moments t).others_now firm journal (c.sync_named.ensures.firm t)

pub returns-clause-trimmed : goal.returns-clause-trimmed
returns-clause-trimmed g c = λ t.
    let old = g.D.Disk.history c.args.disk.now in
    let cut = g.D.Disk.history c.cut.new.self in
    let moments = c.cut.ensures.moments t in
    let reads = c.in_ok-cut.ensures.reads t in
    let read = cut-last-read old c.args.journal.now c.args.last.now c.args.entries.now (c.requires t) c.end.result cut c.end.ensures moments reads in
    all-trimmed old c.args.journal.now c.args.last.now c.args.entries.now (c.requires t) c.end.result cut c.end.ensures moments reads
    (g.D.Disk.history c.cut_last.new.disk) (c.in_ok-cut_last.ensures.others t) (c.in_ok-cut_last.ensures.cut t c.args.entries.now read)
    (g.D.Disk.history c.sync.new.self) (g.D.Disk.history c.sync_named.new.disk) (c.in_ok-sync.ensures.synced t) (c.sync.ensures.moments t).others_now
    (c.in_ok-sync_named.ensures.plain t) (c.in_ok-sync_named.ensures.reads t) (c.in_ok-sync_named.ensures.named t)

pub returns-clause-firm : goal.returns-clause-firm
returns-clause-firm g c = λ t firm.
    let old = g.D.Disk.history c.args.disk.now in
    let cut = g.D.Disk.history c.cut.new.self in
    let next = g.D.Disk.history c.cut_last.new.disk in
    let moments = c.cut.ensures.moments t in
    let reads = c.in_ok-cut.ensures.reads t in
    let last = firm-last old c.args.journal.now c.args.last.now c.args.entries.now (c.requires t) c.end.result cut c.end.ensures moments reads next (g.met.D.Disk.sound c.cut.new.self t) firm (c.cut_last.ensures.firm t) in
    let read = cut-last-read old c.args.journal.now c.args.last.now c.args.entries.now (c.requires t) c.end.result cut c.end.ensures moments reads in
    let others = c.in_ok-cut_last.ensures.others t in
    let short = c.in_ok-cut_last.ensures.cut t c.args.entries.now read in
    let journal = firm-journal old c.args.journal.now c.args.last.now c.args.entries.now (c.requires t) c.end.result cut c.end.ensures moments reads next others short (g.D.Disk.history c.sync.new.self) firm last (c.sync.ensures.moments t) in
    firm-named old c.args.journal.now c.args.last.now c.args.entries.now (c.requires t) c.end.result cut c.end.ensures moments reads next others short
    (g.D.Disk.history c.sync.new.self) (g.D.Disk.history c.sync_named.new.disk) (c.in_ok-sync.ensures.synced t) (c.sync.ensures.moments t).others_now firm journal (c.sync_named.ensures.firm t)
