use Rattle.std.proofs.Common.{◌≡◌, sym, subst, Option}
use Rattle.std.specs.Prelude.{IfSome}
use Rattle.tx_model.specs.Frames.{joined}
use Rattle.tx_model.specs.Contents.{entries_of}
use Rattle.segment_store.specs.Index.{Index}
use Rattle.partition_store.specs.Loading.{frames_of, IsLastFile}
use Rattle.partition_store.proofs.FirmFiles.{firm-cut-last, cut-last}
use Rattle.partition_store.proofs.trimming.cut_last.Goals as goal

pub returns-in_err-cut-clause-firm : goal.returns-in_err-cut-clause-firm
returns-in_err-cut-clause-firm g c = λ t frames same firm last.
    firm-cut-last c.file.result c.end.result c.in-Some.segment c.file.ensures c.end.ensures frames (g.D.Disk.history c.args.disk.now) (g.D.Disk.history c.cut.new.self) same firm
    (subst (λ (o : Option Index). IfSome o (IsLastFile (entries_of (frames 0)) (g.D.Disk.history c.args.disk.now).now)) c.in-Some.is last) (c.cut.ensures.moments t) (g.met.D.Disk.sound c.cut.new.self t)

pub returns-clause-cut : goal.returns-clause-cut
returns-clause-cut g c = λ t entries last.
    subst (λ (o : Option Index). IfSome o (λ i. ((g.D.Disk.history c.cut.new.self).now i.file).reads ≡ joined (frames_of (g.D.Disk.history c.args.disk.now).now i.file))) (sym c.in-Some.is)
    (cut-last c.file.result c.end.result c.in-Some.segment c.file.ensures c.end.ensures entries (g.D.Disk.history c.args.disk.now).now (g.D.Disk.history c.cut.new.self).now
    (subst (λ (o : Option Index). IfSome o (IsLastFile entries (g.D.Disk.history c.args.disk.now).now)) c.in-Some.is last) (c.in_ok-cut.ensures.reads t))

pub returns-clause-firm : goal.returns-clause-firm
returns-clause-firm g c = λ t frames same firm last.
    firm-cut-last c.file.result c.end.result c.in-Some.segment c.file.ensures c.end.ensures frames (g.D.Disk.history c.args.disk.now) (g.D.Disk.history c.cut.new.self) same firm
    (subst (λ (o : Option Index). IfSome o (IsLastFile (entries_of (frames 0)) (g.D.Disk.history c.args.disk.now).now)) c.in-Some.is last) (c.cut.ensures.moments t) (g.met.D.Disk.sound c.cut.new.self t)
