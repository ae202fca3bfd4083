use Rattle.std.proofs.Common.{sym, ◌∙◌}
use Rattle.tx_model.proofs.Merging.{less_at, greater_at, equal_at, no_reads_at, no_writes_at}
use Rattle.tx_model.proofs.tx.are_apart.Goals as goal

pub loop-read-preserved-in-Less : goal.loop-read-preserved-in-Less
loop-read-preserved-in-Less c =
    less_at (record { in_reads = c.loop-read-test.true; in_writes = c.if-write-writes.true; is_read = c.index-reads-read.is; is_write = c.index-writes-write.is })
    c.loop-read.invariant (sym c.cmp.ensures ∙ c.in-Less.is)

pub loop-read-preserved : goal.loop-read-preserved
loop-read-preserved c =
    greater_at (record { in_reads = c.loop-read-test.true; in_writes = c.if-write-writes.true; is_read = c.index-reads-read.is; is_write = c.index-writes-write.is })
    c.loop-read.invariant (sym c.cmp.ensures ∙ c.in-Greater.is)

pub returns-in-Equal : goal.returns-in-Equal
returns-in-Equal c =
    equal_at (record { in_reads = c.loop-read-test.true; in_writes = c.if-write-writes.true; is_read = c.index-reads-read.is; is_write = c.index-writes-write.is })
    c.loop-read.invariant (sym c.cmp.ensures ∙ c.in-Equal.is)

pub returns-else-write-writes : goal.returns-else-write-writes
returns-else-write-writes c = no_writes_at _ _ c.loop-read.read c.loop-read.write c.if-write-writes.false c.loop-read.invariant

pub returns-after-loop-read : goal.returns-after-loop-read
returns-after-loop-read c = no_reads_at _ _ c.loop-read.read c.loop-read.write c.loop-read-test.false c.loop-read.invariant
