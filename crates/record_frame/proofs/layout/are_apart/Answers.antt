use Rattle.std.proofs.Common.{arith}
use Rattle.record_frame.proofs.Merges.{first_of, left-less, left-greater, left-equal, left-no_reads, left-no_writes}
use Rattle.record_frame.proofs.layout.are_apart.Goals as goal

pub split_name-requires : goal.split_name-requires
split_name-requires c = (first_of _ _ c.loop-reads-test.true c.loop-reads.invariant.reads_rise).name

pub split_name-requires-in-loop-reads : goal.split_name-requires-in-loop-reads
split_name-requires-in-loop-reads c = (first_of _ _ c.if-writes-gt0.true c.loop-reads.invariant.writes_rise).name

pub loop-reads-preserved-in-Less : goal.loop-reads-preserved-in-Less
loop-reads-preserved-in-Less c =
    rw c.split_name.ensures.after (left-less c.loop-reads.invariant c.loop-reads-test.true c.if-writes-gt0.true (cc (c.cmp.ensures, c.in-Less.is, c.split_name.ensures.name, c.split_name-in-loop-reads.ensures.name)))

pub loop-reads-preserved : goal.loop-reads-preserved
loop-reads-preserved c =
    rw c.split_name-in-loop-reads.ensures.after (left-greater c.loop-reads.invariant c.loop-reads-test.true c.if-writes-gt0.true (cc (c.cmp.ensures, c.in-Greater.is, c.split_name.ensures.name, c.split_name-in-loop-reads.ensures.name)))

pub returns-in-Equal : goal.returns-in-Equal
returns-in-Equal c =
    left-equal c.loop-reads.invariant c.loop-reads-test.true c.if-writes-gt0.true (cc (c.cmp.ensures, c.in-Equal.is, c.split_name.ensures.name, c.split_name-in-loop-reads.ensures.name))

pub returns-else-writes-gt0 : goal.returns-else-writes-gt0
returns-else-writes-gt0 c =
    let le = c.if-writes-gt0.false in
    left-no_writes _ c.loop-reads.reads c.loop-reads.writes _ _ c.loop-reads.invariant (omega (arith, le))

pub returns-after-loop-reads : goal.returns-after-loop-reads
returns-after-loop-reads c =
    let le = c.loop-reads-test.false in
    left-no_reads _ c.loop-reads.reads c.loop-reads.writes _ _ c.loop-reads.invariant (omega (arith, le))
