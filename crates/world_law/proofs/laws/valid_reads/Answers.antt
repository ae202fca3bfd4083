use Rattle.world_law.proofs.ValidReads as reads
use Rattle.world_law.proofs.laws.valid_reads.Goals as goal

pub returns : goal.returns
returns c = record { logs = reads.reads_stand; locked = reads.log_well_locked; reads = reads.valid_reads }
