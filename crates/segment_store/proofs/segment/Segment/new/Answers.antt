use Rattle.segment_store.proofs.Indexing.{index-none}
use Rattle.segment_store.proofs.segment.Segment.new.Goals as goal

pub returns-clause-index : goal.returns-clause-index
returns-clause-index c = λ bytes. rw c.new.ensures.items (index-none c.args.file c.args.first bytes)
