use Rattle.std.proofs.Common.{arith, rules, ap, subst, ℕ, List, Err}
use Rattle.client_loop.specs.Runs.{WritesOf}
use Rattle.client_loop.proofs.Going.{going_more, take_ends, write_ends, going_last}
use Rattle.client_loop.proofs.script.go_on.Goals as goal

pub loop-line-preserved : goal.loop-line-preserved
loop-line-preserved g c = record {
  going = λ past left held start.
      going_more g.S.Source.left g.S.Source.before _ _ _ _ _ _ _ _ _ _ _ _ _ _ _ _ (omega arith) (c.loop-line.invariant.going past left held start) c.in-Ok.ensures.does c.take_line.ensures.reads (rw c.deref.ensures.value at c.in-Ok-write_line.ensures.written);
  same = search rules;
  read = search rules;
  write = search rules;
  peer = search rules;
  wants = search rules;
}

pub returns-in-Err-clause-reaches : goal.returns-in-Err-clause-reaches
returns-in-Err-clause-reaches g c past left held start =
    take_ends g.S.Source.left g.S.Source.before _ _ _ _ _ _ _ _ _ _ _ _ _ c.take_line.new.worker.text.items _ _ _ _ _ (omega arith) (omega arith) (c.loop-line.invariant.going past left held start) c.in-Err.ensures.does (λ is. c.in-Err.ensures.empty (ap Err is)) c.take_line.ensures.reads

pub returns-in-Err-write_line-clause-reaches : goal.returns-in-Err-write_line-clause-reaches
returns-in-Err-write_line-clause-reaches g c past left held start =
    write_ends g.S.Source.left g.S.Source.before _ _ _ _ _ _ _ _ _ _ _ _ _ _ _ _ _ _ _ (omega arith) (c.loop-line.invariant.going past left held start) c.in-Ok.ensures.does c.take_line.ensures.reads (subst (λ (text : List ℕ). WritesOf (g.W.Sink.contents c.loop-line.sink) (g.W.Sink.contents c.write_line.new.sink) text (Err c.in-Err-write_line.end)) c.deref.ensures.value c.in-Err-write_line.ensures.written) (λ is. rw c.loop-line.invariant.wants at (c.in-Err-write_line.ensures.wants.rose (ap Err is)))

pub returns-clause-reaches : goal.returns-clause-reaches
returns-clause-reaches g c past left held start =
    going_last g.S.Source.left g.S.Source.before _ _ _ _ _ _ _ _ _ _ _ _ _ _ _ _ (omega arith) (c.loop-line.invariant.going past left held start) c.read_last.ensures.last c.read_last.ensures.empty c.read_last.ensures.reads
