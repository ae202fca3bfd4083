use Rattle.std.proofs.Common.{sym, ◌∙◌}
use Rattle.std.proofs.lemmas.List.{length-map}
use Rattle.io_core.proofs.Pasts.{sent_bytes-transcript_of}
use Rattle.io_core.proofs.mem_link.MemLink.sent.Goals as goal

pub returns : goal.returns
returns c =
    let e = sent_bytes-transcript_of c.self.inside.past.items _ _ (c.self.invariant.1 ∙ sym (length-map _ _)) in
    rw (← c.self.view_is, c.deref.ensures.value) (sym e)
