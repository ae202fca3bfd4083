use Rattle.std.proofs.Common.{◌≡◌, ◌<◌, get_or, take, List, ℕ, ◌∙◌, ap, refl, rules}
use Rattle.segment_store.specs.Index.{Index, count_of}
use Rattle.segment_store.proofs.Indexing.{index-close, index-as}
use Rattle.segment_store.proofs.segment.Segment.close.Goals as goal

pub returns-then-len-count-clause-index : goal.returns-then-len-count-clause-index
returns-then-len-count-clause-index c = λ bytes index.
    let s = c.args.self.now in
    let lt : c.args.len < count_of s = search rules in
    let starts : c.self.inside.starts.items ≡ s.starts = ap (λ (i : Index). i.starts) c.self.view_is in
    let end : c.index.result.now ≡ get_or s.starts c.args.len c.index.result.now = c.index.ensures ∙ ap (λ (l : List ℕ). get_or l c.args.len c.index.result.now) starts in
    index-as (record s { starts = take c.args.len s.starts; end = c.index.result.now }) _ bytes (ap (λ (i : Index). i.first) c.self.view_is) (c.truncate.ensures.items ∙ ap (λ (l : List ℕ). take c.args.len l) starts) refl
    (index-close s bytes c.args.len c.index.result.now lt end index)
