use Rattle.std.proofs.Common.{◌≡◌, ◌+◌, List, ℕ, [], ◌∷◌, ◌++◌, ◌∙◌, ap, arith}
use Rattle.segment_store.specs.Index.{Index}
use Rattle.segment_store.proofs.Indexing.{index-more, index-as}
use Rattle.segment_store.proofs.segment.Segment.note.Goals as goal

pub returns-clause-index : goal.returns-clause-index
returns-clause-index c = λ all index next.
    let s = c.args.self.now in
    let end : c.self.inside.end ≡ s.end = ap (λ (i : Index). i.end) c.self.view_is in
    index-as (record s { starts = s.starts ++ s.end ∷ []; end = s.end + c.args.len }) _ all (ap (λ (i : Index). i.first) c.self.view_is)
    (c.in_ok-push.ensures.items ∙ ap (λ (l : List ℕ). l ++ c.self.inside.end ∷ []) (ap (λ (i : Index). i.starts) c.self.view_is) ∙ ap (λ (n : ℕ). s.starts ++ n ∷ []) end)
    (omega (arith, end))
    (index-more s c.args.len all index next)
