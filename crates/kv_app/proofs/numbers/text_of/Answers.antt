use Rattle.std.proofs.Common.{◌≡◌, ◌++◌, ℕ, List, flat_map, sym, ◌∙◌, ap}
use Rattle.std.proofs.lemmas.List.{append-nil}
use Rattle.kv_app.specs.Numbers.{entry_text}
use Rattle.kv_app.proofs.TextLemmas.{text_at, text_of_entries, written_more}
use Rattle.kv_app.proofs.numbers.text_of.Goals as goal

pub loop-key-init : goal.loop-key-init
loop-key-init c =
    ap (λ (xs : List ℕ). xs ++ flat_map (text_at (λ k. k.items)) c.into_iter-key-iterator.result) c.new-text.ensures.items
    ∙ ap (flat_map (text_at (λ k. k.items))) c.into_iter-key-iterator.ensures.into_iter_gives.0

pub loop-key-preserved : goal.loop-key-preserved
loop-key-preserved c =
    let put : c.put_entry.new.text.items ≡ c.loop-key.text.items ++ entry_text c.in-Some.key.now.items c.in-Some.number.now =
    c.in_ok-put_entry.ensures ∙ ap (λ (key : List ℕ). c.loop-key.text.items ++ entry_text key c.in-Some.number.now) c.deref.ensures.value in
    written_more (λ k. k.items) c.loop-key.text.items c.put_entry.new.text.items _ (c.in-Some.key.now, c.in-Some.number.now) c.next.new.self c.loop-key.key-iterator c.in-Some.ensures.steps c.loop-key.invariant put

pub returns : goal.returns
returns c =
    sym (ap (λ es. c.loop-key.text.items ++ flat_map (text_at (λ k. k.items)) es) c.in-None.ensures.steps.0 ∙ append-nil c.loop-key.text.items)
    ∙ (c.loop-key.invariant ∙ text_of_entries (λ k. k.items) c.args.numbers.now.entries c.into_iter-key-iterator.ensures.into_iter_gives.5)
