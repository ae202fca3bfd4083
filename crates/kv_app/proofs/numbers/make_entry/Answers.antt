use Rattle.std.proofs.Common.{◌≡◌, ◌∙◌, ap, rules, None, subst, inl, inr}
use Rattle.kv_app.specs.Numbers.{application_of, entry_at, IsEmptyAt}
use Rattle.kv_app.proofs.NumberLemmas.{application_made, entry_kept, none_at}
use Rattle.kv_app.proofs.Empties.{empty_made}
use Rattle.kv_app.proofs.numbers.make_entry.Goals as goal
use Rattle.kv_app.proofs.numbers.make_entry.Goals.{in-Ok, in-Err}

pub returns-clause-same : goal.returns-clause-same
returns-clause-same c =
    let copied : c.in_ok-key.key.items ≡ c.args.key.now = c.in_ok-key.ensures.items_if_clones_equal (λ x y k. search rules) in
    let none : entry_at (λ k. k.items) c.args.numbers.now.entries c.in_ok-key.key.items ≡ None =
    ap (entry_at (λ k. k.items) c.args.numbers.now.entries) copied ∙ none_at _ c.if-contains_key.ensures in
    elim c.match-insert.branch [
      | in-Ok w ↦ application_made (λ k. k.items) c.args.numbers.now c.insert.new.self c.in_ok-key.key.items w.in-Ok.ensures.updates none
      | in-Err w ↦ ap (application_of (λ k. k.items)) w.in-Err.ensures.err
    ]

pub returns-clause-kept : goal.returns-clause-kept
returns-clause-kept c q some = elim c.match-insert.branch [
  | in-Ok w ↦ entry_kept (λ k. k.items) c.args.numbers.now c.insert.new.self c.in_ok-key.key.items _ w.in-Ok.ensures.updates q some
  | in-Err w ↦ rw w.in-Err.ensures.err some
]

pub returns-clause-empty : goal.returns-clause-empty
returns-clause-empty c q empty =
    let copied : c.in_ok-key.key.items ≡ c.args.key.now = c.in_ok-key.ensures.items_if_clones_equal (λ x y k. search rules) in
    elim c.match-insert.branch [
      | in-Ok w ↦ elim (empty_made (λ k. k.items) c.args.numbers.now c.insert.new.self c.in_ok-key.key.items w.in-Ok.ensures.updates q empty) [
        | inl before ↦ inl before
        | inr same ↦ inr (same ∙ copied)
      ]
      | in-Err w ↦ inl (subst (λ es. IsEmptyAt (λ k. k.items) es q) w.in-Err.ensures.err empty)
    ]
