-- Recovery's choice among the reports of nodes.
use Rattle.std.specs.Prelude.{◌≡◌, ◌≤◌, false, ℕ, suc, ◌-◌, nat_lt, nat_le, ◌==◌, ◌&&◌, ◌||◌, Bool, if◌then◌else◌, List, [], ◌∷◌, length, take, Option, Some, None, Contains}
use Rattle.proto_model.specs.declared.message.Report.{Report}

-- whether b is chosen over a: by adopted session, then by length, and of equal ones the least node
abbrev pub beats : Report → Report → Bool
beats b a =
    nat_lt a.adopted b.adopted
    || (a.adopted == b.adopted && (nat_lt a.length b.length || (a.length == b.length && nat_lt b.node a.node)))

abbrev pub better : Report → Report → Report
better a b = if beats b a then b else a

-- the best of a report and those that came after it
abbrev pub best : Report → List Report → Report
best a [] = a
best a (r ∷ reports) = best (better a r) reports

-- the best of the first q reports, once there are so many
abbrev pub recovery_choice : ℕ → List Report → Option Report
recovery_choice q [] = None
recovery_choice q (r ∷ reports) = if nat_le q (suc (length reports)) then Some (best r (take (q - 1) reports)) else None

-- the same as a relation: one of the first q reports, over which none of them is chosen
pub record IsChosen (q : ℕ) (reports : List Report) (choice : Report) : Type 0 where
  pub enough : q ≤ length reports
  pub among : Contains (take q reports) choice
  pub greatest : (r : Report) → Contains (take q reports) r → beats r choice ≡ false
