-- The longest prefix of a line that begins some line in form.
use Rattle.std.proofs.Common.{◌≡◌, ℕ, ◌+◌, ◌<◌, ◌≤◌, List, ◌++◌, length, take, drop, min, arith, sym, ◌∙◌, ap, append_assoc}
use Rattle.std.proofs.lemmas.List.{take-append-drop, take-take, take_min}
use Rattle.schedule_text.specs.declared.lines.form.Form.{Form}
use Rattle.schedule_text.specs.Lines.{Parts}
use Rattle.schedule_text.specs.Places.{Begins, IsLongest}
use Rattle.schedule_text.specs.Found.{BeginsSome}

-- a beginning of what begins a line begins it too
pub Begins-shorter : (line : List ℕ) (j m : ℕ) (p : Parts) → m ≤ j → Begins (take j line) p → Begins (take m line) p
Begins-shorter line j m p less begins = record {
  form = begins.form;
  more = drop m (take j line) ++ begins.more;
  text =
      begins.text ∙ (ap (λ xs. xs ++ begins.more) (sym (take-append-drop m (take j line)) ∙ ap (λ xs. xs ++ drop m (take j line)) (take-take m j line less)) ∙ append_assoc (take m line) (drop m (take j line)) begins.more);
}

BeginsSome-shorter : (forms : List Form) (line : List ℕ) (j m : ℕ) → m ≤ j → BeginsSome forms (take j line) → BeginsSome forms (take m line)
BeginsSome-shorter forms line j m less begins = (begins.0, begins.1, Begins-shorter line j m begins.0 less begins.2)

-- where one more byte begins no line, nor do more
pub longest_by_next :
    (forms : List Form) (line : List ℕ) (k : ℕ) → k ≤ length line → BeginsSome forms (take k line) →
    (k < length line → ¬ BeginsSome forms (take (k + 1) line)) → IsLongest (BeginsSome forms) line k
longest_by_next forms line k within holds next = record {
  within = within;
  holds = holds;
  no_more = λ j above within_line begins. next (omega arith) (BeginsSome-shorter forms line j (k + 1) (omega arith) begins);
}

pub first_512 : (line : List ℕ) (m : ℕ) → m ≡ min (length line) 512 → take m line ≡ take 512 line
first_512 line m is = let e : m ≡ min 512 (length line) = omega arith in ap (λ n. take n line) e ∙ take_min 512 line
