use Rattle.std.proofs.Common.{◌≡◌, ◌++◌, length, take, arith, sym, ◌∙◌, ap, subst, length-take, flat_map}
use Rattle.schedule_text.specs.Forms.{row_of}
use Rattle.schedule_text.specs.Lines.{AreNumbers, HasLists, number_text, lists_text}
use Rattle.schedule_text.specs.Found.{IsTail}
use Rattle.schedule_text.proofs.FormLemmas.{word_of_named, among_by_name}
use Rattle.schedule_text.proofs.SomeLemmas.{form_of_line}
use Rattle.schedule_text.proofs.FoundLemmas.{line_of_form, same_numbers, EndsWord-lists}
use Rattle.schedule_text.proofs.lines.found.read_found.Goals as goal

pub returns-in_default-clause-none : goal.returns-in_default-clause-none
returns-in_default-clause-none c p is =
    let named = form_of_line c.args.forms.now p c.args.line.now c.cut_word.result.0.now c.cut_word.result.1.now c.cut_word.ensures is in
    let found = c.form_named.ensures in
    let none = c.in_default.is in
    cc

pub returns-in_default-read_numbers-clause-none : goal.returns-in_default-read_numbers-clause-none
returns-in_default-read_numbers-clause-none c p is =
    let named = sym c.form_named.ensures ∙ c.in-Some.is in
    let line = line_of_form c.args.forms.now c.args.line.now c.cut_word.result.0.now c.cut_word.result.1.now c.in-Some.form p c.cut_word.ensures named is in
    let count = ap length c.row-row.ensures.names in
    c.in_default-read_numbers.ensures.none p.numbers (lists_text p.lists) (line.2.count_is ∙ sym count) line.2.small (EndsWord-lists p.lists) (sym line.1)

pub returns-in_default-read_tail-clause-none : goal.returns-in_default-read_tail-clause-none
returns-in_default-read_tail-clause-none c p is =
    let named = sym c.form_named.ensures ∙ c.in-Some.is in
    let line = line_of_form c.args.forms.now c.args.line.now c.cut_word.result.0.now c.cut_word.result.1.now c.in-Some.form p c.cut_word.ensures named is in
    let count : length c.row-row.result.names.now ≡ length (row_of c.in-Some.form).names = ap length c.row-row.ensures.names in
    let few = c.row-row.ensures.few in
    let read = c.in-Some-read_numbers.ensures in
    let room = read.numbers.1 in
    let taken = take (length c.row-row.result.names.now) c.in-Some-read_numbers.numbers.values in
    let counted = line.2.count_is in
    let many : length taken ≡ length p.numbers = simp length-take (omega arith) in
    let same = same_numbers taken p.numbers c.in-Some-read_numbers.behind.now (lists_text p.lists) read.numbers.0 line.2.small many read.ends (EndsWord-lists p.lists) (sym read.some ∙ sym line.1) in
    c.in_default-read_tail.ensures.none p.lists (subst (λ b. HasLists b p.lists) (sym c.row-row.ensures.lists) line.2.lists_fit) same.1

pub returns-clause-some : goal.returns-clause-some
returns-clause-some c =
    let named = sym c.form_named.ensures ∙ c.in-Some.is in
    let f = c.in-Some.form in
    let values = c.in-Some-read_numbers.numbers.values in
    let count : length c.row-row.result.names.now ≡ length (row_of f).names = ap length c.row-row.ensures.names in
    let read = c.in-Some-read_numbers.ensures in
    let behind = c.in-Some-read_numbers.behind.now in
    let text : c.cut_word.result.1.now ≡ flat_map number_text (take (length (row_of f).names) values) ++ behind =
    read.some ∙ ap (λ n. flat_map number_text (take n values) ++ behind) count in
    let few = c.row-row.ensures.few in
    let room = read.numbers.1 in
    let counted : length (take (length (row_of f).names) values) ≡ length (row_of f).names = simp length-take (omega arith) in
    record {
      short = omega arith;
      among = among_by_name c.args.forms.now c.cut_word.result.0.now f named;
      tail = behind;
      text = c.cut_word.ensures.text_is ∙ (ap (λ t. c.cut_word.result.0.now ++ t) text ∙ ap (λ w. w ++ (flat_map number_text (take (length (row_of f).names) values) ++ behind)) (sym (word_of_named c.args.forms.now c.cut_word.result.0.now f named)));
      numbers = subst (λ n. AreNumbers (take n values)) count read.numbers.0;
      count = counted;
      room = room;
      tail_is = subst (λ b. IsTail b behind c.in-Some-read_tail.tail) c.row-row.ensures.lists c.in-Some-read_tail.ensures.some;
    }
