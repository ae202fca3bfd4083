-- The lines of a number's schedule are in form and in range.
use Rattle.std.proofs.Common.{◌≡◌, ℕ, zero, suc, ◌+◌, ◌*◌, ◌<◌, ◌≤◌, ◌^◌, ◌==◌, Bool, true, false, ◌&&◌, ◌||◌, List, [], ◌∷◌, ◌++◌, length, map, codes, decimal, arith, refl, sym, ◌∙◌, ap, subst, length-append, append_assoc}
use Rattle.std.specs.Prelude.{nat_le}
use Rattle.std.proofs.lemmas.Bool.{and_parts}
use Rattle.std.proofs.lemmas.Bool.Decides.{nat_tests}
use Rattle.tx_model.specs.Applications.{IsKey, is_key_byte, are_key_bytes}
use Rattle.schedule_text.specs.Lists.{keys_spelling, ops_word, IsOpsByte, AreOps}
use Rattle.std.specs.List.{AllByRecursion, flat_map}
use Rattle.std.specs.Str.Parse.{AllDigits}
use Rattle.std.proofs.lemmas.Str.Parse.{numerals_by_value, tells_digits, digit_from_value}
use Rattle.std.proofs.lemmas.Fmt.{digits_decimal, length-decimal-le}
use Rattle.io_core.specs.Lines.{lines_of, HasNoFeed}
use Rattle.io_core.proofs.LineLemmas.{lines_of-ended}
use Rattle.proto_model.proofs.TableLemmas.{either, AllByRecursion-append}
use Rattle.net_model.specs.declared.event.Event.{Event}
use Rattle.net_model.specs.declared.event.Event.TheVariants as event
use Rattle.net_model.specs.Events.{IsInRange}
use Rattle.schedule_text.specs.Forms.{row_of}
use Rattle.schedule_text.specs.Lines.{Parts, number_text, line_text, lists_text, HasLists, AreNumbers}
use Rattle.schedule_text.specs.Spellings.{parts_of, first_parts, SpellsLine}
use Rattle.schedule_text.specs.Taken.{text_of}
use Rattle.schedule_replay.specs.Schedules.{IsFirstLine, IsFurtherLine, AreFurtherLines}
use Rattle.schedule_replay.specs.Numbered.{Numbered, next_state, drawn, settled, of_one, asked, key_of, adding, appended, rarely, by_draw, numbered_from, state_after, event_after, numbered_events, numbered_cluster, event_line, numbered_lines}
use Rattle.schedule_replay.specs.NumberedLaws.{NumbersHaveSchedules, IsFixed, bare, NumbersHaveOneRun}
use Rattle.schedule_replay.specs.Drills.{summary_of}
use Rattle.world_law.specs.Worlds.{WorldState, start}
use Rattle.schedule_replay.proofs.Alike.{runs_agree}

-- ---- no line feed

plain_digits : (ds : List ℕ) → AllDigits 10 ds → HasNoFeed ds
plain_digits [] p = tt
plain_digits (d ∷ ds) p = let range = digit_from_value d p.0 in ((λ e. absurd (omega (arith, range, e))), plain_digits ds p.1)

plain_decimal : (n : ℕ) → n < 2 ^ 64 → HasNoFeed (decimal n)
plain_decimal n small = plain_digits (decimal n) (digits_decimal (numerals_by_value (AllDigits 10) tells_digits) n small)

plain_append : (xs ys : List ℕ) → HasNoFeed xs → HasNoFeed ys → HasNoFeed (xs ++ ys)
plain_append [] ys p q = q
plain_append (x ∷ xs) ys p q = (p.0, plain_append xs ys p.1 q)

-- ---- a word and numbers

abbrev IsSmall : ℕ → Type 0
IsSmall n = n < 100000

small_text : (n : ℕ) → IsSmall n → length (decimal n) ≤ 5
small_text n small = length-decimal-le 5 n (omega arith) (omega arith) (omega arith)

numbers_plain : (numbers : List ℕ) → AllByRecursion IsSmall numbers → HasNoFeed (flat_map number_text numbers)
numbers_plain [] all = tt
numbers_plain (n ∷ numbers) all =
    ((λ e. absurd (omega (arith, e))), plain_append (decimal n) (flat_map number_text numbers) (plain_decimal n (omega (arith, all.0))) (numbers_plain numbers all.1))

numbers_short : (numbers : List ℕ) → AllByRecursion IsSmall numbers → length (flat_map number_text numbers) ≤ 6 * length numbers
numbers_short [] all = omega arith
numbers_short (n ∷ numbers) all =
    let rest = numbers_short numbers all.1 in
    let first = small_text n all.0 in
    omega (arith, rest, first, length-append (decimal n) (flat_map number_text numbers))

numbers_fit : (numbers : List ℕ) → AllByRecursion IsSmall numbers → AreNumbers numbers
numbers_fit [] all = tt
numbers_fit (n ∷ numbers) all = (omega (arith, all.0), numbers_fit numbers all.1)

-- a line that is in form and in range, on one line
record IsGood (e : Event) : Type 0 where
  further : IsFurtherLine numbered_cluster (event_line e) e
  plain : HasNoFeed (event_line e)
  fixed : IsFixed e

-- a line of these parts has no lists
spelled : (p : Parts) → length (row_of p.form).word ≤ 9 → length p.numbers ≤ 5 → length p.numbers ≡ length (row_of p.form).names → lists_text p.lists ≡ []
    → HasLists (row_of p.form).lists p.lists → AllByRecursion IsSmall p.numbers → SpellsLine (line_text p) p
spelled p word few count bare fit all = record {
  short = let size = length-append (row_of p.form).word (flat_map number_text p.numbers ++ lists_text p.lists) in
      let rest = length-append (flat_map number_text p.numbers) (lists_text p.lists) in
      let none : length (lists_text p.lists) ≡ 0 = ap length bare in
      let small = numbers_short p.numbers all in
      omega (arith, size, rest, none, small);
  text = refl;
  form = record { count_is = count; small = numbers_fit p.numbers all; lists_fit = fit };
}

plain_line : (p : Parts) → HasNoFeed (row_of p.form).word → HasNoFeed (lists_text p.lists) → AllByRecursion IsSmall p.numbers → HasNoFeed (line_text p)
plain_line p word lists all = plain_append (row_of p.form).word _ word (plain_append (flat_map number_text p.numbers) (lists_text p.lists) (numbers_plain p.numbers all) lists)

-- no byte is a line feed
abbrev feeds : List ℕ → Bool
feeds [] = false
feeds (b ∷ bytes) = b == 10 || feeds bytes

no_feeds : (bytes : List ℕ) → feeds bytes ≡ false → HasNoFeed bytes
no_feeds [] none = tt
no_feeds (b ∷ bytes) none =
    let both = or_false (b == 10) (feeds bytes) none in
    ((λ e. absurd (ten_differs b both.0 e)), no_feeds bytes both.1)
  where
    or_false : (p q : Bool) → p || q ≡ false → (p ≡ false) × (q ≡ false)
    or_false true q e = cc
    or_false false q e = (refl, e)

    ten_differs : (n : ℕ) → (n == 10) ≡ false → n ≡ 10 → ⊥
    ten_differs n differs e = grind (arith, nat_tests)

-- a line of a word and numbers
plain_good : (e : Event) → feeds (row_of (parts_of e).form).word ≡ false → length (row_of (parts_of e).form).word ≤ 9 → length (parts_of e).numbers ≤ 5
    → length (parts_of e).numbers ≡ length (row_of (parts_of e).form).names → lists_text (parts_of e).lists ≡ [] → HasLists (row_of (parts_of e).form).lists (parts_of e).lists
    → AllByRecursion IsSmall (parts_of e).numbers → IsInRange numbered_cluster e → IsFixed e → IsGood e
plain_good e word size few count bare fit all range fixed = record {
  further = record { text = spelled (parts_of e) size few count bare fit all; in_range = range };
  plain = plain_line (parts_of e) (no_feeds (row_of (parts_of e).form).word word) (subst HasNoFeed (sym bare) tt) all;
  fixed = fixed;
}

-- ---- the events of the table

next_good : IsGood event.Next
next_good = plain_good event.Next refl (omega arith) (omega arith) refl refl tt tt tt tt

skip_good : IsGood event.Skip
skip_good = plain_good event.Skip refl (omega arith) (omega arith) refl refl tt tt tt tt

read_good : (v : ℕ) → 1 ≤ v → v ≤ 2 → IsGood (event.Read v)
read_good v some few =
    plain_good (event.Read v) refl (omega arith) (omega arith) refl refl tt (omega arith, tt) (record { some = some; fits = few }) tt

cas_good : (v : ℕ) → 1 ≤ v → v ≤ 2 → IsGood (event.Cas v)
cas_good v some few =
    plain_good (event.Cas v) refl (omega arith) (omega arith) refl refl tt (omega arith, tt) (record { some = some; fits = few }) tt

tick_good : (v : ℕ) → 1 ≤ v → v ≤ 2 → IsGood (event.Tick v)
tick_good v some few =
    plain_good (event.Tick v) refl (omega arith) (omega arith) refl refl tt (omega arith, tt) (record { some = some; fits = few }) tt

crash_good : (v : ℕ) → 1 ≤ v → v ≤ 5 → IsGood (event.Crash v)
crash_good v some few =
    plain_good (event.Crash v) refl (omega arith) (omega arith) refl refl tt (omega arith, tt) (record { some = some; fits = few }) tt

deliver_good : (i : ℕ) → i ≤ 20000 → (k : ℕ) → 1 ≤ k → k ≤ i → IsGood (event.Deliver k)
deliver_good i within k some few =
    plain_good (event.Deliver k) refl (omega arith) (omega arith) refl refl tt (omega arith, tt) (record { some = some; fits = omega arith }) tt

ask_good : (c v : ℕ) → 1 ≤ c → c ≤ 4 → 1 ≤ v → v ≤ 2 → IsGood (event.Ask c v)
ask_good c v c_some c_few some few =
    plain_good (event.Ask c v) refl (omega arith) (omega arith) refl refl tt (omega arith, (omega arith, tt))
    (record { some = c_some; fits = c_few }, record { some = some; fits = few }) tt

-- ---- `append`

abbrev ops_of : ℕ → List ℕ
ops_of d = codes "add " ++ (key_of d ++ codes " 1")

digits_in_key : (ds : List ℕ) → AllDigits 10 ds → are_key_bytes ds ≡ true
digits_in_key [] p = refl
digits_in_key (d ∷ ds) p = and_true (is_key_byte d) (are_key_bytes ds) (digit_in_key d (digit_from_value d p.0).0 (digit_from_value d p.0).1) (digits_in_key ds p.1)
  where
    digit_in_key : (b : ℕ) → 48 ≤ b → b ≤ 57 → is_key_byte b ≡ true
    digit_in_key b least most = grind (arith, nat_tests)

    and_true : (p q : Bool) → p ≡ true → q ≡ true → p && q ≡ true
    and_true true q e f = f
    and_true false q e f = e

ops_append : (xs ys : List ℕ) → AllByRecursion IsOpsByte xs → AllByRecursion IsOpsByte ys → AllByRecursion IsOpsByte (xs ++ ys)
ops_append xs ys p q = AllByRecursion-append IsOpsByte xs ys p q

digits_in_ops : (ds : List ℕ) → AllDigits 10 ds → AllByRecursion IsOpsByte ds
digits_in_ops [] p = tt
digits_in_ops (d ∷ ds) p = let range = digit_from_value d p.0 in (record { least = omega (arith, range); most = omega (arith, range) }, digits_in_ops ds p.1)

digits : (d : ℕ) → d < 10 → AllDigits 10 (decimal d)
digits d small = digits_decimal (numerals_by_value (AllDigits 10) tells_digits) d (omega arith)

abbrev ops_test : List ℕ → Bool
ops_test [] = true
ops_test (b ∷ bytes) = (nat_le 32 b && nat_le b 126) && ops_test bytes

ops_bytes : (bytes : List ℕ) → ops_test bytes ≡ true → AllByRecursion IsOpsByte bytes
ops_bytes [] is = tt
ops_bytes (b ∷ bytes) is =
    let parts = and_parts (nat_le 32 b && nat_le b 126) (ops_test bytes) is in
    (ops_byte b parts.0, ops_bytes bytes parts.1)
  where
    ops_byte : (n : ℕ) → nat_le 32 n && nat_le n 126 ≡ true → IsOpsByte n
    ops_byte n is = record { least = grind (arith, nat_tests); most = grind (arith, nat_tests) }

is_key_of : (d : ℕ) → d < 10 → IsKey (key_of d)
is_key_of d small = record {
  some = omega arith;
  short = let size = small_text d (omega arith) in omega (arith, size);
  bytes = digits_in_key (decimal d) (digits d small);
}

are_ops_of : (d : ℕ) → d < 10 → AreOps (ops_of d)
are_ops_of d small = record {
  bytes = ops_append (codes "add ") (key_of d ++ codes " 1") (ops_bytes (codes "add ") refl)
      (ops_append (key_of d) (codes " 1") (ops_append (codes "k") (decimal d) (ops_bytes (codes "k") refl) (digits_in_ops (decimal d) (digits d small))) (ops_bytes (codes " 1") refl));
  other = λ e. absurd (omega (arith, ap length e));
}

key_plain : (d : ℕ) → d < 10 → HasNoFeed (key_of d)
key_plain d small = plain_append (codes "k") (decimal d) (no_feeds (codes "k") refl) (plain_decimal d (omega arith))

lists_plain : (d : ℕ) → d < 10 → HasNoFeed (32 ∷ (keys_spelling (key_of d ∷ []) ++ 32 ∷ (keys_spelling [] ++ 32 ∷ ops_word (ops_of d))))
lists_plain d small =
    let key = key_plain d small in
    let ops = plain_append (codes "add ") (key_of d ++ codes " 1") (no_feeds (codes "add ") refl) (plain_append (key_of d) (codes " 1") key (no_feeds (codes " 1") refl)) in
    plain_append (codes " ") ((key_of d ++ []) ++ 32 ∷ 45 ∷ 32 ∷ ops_of d) (no_feeds (codes " ") refl) (plain_append (key_of d ++ []) (32 ∷ 45 ∷ 32 ∷ ops_of d) (plain_append (key_of d) [] key tt)
    (plain_append (codes " - ") (ops_of d) (no_feeds (codes " - ") refl) ops))

adding_good : (c v d : ℕ) → 1 ≤ c → c ≤ 4 → 1 ≤ v → v ≤ 2 → d < 10 → IsGood (adding c v d)
adding_good c v d c_some c_few some few small = record {
  further = record {
    text = record {
      short = long;
      text = refl;
      form = record {
        count_is = refl;
        small = (omega arith, (omega arith, tt));
        lists_fit = record { write_keys = (is_key_of d small, tt); read_keys = tt; ops_bytes = are_ops_of d small };
      };
    };
    in_range = (record { some = c_some; fits = c_few }, record { some = some; fits = few });
  };
  plain = plain_append (codes "append") (flat_map number_text (c ∷ v ∷ []) ++ lists) (no_feeds (codes "append") refl)
      (plain_append (flat_map number_text (c ∷ v ∷ [])) lists (numbers_plain (c ∷ v ∷ []) (omega arith, (omega arith, tt))) (lists_plain d small));
  fixed = tt;
}
  where
    lists : List ℕ
    lists = lists_text (parts_of (adding c v d)).lists

    long : length (event_line (adding c v d)) ≤ 512
    long =
        let digit = small_text d (omega arith) in
        let numbers = numbers_short (c ∷ v ∷ []) (omega arith, (omega arith, tt)) in
        let rest = length-append (flat_map number_text (c ∷ v ∷ [])) (lists_text (parts_of (adding c v d)).lists) in
        let key = length-append (key_of d) [] in
        let lists = length-append (key_of d ++ []) (32 ∷ (codes "-" ++ 32 ∷ ops_of d)) in
        let ops = length-append (key_of d) (codes " 1") in
        omega (arith, digit, numbers, rest, key, lists, ops)

-- ---- each event of the table

below : (x k : ℕ) → 0 < k → drawn x k < k
below x k some = omega arith

of_one_good : (e : ℕ → Event) (k x : ℕ) → 0 < k → ((v : ℕ) → 1 ≤ v → v ≤ k → IsGood (e v)) → IsGood (of_one e k x).event
of_one_good e k x some each = each (1 + drawn x k) (omega arith) (let less = below x k some in omega (arith, less))

asked_good : (x : ℕ) → IsGood (asked x).event
asked_good x =
    let c = below x 4 (omega arith) in
    let v = below (next_state x) 2 (omega arith) in
    ask_good (1 + drawn x 4) (1 + drawn (next_state x) 2) (omega arith) (omega (arith, c)) (omega arith) (omega (arith, v))

appended_good : (x : ℕ) → IsGood (appended x).event
appended_good x =
    let c = below x 4 (omega arith) in
    let v = below (next_state x) 2 (omega arith) in
    adding_good (1 + drawn x 4) (1 + drawn (next_state x) 2) (drawn (next_state (next_state x)) 10) (omega arith) (omega (arith, c)) (omega arith) (omega (arith, v))
    (below (next_state (next_state x)) 10 (omega arith))

abbrev GoodOne : Numbered → Type 0
GoodOne n = IsGood n.event

rarely_good : (e : ℕ → Event) (x : ℕ) → ((v : ℕ) → 1 ≤ v → v ≤ 2 → IsGood (e v)) → IsGood (rarely e x).event
rarely_good e x each =
    either GoodOne (drawn x 8 == 0) (of_one e 2 (next_state x)) (settled event.Next (next_state x)) (of_one_good e 2 (next_state x) (omega arith) each) next_good

by_draw_good : (i d x : ℕ) → 0 < i → i ≤ 20000 → IsGood (by_draw i d x).event
by_draw_good i d x some within =
    either GoodOne (nat_le d 47) _ _ next_good
    (either GoodOne (nat_le d 48) _ _ skip_good
    (either GoodOne (nat_le d 51) _ _ (of_one_good event.Tick 2 x (omega arith) tick_good)
    (either GoodOne (nat_le d 53) _ _ (appended_good x)
    (either GoodOne (nat_le d 56) _ _ (asked_good x)
    (either GoodOne (nat_le d 57) _ _ (of_one_good event.Deliver i x some (deliver_good i within))
    (either GoodOne (nat_le d 59) _ _ (of_one_good event.Crash 5 x (omega arith) crash_good)
    (either GoodOne (nat_le d 60) _ _ (rarely_good event.Read x read_good)
    (either GoodOne (nat_le d 61) _ _ (rarely_good event.Cas x cas_good) next_good))))))))

numbered_good : (i x : ℕ) → 0 < i → i ≤ 20000 → IsGood (numbered_from i x).event
numbered_good i x some within =
    either GoodOne (i == 1) _ _ (read_good 1 (omega arith) (omega arith))
    (either GoodOne (i == 2) _ _ (cas_good 1 (omega arith) (omega arith)) (by_draw_good i (drawn x 64) (next_state x) some within))

-- an event of a number's schedule is in range
pub numbered_in_range : (i x : ℕ) → 0 < i → i ≤ 20000 → IsInRange numbered_cluster (numbered_from i x).event
numbered_in_range i x some within = (numbered_good i x some within).further.in_range

-- ---- the schedule

events_good : (number events : ℕ) → events ≤ 20000 → AllByRecursion IsGood (numbered_events number events)
events_good number zero few = tt
events_good number (suc i) few =
    AllByRecursion-append IsGood (numbered_events number i) (event_after number i ∷ []) (events_good number i (omega arith))
    (numbered_good (suc i) (state_after number i) (omega arith) few, tt)

further_lines : (es : List Event) → AllByRecursion IsGood es → AreFurtherLines numbered_cluster (map event_line es) es
further_lines [] all = tt
further_lines (e ∷ es) all = (all.0.further, further_lines es all.1)

lines_plain : (es : List Event) → AllByRecursion IsGood es → AllByRecursion HasNoFeed (map event_line es)
lines_plain [] all = tt
lines_plain (e ∷ es) all = (all.0.plain, lines_plain es all.1)

lines_back : (lines : List (List ℕ)) → AllByRecursion HasNoFeed lines → lines_of (text_of lines) ≡ lines
lines_back [] all = refl
lines_back (line ∷ lines) all =
    ap lines_of (append_assoc line (10 ∷ []) (text_of lines)) ∙ (lines_of-ended line (text_of lines) all.0 ∙ ap (λ ls. line ∷ ls) (lines_back lines all.1))

abbrev first_line : List ℕ
first_line = line_text (first_parts numbered_cluster)

first_numbers : AllByRecursion IsSmall (5 ∷ 2 ∷ 4 ∷ 2 ∷ 64 ∷ [])
first_numbers = (omega arith, (omega arith, (omega arith, (omega arith, (omega arith, tt)))))

is_first : IsFirstLine first_line numbered_cluster
is_first = record {
  text = spelled (first_parts numbered_cluster) (omega arith) (omega arith) refl refl tt first_numbers;
  in_range = record {
    nodes = record { some = omega arith; fits = omega arith };
    servers = record { some = omega arith; fits = omega arith };
    clients = record { some = omega arith; fits = omega arith };
    rows = record { some = omega arith; fits = omega arith };
    slots = record { some = omega arith; fits = omega arith };
  };
}

pub numbers_have_schedules : NumbersHaveSchedules
numbers_have_schedules number events few =
    let good = events_good number events few in
    record {
      lines = lines_back (numbered_lines number events)
          (plain_line (first_parts numbered_cluster) (no_feeds (codes "cluster") refl) tt first_numbers, lines_plain (numbered_events number events) good);
      schedule = (is_first, further_lines (numbered_events number events) good);
    }

events_fixed : (es : List Event) → AllByRecursion IsGood es → AllByRecursion IsFixed es
events_fixed [] all = tt
events_fixed (e ∷ es) all = (all.0.fixed, events_fixed es all.1)

pub numbers_have_one_run : NumbersHaveOneRun
numbers_have_one_run number events os ps vs ws few r s =
    let agree = runs_agree (start numbered_cluster) (start numbered_cluster) (numbered_events number events) os ps vs ws
    (events_fixed (numbered_events number events) (events_good number events few)) refl r s in
    record { outcomes = agree.outcomes; worlds = agree.world; counts = ap (λ (w : WorldState). summary_of events w) agree.world }
