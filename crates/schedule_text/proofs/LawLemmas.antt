-- A line is one value at most and has one fault at most, and the places of lines are capped.
use Rattle.std.proofs.Common.{◌≡◌, ℕ, ◌+◌, ◌<◌, ◌≤◌, List, ◌++◌, length, take, get_or, min, arith, refl, sym, ◌∙◌, ap, subst, length-append, length-take, inl, inr}
use Rattle.std.proofs.lemmas.Bool.{cases_lt}
use Rattle.std.proofs.lemmas.List.{take-take, take-append-le}
use Rattle.schedule_text.specs.declared.lines.form.TheConstants.{EVENTS, FIRST, SCRIPT}
use Rattle.net_model.specs.declared.cluster.Cluster.{Cluster}
use Rattle.net_model.specs.declared.event.Event.{Event}
use Rattle.net_model.specs.declared.event.Event.TheVariants as event
use Rattle.schedule_text.specs.declared.lines.script.ScriptLine.{ScriptLine}
use Rattle.schedule_text.specs.declared.lines.script.ScriptLine.TheVariants as script
use Rattle.schedule_text.specs.Lines.{Parts, Spells}
use Rattle.schedule_text.specs.Spellings.{parts_of, first_parts, script_parts, no_cluster, SpellsEvent, SpellsCluster}
use Rattle.schedule_text.specs.Places.{BeginsEvent, BeginsCluster, BeginsScript, IsLongest, IsPlace}
use Rattle.schedule_text.specs.ReadingLaws.{AreCapped, LinesAreOne, FaultsAreOne, PlacesAreCapped, LongLinesAreBad}
use Rattle.schedule_text.proofs.PlaceLemmas.{Begins-shorter}
use Rattle.schedule_text.proofs.ExactLemmas.{one_line, one_name, one_place, none_out_of_line, spells}
use Rattle.schedule_text.proofs.RangeLemmas.{table_range, first_range}
use Rattle.schedule_text.proofs.TableLemmas.{event_again, script_again, events_are_a_table, first_lines_are_a_table, script_lines_are_a_table}

-- ---- capped places

capped : (P : List ℕ → Type 0) → ((line : List ℕ) (j m : ℕ) → m ≤ j → P (take j line) → P (take m line)) → AreCapped P
capped P shorter line k at longest is =
    let j = is.longest in
    let front = is.is_longest in
    let short : length (take 512 line) ≡ min 512 (length line) = length-take 512 line in
    let within : j ≤ length (take 512 line) = front.within in
    let first : j ≤ 512 = omega arith in
    let begins : P (take j line) = subst P (take-take j 512 line first) front.holds in
    let in_line : k ≤ length line = longest.within in
    let not_above : j ≤ k = elim (cases_lt k j) [
      | inl less ↦ absurd (longest.no_more j less (omega arith) begins)
      | inr more ↦ more
    ] in
    let not_below : min k 512 ≤ j = elim (cases_lt j (min k 512)) [
      | inl less ↦
          let whole : P (take (min k 512) line) = shorter line k (min k 512) (omega arith) longest.holds in
          absurd (front.no_more (min k 512) less (omega arith) (subst P (sym (take-take (min k 512) 512 line (omega arith))) whole))
      | inr more ↦ more
    ] in
    let place : at ≡ j + 1 = is.at_is in
    omega arith

pub places_capped : PlacesAreCapped
places_capped = record {
  events = capped BeginsEvent (λ line j m less begins. (begins.0, Begins-shorter line j m (parts_of begins.0) less begins.1));
  clusters = capped BeginsCluster (λ line j m less begins. (begins.0, Begins-shorter line j m (first_parts begins.0) less begins.1));
  scripts = capped BeginsScript (λ line j m less begins. (begins.0, Begins-shorter line j m (script_parts begins.0) less begins.1));
}

-- ---- one value

-- an event is told by its parts
again : (e : Event) → event_again (parts_of e) ≡ e
again (event.Read server) = refl
again event.Next = refl
again _ = refl

script_back : (s : ScriptLine) → script_again (script_parts s) ≡ s
script_back (script.Append writes reads ops) = refl
script_back _ = refl

abbrev cluster_again : Parts → Cluster
cluster_again p = record { nodes = get_or p.numbers 0 0; servers = get_or p.numbers 1 0; clients = get_or p.numbers 2 0; rows = get_or p.numbers 3 0; slots = get_or p.numbers 4 0 }

pub lines_one : LinesAreOne
lines_one = record {
  events = λ line a b p q.
      let same = one_line EVENTS line (parts_of a) (parts_of b) (spells parts_of EVENTS events_are_a_table line a p) (spells parts_of EVENTS events_are_a_table line b q) in
      sym (again a) ∙ (ap event_again same ∙ again b);
  clusters = λ line a b p q.
      let same = one_line FIRST line (first_parts a) (first_parts b) (spells first_parts FIRST first_lines_are_a_table line a p) (spells first_parts FIRST first_lines_are_a_table line b q) in
      ap cluster_again same;
  scripts = λ line a b p q.
      let same = one_line SCRIPT line (script_parts a) (script_parts b) (spells script_parts SCRIPT script_lines_are_a_table line a p) (spells script_parts SCRIPT script_lines_are_a_table line b q) in
      sym (script_back a) ∙ (ap script_again same ∙ script_back b);
}

-- ---- one fault

event_spells : (line : List ℕ) (e : Event) → SpellsEvent line e → Spells EVENTS line (parts_of e)
event_spells line e is = spells parts_of EVENTS events_are_a_table line e is

first_spells : (line : List ℕ) (c : Cluster) → SpellsCluster line c → Spells FIRST line (first_parts c)
first_spells line c is = spells first_parts FIRST first_lines_are_a_table line c is

pub faults_one : FaultsAreOne
faults_one = record {
  places = λ line a b p q. one_place BeginsEvent line a b p.1 q.1;
  first_places = λ line a b p q. one_place BeginsCluster line a b p.1 q.1;
  script_places = λ line a b p q. one_place BeginsScript line a b p.1 q.1;
  names = λ cluster line a b p q. one_name EVENTS cluster line (parts_of p.0) (parts_of q.0) a b (event_spells line p.0 p.1) (event_spells line q.0 q.1) p.2 q.2;
  first_names = λ line a b p q. one_name FIRST no_cluster line (first_parts p.0) (first_parts q.0) a b (first_spells line p.0 p.1) (first_spells line q.0 q.1) p.2 q.2;
  in_range = λ cluster line e name is within out. none_out_of_line EVENTS cluster line (parts_of e) (parts_of out.0) name (event_spells line e is) (event_spells line out.0 out.1) (table_range cluster e within) out.2;
  first_in_range = λ line c name is within out. none_out_of_line FIRST no_cluster line (first_parts c) (first_parts out.0) name (first_spells line c is) (first_spells line out.0 out.1) (first_range c within) out.2;
}

-- ---- long lines

too_long : (front more : List ℕ) → 512 < length front → length (front ++ more) ≤ 512 → ⊥
too_long front more long short = let both = length-append front more in omega arith

-- what follows the first 512 bytes moves no place
place_of_front : (P : List ℕ → Type 0) (front more : List ℕ) (at : ℕ) → 512 < length front → IsPlace P front at → IsPlace P (front ++ more) at
place_of_front P front more at long is = record {
  longest = is.longest;
  at_is = is.at_is;
  is_longest = subst (λ line. IsLongest P line is.longest) (sym (take-append-le 512 front more (omega arith))) is.is_longest;
}

pub long_lines : LongLinesAreBad
long_lines = record {
  events = λ front more at long is. ((λ e spelled. too_long front more long spelled.short), place_of_front BeginsEvent front more at long is);
  clusters = λ front more at long is. ((λ c spelled. too_long front more long spelled.short), place_of_front BeginsCluster front more at long is);
  scripts = λ front more at long is. ((λ s spelled. too_long front more long spelled.short), place_of_front BeginsScript front more at long is);
}
