-- Events, first lines and lines of scripts as the values of their forms' lines.
use Rattle.std.proofs.Common.{get_or, ◌≡◌, ℕ, Bool, true, false, List, [], ◌∷◌, length, arith, refl, sym, ap, subst, Option, Some, None}
use Rattle.schedule_text.specs.declared.lines.form.TheConstants.{EVENTS, FIRST, SCRIPT}
use Rattle.net_model.specs.declared.cluster.Cluster.{Cluster}
use Rattle.net_model.specs.declared.event.Event.{Event}
use Rattle.net_model.specs.declared.event.Event.TheVariants as event
use Rattle.schedule_text.specs.declared.lines.form.Form.{Form}
use Rattle.schedule_text.specs.declared.lines.form.Form.TheVariants as form
use Rattle.schedule_text.specs.declared.lines.found.Tail.{Tail}
use Rattle.schedule_text.specs.declared.lines.found.Tail.TheVariants as tail
use Rattle.schedule_text.specs.declared.lines.found.Found.{Found}
use Rattle.schedule_text.specs.Forms.{row_of, IsAmong}
use Rattle.schedule_text.specs.Lines.{Lists, Parts, FitsRest, HasLists, Spells}
use Rattle.schedule_text.specs.declared.lines.form.Name.{Name}
use Rattle.schedule_text.specs.declared.lines.script.ScriptLine.{ScriptLine}
use Rattle.schedule_text.specs.declared.lines.script.ScriptLine.TheVariants as script
use Rattle.schedule_text.specs.Spellings.{parts_of, first_parts, script_parts, AreInRange, IsOutOfRange}
use Rattle.schedule_text.specs.Found.{IsTail, IsFound, IsFoundInRange, SpellsLists, SayFound, parts_from}
use Rattle.schedule_text.proofs.FoundLemmas.{spells_found}
use Rattle.schedule_text.proofs.ExactLemmas.{IsTable}

-- ---- an event from its parts

-- the event of some parts
abbrev pub lists_of : Option Lists → Lists
lists_of None = record { writes = []; reads = []; ops = [] }
lists_of (Some l) = l

abbrev pub event_from : Form → List ℕ → Lists → Event
event_from form.Read n l = event.Read (get_or n 0 0)
event_from form.Cas n l = event.Cas (get_or n 0 0)
event_from form.Waste n l = event.Waste (get_or n 0 0)
event_from form.Tick n l = event.Tick (get_or n 0 0)
event_from form.Next n l = event.Next
event_from form.Skip n l = event.Skip
event_from form.Deliver n l = event.Deliver (get_or n 0 0)
event_from form.Tear n l = event.Tear (get_or n 0 0) (get_or n 1 0)
event_from form.Crash n l = event.Crash (get_or n 0 0)
event_from form.Restart n l = event.Restart (get_or n 0 0)
event_from form.Reboot n l = event.Reboot (get_or n 0 0)
event_from form.Append n l = event.Append (get_or n 0 0) (get_or n 1 0) l.writes l.reads l.ops
event_from form.Ask n l = event.Ask (get_or n 0 0) (get_or n 1 0)
event_from form.Flush n l = event.Flush (get_or n 0 0) (get_or n 1 0)
event_from form.Show n l = event.Show (get_or n 0 0)
event_from form.Server n l = event.Server (get_or n 0 0)
event_from form.App n l = event.App (get_or n 0 0)
event_from form.Log n l = event.Log (get_or n 0 0)
event_from form.Dump n l = event.Dump (get_or n 0 0) (get_or n 1 0) (get_or n 2 0)
event_from _ n l = event.Next

abbrev pub event_again : Parts → Event
event_again p = event_from p.form p.numbers (lists_of p.lists)

abbrev made : Form → List ℕ → Option Lists → Parts
made f numbers lists = record { form = f; numbers = numbers; lists = lists }

-- which has those parts, where they are in form. In each clause a form has these numbers and lists, or other numbers, or other lists
has_parts :
    (f : Form) (numbers : List ℕ) (lists : Option Lists) → FitsRest (length (row_of f).names) (row_of f).lists numbers lists →
    IsAmong EVENTS f → parts_of (event_from f numbers (lists_of lists)) ≡ made f numbers lists
has_parts form.Cluster numbers lists fits among = absurd cc
has_parts form.ScriptAppend numbers lists fits among = absurd cc
has_parts form.ScriptSync numbers lists fits among = absurd cc
has_parts form.ScriptApp numbers lists fits among = absurd cc
has_parts form.ScriptFlush numbers lists fits among = absurd cc
has_parts _ [] None fits among = first_of (cc, grind (arith, fits.count_is, fits.lists_fit))
has_parts _ (a ∷ []) None fits among = first_of (cc, grind (arith, fits.count_is, fits.lists_fit))
has_parts _ (a ∷ b ∷ []) None fits among = first_of (cc, grind (arith, fits.count_is, fits.lists_fit))
has_parts _ (a ∷ b ∷ c ∷ []) None fits among = first_of (cc, grind (arith, fits.count_is, fits.lists_fit))
has_parts _ (a ∷ b ∷ c ∷ d ∷ numbers) None fits among = absurd (omega (arith, fits.count_is))
has_parts _ [] (Some l) fits among = grind (arith, fits.count_is, fits.lists_fit)
has_parts _ (a ∷ []) (Some l) fits among = grind (arith, fits.count_is, fits.lists_fit)
has_parts _ (a ∷ b ∷ []) (Some l) fits among = first_of (cc, grind (arith, fits.count_is, fits.lists_fit))
has_parts _ (a ∷ b ∷ c ∷ numbers) (Some l) fits among = grind (arith, fits.count_is, fits.lists_fit)

among_events : (e : Event) → IsAmong EVENTS (parts_of e).form
among_events (event.Read server) = refl
among_events event.Next = refl
among_events _ = refl

pub events_are_a_table : IsTable parts_of EVENTS
events_are_a_table = record { among = among_events; from = λ p fits among. (event_again p, has_parts p.form p.numbers p.lists fits among) }

-- ---- a cluster from its parts

record Five (numbers : List ℕ) : Type 0 where
  a : ℕ
  b : ℕ
  c : ℕ
  d : ℕ
  e : ℕ
  are : a ∷ b ∷ c ∷ d ∷ e ∷ [] ≡ numbers

five_numbers : (numbers : List ℕ) → length numbers ≡ 5 → Five numbers
five_numbers (a ∷ b ∷ c ∷ d ∷ e ∷ []) count = record { a = a; b = b; c = c; d = d; e = e; are = refl }
five_numbers [] count = absurd (omega arith)
five_numbers (a ∷ []) count = absurd (omega arith)
five_numbers (a ∷ b ∷ []) count = absurd (omega arith)
five_numbers (a ∷ b ∷ c ∷ []) count = absurd (omega arith)
five_numbers (a ∷ b ∷ c ∷ d ∷ []) count = absurd (omega arith)
five_numbers (a ∷ b ∷ c ∷ d ∷ e ∷ f ∷ numbers) count = absurd (omega arith)

abbrev ClusterOf : Form → List ℕ → Option Lists → Type 0
ClusterOf f numbers lists = (c : Cluster) × (first_parts c ≡ made f numbers lists)

from_five : (numbers : List ℕ) (lists : Option Lists) → length numbers ≡ 5 → HasLists false lists → ClusterOf form.Cluster numbers lists
from_five numbers None count fits =
    let n = five_numbers numbers count in
    (record { nodes = n.a; servers = n.b; clients = n.c; rows = n.d; slots = n.e }, ap (λ ns. made form.Cluster ns None) n.are)
from_five numbers (Some l) count fits = absurd fits

from_first : (f : Form) (numbers : List ℕ) (lists : Option Lists) → FitsRest (length (row_of f).names) (row_of f).lists numbers lists → IsAmong FIRST f → ClusterOf f numbers lists
from_first form.Cluster numbers lists fits among = from_five numbers lists fits.count_is fits.lists_fit
from_first _ numbers lists fits among = absurd cc

pub first_lines_are_a_table : IsTable first_parts FIRST
first_lines_are_a_table = record { among = λ c. refl; from = λ p fits among. from_first p.form p.numbers p.lists fits among }

-- ---- a script's line from its parts

abbrev pub script_from : Form → Lists → ScriptLine
script_from form.ScriptSync l = script.Sync
script_from form.ScriptApp l = script.App
script_from form.ScriptFlush l = script.Flush
script_from _ l = script.Append l.writes l.reads l.ops

abbrev pub script_again : Parts → ScriptLine
script_again p = script_from p.form (lists_of p.lists)

script_has_parts :
    (f : Form) (numbers : List ℕ) (lists : Option Lists) → FitsRest (length (row_of f).names) (row_of f).lists numbers lists →
    IsAmong SCRIPT f → script_parts (script_from f (lists_of lists)) ≡ made f numbers lists
script_has_parts form.ScriptAppend [] (Some l) fits among = refl
script_has_parts form.ScriptAppend [] None fits among = absurd fits.lists_fit
script_has_parts form.ScriptSync [] None fits among = refl
script_has_parts form.ScriptApp [] None fits among = refl
script_has_parts form.ScriptFlush [] None fits among = refl
script_has_parts form.ScriptSync [] (Some l) fits among = absurd fits.lists_fit
script_has_parts form.ScriptApp [] (Some l) fits among = absurd fits.lists_fit
script_has_parts form.ScriptFlush [] (Some l) fits among = absurd fits.lists_fit
script_has_parts form.ScriptAppend (n ∷ numbers) lists fits among = absurd (omega (arith, fits.count_is))
script_has_parts form.ScriptSync (n ∷ numbers) lists fits among = absurd (omega (arith, fits.count_is))
script_has_parts form.ScriptApp (n ∷ numbers) lists fits among = absurd (omega (arith, fits.count_is))
script_has_parts form.ScriptFlush (n ∷ numbers) lists fits among = absurd (omega (arith, fits.count_is))
script_has_parts _ numbers lists fits among = absurd cc

among_script : (s : ScriptLine) → IsAmong SCRIPT (script_parts s).form
among_script (script.Append writes reads ops) = refl
among_script _ = refl

pub script_lines_are_a_table : IsTable script_parts SCRIPT
script_lines_are_a_table = record { among = among_script; from = λ p fits among. (script_again p, script_has_parts p.form p.numbers p.lists fits among) }

-- a script's line has no number out of range
pub no_number_out : (s : ScriptLine) (cluster : Cluster) (name : Name) → IsOutOfRange cluster (script_parts s) name → ⊥
no_number_out (script.Append writes reads ops) cluster name out = out
no_number_out _ cluster name out = out

-- ---- the values of what was found

pub spells_said : (forms : List Form) (line : List ℕ) (f : Found) (p : Parts) → IsFound forms line f → SayFound f p → Spells forms line p
spells_said forms line f p is say = subst (Spells forms line) (sym say.same) (spells_found forms line f say.lists is say.spelled)

pub said_in_range : (cluster : Cluster) (f : Found) (p : Parts) → SayFound f p → IsFoundInRange cluster f → AreInRange cluster p
said_in_range cluster f p say within = subst (AreInRange cluster) (sym say.same) within

-- a first line has no lists
no_lists_first : (b : Bool) (text : List ℕ) (t : Tail) → b ≡ false → IsTail b text t → SpellsLists t None
no_lists_first b text tail.End e is = tt
no_lists_first false text (tail.Lists w) e is = is
no_lists_first true text (tail.Lists w) e is = absurd cc

first_form : (f : Form) → IsAmong FIRST f → (row_of f).lists ≡ false
first_form form.Cluster among = refl
first_form _ among = absurd cc

pub first_said : (line : List ℕ) (f : Found) (c : Cluster) → IsFound FIRST line f → first_parts c ≡ parts_from f None → SayFound f (first_parts c)
first_said line f c is same = record { lists = None; spelled = no_lists_first (row_of f.form).lists is.tail f.tail (first_form f.form is.among) is.tail_is; same = same }
