-- Where a line stops to begin some line in form.
use Rattle.std.specs.Prelude.{◌≡◌, ℕ, ◌+◌, ◌<◌, ◌≤◌, List, ◌++◌, length, take}
use Rattle.net_model.specs.declared.event.Event.{Event}
use Rattle.net_model.specs.declared.cluster.Cluster.{Cluster}
use Rattle.schedule_text.specs.declared.lines.script.ScriptLine.{ScriptLine}
use Rattle.schedule_text.specs.Lines.{Parts, line_text, HasForm}
use Rattle.schedule_text.specs.Spellings.{parts_of, first_parts, script_parts, SpellsEvent, SpellsCluster, SpellsScript}

-- the text of a line with these parts begins so
pub record Begins (front : List ℕ) (p : Parts) : Type 0 where
  pub form : HasForm p
  pub more : List ℕ
  pub text : line_text p ≡ front ++ more

-- some event's line begins so
abbrev pub BeginsEvent : List ℕ → Type 0
BeginsEvent front = (e : Event) × Begins front (parts_of e)

-- some first line begins so
abbrev pub BeginsCluster : List ℕ → Type 0
BeginsCluster front = (c : Cluster) × Begins front (first_parts c)

-- some line of a script begins so
abbrev pub BeginsScript : List ℕ → Type 0
BeginsScript front = (s : ScriptLine) × Begins front (script_parts s)

-- k is the length of the longest prefix of the line with P
pub record IsLongest (P : List ℕ → Type 0) (line : List ℕ) (k : ℕ) : Type 0 where
  pub within : k ≤ length line
  pub holds : P (take k line)
  pub no_more : (j : ℕ) → k < j → j ≤ length line → ¬ P (take j line)

-- one more than the length of the longest prefix with P of the first 512 bytes: no place is above 513
pub record IsPlace (P : List ℕ → Type 0) (line : List ℕ) (at : ℕ) : Type 0 where
  pub longest : ℕ
  pub at_is : at ≡ longest + 1
  pub is_longest : IsLongest P (take 512 line) longest

-- the line is no event, and stops at this place to begin one
abbrev pub IsBadEvent : List ℕ → ℕ → Type 0
IsBadEvent line at = ((e : Event) → ¬ SpellsEvent line e) × IsPlace BeginsEvent line at

-- the line is no first line, and stops at this place to begin one
abbrev pub IsBadCluster : List ℕ → ℕ → Type 0
IsBadCluster line at = ((c : Cluster) → ¬ SpellsCluster line c) × IsPlace BeginsCluster line at

-- the line is no line of a script, and stops at this place to begin one
abbrev pub IsBadScript : List ℕ → ℕ → Type 0
IsBadScript line at = ((s : ScriptLine) → ¬ SpellsScript line s) × IsPlace BeginsScript line at
