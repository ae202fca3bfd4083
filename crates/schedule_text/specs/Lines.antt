-- The text of a line from its parts, and the ranges of its numbers.
use Rattle.std.specs.Prelude.{◌≡◌, ℕ, ◌<◌, ◌≤◌, ◌^◌, ◌⊎◌, Bool, true, false, List, [], ◌∷◌, ◌++◌, length, decimal, flat_map, Option, Some, None, ⊤}
use Rattle.std.specs.List.{AllByRecursion}
use Rattle.tx_model.specs.Applications.{IsKey}
use Rattle.schedule_text.specs.declared.lines.form.Name.{Name}
use Rattle.schedule_text.specs.declared.lines.form.Form.{Form}
use Rattle.net_model.specs.declared.cluster.Cluster.{Cluster}
use Rattle.schedule_text.specs.Forms.{row_of, least, most, IsAmong}
use Rattle.schedule_text.specs.Lists.{keys_spelling, ops_word, AreOps}

-- two lists of keys, and ops
pub record Lists : Type 0 where
  pub writes : List (List ℕ)
  pub reads : List (List ℕ)
  pub ops : List ℕ

-- what a line says
pub record Parts : Type 0 where
  pub form : Form
  pub numbers : List ℕ
  pub lists : Option Lists

-- ---- the text

abbrev pub number_text : ℕ → List ℕ
number_text n = 32 ∷ decimal n

abbrev pub lists_text : Option Lists → List ℕ
lists_text None = []
lists_text (Some l) = 32 ∷ (keys_spelling l.writes ++ 32 ∷ (keys_spelling l.reads ++ 32 ∷ ops_word l.ops))

-- what follows the first word
abbrev pub rest_text : List ℕ → Option Lists → List ℕ
rest_text numbers lists = flat_map number_text numbers ++ lists_text lists

abbrev pub line_text : Parts → List ℕ
line_text p = (row_of p.form).word ++ rest_text p.numbers p.lists

-- ---- the form

abbrev pub IsNumber : ℕ → Type 0
IsNumber n = n < 2 ^ 64

abbrev pub AreNumbers : List ℕ → Type 0
AreNumbers numbers = AllByRecursion IsNumber numbers

pub record AreLists (l : Lists) : Type 0 where
  pub write_keys : AllByRecursion IsKey l.writes
  pub read_keys : AllByRecursion IsKey l.reads
  pub ops_bytes : AreOps l.ops

-- lists stand where the form has them
abbrev pub HasLists : Bool → Option Lists → Type 0
HasLists false None = ⊤
HasLists false (Some l) = ⊥
HasLists true None = ⊥
HasLists true (Some l) = AreLists l

-- so many numbers, and lists where there should be
pub record FitsRest (count : ℕ) (has_lists : Bool) (numbers : List ℕ) (lists : Option Lists) : Type 0 where
  pub count_is : length numbers ≡ count
  pub small : AreNumbers numbers
  pub lists_fit : HasLists has_lists lists

abbrev pub HasForm : Parts → Type 0
HasForm p = FitsRest (length (row_of p.form).names) (row_of p.form).lists p.numbers p.lists

-- a line of at most 512 bytes is in one of the forms and has these parts, whether or not its numbers are in range
pub record Spells (forms : List Form) (line : List ℕ) (p : Parts) : Type 0 where
  pub short : length line ≤ 512
  pub text : line ≡ line_text p
  pub form : HasForm p
  pub among : IsAmong forms p.form

-- ---- the ranges

pub record IsInRangeOf (cluster : Cluster) (name : Name) (n : ℕ) : Type 0 where
  pub some : least name ≤ n
  pub fits : n ≤ most cluster name

-- each number is in the range of its name
abbrev pub AreInRanges : Cluster → List Name → List ℕ → Type 0
AreInRanges cluster (name ∷ names) (n ∷ numbers) = IsInRangeOf cluster name n × AreInRanges cluster names numbers
AreInRanges cluster _ _ = ⊤

-- the first number that is out of its range has this name
abbrev pub IsFirstOut : Cluster → List Name → List ℕ → Name → Type 0
IsFirstOut cluster (name ∷ names) (n ∷ numbers) found =
    (¬ IsInRangeOf cluster name n × (found ≡ name)) ⊎ (IsInRangeOf cluster name n × IsFirstOut cluster names numbers found)
IsFirstOut cluster _ _ found = ⊥
