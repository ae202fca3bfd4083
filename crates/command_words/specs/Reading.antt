-- The arguments of the commands, and what `clap` reads of them.
use Rattle.std.specs.Prelude.{◌≡◌, ◌==◌, List, [], ◌∷◌, IfOk, MatchOption, Option, Result, Some, codes, false, option_map, true, unwrap_or}
use Rattle.std.specs.List.{AllByRecursion}
use Rattle.clap.specs.Words.{App, Rule, Text, fault_of, first_value, found_of, matched_of, matches_of, new_app, new_rule, raw_values, rows_of, with_rule}
use Rattle.clap.specs.declared.builder.ArgAction.TheVariants.{Set, Append}
use Rattle.clap.specs.declared.parser.matches.ArgMatches.{ArgMatches}

-- a word that is not empty and begins with no `-`
abbrev pub IsPlain : Text → Type 0
IsPlain [] = ⊥
IsPlain (x ∷ xs) = (x == 45) ≡ false

abbrev pub ArePlain : List Text → Type 0
ArePlain = AllByRecursion IsPlain

-- plain words that the command takes
pub record AreTaken (app : App) (words : List Text) : Type 0 where
  pub plain : ArePlain words
  pub faultless : fault_of app words ≡ []

-- the value of an argument, and all the values of one
abbrev pub value_in : ArgMatches → Text → Text
value_in m name = unwrap_or (first_value (found_of m) name) []

abbrev pub values_in : ArgMatches → Text → List Text
values_in m name = unwrap_or (option_map raw_values (matched_of (found_of m) name)) []

-- the words of a server's setting
abbrev pub setting_words : ArgMatches → List Text
setting_words m = value_in m (codes "port") ∷ value_in m (codes "register") ∷ value_in m (codes "rows") ∷ value_in m (codes "slots")
    ∷ values_in m (codes "nodes")

-- the matches of the words, or none where the command does not take them
abbrev pub Reads : {E : Type 0} → App → List Text → Result (Option ArgMatches) E → Type 0
Reads app words r = IfOk r (λ some. MatchOption some (¬ AreTaken app words)
    (λ m. AreTaken app words × (rows_of (found_of m) ≡ matches_of app words)))

-- ---- the arguments

-- one value
abbrev pub one_value : Text → Rule
one_value id = record (new_rule id) { required = true; action = Some Set }

-- the values from this place on, at most seven
abbrev pub up_to_seven : Text → Rule
up_to_seven id = record (new_rule id) {
  required = true;
  action = Some Append;
  range = Some (record { start_inclusive = 1; end_inclusive = 7 });
}

-- no word of them is a name
abbrev pub no_arguments : App
no_arguments = record (new_app (codes "waltz")) { top = record (new_app (codes "waltz")).top { no_binary_name = true } }

abbrev pub one_argument : Text → App
one_argument id = with_rule no_arguments (one_value id)

abbrev pub two_arguments : Text → Text → App
two_arguments first second = with_rule (one_argument first) (one_value second)

abbrev pub server_arguments : App
server_arguments = with_rule (with_rule (with_rule
    (two_arguments (codes "port") (codes "register")) (one_value (codes "rows"))) (one_value (codes "slots")))
    (up_to_seven (codes "nodes"))
