-- What the matches of a command say.
use Rattle.std.proofs.Common.{◌≡◌, ◌∙◌, ◌&&◌, Bool, false, List, [], ◌∷◌, Result, Ok, Err, Option, Some, None, IfOk, MatchOption, ap, ap₂, codes, refl, subst, sym, true}
use Rattle.std.specs.Prelude.{unwrap_or}
use Rattle.clap.specs.Words.{App, Row, Text, all_of, first_of, found_of, is_simple_and_free, matches_of, rows_of}
use Rattle.clap.specs.declared.parser.matches.ArgMatches.{ArgMatches}
use Rattle.clap.proofs.WalkLemmas.{first_value-rows, raw_values-rows}
use Rattle.command_words.specs.Reading.{AreTaken, Reads, one_argument, server_arguments, setting_words, two_arguments, value_in, values_in}
use Rattle.command_words.proofs.PlainWords.{pair_read, port_read}
use Rattle.command_words.proofs.ServerWords.{server_read}

pub value_read : (m : ArgMatches) (rows : List Row) (name : Text) → rows_of (found_of m) ≡ rows → value_in m name ≡ unwrap_or (first_of name rows) []
value_read m rows name is = ap (λ (o : Option Text). unwrap_or o []) (first_value-rows (found_of m) name ∙ ap (first_of name) is)

pub values_read : (m : ArgMatches) (rows : List Row) (name : Text) → rows_of (found_of m) ≡ rows → values_in m name ≡ unwrap_or (all_of name rows) []
values_read m rows name is = ap (λ (o : Option (List Text)). unwrap_or o []) (raw_values-rows (found_of m) name ∙ ap (all_of name) is)

-- what is read of a command is read of its arguments
pub by_cases : {E : Type 0} (r : Result (Option ArgMatches) E) (made app : App) (words : List Text) (Refused : Type 0) (Given : ArgMatches → Type 0)
    → made ≡ app → is_simple_and_free app ≡ true → (¬ AreTaken app words → Refused)
    → ((m : ArgMatches) → AreTaken app words → rows_of (found_of m) ≡ matches_of app words → Given m)
    → (is_simple_and_free made ≡ true → Reads made words r) → IfOk r (λ some. MatchOption some Refused Given)
by_cases {E} r made app words Refused Given is simple refused given h = go r (subst (λ (a : App). is_simple_and_free a ≡ true → Reads a words r) is h simple)
  where
    go : (r : Result (Option ArgMatches) E) → Reads app words r → IfOk r (λ some. MatchOption some Refused Given)
    go (Err e) p = tt
    go (Ok None) p = refused p
    go (Ok (Some m)) p = given m p.0 p.1

-- ---- the words are the values of the arguments

pub port_given : (words : List Text) (m : ArgMatches) → AreTaken (one_argument (codes "port")) words → rows_of (found_of m) ≡ matches_of (one_argument (codes "port")) words
    → words ≡ value_in m (codes "port") ∷ []
port_given words m are is =
    let read = port_read words are in
    read.1 ∙ ap (λ (w : Text). w ∷ []) (sym (value_read m _ (codes "port") (is ∙ read.2)))

pub schedule_given : (words : List Text) (m : ArgMatches) → AreTaken (two_arguments (codes "number") (codes "events")) words
    → rows_of (found_of m) ≡ matches_of (two_arguments (codes "number") (codes "events")) words → words ≡ value_in m (codes "number") ∷ value_in m (codes "events") ∷ []
schedule_given words m are is =
    let read = pair_read (codes "events") refl refl refl words are in
    read.2 ∙ ap₂ (λ (v w : Text). v ∷ w ∷ []) (sym (value_read m _ (codes "number") (is ∙ read.3))) (sym (value_read m _ (codes "events") (is ∙ read.3)))

pub client_given : (words : List Text) (m : ArgMatches) → AreTaken (two_arguments (codes "number") (codes "server")) words
    → rows_of (found_of m) ≡ matches_of (two_arguments (codes "number") (codes "server")) words → words ≡ value_in m (codes "number") ∷ value_in m (codes "server") ∷ []
client_given words m are is =
    let read = pair_read (codes "server") refl refl refl words are in
    read.2 ∙ ap₂ (λ (v w : Text). v ∷ w ∷ []) (sym (value_read m _ (codes "number") (is ∙ read.3))) (sym (value_read m _ (codes "server") (is ∙ read.3)))

pub server_given : (words : List Text) (m : ArgMatches) → AreTaken server_arguments words → rows_of (found_of m) ≡ matches_of server_arguments words
    → words ≡ setting_words m
server_given words m are is =
    let read = server_read words are in
    let port : value_in m (codes "port") ≡ read.port = value_read m _ (codes "port") (is ∙ read.found) in
    let register : value_in m (codes "register") ≡ read.register = value_read m _ (codes "register") (is ∙ read.found) in
    let rows : value_in m (codes "rows") ≡ read.rows = value_read m _ (codes "rows") (is ∙ read.found) in
    let slots : value_in m (codes "slots") ≡ read.slots = value_read m _ (codes "slots") (is ∙ read.found) in
    let nodes : values_in m (codes "nodes") ≡ read.nodes = values_read m _ (codes "nodes") (is ∙ read.found) in
    read.are ∙ (λ i. sym port i ∷ sym register i ∷ sym rows i ∷ sym slots i ∷ sym nodes i)

pub left_true : (a b : Bool) → a && b ≡ true → a ≡ true
left_true true b e = refl
left_true false b e = e
