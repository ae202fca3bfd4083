-- What `clap` makes of the words of a server.
use Rattle.std.proofs.Common.{◌≡◌, ◌∙◌, ◌==◌, ◌≤◌, ℕ, List, [], ◌∷◌, ◌++◌, Some, None, arith, ap, ap₂, append_assoc, append-nil, codes, false, inl, inr, le-ltb, length, nat_lt, refl, sym, true}
use Rattle.std.specs.Prelude.{fold, is_some}
use Rattle.std.proofs.lemmas.Bool.Decides.{eqb_tells}
use Rattle.clap.specs.Words.{Row, Text, fault_of, is_simple_and_free, matches_of}
use Rattle.clap.specs.Walk.{Walk, finished, idle, nothing_held, positional, settled, walk_from, walked}
use Rattle.clap.specs.Simple.{Shape, built, entered}
use Rattle.clap.specs.Kinds.{Kinds, or_else, values_kinds}
use Rattle.clap.specs.Faults.{check_fault, defaults_fault, entered_fault, settle_fault, walk_fault}
use Rattle.clap.specs.declared.builder.value_parser.ValueParser.TheVariants as vp
use Rattle.clap.specs.declared.error.kind.ErrorKind.TheVariants.{MissingRequiredArgument}
use Rattle.clap.proofs.OnLiterals.{clap_on_literals}
use Rattle.command_words.specs.Reading.{ArePlain, AreTaken, server_arguments}
use Rattle.command_words.proofs.PlainWords.{row, some_fault}

abbrev shape : Shape
shape = (built server_arguments).top

-- ---- the nodes, as a walk over the words goes on among them

abbrev among_nodes : List Row → List Text → Walk
among_nodes rows nodes = record {
  held = record { rows = rows; pending = Some (codes "nodes", nodes); skip = 0 };
  waiting = positional;
  position = 5;
  is_trailing = false;
  stopped = None;
}

one_more : (rows : List Row) (nodes : List Text) (x : ℕ) (xs : Text) → (x == 45) ≡ false → walked shape.rules [] (among_nodes rows nodes) (x ∷ xs) ≡ among_nodes rows (nodes ++ (x ∷ xs) ∷ [])
unfolding clap_on_literals
one_more rows nodes x xs p = simp p refl

one_passes : (rows : List Row) (nodes : List Text) (x : ℕ) (xs : Text) (words : List Text) → (x == 45) ≡ false → walk_fault shape [] (among_nodes rows nodes) ((x ∷ xs) ∷ words) ≡ walk_fault shape [] (among_nodes rows (nodes ++ (x ∷ xs) ∷ [])) words
unfolding clap_on_literals
one_passes rows nodes x xs words p = simp p refl

none_more : (rows : List Row) (nodes : List Text) → walk_fault shape [] (among_nodes rows nodes) [] ≡ []
unfolding clap_on_literals
none_more rows nodes = refl

all_walked : (rows : List Row) (nodes words : List Text) → ArePlain words → fold (walked shape.rules []) (among_nodes rows nodes) words ≡ among_nodes rows (nodes ++ words)
all_walked rows nodes [] are = ap (among_nodes rows) (sym (append-nil nodes))
all_walked rows nodes ([] ∷ words) are = absurd are.0
all_walked rows nodes ((x ∷ xs) ∷ words) are =
    ap (λ (w : Walk). fold (walked shape.rules []) w words) (one_more rows nodes x xs are.0)
    ∙ all_walked rows (nodes ++ (x ∷ xs) ∷ []) words are.1
    ∙ ap (among_nodes rows) (append_assoc nodes ((x ∷ xs) ∷ []) words)

all_pass : (rows : List Row) (nodes words : List Text) → ArePlain words → walk_fault shape [] (among_nodes rows nodes) words ≡ []
all_pass rows nodes [] are = none_more rows nodes
all_pass rows nodes ([] ∷ words) are = absurd are.0
all_pass rows nodes ((x ∷ xs) ∷ words) are = one_passes rows nodes x xs words are.0 ∙ all_pass rows (nodes ++ (x ∷ xs) ∷ []) words are.1

not_empty : (w : Text) (words : List Text) → (length (w ∷ words) == 0) ≡ false
not_empty w words = elim (eqb_tells (length (w ∷ words)) 0) [
  | inl same ↦ absurd (let e : length (w ∷ words) ≡ 0 = same.1 in omega (arith, e))
  | inr apart ↦ apart.0
]

any_text : (words : List Text) → values_kinds false vp.String words ≡ []
any_text [] = refl
any_text (w ∷ words) = any_text words

-- ---- the four values before them, each pending until the next word comes

abbrev at_value : ℕ → Text → Text → List Row → Walk
at_value position id value rows = record {
  held = record { rows = rows; pending = Some (id, value ∷ []); skip = 0 };
  waiting = idle;
  position = position;
  is_trailing = false;
  stopped = None;
}

abbrev start : Walk
start = walk_from nothing_held

abbrev at_port : Text → Walk
at_port p = at_value 2 (codes "port") p []

abbrev at_register : Text → Text → Walk
at_register p r = at_value 3 (codes "register") r (row (codes "port") (p ∷ []) ∷ [])

abbrev at_rows : Text → Text → Text → Walk
at_rows p r k = at_value 4 (codes "rows") k (row (codes "port") (p ∷ []) ∷ row (codes "register") (r ∷ []) ∷ [])

abbrev at_slots : Text → Text → Text → Text → Walk
at_slots p r k s = at_value 5 (codes "slots") s (row (codes "port") (p ∷ []) ∷ row (codes "register") (r ∷ []) ∷ row (codes "rows") (k ∷ []) ∷ [])

abbrev four_rows : Text → Text → Text → Text → List Row
four_rows p r k s = row (codes "port") (p ∷ []) ∷ row (codes "register") (r ∷ []) ∷ row (codes "rows") (k ∷ []) ∷ row (codes "slots") (s ∷ []) ∷ []

port_walked : (x : ℕ) (xs : Text) → (x == 45) ≡ false → walked shape.rules [] start (x ∷ xs) ≡ at_port (x ∷ xs)
unfolding clap_on_literals
port_walked x xs h = simp h refl

port_passes : (x : ℕ) (xs : Text) (words : List Text) → (x == 45) ≡ false → walk_fault shape [] start ((x ∷ xs) ∷ words) ≡ walk_fault shape [] (at_port (x ∷ xs)) words
unfolding clap_on_literals
port_passes x xs words h = simp h refl

register_walked : (p : Text) (x : ℕ) (xs : Text) → (x == 45) ≡ false → walked shape.rules [] (at_port p) (x ∷ xs) ≡ at_register p (x ∷ xs)
unfolding clap_on_literals
register_walked p x xs h = simp h refl

register_passes : (p : Text) (x : ℕ) (xs : Text) (words : List Text) → (x == 45) ≡ false → walk_fault shape [] (at_port p) ((x ∷ xs) ∷ words) ≡ walk_fault shape [] (at_register p (x ∷ xs)) words
unfolding clap_on_literals
register_passes p x xs words h = simp h refl

rows_walked : (p r : Text) (x : ℕ) (xs : Text) → (x == 45) ≡ false → walked shape.rules [] (at_register p r) (x ∷ xs) ≡ at_rows p r (x ∷ xs)
unfolding clap_on_literals
rows_walked p r x xs h = simp h refl

rows_pass : (p r : Text) (x : ℕ) (xs : Text) (words : List Text) → (x == 45) ≡ false → walk_fault shape [] (at_register p r) ((x ∷ xs) ∷ words) ≡ walk_fault shape [] (at_rows p r (x ∷ xs)) words
unfolding clap_on_literals
rows_pass p r x xs words h = simp h refl

slots_walked : (p r k : Text) (x : ℕ) (xs : Text) → (x == 45) ≡ false → walked shape.rules [] (at_rows p r k) (x ∷ xs) ≡ at_slots p r k (x ∷ xs)
unfolding clap_on_literals
slots_walked p r k x xs h = simp h refl

slots_pass : (p r k : Text) (x : ℕ) (xs : Text) (words : List Text) → (x == 45) ≡ false → walk_fault shape [] (at_rows p r k) ((x ∷ xs) ∷ words) ≡ walk_fault shape [] (at_slots p r k (x ∷ xs)) words
unfolding clap_on_literals
slots_pass p r k x xs words h = simp h refl

nodes_walked : (p r k s : Text) (x : ℕ) (xs : Text) → (x == 45) ≡ false → walked shape.rules [] (at_slots p r k s) (x ∷ xs) ≡ among_nodes (four_rows p r k s) ((x ∷ xs) ∷ [])
unfolding clap_on_literals
nodes_walked p r k s x xs h = simp h refl

nodes_pass : (p r k s : Text) (x : ℕ) (xs : Text) (words : List Text) → (x == 45) ≡ false → walk_fault shape [] (at_slots p r k s) ((x ∷ xs) ∷ words) ≡ walk_fault shape [] (among_nodes (four_rows p r k s) ((x ∷ xs) ∷ [])) words
unfolding clap_on_literals
nodes_pass p r k s x xs words h = simp h refl

-- ---- what comes after the walk

abbrev after_walk : Walk → Kinds → Kinds
after_walk w kinds = or_else kinds (or_else (entered_fault (built server_arguments) w.stopped)
    (or_else (settle_fault shape.rules shape.args_override_self w.held)
    (or_else (defaults_fault (settled shape.rules w.held).rows shape.rules)
    (check_fault shape (finished shape.rules w.held) (is_some (entered (built server_arguments) w.stopped))))))

pub server_simple : is_simple_and_free server_arguments ≡ true
unfolding clap_on_literals
server_simple = refl

no_words : fault_of server_arguments [] ≡ MissingRequiredArgument ∷ []
unfolding clap_on_literals
no_words = refl

port_ends : (p : Text) → after_walk (at_port p) (walk_fault shape [] (at_port p) []) ≡ MissingRequiredArgument ∷ []
unfolding clap_on_literals
port_ends p = refl

register_ends : (p r : Text) → after_walk (at_register p r) (walk_fault shape [] (at_register p r) []) ≡ MissingRequiredArgument ∷ []
unfolding clap_on_literals
register_ends p r = refl

rows_end : (p r k : Text) → after_walk (at_rows p r k) (walk_fault shape [] (at_rows p r k) []) ≡ MissingRequiredArgument ∷ []
unfolding clap_on_literals
rows_end p r k = refl

slots_end : (p r k s : Text) → after_walk (at_slots p r k s) (walk_fault shape [] (at_slots p r k s) []) ≡ MissingRequiredArgument ∷ []
unfolding clap_on_literals
slots_end p r k s = refl

module _ (p r k s n : Text) (words : List Text) where
  nodes_rows : finished shape.rules (among_nodes (four_rows p r k s) (n ∷ words)).held ≡ four_rows p r k s ++ row (codes "nodes") (n ∷ words) ∷ []
  unfolding clap_on_literals
  nodes_rows = refl

  nodes_end : (length (n ∷ words) == 0) ≡ false → nat_lt (length (n ∷ words)) 1 ≡ false → nat_lt 7 (length (n ∷ words)) ≡ false → values_kinds false vp.String words ≡ []
      → after_walk (among_nodes (four_rows p r k s) (n ∷ words)) [] ≡ []
  unfolding clap_on_literals
  nodes_end some least most any = simp (some, least, most, any) refl

-- ---- from the first word on

-- a walk over some words comes to another over those that are left
record Onward (w : Walk) (words : List Text) (v : Walk) (left : List Text) : Type 0 where
  walked : fold (walked shape.rules []) w words ≡ fold (walked shape.rules []) v left
  passes : walk_fault shape [] w words ≡ walk_fault shape [] v left

one_word : (w v : Walk) (word : Text) (words : List Text) → walked shape.rules [] w word ≡ v → walk_fault shape [] w (word ∷ words) ≡ walk_fault shape [] v words → Onward w (word ∷ words) v words
one_word w v word words next same = record { walked = ap (λ (u : Walk). fold (walked shape.rules []) u words) next; passes = same }

and_on : (w v u : Walk) (words left last : List Text) → Onward w words v left → Onward v left u last → Onward w words u last
and_on w v u words left last a b = record { walked = a.walked ∙ b.walked; passes = a.passes ∙ b.passes }

-- too few of them
few : (words : List Text) (v : Walk) → Onward start words v [] → after_walk v (walk_fault shape [] v []) ≡ MissingRequiredArgument ∷ [] → fault_of server_arguments words ≡ [] → ⊥
few words v on end = some_fault _ _ (ap₂ after_walk on.walked on.passes ∙ end)

module _ (a : ℕ) (ar : Text) (p : (a == 45) ≡ false) where
  to_port : (words : List Text) → Onward start ((a ∷ ar) ∷ words) (at_port (a ∷ ar)) words
  to_port words = one_word _ _ _ words (port_walked a ar p) (port_passes a ar words p)

  module _ (b : ℕ) (br : Text) (q : (b == 45) ≡ false) where
    to_register : (words : List Text) → Onward start ((a ∷ ar) ∷ (b ∷ br) ∷ words) (at_register (a ∷ ar) (b ∷ br)) words
    to_register words = and_on _ _ _ _ _ _ (to_port ((b ∷ br) ∷ words)) (one_word _ _ _ words (register_walked (a ∷ ar) b br q) (register_passes (a ∷ ar) b br words q))

    module _ (c : ℕ) (cr : Text) (r : (c == 45) ≡ false) where
      to_rows : (words : List Text) → Onward start ((a ∷ ar) ∷ (b ∷ br) ∷ (c ∷ cr) ∷ words) (at_rows (a ∷ ar) (b ∷ br) (c ∷ cr)) words
      to_rows words = and_on _ _ _ _ _ _ (to_register ((c ∷ cr) ∷ words)) (one_word _ _ _ words (rows_walked (a ∷ ar) (b ∷ br) c cr r) (rows_pass (a ∷ ar) (b ∷ br) c cr words r))

      module _ (d : ℕ) (dr : Text) (s : (d == 45) ≡ false) where
        to_slots : (words : List Text) → Onward start ((a ∷ ar) ∷ (b ∷ br) ∷ (c ∷ cr) ∷ (d ∷ dr) ∷ words) (at_slots (a ∷ ar) (b ∷ br) (c ∷ cr) (d ∷ dr)) words
        to_slots words = and_on _ _ _ _ _ _ (to_rows ((d ∷ dr) ∷ words))
            (one_word _ _ _ words (slots_walked (a ∷ ar) (b ∷ br) (c ∷ cr) d dr s) (slots_pass (a ∷ ar) (b ∷ br) (c ∷ cr) d dr words s))

        module _ (e : ℕ) (er : Text) (t : (e == 45) ≡ false) (words : List Text) where
          abbrev five : List Text
          five = (a ∷ ar) ∷ (b ∷ br) ∷ (c ∷ cr) ∷ (d ∷ dr) ∷ (e ∷ er) ∷ words

          abbrev rows : List Row
          rows = four_rows (a ∷ ar) (b ∷ br) (c ∷ cr) (d ∷ dr)

          to_nodes : Onward start five (among_nodes rows ((e ∷ er) ∷ [])) words
          to_nodes = and_on _ _ _ _ _ _ (to_slots ((e ∷ er) ∷ words))
              (one_word _ _ _ words (nodes_walked (a ∷ ar) (b ∷ br) (c ∷ cr) (d ∷ dr) e er t) (nodes_pass (a ∷ ar) (b ∷ br) (c ∷ cr) (d ∷ dr) e er words t))

          five_rows : ArePlain words → matches_of server_arguments five ≡ rows ++ row (codes "nodes") ((e ∷ er) ∷ words) ∷ []
          five_rows are = ap (λ (w : Walk). finished shape.rules w.held) (to_nodes.walked ∙ all_walked rows ((e ∷ er) ∷ []) words are)
              ∙ nodes_rows (a ∷ ar) (b ∷ br) (c ∷ cr) (d ∷ dr) (e ∷ er) words

          five_taken : ArePlain words → length words ≤ 6 → fault_of server_arguments five ≡ []
          five_taken are few = ap₂ after_walk (to_nodes.walked ∙ all_walked rows ((e ∷ er) ∷ []) words are) (to_nodes.passes ∙ all_pass rows ((e ∷ er) ∷ []) words are)
              ∙ nodes_end (a ∷ ar) (b ∷ br) (c ∷ cr) (d ∷ dr) (e ∷ er) words (not_empty (e ∷ er) words) (le-ltb (length ((e ∷ er) ∷ words)) 1 (omega arith))
              (le-ltb 7 (length ((e ∷ er) ∷ words)) (omega (arith, few))) (any_text words)

-- ---- the words of a server

pub record AreValues (words : List Text) : Type 0 where
  pub port : Text
  pub register : Text
  pub rows : Text
  pub slots : Text
  pub nodes : List Text
  pub are : words ≡ port ∷ register ∷ rows ∷ slots ∷ nodes
  pub found : matches_of server_arguments words ≡ four_rows port register rows slots ++ row (codes "nodes") nodes ∷ []

pub server_read : (words : List Text) → AreTaken server_arguments words → AreValues words
server_read [] t = absurd (some_fault _ _ no_words t.faultless)
server_read ([] ∷ words) t = absurd t.plain.0
server_read ((a ∷ ar) ∷ []) t = absurd (few _ _ (to_port a ar t.plain.0 []) (port_ends _) t.faultless)
server_read ((a ∷ ar) ∷ ([] ∷ words)) t = absurd t.plain.1.0
server_read ((a ∷ ar) ∷ ((b ∷ br) ∷ [])) t = absurd (few _ _ (to_register a ar t.plain.0 b br t.plain.1.0 []) (register_ends _ _) t.faultless)
server_read ((a ∷ ar) ∷ ((b ∷ br) ∷ ([] ∷ words))) t = absurd t.plain.1.1.0
server_read ((a ∷ ar) ∷ ((b ∷ br) ∷ ((c ∷ cr) ∷ []))) t =
    absurd (few _ _ (to_rows a ar t.plain.0 b br t.plain.1.0 c cr t.plain.1.1.0 []) (rows_end _ _ _) t.faultless)
server_read ((a ∷ ar) ∷ ((b ∷ br) ∷ ((c ∷ cr) ∷ ([] ∷ words)))) t = absurd t.plain.1.1.1.0
server_read ((a ∷ ar) ∷ ((b ∷ br) ∷ ((c ∷ cr) ∷ ((d ∷ dr) ∷ [])))) t =
    absurd (few _ _ (to_slots a ar t.plain.0 b br t.plain.1.0 c cr t.plain.1.1.0 d dr t.plain.1.1.1.0 []) (slots_end _ _ _ _) t.faultless)
server_read ((a ∷ ar) ∷ ((b ∷ br) ∷ ((c ∷ cr) ∷ ((d ∷ dr) ∷ ([] ∷ words))))) t = absurd t.plain.1.1.1.1.0
server_read ((a ∷ ar) ∷ ((b ∷ br) ∷ ((c ∷ cr) ∷ ((d ∷ dr) ∷ ((e ∷ er) ∷ words))))) t = record {
  port = a ∷ ar;
  register = b ∷ br;
  rows = c ∷ cr;
  slots = d ∷ dr;
  nodes = (e ∷ er) ∷ words;
  are = refl;
  found = five_rows a ar t.plain.0 b br t.plain.1.0 c cr t.plain.1.1.0 d dr t.plain.1.1.1.0 e er t.plain.1.1.1.1.0 words t.plain.1.1.1.1.1;
}

pub server_good : (words : List Text) → ArePlain words → 5 ≤ length words → length words ≤ 11 → AreTaken server_arguments words
server_good words are least most = record { plain = are; faultless = go words are least most }
  where
    go : (ws : List Text) → ArePlain ws → 5 ≤ length ws → length ws ≤ 11 → fault_of server_arguments ws ≡ []
    go [] p l m = absurd (omega (arith, l))
    go (v ∷ []) p l m = absurd (omega (arith, l))
    go (v ∷ (w ∷ [])) p l m = absurd (omega (arith, l))
    go (v ∷ (w ∷ (x ∷ []))) p l m = absurd (omega (arith, l))
    go (v ∷ (w ∷ (x ∷ (y ∷ [])))) p l m = absurd (omega (arith, l))
    go ([] ∷ (w ∷ (x ∷ (y ∷ (z ∷ ws))))) p l m = absurd p.0
    go ((a ∷ ar) ∷ ([] ∷ (x ∷ (y ∷ (z ∷ ws))))) p l m = absurd p.1.0
    go ((a ∷ ar) ∷ ((b ∷ br) ∷ ([] ∷ (y ∷ (z ∷ ws))))) p l m = absurd p.1.1.0
    go ((a ∷ ar) ∷ ((b ∷ br) ∷ ((c ∷ cr) ∷ ([] ∷ (z ∷ ws))))) p l m = absurd p.1.1.1.0
    go ((a ∷ ar) ∷ ((b ∷ br) ∷ ((c ∷ cr) ∷ ((d ∷ dr) ∷ ([] ∷ ws))))) p l m = absurd p.1.1.1.1.0
    go ((a ∷ ar) ∷ ((b ∷ br) ∷ ((c ∷ cr) ∷ ((d ∷ dr) ∷ ((e ∷ er) ∷ ws))))) p l m =
        five_taken a ar p.0 b br p.1.0 c cr p.1.1.0 d dr p.1.1.1.0 e er p.1.1.1.1.0 ws p.1.1.1.1.1 (omega (arith, m))
