-- What the reading of a line finds, before it takes memory: the form, its numbers, and the words of its lists.
use Rattle.std.specs.Prelude.{◌≡◌, ◌≢◌, ◌⊎◌, ℕ, ◌<◌, ◌≤◌, ◌^◌, Bool, true, false, List, [], ◌∷◌, ◌++◌, length, take, flat_map, codes, Option, Some, None, ⊤}
use Rattle.schedule_text.specs.declared.lines.form.Form.{Form}
use Rattle.net_model.specs.declared.cluster.Cluster.{Cluster}
use Rattle.schedule_text.specs.declared.lines.found.Tail.{Tail}
use Rattle.schedule_text.specs.declared.lines.found.Tail.TheVariants.{End, Lists}
use Rattle.schedule_text.specs.declared.lines.found.Found.{Found}
use Rattle.schedule_text.specs.Forms.{row_of, IsAmong}
use Rattle.tx_model.specs.Applications.{IsKey}
use Rattle.schedule_text.specs.Lists.{IsKeysWord, IsOpsWord, SpellsKeys, SpellsOpsWord, AreOps, keys_spelling, ops_word}
use Rattle.std.specs.List.{AllByRecursion}
use Rattle.schedule_text.specs.declared.lines.fault.LineFault.{LineFault}
use Rattle.schedule_text.specs.declared.lines.fault.LineFault.TheVariants.{Bad, Range, Memory}
use Rattle.schedule_text.specs.Lines.{Parts, FitsRest, AreNumbers, Spells, number_text, rest_text, lists_text, Lists as PartLists, HasLists, AreInRanges}
use Rattle.schedule_text.specs.Spellings.{IsOutOfRange}
use Rattle.schedule_text.specs.Places.{Begins, IsPlace}

-- the words of an append behind its numbers
pub record AreWords (text writes reads ops : List ℕ) : Type 0 where
  pub text_is : text ≡ 32 ∷ (writes ++ 32 ∷ (reads ++ 32 ∷ ops))
  pub write_keys : IsKeysWord writes
  pub read_keys : IsKeysWord reads
  pub some_ops : IsOpsWord ops

-- what follows the numbers of a line is this
abbrev pub IsTail : Bool → List ℕ → Tail → Type 0
IsTail false text End = text ≡ []
IsTail true text (Lists w) = AreWords text w.writes.now w.reads.now w.ops.now
IsTail _ text _ = ⊥

-- no lists, or none that are there, follow the numbers
abbrev pub IsNoTail : Bool → List ℕ → Type 0
IsNoTail has_lists text = (lists : Option PartLists) → HasLists has_lists lists → text ≡ lists_text lists → ⊥

-- the numbers that were found
abbrev pub numbers_of : Found → List ℕ
numbers_of f = take (length (row_of f.form).names) f.numbers.values

-- a line is what was found
pub record IsFound (forms : List Form) (line : List ℕ) (f : Found) : Type 0 where
  pub short : length line ≤ 512
  pub among : IsAmong forms f.form
  pub tail : List ℕ
  pub text : line ≡ (row_of f.form).word ++ (flat_map number_text (numbers_of f) ++ tail)
  pub numbers : AreNumbers (numbers_of f)
  pub count : length (numbers_of f) ≡ length (row_of f.form).names
  pub room : length f.numbers.values ≡ 5
  pub tail_is : IsTail (row_of f.form).lists tail f.tail

-- the numbers that were found are in their ranges
abbrev pub IsFoundInRange : Cluster → Found → Type 0
IsFoundInRange cluster f = AreInRanges cluster (row_of f.form).names (numbers_of f)

-- there is a form
abbrev pub HasAny : List Form → Type 0
HasAny forms = (f : Form) × IsAmong forms f

-- some line in one of the forms begins so
abbrev pub BeginsSome : List Form → List ℕ → Type 0
BeginsSome forms front = (p : Parts) × IsAmong forms p.form × Begins front p

-- what follows the word of a form begins so
pub record BeginsRest (count : ℕ) (has_lists : Bool) (front : List ℕ) : Type 0 where
  pub numbers : List ℕ
  pub lists : Option PartLists
  pub fits : FitsRest count has_lists numbers lists
  pub more : List ℕ
  pub text : rest_text numbers lists ≡ front ++ more

-- a space and a list of keys
abbrev pub keys_text : List (List ℕ) → List ℕ
keys_text keys = 32 ∷ keys_spelling keys

-- so many lists of keys, and then ops, begin so
pub record BeginsLists (count : ℕ) (front : List ℕ) : Type 0 where
  pub lists : List (List (List ℕ))
  pub count_is : length lists ≡ count
  pub are : AllByRecursion (AllByRecursion IsKey) lists
  pub ops : List ℕ
  pub ops_are : AreOps ops
  pub more : List ℕ
  pub text : flat_map keys_text lists ++ 32 ∷ ops_word ops ≡ front ++ more

-- ops begin so
pub record BeginsOps (front : List ℕ) : Type 0 where
  pub ops : List ℕ
  pub are : AreOps ops
  pub more : List ℕ
  pub text : 32 ∷ ops_word ops ≡ front ++ more

-- a space, or that and a list of keys and a comma
abbrev pub StopsInKeys : List ℕ → Type 0
StopsInKeys front =
    (front ≡ 32 ∷ []) ⊎ ((keys : List ℕ) × (front ≡ 32 ∷ (keys ++ 44 ∷ [])) × (keys ≢ codes "-") × IsKeysWord keys)

-- the first word of one of the forms begins so
pub record BeginsWord (forms : List Form) (front : List ℕ) : Type 0 where
  pub form : Form
  pub among : IsAmong forms form
  pub more : List ℕ
  pub text : (row_of form).word ≡ front ++ more

-- a line that is in none of the forms, or has a number out of range
abbrev pub IsFault : List Form → Cluster → List ℕ → LineFault → Type 0
IsFault forms cluster line (Bad at) = ((p : Parts) → ¬ Spells forms line p) × IsPlace (BeginsSome forms) line at
IsFault forms cluster line (Range name) = (p : Parts) × Spells forms line p × IsOutOfRange cluster p name
IsFault forms cluster line Memory = ⊥

-- ---- the values of a line

-- the parts that were found, with these lists
abbrev pub parts_from : Found → Option PartLists → Parts
parts_from f lists = record { form = f.form; numbers = numbers_of f; lists = lists }

-- the words of a tail spell these lists
abbrev pub SpellsLists : Tail → Option PartLists → Type 0
SpellsLists End None = ⊤
SpellsLists (Lists w) (Some l) = SpellsKeys w.writes.now l.writes × SpellsKeys w.reads.now l.reads × SpellsOpsWord w.ops.now l.ops
SpellsLists _ _ = ⊥

-- parts say what was found
pub record SayFound (f : Found) (p : Parts) : Type 0 where
  pub lists : Option PartLists
  pub spelled : SpellsLists f.tail lists
  pub same : p ≡ parts_from f lists

-- how many there are fits a byte
pub record IsCounts (cluster : Cluster) : Type 0 where
  pub nodes : cluster.nodes < 2 ^ 8
  pub servers : cluster.servers < 2 ^ 8
  pub clients : cluster.clients < 2 ^ 8
