-- What the entries of a map stand for. A key with no number is not there.
use Rattle.std.specs.Prelude.{◌≡◌, ℕ, ◌≤◌, ◌<◌, ℤ, ◌+ℤ◌, List, [], ◌∷◌, length, get_or, Option, Some, None}
use Rattle.std.specs.Option.{IsSome}
use Rattle.std.specs.FinMap as finite
use Rattle.std.specs.Map.{lookup}
use Rattle.std.specs.Ordering.{is_eq}
use Rattle.tx_model.specs.declared.op.Op.{Op}
use Rattle.tx_model.specs.declared.op.Op.TheVariants.{Set, Add, Del}
use Rattle.tx_model.specs.Applications.{Application, empty_application, name_cmp, saturated, number_or_zero, pair_text}

abbrev pub with_number : Application → List ℕ → Option ℤ → Application
with_number app key None = finite.remove app key
with_number app key (Some n) = finite.insert app key n

-- of a key that stands twice the first entry counts
abbrev pub application_of : {K : Type 0} → (K → List ℕ) → List (K × Option ℤ) → Application
application_of bytes [] = empty_application
application_of bytes (entry ∷ entries) = with_number (application_of bytes entries) (bytes entry.0) entry.1

-- what stands at a key
abbrev pub entry_at : {K : Type 0} → (K → List ℕ) → List (K × Option ℤ) → List ℕ → Option (Option ℤ)
entry_at bytes entries key = lookup (λ k. is_eq (name_cmp key (bytes k))) entries

-- the key is there and has no number
abbrev pub IsEmptyAt : {K : Type 0} → (K → List ℕ) → List (K × Option ℤ) → List ℕ → Type 0
IsEmptyAt bytes entries key = entry_at bytes entries key ≡ Some None

-- each key that is there has a number
abbrev pub HaveNumbers : {K : Type 0} → (K → List ℕ) → List (K × Option ℤ) → Type 0
HaveNumbers bytes entries = (key : List ℕ) → ¬ IsEmptyAt bytes entries key

-- there is an entry for the number that an op leaves
abbrev pub HasRoom : {K : Type 0} → (K → List ℕ) → List (K × Option ℤ) → Op → Type 0
HasRoom bytes entries (Set key n) = IsSome (entry_at bytes entries key)
HasRoom bytes entries (Add key n) = IsSome (entry_at bytes entries key)
HasRoom bytes entries (Del key) = Unit {0}

-- the number that an op leaves where there was this one
abbrev pub number_after : Option ℤ → Op → Option ℤ
number_after old (Set key n) = Some n
number_after old (Add key n) = Some (saturated (number_or_zero old +ℤ n))
number_after old (Del key) = None

-- what is printed of a key: nothing where it has no number
abbrev pub entry_text : List ℕ → Option ℤ → List ℕ
entry_text key None = []
entry_text key (Some n) = pair_text (key, n)

-- the op leaves a number at the key
abbrev pub Gives : List ℕ → Op → Type 0
Gives q (Set key n) = q ≡ key
Gives q (Add key n) = q ≡ key
Gives q (Del key) = ⊥

abbrev pub Deletes : List ℕ → Op → Type 0
Deletes q (Set key n) = ⊥
Deletes q (Add key n) = ⊥
Deletes q (Del key) = q ≡ key

-- from the k-th on, counted from 0, there is such an op
abbrev pub SomeFrom : ℕ → (Op → Type 0) → List Op → Type 0
SomeFrom k P ops = (i : ℕ) × (k ≤ i) × (i < length ops) × ((d : Op) → P (get_or ops i d))
