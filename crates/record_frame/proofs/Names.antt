-- One more name of a list, as a loop over them takes it.
use Rattle.std.proofs.Common.{◌≡◌, ℕ, zero, suc, ◌+◌, ◌-◌, ◌<◌, ◌≤◌, Bool, true, false, ◌&&◌, nat_le, nat_lt, List, [], ◌∷◌, ◌++◌, length, drop, refl, sym, ap, ◌∙◌, append_assoc, length-append, length-drop, take-append-drop, arith}
use Rattle.std.specs.Prelude.{slice_index}
use Rattle.std.proofs.lemmas.Bool.{ltb-true, leb-true, le-leb, lt-ltb}
use Rattle.std.proofs.lemmas.List.{take_at, drop_at, length-take}
use Rattle.tx_model.specs.Transactions.{IsName, is_before, RiseFrom}
use Rattle.tx_model.specs.Spelling.{spelled_names}
use Rattle.tx_model.specs.Reading.{is_name_at, name_at, after_name, are_names, names_of, past_names}

pub are_names-next : (last : List ℕ) (n i : ℕ) (bytes : List ℕ) → i < n → are_names last (n - i) bytes ≡ (is_name_at bytes && (is_before last (name_at bytes) && are_names (name_at bytes) (n - (i + 1)) (after_name bytes)))
unfolding are_names
are_names-next last n i bytes lt = let k : n - i ≡ suc (n - (i + 1)) = omega arith in rw k refl

pub names_of-next : (n i : ℕ) (bytes : List ℕ) → i < n → names_of (n - i) bytes ≡ name_at bytes ∷ names_of (n - (i + 1)) (after_name bytes)
unfolding names_of
names_of-next n i bytes lt = let k : n - i ≡ suc (n - (i + 1)) = omega arith in rw k refl

pub past_names-next : (n i : ℕ) (bytes : List ℕ) → i < n → past_names (n - i) bytes ≡ past_names (n - (i + 1)) (after_name bytes)
unfolding past_names
past_names-next n i bytes lt = let k : n - i ≡ suc (n - (i + 1)) = omega arith in rw k refl

pub are_names-none : (last : List ℕ) (n i : ℕ) (bytes : List ℕ) → n ≤ i → are_names last (n - i) bytes ≡ true
unfolding are_names
are_names-none last n i bytes le = let k : n - i ≡ 0 = omega arith in rw k refl

pub names_of-none : (n i : ℕ) (bytes : List ℕ) → n ≤ i → names_of (n - i) bytes ≡ []
unfolding names_of
names_of-none n i bytes le = let k : n - i ≡ 0 = omega arith in rw k refl

pub past_names-none : (n i : ℕ) (bytes : List ℕ) → n ≤ i → past_names (n - i) bytes ≡ bytes
unfolding past_names
past_names-none n i bytes le = let k : n - i ≡ 0 = omega arith in rw k refl

-- what is read of the front of names
pub record IsGood (last : List ℕ) (n i : ℕ) (bytes : List ℕ) : Type 0 where
  pub name : is_name_at bytes ≡ true
  pub before : is_before last (name_at bytes) ≡ true
  pub rest : are_names (name_at bytes) (n - (i + 1)) (after_name bytes) ≡ true

and_parts : (a b c : Bool) → (a && (b && c)) ≡ true → (a ≡ true) × (b ≡ true) × (c ≡ true)
and_parts true true true e = (refl, refl, refl)
and_parts true true false e = absurd cc
and_parts true false c e = absurd cc
and_parts false b c e = absurd cc

pub is_good : (last : List ℕ) (n i : ℕ) (bytes : List ℕ) → i < n → are_names last (n - i) bytes ≡ true → IsGood last n i bytes
is_good last n i bytes lt e =
    let p = and_parts (is_name_at bytes) (is_before last (name_at bytes)) (are_names (name_at bytes) (n - (i + 1)) (after_name bytes)) (sym (are_names-next last n i bytes lt) ∙ e) in
    record { name = p.0; before = p.1; rest = p.2 }

-- ---- names that are read are spelled so

pub and_2 : (a b : Bool) → (a && b) ≡ true → (a ≡ true) × (b ≡ true)
and_2 true true e = (refl, refl)
and_2 true false e = absurd cc
and_2 false b e = absurd cc

pub record IsLong (bytes : List ℕ) : Type 0 where
  pub some : 1 ≤ slice_index bytes 0
  pub short : slice_index bytes 0 ≤ 64
  pub long : slice_index bytes 0 < length bytes

pub is_long : (bytes : List ℕ) → is_name_at bytes ≡ true → IsLong bytes
is_long bytes e =
    let p = and_parts (nat_le 1 (slice_index bytes 0)) (nat_le (slice_index bytes 0) 64) (nat_lt (slice_index bytes 0) (length bytes)) e in
    record { some = leb-true _ _ p.0; short = leb-true _ _ p.1; long = ltb-true _ _ p.2 }

pub name-length : (bytes : List ℕ) → is_name_at bytes ≡ true → length (name_at bytes) ≡ slice_index bytes 0
name-length bytes e = let l = is_long bytes e in omega (arith, length-take (slice_index bytes 0) (drop 1 bytes), length-drop 1 bytes)

pub is_name_from : (bytes : List ℕ) → is_name_at bytes ≡ true → IsName (name_at bytes)
is_name_from bytes e =
    let l = is_long bytes e in
    let n = name-length bytes e in
    record { some = omega arith; short = omega arith }

pub name-spelled : (bytes : List ℕ) → is_name_at bytes ≡ true → bytes ≡ length (name_at bytes) ∷ (name_at bytes ++ after_name bytes)
name-spelled [] e = absurd cc
name-spelled (len ∷ bytes) e = rw (name-length (len ∷ bytes) e) (ap (λ (l : List ℕ). len ∷ l) (sym (take-append-drop len bytes)))

pub names-rise : (last : List ℕ) (n : ℕ) (bytes : List ℕ) → are_names last n bytes ≡ true → RiseFrom last (names_of n bytes)
unfolding are_names names_of RiseFrom
names-rise last zero bytes e = tt
names-rise last (suc n) bytes e =
    let p = and_parts (is_name_at bytes) (is_before last (name_at bytes)) (are_names (name_at bytes) n (after_name bytes)) e in
    (is_name_from bytes p.0, p.1, names-rise (name_at bytes) n (after_name bytes) p.2)

pub names-spelled : (last : List ℕ) (n : ℕ) (bytes : List ℕ) → are_names last n bytes ≡ true → bytes ≡ spelled_names (names_of n bytes) ++ past_names n bytes
unfolding are_names names_of past_names
names-spelled last zero bytes e = refl
names-spelled last (suc n) bytes e =
    let p = and_parts (is_name_at bytes) (is_before last (name_at bytes)) (are_names (name_at bytes) n (after_name bytes)) e in
    let rest = names-spelled (name_at bytes) n (after_name bytes) p.2 in
    name-spelled bytes p.0 ∙ ap (λ (l : List ℕ). length (name_at bytes) ∷ (name_at bytes ++ l)) rest ∙ ap (λ (l : List ℕ). length (name_at bytes) ∷ l) (sym (append_assoc (name_at bytes) (spelled_names (names_of n (after_name bytes))) (past_names n (after_name bytes))))

pub length-names_of : (n : ℕ) (bytes : List ℕ) → length (names_of n bytes) ≡ n
unfolding names_of
length-names_of zero bytes = refl
length-names_of (suc n) bytes = ap suc (length-names_of n (after_name bytes))

-- ---- names that are spelled are read

pub record AreRead (last : List ℕ) (ns : List (List ℕ)) (rest : List ℕ) : Type 0 where
  pub form : are_names last (length ns) (spelled_names ns ++ rest) ≡ true
  pub same : names_of (length ns) (spelled_names ns ++ rest) ≡ ns
  pub past : past_names (length ns) (spelled_names ns ++ rest) ≡ rest

pub names-read : (last : List ℕ) (ns : List (List ℕ)) (rest : List ℕ) → RiseFrom last ns → AreRead last ns rest
unfolding are_names names_of past_names RiseFrom
names-read last [] rest rise = record { form = refl; same = refl; past = refl }
names-read last (name ∷ ns) rest rise =
    let others = names-read name ns rest rise.2 in
    let group : spelled_names (name ∷ ns) ++ rest ≡ length name ∷ (name ++ (spelled_names ns ++ rest)) = ap (λ (l : List ℕ). length name ∷ l) (append_assoc name (spelled_names ns) rest) in
    let taken = take_at name (spelled_names ns ++ rest) (length name) refl in
    let dropped = drop_at name (spelled_names ns ++ rest) (length name) refl in
    let some : nat_le 1 (length name) ≡ true = le-leb _ _ rise.0.some in
    let short : nat_le (length name) 64 ≡ true = le-leb _ _ rise.0.short in
    let long : nat_lt (length name) (suc (length (name ++ (spelled_names ns ++ rest)))) ≡ true = lt-ltb _ _ (omega (arith, length-append name (spelled_names ns ++ rest))) in
    record {
      form = ap (are_names last (suc (length ns))) group ∙ rw (some, short, long, taken, dropped, rise.1, others.form) refl;
      same = ap (names_of (suc (length ns))) group ∙ rw (taken, dropped, others.same) refl;
      past = ap (past_names (suc (length ns))) group ∙ ap (past_names (length ns)) dropped ∙ others.past;
    }
