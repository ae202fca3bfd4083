-- The texts of numbers, digit by digit.
use Rattle.std.proofs.Common.{◌≡◌, ◌≢◌, ◌⊎◌, ℕ, zero, suc, ◌+◌, ◌/◌, ◌%◌, ◌^◌, ◌<◌, ◌≤◌, List, [], ◌∷◌, ◌++◌, length, take, get_or, decimal, arith, refl, sym, ◌∙◌, ap, subst, length-append, length-take, inl, inr}
use Rattle.std.specs.Str.Parse.{AllDigits, digits_value}
use Rattle.std.proofs.lemmas.Bool.{cases_lt}
use Rattle.std.proofs.lemmas.Str.Parse.{numerals_by_value, tells_digits, digits_value-take-le, IsNumeralModel}
use Rattle.std.proofs.lemmas.Fmt.{digits_decimal, digits_value-decimal, decimal-digits_value, first_decimal, decimal_digit, decimal_step, decimal_nonempty, decimal_injective}
use Rattle.std.proofs.lemmas.List.{take_at, append-nil, take_more}
use Rattle.std.proofs.Math.Seq.{take-length}
use Rattle.kv_app.specs.Places.{Begins, StopsAt}
use Rattle.kv_app.specs.Parts.{IsNext, IsCount, IsCountText}
use Rattle.kv_app.proofs.PlaceLemmas.{StopsAt-inside, StopsAt-end}

own : IsNumeralModel (AllDigits 10) (digits_value 10)
own = numerals_by_value (AllDigits 10) tells_digits

AllDigits-front : (xs ys : List ℕ) → AllDigits 10 (xs ++ ys) → AllDigits 10 xs
AllDigits-front [] ys p = tt
AllDigits-front (x ∷ xs) ys p = (p.0, AllDigits-front xs ys p.1)

-- only the text of 0 begins with 0
pub zero_alone : (n : ℕ) → n < 2 ^ 64 → get_or (decimal n) 0 0 ≡ 48 → n ≡ 0
zero_alone zero h e = refl
zero_alone (suc n) h e = absurd (omega (arith, first_decimal (suc n) (omega arith) h, e))

-- what the text of a number begins with is the text of a number
pub IsCount-front : (least n : ℕ) (front more : List ℕ) → least ≤ 1 → IsCount least (front ++ more) n → 0 < length front → IsCountText least front
IsCount-front least n [] more low count some = absurd (omega arith)
IsCount-front least n (d ∷ ds) more low count some =
    let small : n < 2 ^ 64 = omega (arith, count.most_is) in
    let e : decimal n ≡ (d ∷ ds) ++ more = sym count.text_is in
    let digits : AllDigits 10 (d ∷ ds) = AllDigits-front (d ∷ ds) more (rw e at (digits_decimal own n small)) in
    let value : digits_value 10 (decimal n) ≡ n = digits_value-decimal own n small in
    let less : digits_value 10 (take (length (d ∷ ds)) (decimal n)) ≤ digits_value 10 (decimal n) = digits_value-take-le 10 (decimal n) (length (d ∷ ds)) (omega arith) in
    let cut : take (length (d ∷ ds)) (decimal n) ≡ d ∷ ds = rw e (take_at (d ∷ ds) more (length (d ∷ ds)) refl) in
    let most : digits_value 10 (d ∷ ds) ≤ n = omega (arith, value, rw cut at less) in
    let none : get_or (d ∷ ds) 0 0 ≡ 48 → n ≡ 0 = λ first. zero_alone n small (rw e first) in
    let lone : get_or (d ∷ ds) 0 0 ≡ 48 → length (d ∷ ds) ≡ 1 = λ first. one_digit n (d ∷ ds) more (none first) e (omega arith) in
    let spelled : decimal (digits_value 10 (d ∷ ds)) ≡ d ∷ ds = decimal-digits_value own (d ∷ ds) digits (omega arith) lone (omega (arith, count.most_is)) in (
      digits_value 10 (d ∷ ds),
      record {
        least_is = from_least (digits_value 10 (d ∷ ds)) spelled most;
        most_is = omega (arith, count.most_is);
        text_is = sym spelled;
      },
    )
  where
    one_digit : (n : ℕ) (front more : List ℕ) → n ≡ 0 → decimal n ≡ front ++ more → 0 < length front → length front ≡ 1
    one_digit n front more none e some =
        let one : length (decimal n) ≡ 1 = rw none (ap length (decimal_digit 0 (omega arith))) in
        omega (arith, one, simp length-append at (ap length e))

    from_least : (v : ℕ) → decimal v ≡ d ∷ ds → v ≤ n → least ≤ v
    from_least zero spelled most =
        let first : get_or (d ∷ ds) 0 0 ≡ 48 = ap (λ xs. get_or xs 0 0) (sym spelled ∙ decimal_digit 0 (omega arith)) in
        omega (arith, zero_alone n (omega (arith, count.most_is)) (rw (sym count.text_is) first), count.least_is)
    from_least (suc v) spelled most = omega arith

two_digits : (m : ℕ) (ds : List ℕ) (b : ℕ) → m < 2 ^ 64 → decimal m ≡ ds ++ b ∷ [] → 0 < length ds → 10 ≤ m
two_digits m ds b small e some = elim (cases_lt m 10) [
  | inl lt ↦ absurd (omega (arith, simp length-append at (ap length (sym (decimal_digit m lt) ∙ e))))
  | inr le ↦ le
]

last_same : (xs ys : List ℕ) (a b : ℕ) → xs ++ a ∷ [] ≡ ys ++ b ∷ [] → (xs ≡ ys) × (a ≡ b)
last_same [] [] a b e = (refl, cc)
last_same [] (y ∷ ys) a b e = absurd (omega (arith, simp length-append at (ap length e)))
last_same (x ∷ xs) [] a b e = absurd (omega (arith, simp length-append at (ap length e)))
last_same (x ∷ xs) (y ∷ ys) a b e = let rest = last_same xs ys a b cc in (cc, rest.1)

-- ---- one more digit

pub IsCount-first : (least b next : ℕ) → IsNext 0 least b next → IsCount least (b ∷ []) next
IsCount-first least b next more =
    let digit : next + 48 ≡ b = omega (arith, more.next_is, more.from_0) in
    let same : 48 + next ≡ b = omega arith in
    record {
      least_is = more.least_is;
      most_is = more.most_is;
      text_is = sym (decimal_digit next (omega (arith, more.to_9)) ∙ ap (λ (d : ℕ). d ∷ []) same);
    }

pub IsCount-later : (least value b next : ℕ) (front : List ℕ) → IsCount least front value → value ≢ 0 → IsNext value least b next → IsCount least (front ++ b ∷ []) next
IsCount-later least value b next front count some more =
    let positive : 0 < value = omega arith in
    let low : 10 ≤ next = omega (arith, more.next_is) in
    let tens : next / 10 ≡ value = omega (arith, more.next_is, more.from_0, more.to_9) in
    let ones : 48 + next % 10 ≡ b = omega (arith, more.next_is, more.from_0, more.to_9) in
    record {
      least_is = more.least_is;
      most_is = more.most_is;
      text_is = sym (decimal_step next low (omega (arith, more.most_is)) ∙ (ap (λ (n : ℕ). decimal (next / 10) ++ n ∷ []) ones ∙ ap (λ (n : ℕ). decimal n ++ b ∷ []) tens ∙ ap (λ xs. xs ++ b ∷ []) (sym count.text_is)));
    }

one_digit_below : (m b : ℕ) → m < 2 ^ 64 → decimal m ≡ b ∷ [] → m < 10
one_digit_below m b small e = elim (cases_lt m 10) [
  | inl lt ↦ lt
  | inr le ↦ absurd (omega (arith, simp length-append at (ap length (sym (decimal_step m le small) ∙ e)), decimal_nonempty (m / 10) (omega arith)))
]

pub IsNext-first : (least b m : ℕ) → IsCount least (b ∷ []) m → IsNext 0 least b m
IsNext-first least b m count =
    let below : m < 10 = one_digit_below m b (omega (arith, count.most_is)) (sym count.text_is) in
    let same : 48 + m ≡ b = ap (λ xs. get_or xs 0 0) (sym (decimal_digit m below) ∙ sym count.text_is) in
    record { from_0 = omega arith; to_9 = omega arith; next_is = omega arith; least_is = count.least_is; most_is = count.most_is }

pub IsNext-later : (least value b m : ℕ) (front : List ℕ) → IsCount least front value → 0 < length front → IsCount least (front ++ b ∷ []) m → IsNext value least b m
IsNext-later least value b m front count some longer =
    let small : m < 2 ^ 64 = omega (arith, longer.most_is) in
    let low : 10 ≤ m = two_digits m front b small (sym longer.text_is) some in
    let parts = last_same (decimal (m / 10)) front (48 + m % 10) b (sym (decimal_step m low small) ∙ sym longer.text_is) in
    let tens : m / 10 ≡ value = decimal_injective (m / 10) value (omega arith) (omega (arith, count.most_is)) (parts.0 ∙ count.text_is) in
    record { from_0 = omega (arith, parts.1); to_9 = omega (arith, parts.1); next_is = omega (arith, parts.1); least_is = longer.least_is; most_is = longer.most_is }

-- ---- the digits read so far

-- the value of the first len bytes, 0 where there are none
pub record IsRead (least : ℕ) (text : List ℕ) (len value : ℕ) : Type 0 where
  pub none : len ≡ 0 → value ≡ 0
  pub some : 0 < len → IsCount least (take len text) value

pub IsRead-start : (least : ℕ) (text : List ℕ) → IsRead least text 0 0
IsRead-start least text = record { none = λ _. refl; some = λ lt. absurd (omega arith) }

pub IsRead-most : (least : ℕ) (text : List ℕ) (len value : ℕ) → IsRead least text len value → value ≤ 1000000000
IsRead-most least text len value read = elim (cases_lt 0 len) [
  | inl lt ↦ (read.some lt).most_is
  | inr le ↦ omega (arith, read.none (omega arith))
]

pub IsRead-more : (least : ℕ) (text : List ℕ) (len value next : ℕ) → len < length text → IsRead least text len value → ((0 < len) × (value ≡ 0 → ⊥)) ⊎ (len ≤ 0) → IsNext value least (get_or text len 0) next → IsRead least text (len + 1) next
IsRead-more least text len value next inside read (inl later) more = record {
  none = λ e. absurd (omega arith);
  some = λ _. rw (take_more text len 0 inside) (IsCount-later least value (get_or text len 0) next (take len text) (read.some later.0) later.1 more);
}
IsRead-more least text len value next inside read (inr first) more =
    let none : value ≡ 0 = read.none (omega arith) in
    let P : ℕ → Type 0 = λ v. IsNext v least (get_or text len 0) next in
    let one : IsCount least (get_or text len 0 ∷ []) next = IsCount-first least (get_or text len 0) next (subst P none more) in
    let Q : ℕ → Type 0 = λ k. IsCount least (take k text ++ get_or text len 0 ∷ []) next in
    let start : 0 ≡ len = omega arith in
    record {
      none = λ e. absurd (omega arith);
      some = λ _. rw (take_more text len 0 inside) (subst Q start one);
    }

pub IsRead-whole : (least : ℕ) (text : List ℕ) (len value : ℕ) → len ≡ length text → IsRead least text len value → 0 < length text → IsCount least text value
IsRead-whole least text len value over read some =
    let P : ℕ → Type 0 = λ k. IsRead least text k value in
    rw take-length at ((subst P over read).some some)

pub begins_count : (least : ℕ) (text : List ℕ) (len value : ℕ) → least ≤ 1 → IsRead least text len value → Begins (IsCountText least) (take len text)
begins_count least text len value low read = elim (cases_lt 0 len) [
  | inl lt ↦ ([], (value, rw append-nil (read.some lt)))
  | inr le ↦
      let P : ℕ → Type 0 = λ k. Begins (IsCountText least) (take k text) in
      let start : 0 ≡ len = omega arith in
      subst P start (decimal 1, (1, record { least_is = low; most_is = omega arith; text_is = refl }))
]

-- a digit behind 0
pub IsRead-zero : (least : ℕ) (text : List ℕ) (len value : ℕ) → least ≤ 1 → len < length text → IsRead least text len value → 0 < len → value ≡ 0 → StopsAt (IsCountText least) text len
IsRead-zero least text len value low inside read some none =
    StopsAt-inside (IsCountText least) text len inside (begins_count least text len value low read) (λ longer. over longer.0 longer.1.0 longer.1.1)
  where
    over : (more : List ℕ) (n : ℕ) → IsCount least (take (len + 1) text ++ more) n → ⊥
    over more n count =
        let longer : IsCountText least (take (len + 1) text) = IsCount-front least n (take (len + 1) text) more low count (simp length-take (omega arith)) in
        let Q : List ℕ → Type 0 = λ xs. IsCount least xs longer.0 in
        let next : IsNext value least (get_or text len 0) longer.0 = IsNext-later least value (get_or text len 0) longer.0 (take len text) (read.some some) (simp length-take (omega arith)) (subst Q (take_more text len 0 inside) longer.1) in
        let zero_text : take len text ≡ 48 ∷ [] = (read.some some).text_is ∙ (ap decimal none ∙ decimal_digit 0 (omega arith)) in
        let first : get_or (take (len + 1) text) 0 0 ≡ 48 = ap (λ xs. get_or xs 0 0) (take_more text len 0 inside ∙ ap (λ xs. xs ++ get_or text len 0 ∷ []) zero_text) in
        let lone : longer.0 ≡ 0 = zero_alone longer.0 (omega (arith, longer.1.most_is)) (rw longer.1.text_is at first) in
        let two : length (take (len + 1) text) ≡ 1 = ap length (longer.1.text_is ∙ (ap decimal lone ∙ decimal_digit 0 (omega arith))) in
        omega (arith, simp length-take at two)

-- no digit, or one that leads too far
pub IsRead-none : (least : ℕ) (text : List ℕ) (len value : ℕ) → least ≤ 1 → len < length text → IsRead least text len value → ((next : ℕ) → IsNext value least (get_or text len 0) next → ⊥) → StopsAt (IsCountText least) text len
IsRead-none least text len value low inside read none =
    StopsAt-inside (IsCountText least) text len inside (begins_count least text len value low read) (λ longer. over longer.0 longer.1.0 longer.1.1)
  where
    over : (more : List ℕ) (n : ℕ) → IsCount least (take (len + 1) text ++ more) n → ⊥
    over more n count =
        let longer : IsCountText least (take (len + 1) text) = IsCount-front least n (take (len + 1) text) more low count (simp length-take (omega arith)) in
        let Q : List ℕ → Type 0 = λ xs. IsCount least xs longer.0 in
        let pushed : IsCount least (take len text ++ get_or text len 0 ∷ []) longer.0 = subst Q (take_more text len 0 inside) longer.1 in
        elim (cases_lt 0 len) [
          | inl lt ↦ none longer.0 (IsNext-later least value (get_or text len 0) longer.0 (take len text) (read.some lt) (simp length-take (omega arith)) pushed)
          | inr le ↦
              let empty : 0 ≡ len = omega arith in
              let R : ℕ → Type 0 = λ k. IsCount least (take k text ++ get_or text len 0 ∷ []) longer.0 in
              let one : IsCount least (get_or text len 0 ∷ []) longer.0 = subst R (sym empty) pushed in
              let P : ℕ → Type 0 = λ v. IsNext v least (get_or text len 0) longer.0 in
              none longer.0 (subst P (sym (read.none (omega arith))) (IsNext-first least (get_or text len 0) longer.0 one))
        ]

-- no byte
pub StopsAt-no_count : (least : ℕ) (text : List ℕ) → least ≤ 1 → length text ≡ 0 → StopsAt (IsCountText least) text 0
StopsAt-no_count least [] low none = StopsAt-end (IsCountText least) [] (decimal 1, (1, record { least_is = low; most_is = omega arith; text_is = refl })) (λ count. absurd (omega (arith, ap length count.1.text_is, decimal_nonempty count.0 (omega (arith, count.1.most_is)))))
StopsAt-no_count least (b ∷ text) low none = absurd (omega arith)
