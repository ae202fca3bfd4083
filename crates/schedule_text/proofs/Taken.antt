-- Lines that were taken from a source, and how far it was read for them.
use Rattle.std.proofs.Common.{◌≡◌, ◌⊎◌, ℕ, ◌<◌, List, [], ◌∷◌, ◌++◌, length, arith, refl, sym, ◌∙◌, ap, subst, append_assoc, length-append, Option, None, Some, Result, Ok, inl, inr}
use Rattle.std.specs.Prelude.{◌==◌, true, false, if◌then◌else◌}
use Rattle.std.specs.Io.KnownBytes.{Consumes, Keeps, prepend_known}
use Rattle.std.proofs.KnownBytes.{prepend_known-nil}
use Rattle.std.proofs.lemmas.List.{append-nil, append_cancel_left}
use Rattle.std.proofs.lemmas.Grind.{flat_map-append}
use Rattle.std.proofs.lemmas.Bool.Decides.{nat_tests}
use Rattle.io_core.specs.Lines.{lines_of, onto_first, HasNoFeed, IsLineThen, TakesLine, IsTooLong, IsOpen, TakesPart, IsReadWhileOpen}
use Rattle.io_core.proofs.LineLemmas.{lines_of-ended, lines_of-line, lines_of-begun, Consumes-keeps, TakesByte, TakesByte-next}
use Rattle.schedule_text.specs.Taken.{text_of, AreWhole, AreTaken, TakesLines, FirstHas, NextHas, IsOver, ReadsOn, room_after, Gave, ReadsNoFurther, IsReadForOne}

-- ---- lines that were taken

nothing_whole : AreWhole [] []
nothing_whole = record { text = refl; all = λ more. refl }

pub TakesLines-none : (known : Option (List ℕ)) → TakesLines known known []
TakesLines-none None = tt
TakesLines-none (Some bytes) = inl ([], refl, nothing_whole)

regroup : (a b c d : List ℕ) → (a ++ (b ++ c)) ++ d ≡ a ++ (b ++ (c ++ d))
regroup a b c d = simp append_assoc

text_of-push : (lines : List (List ℕ)) (line : List ℕ) → text_of (lines ++ line ∷ []) ≡ text_of lines ++ (line ++ 10 ∷ [])
text_of-push lines line = flat_map-append (λ l. l ++ 10 ∷ []) lines (line ∷ []) ∙ ap (λ xs. text_of lines ++ xs) (append-nil (line ++ 10 ∷ []))

-- one more line that is ended
whole_more : (given line : List ℕ) (lines : List (List ℕ)) → AreWhole given lines → HasNoFeed line → AreWhole (given ++ (line ++ 10 ∷ [])) (lines ++ line ∷ [])
whole_more given line lines whole plain = record {
  text = ap (λ g. g ++ (line ++ 10 ∷ [])) whole.text ∙ sym (text_of-push lines line);
  all = λ more. ap lines_of (regroup given line (10 ∷ []) more) ∙ (whole.all (line ++ 10 ∷ more) ∙ (ap (λ ls. lines ++ ls) (lines_of-ended line more plain) ∙ sym (append_assoc lines (line ∷ []) (lines_of more))));
}

-- what is left of the lines
pub lines-rest : (bytes rest : List ℕ) (lines : List (List ℕ)) → AreTaken bytes rest lines → lines_of bytes ≡ lines ++ lines_of rest
lines-rest bytes rest lines (inl p) = rw p.1 (p.2.all rest)
lines-rest bytes rest lines (inr p) = rw (p.0, append-nil) p.1

no_line_of_nothing : (bytes line rest : List ℕ) → bytes ≡ [] → IsLineThen bytes line rest → ⊥
no_line_of_nothing bytes line rest none next = split next.split
  where
    empty : length bytes ≡ 0
    empty = ap length none

    split : (bytes ≡ line ++ 10 ∷ rest) ⊎ ((bytes ≡ line) × (rest ≡ []) × (0 < length line)) → ⊥
    split (inl e) = omega (arith, empty, simp length-append at (ap length e))
    split (inr e) = omega (arith, empty, ap length e.0, e.2)

taken_more : (bytes mid rest line : List ℕ) (lines : List (List ℕ)) → AreTaken bytes mid lines → IsLineThen mid line rest → AreTaken bytes rest (lines ++ line ∷ [])
taken_more bytes mid rest line lines (inr p) next =
    absurd (no_line_of_nothing mid line rest p.0 next)
taken_more bytes mid rest line lines (inl p) next = split next.split
  where
    split : (mid ≡ line ++ 10 ∷ rest) ⊎ ((mid ≡ line) × (rest ≡ []) × (0 < length line)) → AreTaken bytes rest (lines ++ line ∷ [])
    split (inl e) = inl (p.0 ++ (line ++ 10 ∷ []), p.1 ∙ (ap (λ m. p.0 ++ m) e ∙ sym (regroup p.0 line (10 ∷ []) rest)), whole_more p.0 line lines p.2 next.plain)
    split (inr e) = inr (e.1, lines-rest bytes mid lines (inl p) ∙ ap (λ ls. lines ++ ls) (lines_of-line mid line rest next ∙ ap (λ r. line ∷ lines_of r) e.1))

pub TakesLines-more : (a b c : Option (List ℕ)) (lines : List (List ℕ)) (line : List ℕ) → TakesLines a b lines → TakesLine b c line → TakesLines a c (lines ++ line ∷ [])
TakesLines-more None b c lines line p q = tt
TakesLines-more (Some a) None c lines line p q = absurd p
TakesLines-more (Some a) (Some b) None lines line p q = absurd q
TakesLines-more (Some a) (Some b) (Some c) lines line p q = taken_more a b c line lines p q

-- ---- what follows them

pub next_has : (P : List ℕ → Type 0) (a b : Option (List ℕ)) (line : List ℕ) → TakesLine a b line → P line → NextHas P a
next_has P None b line read has = tt
next_has P (Some xs) None line read has = absurd read
next_has P (Some xs) (Some ys) line read has =
    let F : List (List ℕ) → Type 0 = λ lines. FirstHas P lines in
    subst F (sym (lines_of-line xs line ys read)) has

-- a line that is too long begins so
pub too_long_lines : (xs ys front : List ℕ) → xs ≡ front ++ ys → IsTooLong 512 front → (more : List ℕ) × (rest : List (List ℕ)) × (lines_of xs ≡ (front ++ more) ∷ rest)
too_long_lines xs ys front cut long = rw cut (lines_of-begun front ys long.plain (omega (arith, long.size)))

pub long_has : (P : List ℕ → Type 0) (a b : Option (List ℕ)) (front : List ℕ) → Consumes a b front → IsTooLong 512 front → ((more : List ℕ) → P (front ++ more)) → NextHas P a
long_has P None b front read long has = tt
long_has P (Some xs) None front read long has = absurd read
long_has P (Some xs) (Some ys) front read long has =
    let F : List (List ℕ) → Type 0 = λ lines. FirstHas P lines in
    let h = too_long_lines xs ys front read long in
    subst F (sym h.2) (has h.0)

-- there is a next line where one has P
pub some_first : (P : List ℕ → Type 0) (rest : List ℕ) → FirstHas P (lines_of rest) → ¬ (rest ≡ [])
some_first P rest has is = rw is at has

pub some_line : (bytes : List ℕ) → ¬ (bytes ≡ []) → ¬ (lines_of bytes ≡ [])
some_line [] some none = some refl
some_line (x ∷ bytes) some none = first_some x bytes none
  where
    onto_some : (x : ℕ) (lines : List (List ℕ)) → ¬ (onto_first x lines ≡ [])
    onto_some x [] e = cc
    onto_some x (line ∷ lines) e = cc

    first_some : (x : ℕ) (bytes : List ℕ) → ¬ (lines_of (x ∷ bytes) ≡ [])
    first_some x bytes =
        elim (x == 10) as (λ b. ¬ ((if b then [] ∷ lines_of bytes else onto_first x (lines_of bytes)) ≡ [])) [ true ↦ λ e. cc | false ↦ λ e. onto_some x (lines_of bytes) e ]

nothing_left : (part rest : List ℕ) → part ++ rest ≡ [] → rest ≡ []
nothing_left [] rest e = e
nothing_left (x ∷ part) rest e = cc

over_left : (rest pending : List ℕ) (left : Option (List ℕ)) → rest ≡ [] → Keeps (Some rest) (prepend_known pending left) → left ≡ Some []
over_left rest pending None none kept = absurd kept
over_left rest pending (Some xs) none kept = ap Some (nothing_left pending xs (kept ∙ none))

-- the source was read to its end
pub all_read : (b left : Option (List ℕ)) (pending rest : List ℕ) → b ≡ Some rest → IsOver b (prepend_known pending left) → (lines_of rest ≡ []) × (left ≡ Some [])
all_read b left pending rest is over =
    let none : rest ≡ [] = rw is at over.none in
    let kept = rw is at over.same in
    (ap lines_of none, over_left rest pending left none kept)

-- where nothing is pending, what is left is the source's
pub part_kept : (limit : ℕ) (old left : Option (List ℕ)) (pending : List ℕ) → pending ≡ [] → TakesPart limit old left → TakesPart limit old (prepend_known pending left)
part_kept limit old left pending empty part = rw (empty, prepend_known-nil left) part

pub keeps_part : (a b : Option (List ℕ)) → Keeps a b → TakesPart 0 a b
keeps_part None b p = tt
keeps_part (Some xs) None p = absurd p
keeps_part (Some xs) (Some ys) p = ([], record { plain = tt; short = omega arith }, sym p)

gave : (most : ℕ) (bytes mid rest part : List ℕ) (lines : List (List ℕ)) → AreTaken bytes mid lines → IsOpen (room_after most lines) part → mid ≡ part ++ rest → Gave most bytes (Some rest) lines ⊎ ((Some rest ≡ Some []) × (lines_of bytes ≡ lines))
gave most bytes mid rest part lines (inl p) is_open cut = inl (record {
  part = part;
  rest = rest;
  left_is = refl;
  split = p.1 ∙ (ap (λ m. p.0 ++ m) cut ∙ ap (λ g. g ++ (part ++ rest)) p.2.text);
  open_yet = is_open;
})
gave most bytes mid rest part lines (inr p) is_open cut = inr (ap Some (nothing_left part rest (sym cut ∙ p.0)), p.1)

-- a read failed within a line, or before one
pub part_left : (most limit : ℕ) (b left : Option (List ℕ)) (pending bytes rest : List ℕ) (lines : List (List ℕ)) → room_after most lines ≡ limit → b ≡ Some rest → AreTaken bytes rest lines → pending ≡ [] → TakesPart limit b (prepend_known pending left) → Gave most bytes left lines ⊎ ((left ≡ Some []) × (lines_of bytes ≡ lines))
part_left most limit b left pending bytes rest lines room is taken empty part =
    with_left left (rw (is, empty, prepend_known-nil left) at part)
  where
    R : ℕ → List ℕ → Type 0
    R l xs = IsOpen l xs

    with_left : (left : Option (List ℕ)) → TakesPart limit (Some rest) left → Gave most bytes left lines ⊎ ((left ≡ Some []) × (lines_of bytes ≡ lines))
    with_left None p = absurd p
    with_left (Some ys) p = gave most bytes rest ys p.0 lines taken (subst (λ (l : ℕ). R l p.0) (sym room) p.1) p.2

-- ---- room for what decides nothing

pub room-some : (most : ℕ) (lines : List (List ℕ)) (n : ℕ) → length lines ≡ n → n < most → room_after most lines ≡ 512
room-some most lines n is few = no_limit (length lines) (omega (arith, is, few))
  where
    no_limit : (k : ℕ) → k < most → ◌≡◌ {A = ℕ} (if k == most then 0 else 512) 512
    no_limit k small = grind (arith, nat_tests)

pub room-none : (most : ℕ) (lines : List (List ℕ)) → length lines ≡ most → room_after most lines ≡ 0
room-none most lines is = at_limit (length lines) is
  where
    at_limit : (k : ℕ) → k ≡ most → ◌≡◌ {A = ℕ} (if k == most then 0 else 512) 0
    at_limit k is = grind (arith, nat_tests)

-- ---- the last read

-- of known bytes some decide nothing, the last read gave a piece, and the rest is left
record TakesPiece (limit : ℕ) (bytes : List ℕ) (before left : Option (List ℕ)) : Type 0 where
  part : List ℕ
  piece : List ℕ
  rest : List ℕ
  before_is : before ≡ Some (piece ++ rest)
  left_is : left ≡ Some rest
  split : bytes ≡ part ++ (piece ++ rest)
  open_yet : IsOpen limit part

takes_piece : (limit : ℕ) (pending xs : List ℕ) (before left : Option (List ℕ)) → IsReadWhileOpen limit pending (Some xs) before left → TakesPiece limit (pending ++ xs) before left
takes_piece limit pending xs None left p = absurd p.read
takes_piece limit pending xs (Some b) None p = absurd p.last
takes_piece limit pending xs (Some b) (Some r) p = record {
  part = pending ++ p.came;
  piece = p.piece;
  rest = r;
  before_is = ap Some (append_cancel_left p.came b (p.piece ++ r) (sym p.read ∙ (p.last ∙ append_assoc p.came p.piece r)));
  left_is = refl;
  split = ap (λ zs. pending ++ zs) (p.last ∙ append_assoc p.came p.piece r) ∙ sym (append_assoc pending p.came (p.piece ++ r));
  open_yet = p.open_yet;
}

-- it was made for the line that follows the earlier ones of these
abbrev reads_at : (most : ℕ) (earlier later : List (List ℕ)) (lines : List (List ℕ)) (bytes given mid : List ℕ) (before left : Option (List ℕ)) → lines ≡ earlier ++ later → bytes ≡ given ++ mid → given ≡ text_of earlier → TakesPiece (room_after most earlier) mid before left → ReadsNoFurther most lines bytes before left
reads_at most earlier later lines bytes given mid before left front cut text piece = record {
  earlier = earlier;
  later = later;
  front = front;
  part = piece.part;
  piece = piece.piece;
  rest = piece.rest;
  before_is = piece.before_is;
  left_is = piece.left_is;
  split = cut ∙ (ap (λ m. given ++ m) piece.split ∙ ap (λ g. g ++ (piece.part ++ (piece.piece ++ piece.rest))) text);
  open_yet = piece.open_yet;
}

-- nothing but a part of the first line was given before it
pub reads_first : (most : ℕ) (bytes : List ℕ) (before left : Option (List ℕ)) → IsReadWhileOpen (room_after most []) [] (Some bytes) before left → ReadsNoFurther most [] bytes before left
reads_first most bytes before left p =
    reads_at most [] [] [] bytes [] bytes before left refl refl refl (takes_piece (room_after most []) [] bytes before left p)

-- it was made within the line that follows these, or nothing was left
reads_here : (most : ℕ) (lines : List (List ℕ)) (bytes mid : List ℕ) (before left : Option (List ℕ)) → AreTaken bytes mid lines → TakesPiece (room_after most lines) mid before left → ReadsNoFurther most lines bytes before left ⊎ ((mid ≡ []) × (left ≡ Some []))
reads_here most lines bytes mid before left (inl p) piece =
    inl (reads_at most lines [] lines bytes p.0 mid before left (sym (append-nil lines)) p.1 p.2.text piece)
reads_here most lines bytes mid before left (inr p) piece =
    inr (p.0, piece.left_is ∙ ap Some (nothing_left (piece.part ++ piece.piece) piece.rest (append_assoc piece.part piece.piece piece.rest ∙ (sym piece.split ∙ p.0))))

-- What is known of it once one line more is asked for: what was known before, where that holds too of a read within
-- the line that follows these.
pub reads_on : {S : Type 0} (left before : S → Option (List ℕ)) (old new : S) (most : ℕ) (lines : List (List ℕ)) (bytes pending mid : List ℕ) (P : Option (List ℕ) → Option (List ℕ) → Type 0) → AreTaken bytes mid lines → prepend_known pending (left old) ≡ Some mid → P (before old) (left old) → ((b l : Option (List ℕ)) → ReadsNoFurther most lines bytes b l → P b l) → ReadsOn left before old new (room_after most lines) pending → P (before new) (left new) ⊎ ((mid ≡ []) × (left new ≡ Some []))
reads_on left before old new most lines bytes pending mid P taken here was within (inl same) = inl (rw same was)
reads_on left before old new most lines bytes pending mid P taken here was within (inr p) = known (left old) here p
  where
    by_place : ReadsNoFurther most lines bytes (before new) (left new) ⊎ ((mid ≡ []) × (left new ≡ Some [])) → P (before new) (left new) ⊎ ((mid ≡ []) × (left new ≡ Some []))
    by_place (inl further) = inl (within (before new) (left new) further)
    by_place (inr over) = inr over

    known : (a : Option (List ℕ)) → prepend_known pending a ≡ Some mid → IsReadWhileOpen (room_after most lines) pending a (before new) (left new) → P (before new) (left new) ⊎ ((mid ≡ []) × (left new ≡ Some []))
    known None here p = let e : None ≡ Some mid = here in cc
    known (Some xs) here p =
        let same : pending ++ xs ≡ mid = cc in
        by_place (reads_here most lines bytes mid (before new) (left new) taken (rw same at (takes_piece (room_after most lines) pending xs (before new) (left new) p)))

pub where_some : {A : Type 0} (mid : List ℕ) (left : Option (List ℕ)) → A ⊎ ((mid ≡ []) × (left ≡ Some [])) → ¬ (mid ≡ []) → A
where_some mid left (inl is) some = is
where_some mid left (inr over) some = absurd (some over.0)

-- a line that needed it
after_read : (most : ℕ) (bytes mid line : List ℕ) (next before left : Option (List ℕ)) (lines : List (List ℕ)) → AreTaken bytes mid lines → TakesLine (Some mid) next line → TakesPiece (room_after most lines) mid before left → IsReadForOne most (lines ++ line ∷ []) bytes before left
after_read most bytes mid line None before left lines taken next piece = absurd next
after_read most bytes mid line (Some rest) before left lines (inr p) next piece =
    absurd (no_line_of_nothing mid line rest p.0 next)
after_read most bytes mid line (Some rest) before left lines (inl p) next piece = record {
  reads = reads_at most lines (line ∷ []) (lines ++ line ∷ []) bytes p.0 mid before left refl p.1 p.2.text piece;
  one = omega arith;
}

pub needs_read : (most : ℕ) (bytes pending line : List ℕ) (here next before left : Option (List ℕ)) (lines : List (List ℕ)) → TakesLines (Some bytes) (prepend_known pending here) lines → TakesLine (prepend_known pending here) next line → IsReadWhileOpen (room_after most lines) pending here before left → IsReadForOne most (lines ++ line ∷ []) bytes before left
needs_read most bytes pending line None next before left lines taken takes p = absurd taken
needs_read most bytes pending line (Some xs) next before left lines taken takes p =
    after_read most bytes (pending ++ xs) line next before left lines taken takes (takes_piece (room_after most lines) pending xs before left p)

-- a line that needed no read
pub without_read : (most : ℕ) (bytes line : List ℕ) (before left : Option (List ℕ)) (lines : List (List ℕ)) → IsReadForOne most lines bytes before left → IsReadForOne most (lines ++ line ∷ []) bytes before left
without_read most bytes line before left lines last = record {
  reads = record {
    earlier = last.reads.earlier;
    later = last.reads.later ++ line ∷ [];
    front = ap (λ ls. ls ++ line ∷ []) last.reads.front ∙ append_assoc last.reads.earlier last.reads.later (line ∷ []);
    part = last.reads.part;
    piece = last.reads.piece;
    rest = last.reads.rest;
    before_is = last.reads.before_is;
    left_is = last.reads.left_is;
    split = last.reads.split;
    open_yet = last.reads.open_yet;
  };
  one = simp length-append (omega arith);
}

-- a byte after the last line needs a read only where nothing is pending
pub byte_reads : {S E : Type 0} (left before : S → Option (List ℕ)) (old new : S) (pending pending_new : List ℕ) (byte : ℕ) (result : Result (Option ℕ) E) → result ≡ Ok (Some byte) → ((first : ℕ) → (more : List ℕ) → pending ≡ first ∷ more → (result ≡ Ok (Some first)) × (pending_new ≡ more) × (new ≡ old)) → (pending ≡ [] → Keeps (left old) (before new)) → Consumes (prepend_known pending (left old)) (prepend_known pending_new (left new)) (byte ∷ []) → ReadsOn left before old new 0 pending
byte_reads left before old new pending pending_new byte result is ready last p =
    by_byte (TakesByte-next left before old new pending pending_new byte result is ready last p)
  where
    by_byte : TakesByte left before old new pending pending_new byte → ReadsOn left before old new 0 pending
    by_byte (inl q) = inl q.0
    by_byte (inr q) = inr (record {
      came = [];
      piece = byte ∷ pending_new;
      read = Consumes-keeps (left old) (before new) q.1;
      last = q.2;
      open_yet = rw (append-nil pending, q.0) (record { plain = tt; short = omega arith });
    })
