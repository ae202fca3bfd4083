-- What is kept of acknowledgements, as the columns of a server's state.
use Rattle.std.proofs.Common.{◌≡◌, ℕ, ◌<◌, ◌≤◌, max, nat_le, ◌==◌, ◌&&◌, if◌then◌else◌, Bool, true, false, length, slice_index_or, Option, None, Some, refl, ap, sym, ◌∙◌, arith}
use Rattle.std.proofs.lemmas.Bool.Decides.{nat_tests}
use Rattle.proto_model.specs.Tables.{put}
use Rattle.proto_model.specs.Quorums.{reached}
use Rattle.proto_model.specs.Servers.{Config, ServerState, acked_by, commit_mark, holds}
use Rattle.quorum_append.specs.Kept.{Kept, AreKeptWithin, greater, has_kept, kept_with, length_kept, nothing_kept, or_zero, reaches}
use Rattle.session_recovery.specs.Known.{column}
use Rattle.session_recovery.proofs.Counts.{column-set, column-replicate}

-- the columns of acknowledgements are what is kept
pub record AreColumns (kept : Kept) (sv : ServerState) : Type 0 where
  pub acked : (i : ℕ) → length_kept kept i ≡ sv.acked i
  pub adopted : (i : ℕ) → has_kept kept 0 i ≡ sv.adopted i

-- ---- nothing is kept yet

nothing_at : (nodes i : ℕ) → slice_index_or (nothing_kept nodes).lens i None ≡ None
nothing_at nodes i = ap (λ (f : ℕ → Option ℕ). f i) (column-replicate 8 None)

pub none_kept : (kept : Kept) (nodes i : ℕ) → kept ≡ nothing_kept nodes → has_kept kept 0 i ≡ false
none_kept kept nodes i is = ap (λ (k : Kept). has_kept k 0 i) is ∙ ap (λ (o : Option ℕ). reaches o 0) (nothing_at nodes i)

pub zeros_kept : (kept : Kept) (nodes i : ℕ) → kept ≡ nothing_kept nodes → length_kept kept i ≡ 0
zeros_kept kept nodes i is = ap (λ (k : Kept). length_kept k i) is ∙ ap or_zero (nothing_at nodes i)

-- ---- the mark

held_row : (o : Option ℕ) (k : ℕ) → (reaches o 0 && nat_le k (or_zero o)) ≡ reaches o k
held_row None k = refl
held_row (Some len) k = let t : nat_le 0 len ≡ true = grind (arith, nat_tests) in ap (λ b. b && nat_le k len) t

holds_kept : (kept : Kept) (sv : ServerState) (k i : ℕ) → AreColumns kept sv → has_kept kept k i ≡ holds sv k i
holds_kept kept sv k i are =
    sym (held_row (slice_index_or kept.lens i None) k) ∙ (λ j. are.adopted i j && nat_le k (are.acked i j))

-- what the search of the code finds
abbrev pub IsMarkOf : Kept → ℕ → Type 0
IsMarkOf kept mark = (bound : ℕ) → AreKeptWithin bound kept → mark ≡ reached kept.nodes (has_kept kept) bound

pub mark_kept : (c : Config) (kept : Kept) (sv : ServerState) (mark : ℕ) → kept.nodes ≡ c.nodes → AreColumns kept sv → ((i : ℕ) → sv.acked i ≤ length sv.log) → IsMarkOf kept mark → mark ≡ commit_mark c sv
mark_kept c kept sv mark nodes are within is =
    let low : AreKeptWithin (length sv.log) kept = (λ i. let x = within i in let e = are.acked i in omega (arith, x, e)) in
    let all : has_kept kept ≡ holds sv = (λ j k i. holds_kept kept sv k i are j) in
    is (length sv.log) low ∙ (λ j. reached (nodes j) (all j) (length sv.log))

-- ---- one acknowledgement more

greatest : (o : Option ℕ) (len : ℕ) → or_zero (greater o len) ≡ max (or_zero o) len
greatest None len = omega arith
greatest (Some before) len = refl

any_greater : (o : Option ℕ) (len : ℕ) → reaches (greater o len) 0 ≡ true
any_greater None len = grind (arith, nat_tests)
any_greater (Some before) len = grind (arith, nat_tests)

-- a function of a table's entries, with one entry changed
through : {A B : Type 0} (g : A → B) (f : ℕ → A) (i : ℕ) (x : A) (k : ℕ) → g (put f i x k) ≡ put (λ n. g (f n)) i (g x) k
through g f i x k = row (k == i)
  where
    row : (b : Bool) → g (if b then x else f k) ≡ (if b then g x else g (f k))
    row true = refl
    row false = refl

lens_with : (kept : Kept) (i len k : ℕ) → i < length kept.lens → slice_index_or (kept_with i len kept).lens k None ≡ put (column None kept.lens) i (greater (slice_index_or kept.lens i None) len) k
lens_with kept i len k within =
    ap (λ (f : ℕ → Option ℕ). f k) (column-set kept.lens i (greater (slice_index_or kept.lens i None) len) None within)

same_put : {A : Type 0} (f g : ℕ → A) (i : ℕ) (x y : A) (k : ℕ) → ((n : ℕ) → f n ≡ g n) → x ≡ y → put f i x k ≡ put g i y k
same_put f g i x y k same e = λ j. if k == i then e j else same k j

pub columns_with : (kept : Kept) (sv : ServerState) (i len : ℕ) → i < length kept.lens → AreColumns kept sv → AreColumns (kept_with i len kept) (acked_by sv i len)
columns_with kept sv i len within are =
    let o : Option ℕ = slice_index_or kept.lens i None in
    record {
      acked = λ k. ap or_zero (lens_with kept i len k within)
          ∙ (through or_zero (column None kept.lens) i (greater o len) k
          ∙ same_put (length_kept kept) sv.acked i (or_zero (greater o len)) (max (sv.acked i) len) k are.acked (greatest o len ∙ ap (λ n. max n len) (are.acked i)));
      adopted = λ k. ap (λ (x : Option ℕ). reaches x 0) (lens_with kept i len k within)
          ∙ (through (λ (x : Option ℕ). reaches x 0) (column None kept.lens) i (greater o len) k
          ∙ same_put (has_kept kept 0) sv.adopted i (reaches (greater o len) 0) true k are.adopted (any_greater o len));
    }
