-- A file read on by a piece, whatever frames it holds.
use Rattle.std.proofs.Common.{◌≡◌, ℕ, ◌+◌, ◌-◌, ◌≤◌, List, [], ◌++◌, length, take, drop, refl, sym, ◌∙◌, ap, arith, append_assoc, take-append-drop}
use Rattle.std.proofs.lemmas.List.{append-nil, drop-drop, drop_all, drop-append-le}
use Rattle.tx_model.specs.Frames.{IsFraming}
use Rattle.disk_model.specs.Stretches.{IsReadAt}
use Rattle.disk_model.specs.declared.stretch.Stretch.{Stretch}
use Rattle.disk_model.proofs.Images.{empty}

-- what is left of the bytes that were read stands at the later place
pub moved : (all bytes rest more : List ℕ) (old now : ℕ) → drop old all ≡ bytes ++ more → old ≤ now → now - old ≤ length bytes → rest ≡ drop (now - old) bytes → drop now all ≡ rest ++ more
moved all bytes rest more old now at_end later used rest_is =
    let there : old + (now - old) ≡ now = omega arith in
    ap (λ (n : ℕ). drop n all) (sym there) ∙ sym (drop-drop (now - old) old all) ∙ ap (λ (l : List ℕ). drop (now - old) l) at_end
    ∙ drop-append-le (now - old) bytes more used ∙ ap (λ (l : List ℕ). l ++ more) (sym rest_is)

-- a piece more of what was read
refilled : (front old bytes file : List ℕ) (next n : ℕ) → front ≡ old ++ drop next file → bytes ≡ old ++ take n (drop next file) → front ≡ bytes ++ drop (next + n) file
refilled front old bytes file next n is more =
    is ∙ ap (λ (l : List ℕ). old ++ l) (sym (take-append-drop n (drop next file)))
    ∙ sym (append_assoc old (take n (drop next file)) (drop n (drop next file)))
    ∙ ap (λ (l : List ℕ). l ++ drop n (drop next file)) (sym more)
    ∙ ap (λ (l : List ℕ). bytes ++ l) (drop-drop n next file)

module _ (len : List ℕ → ℕ) where
  module _ (at at' : ℕ) (t : Stretch) (file bytes : List ℕ) (n : ℕ) (read : IsReadAt len at t file) (refill : bytes ≡ t.bytes.items ++ take n (drop t.next file)) where
    -- where it stands
    pub stands : drop at file ≡ bytes ++ drop (t.next + n) file
    stands = refilled (drop at file) t.bytes.items bytes file t.next n read.bytes refill

    module _ (later : at ≤ at') (used : at' ≤ at + length bytes) where
      left : drop at' file ≡ drop (at' - at) bytes ++ drop (t.next + n) file
      left = moved file bytes (drop (at' - at) bytes) (drop (t.next + n) file) at at' stands later (omega arith) refl

      -- what is read then
      pub read_further : (t' : Stretch) → t'.bytes.items ≡ drop (at' - at) bytes → t'.next ≡ t.next + n → t'.end ≡ t.end → len (drop (at' - at) bytes) ≡ 0 → IsReadAt len at' t' file
      read_further t' rest next end none = record {
        bytes = left ∙ ap (λ (l : List ℕ). l ++ drop (t.next + n) file) (sym rest) ∙ ap (λ (k : ℕ). t'.bytes.items ++ drop k file) (sym next);
        none = ap len rest ∙ none;
        end = end ∙ read.end;
      }

      -- the last of it, where no frame goes on
      pub read_wholly : len (drop (at' - at) bytes ++ drop (t.next + n) file) ≡ 0 → len (drop at' file) ≡ 0
      read_wholly none = ap len left ∙ none

  -- the end of the file
  pub read_to_end : (at : ℕ) (t : Stretch) (file : List ℕ) → IsReadAt len at t file → length file ≤ t.next → len (drop at file) ≡ 0
  read_to_end at t file read past =
      let all : drop at file ≡ t.bytes.items = read.bytes ∙ ap (λ (l : List ℕ). t.bytes.items ++ l) (drop_all t.next file past) ∙ append-nil t.bytes.items in
      ap len all ∙ read.none

  -- nothing is read yet
  pub not_read : IsFraming len → (at : ℕ) (t : Stretch) (file : List ℕ) → at ≡ t.next → t.bytes.items ≡ [] → t.end ≡ length file → IsReadAt len at t file
  not_read framing at t file next none end = record {
    bytes = ap (λ (n : ℕ). drop n file) next ∙ ap (λ (l : List ℕ). l ++ drop t.next file) (sym none);
    none = ap len none ∙ empty len framing;
    end = end;
  }
