-- A frame that is whole and right is the frame of its body, and the frame of a body is whole and right.
use Rattle.std.proofs.Common.{◌≡◌, ℕ, zero, suc, ◌+◌, ◌*◌, ◌^◌, ◌<◌, ◌≤◌, Bool, true, false, nat_lt, List, ◌++◌, length, get_or, take, drop, Ok, refl, sym, ap, ◌∙◌, append_assoc, length-append, length-drop, arith}
use Rattle.std.specs.Prelude.{bytes_eq}
use Rattle.std.specs.Int.{w32, to_be_bytes}
use Rattle.std.proofs.lemmas.Bool.{le-ltb}
use Rattle.std.proofs.lemmas.List.{take_at, drop_at, length-take-le}
use Rattle.std.proofs.lemmas.Nat.{from_be_bytes-to_be_bytes_4}
use Rattle.std.proofs.lemmas.Slice.Eq.{bytes_eq-Decides}
use Rattle.std.proofs.Math.Seq.{take-add}
use Rattle.sha2.specs.Sha256.{sha256, digest_bytes, final_hash, initial_hash_256}
use Rattle.tx_model.specs.Spelling.{check_of, with_length, frame}
use Rattle.tx_model.specs.Reading.{number, length_in, body_in}
use Rattle.record_frame.specs.Reading.{frame_at}
use Rattle.record_frame.specs.Faults.{IsRight}
use Rattle.record_frame.proofs.Parts.{IsBytes, number-spelled_4}

digest_long : (h : List ℕ) (n : ℕ) → length (digest_bytes h n) ≡ 4 * n
unfolding digest_bytes
digest_long h zero = refl
digest_long h (suc n) = omega (arith, digest_long h n, length-append (digest_bytes h n) (to_be_bytes w32 (get_or h n 0)))

pub length-check_of : (m : List ℕ) → length (check_of m) ≡ 8
unfolding sha256
length-check_of m = length-take-le 8 (sha256 m) (omega (arith, digest_long (final_hash initial_hash_256 m) 8))

pub length-frame : (body : List ℕ) → length (frame body) ≡ 12 + length body
length-frame body = let f = to_be_bytes w32 (length body) ++ body in omega (arith, length-append f (check_of f), length-check_of f, length-append (to_be_bytes w32 (length body)) body)

pub length-body_in : (bytes : List ℕ) → 12 + length_in bytes ≤ length bytes → length (body_in bytes) ≡ length_in bytes
length-body_in bytes whole = length-take-le (length_in bytes) (drop 4 bytes) (omega (arith, length-drop 4 bytes))

-- what is whole and right is the frame of its body
pub frame-spelled : (bytes : List ℕ) → 12 + length_in bytes ≤ length bytes → IsRight bytes → IsBytes bytes → take (12 + length (body_in bytes)) bytes ≡ frame (body_in bytes)
frame-spelled bytes whole right fits =
    let n = length_in bytes in
    let body = body_in bytes in
    let len : length body ≡ n = length-body_in bytes whole in
    let four : take 4 bytes ≡ to_be_bytes w32 n = sym (number-spelled_4 0 bytes (omega arith) fits) in
    let front : take (4 + n) bytes ≡ with_length body = take-add 4 n bytes ∙ ap (λ (l : List ℕ). l ++ body) four ∙ ap (λ (k : ℕ). to_be_bytes w32 k ++ body) (sym len) in
    let sum : 12 + length body ≡ (4 + n) + 8 = omega arith in
    ap (λ (k : ℕ). take k bytes) sum ∙ take-add (4 + n) 8 bytes ∙ ap (λ (l : List ℕ). take (4 + n) bytes ++ l) (sym right) ∙ ap (λ (l : List ℕ). l ++ check_of l) front

-- what each test of frame_at lets through
pub chosen : (test : ℕ → Bool) (bytes body : List ℕ) (n : ℕ) → number w32 0 bytes ≡ n → nat_lt (length bytes) 4 ≡ false → test n ≡ true → nat_lt (length bytes) (12 + n) ≡ false → bytes_eq (check_of (take (4 + n) bytes)) (take 8 (drop (4 + n) bytes)) ≡ true → take n (drop 4 bytes) ≡ body → frame_at test bytes ≡ Ok body
unfolding frame_at
chosen test bytes body n n_is a b c d e = rw (n_is, a, b, c, d, e) refl

pub frame-read : (test : ℕ → Bool) (body rest : List ℕ) → test (length body) ≡ true → length body < 2 ^ 32 → frame_at test (frame body ++ rest) ≡ Ok body
frame-read test body rest passes below =
    let front = to_be_bytes w32 (length body) ++ body in
    let check = check_of front in
    let bytes = frame body ++ rest in
    let n : number w32 0 bytes ≡ length body = from_be_bytes-to_be_bytes_4 (length body) below in
    let long : length bytes ≡ 12 + length body + length rest = omega (arith, length-append (frame body) rest, length-frame body) in
    let front_long : length front ≡ 4 + length body = length-append (to_be_bytes w32 (length body)) body in
    let group : bytes ≡ front ++ (check ++ rest) = append_assoc front check rest in
    let taken : take (4 + length body) bytes ≡ front = ap (λ (l : List ℕ). take (4 + length body) l) group ∙ take_at front (check ++ rest) (4 + length body) front_long in
    let behind : take 8 (drop (4 + length body) bytes) ≡ check = ap (λ (l : List ℕ). take 8 (drop (4 + length body) l)) group ∙ ap (λ (l : List ℕ). take 8 l) (drop_at front (check ++ rest) (4 + length body) front_long) ∙ take_at check rest 8 (length-check_of front) in
    let inner : take (length body) (drop 4 bytes) ≡ body = ap (λ (l : List ℕ). take (length body) (drop 4 l)) group ∙ ap (λ (l : List ℕ). take (length body) l) (drop_at (to_be_bytes w32 (length body)) (body ++ (check ++ rest)) 4 refl) ∙ take_at body (check ++ rest) (length body) refl in
    let right : bytes_eq check check ≡ true = (bytes_eq-Decides check check).1 refl in
    chosen test bytes body (length body) n (le-ltb _ _ (omega arith)) passes (le-ltb _ _ (omega arith)) (rw (taken, behind) right) inner
