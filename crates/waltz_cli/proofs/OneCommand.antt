-- Words are of one command alone.
use Rattle.std.proofs.Common.{◌≡◌, ℕ, ◌<◌, ◌≤◌, ◌+◌, ◌*◌, ◌^◌, ◌-◌, List, [], ◌∷◌, length, get_or, map, decimal, ap, sym, ◌∙◌, refl, arith, vec_len}
use Rattle.std.proofs.lemmas.Fmt.{decimal_injective}
use Rattle.server_loop.specs.Sessions.{post}
use Rattle.server_host.specs.Posts.{post_of}
use Rattle.server_host.specs.declared.serve.Setting.{Setting}
use Rattle.command_words.specs.declared.command.Command.{Command}
use Rattle.command_words.specs.declared.command.Command.TheVariants.{Replay, Generate, Drill, Storage, Register, Server, Client, Stop}
use Rattle.command_words.specs.Commands.{IsWithin, IsPort, IsSetting, IsCommand, AreWordsOf, words_of, setting_numbers}
use Rattle.command_words.proofs.NumberWords.{same_ports}

-- how long the name is, and its first byte
abbrev key : List (List ℕ) → ℕ
key [] = 0
key (name ∷ numbers) = length name * 1000 + get_or name 0 0

abbrev rest : List (List ℕ) → List (List ℕ)
rest [] = []
rest (word ∷ words) = words

second : {xs ys : List (List ℕ)} → xs ≡ ys → get_or xs 1 [] ≡ get_or ys 1 []
second e = ap (λ l. get_or l 1 []) e

third : {xs ys : List (List ℕ)} → xs ≡ ys → get_or xs 2 [] ≡ get_or ys 2 []
third e = ap (λ l. get_or l 2 []) e

same_within : (most m n : ℕ) → most < 2 ^ 64 → m ≤ most → n ≤ most → decimal m ≡ decimal n → m ≡ n
same_within most m n bound p q e = decimal_injective m n (omega (arith, bound, p)) (omega (arith, bound, q)) e

same_port : (m n : ℕ) → IsPort m → IsPort n → decimal m ≡ decimal n → m ≡ n
same_port m n p q e = same_within 65535 m n (omega arith) p.to q.to e

same_word : (m n : ℕ) → IsWithin 0 (2 ^ 64 - 1) m → IsWithin 0 (2 ^ 64 - 1) n → decimal m ≡ decimal n → m ≡ n
same_word m n p q e = same_within (2 ^ 64 - 1) m n (omega arith) p.to q.to e

same_count : (m n : ℕ) → IsWithin 1 20000 m → IsWithin 1 20000 n → decimal m ≡ decimal n → m ≡ n
same_count m n p q e = same_within 20000 m n (omega arith) p.to q.to e

same_at : (n n' r r' l l' g g' : ℕ) (is is' : List ℕ) (p p' : ℕ) → n ≡ n' → r ≡ r' → l ≡ l' → g ≡ g' → is ≡ is' → p ≡ p' → post (record { nodes = n; rows = r; slots = l }) g is p ≡ post (record { nodes = n'; rows = r'; slots = l' }) g' is' p'
same_at n n' r r' l l' g g' is is' p p' a b c d e f = rw (a, b, c, d, e, f) refl

-- two settings of the same words give one server
same_post : (s s' : Setting) → IsSetting s → IsSetting s' → map decimal (setting_numbers s) ≡ map decimal (setting_numbers s') → post_of s ≡ post_of s'
same_post s s' p q e =
    let port = same_port s.port s'.port p.port q.port (ap (λ l. get_or l 0 []) e) in
    let register = same_port s.register s'.register p.register q.register (ap (λ l. get_or l 1 []) e) in
    let rows = same_within 8 s.rows s'.rows (omega arith) p.rows.to q.rows.to (ap (λ l. get_or l 2 []) e) in
    let slots = same_within 4096 s.slots s'.slots (omega arith) p.slots.to q.slots.to (ap (λ l. get_or l 3 []) e) in
    let nodes = same_ports s.nodes.items s'.nodes.items p.nodes.each q.nodes.each (ap (λ l. rest (rest (rest (rest l)))) e) in
    let count : vec_len s.nodes ≡ vec_len s'.nodes = p.sized ∙ (ap length nodes ∙ sym q.sized) in
    same_at _ _ _ _ _ _ _ _ _ _ _ _ count rows slots register nodes port

-- a command with the words of another is that one; of two servers what stays the same in a run is the same
abbrev Alike : Command → Command → Type 0
Alike c (Server s) = (t : Setting) × (c ≡ Server t) × (post_of t ≡ post_of s)
Alike c d = c ≡ d

same : (c d : Command) → IsCommand c → IsCommand d → words_of c ≡ words_of d → Alike c d
same Replay Replay in_c in_d e = refl
same (Generate m f) Replay in_c in_d e = absurd (let k : 8103 ≡ 6114 = ap key e in omega (arith, k))
same (Drill m f) Replay in_c in_d e = absurd (let k : 5100 ≡ 6114 = ap key e in omega (arith, k))
same (Storage p) Replay in_c in_d e = absurd (let k : 7115 ≡ 6114 = ap key e in omega (arith, k))
same (Register p) Replay in_c in_d e = absurd (let k : 8114 ≡ 6114 = ap key e in omega (arith, k))
same (Server s) Replay in_c in_d e = absurd (let k : 6115 ≡ 6114 = ap key e in omega (arith, k))
same (Client m p) Replay in_c in_d e = absurd (let k : 6099 ≡ 6114 = ap key e in omega (arith, k))
same (Stop p) Replay in_c in_d e = absurd (let k : 4115 ≡ 6114 = ap key e in omega (arith, k))
same Replay (Generate m' f') in_c in_d e = absurd (let k : 6114 ≡ 8103 = ap key e in omega (arith, k))
same (Generate m f) (Generate m' f') in_c in_d e = rw (same_word m m' in_c.0 in_d.0 (second e), same_count f f' in_c.1 in_d.1 (third e)) refl
same (Drill m f) (Generate m' f') in_c in_d e = absurd (let k : 5100 ≡ 8103 = ap key e in omega (arith, k))
same (Storage p) (Generate m' f') in_c in_d e = absurd (let k : 7115 ≡ 8103 = ap key e in omega (arith, k))
same (Register p) (Generate m' f') in_c in_d e = absurd (let k : 8114 ≡ 8103 = ap key e in omega (arith, k))
same (Server s) (Generate m' f') in_c in_d e = absurd (let k : 6115 ≡ 8103 = ap key e in omega (arith, k))
same (Client m p) (Generate m' f') in_c in_d e = absurd (let k : 6099 ≡ 8103 = ap key e in omega (arith, k))
same (Stop p) (Generate m' f') in_c in_d e = absurd (let k : 4115 ≡ 8103 = ap key e in omega (arith, k))
same Replay (Drill m' f') in_c in_d e = absurd (let k : 6114 ≡ 5100 = ap key e in omega (arith, k))
same (Generate m f) (Drill m' f') in_c in_d e = absurd (let k : 8103 ≡ 5100 = ap key e in omega (arith, k))
same (Drill m f) (Drill m' f') in_c in_d e = rw (same_word m m' in_c.0 in_d.0 (second e), same_count f f' in_c.1 in_d.1 (third e)) refl
same (Storage p) (Drill m' f') in_c in_d e = absurd (let k : 7115 ≡ 5100 = ap key e in omega (arith, k))
same (Register p) (Drill m' f') in_c in_d e = absurd (let k : 8114 ≡ 5100 = ap key e in omega (arith, k))
same (Server s) (Drill m' f') in_c in_d e = absurd (let k : 6115 ≡ 5100 = ap key e in omega (arith, k))
same (Client m p) (Drill m' f') in_c in_d e = absurd (let k : 6099 ≡ 5100 = ap key e in omega (arith, k))
same (Stop p) (Drill m' f') in_c in_d e = absurd (let k : 4115 ≡ 5100 = ap key e in omega (arith, k))
same Replay (Storage p') in_c in_d e = absurd (let k : 6114 ≡ 7115 = ap key e in omega (arith, k))
same (Generate m f) (Storage p') in_c in_d e = absurd (let k : 8103 ≡ 7115 = ap key e in omega (arith, k))
same (Drill m f) (Storage p') in_c in_d e = absurd (let k : 5100 ≡ 7115 = ap key e in omega (arith, k))
same (Storage p) (Storage p') in_c in_d e = ap (λ n. Storage n) (same_port p p' in_c in_d (second e))
same (Register p) (Storage p') in_c in_d e = absurd (let k : 8114 ≡ 7115 = ap key e in omega (arith, k))
same (Server s) (Storage p') in_c in_d e = absurd (let k : 6115 ≡ 7115 = ap key e in omega (arith, k))
same (Client m p) (Storage p') in_c in_d e = absurd (let k : 6099 ≡ 7115 = ap key e in omega (arith, k))
same (Stop p) (Storage p') in_c in_d e = absurd (let k : 4115 ≡ 7115 = ap key e in omega (arith, k))
same Replay (Register p') in_c in_d e = absurd (let k : 6114 ≡ 8114 = ap key e in omega (arith, k))
same (Generate m f) (Register p') in_c in_d e = absurd (let k : 8103 ≡ 8114 = ap key e in omega (arith, k))
same (Drill m f) (Register p') in_c in_d e = absurd (let k : 5100 ≡ 8114 = ap key e in omega (arith, k))
same (Storage p) (Register p') in_c in_d e = absurd (let k : 7115 ≡ 8114 = ap key e in omega (arith, k))
same (Register p) (Register p') in_c in_d e = ap (λ n. Register n) (same_port p p' in_c in_d (second e))
same (Server s) (Register p') in_c in_d e = absurd (let k : 6115 ≡ 8114 = ap key e in omega (arith, k))
same (Client m p) (Register p') in_c in_d e = absurd (let k : 6099 ≡ 8114 = ap key e in omega (arith, k))
same (Stop p) (Register p') in_c in_d e = absurd (let k : 4115 ≡ 8114 = ap key e in omega (arith, k))
same Replay (Server s') in_c in_d e = absurd (let k : 6114 ≡ 6115 = ap key e in omega (arith, k))
same (Generate m f) (Server s') in_c in_d e = absurd (let k : 8103 ≡ 6115 = ap key e in omega (arith, k))
same (Drill m f) (Server s') in_c in_d e = absurd (let k : 5100 ≡ 6115 = ap key e in omega (arith, k))
same (Storage p) (Server s') in_c in_d e = absurd (let k : 7115 ≡ 6115 = ap key e in omega (arith, k))
same (Register p) (Server s') in_c in_d e = absurd (let k : 8114 ≡ 6115 = ap key e in omega (arith, k))
same (Server s) (Server s') in_c in_d e = (s, refl, same_post s s' in_c in_d (ap rest e))
same (Client m p) (Server s') in_c in_d e = absurd (let k : 6099 ≡ 6115 = ap key e in omega (arith, k))
same (Stop p) (Server s') in_c in_d e = absurd (let k : 4115 ≡ 6115 = ap key e in omega (arith, k))
same Replay (Client m' p') in_c in_d e = absurd (let k : 6114 ≡ 6099 = ap key e in omega (arith, k))
same (Generate m f) (Client m' p') in_c in_d e = absurd (let k : 8103 ≡ 6099 = ap key e in omega (arith, k))
same (Drill m f) (Client m' p') in_c in_d e = absurd (let k : 5100 ≡ 6099 = ap key e in omega (arith, k))
same (Storage p) (Client m' p') in_c in_d e = absurd (let k : 7115 ≡ 6099 = ap key e in omega (arith, k))
same (Register p) (Client m' p') in_c in_d e = absurd (let k : 8114 ≡ 6099 = ap key e in omega (arith, k))
same (Server s) (Client m' p') in_c in_d e = absurd (let k : 6115 ≡ 6099 = ap key e in omega (arith, k))
same (Client m p) (Client m' p') in_c in_d e = rw (same_word m m' in_c.0 in_d.0 (second e), same_port p p' in_c.1 in_d.1 (third e)) refl
same (Stop p) (Client m' p') in_c in_d e = absurd (let k : 4115 ≡ 6099 = ap key e in omega (arith, k))
same Replay (Stop p') in_c in_d e = absurd (let k : 6114 ≡ 4115 = ap key e in omega (arith, k))
same (Generate m f) (Stop p') in_c in_d e = absurd (let k : 8103 ≡ 4115 = ap key e in omega (arith, k))
same (Drill m f) (Stop p') in_c in_d e = absurd (let k : 5100 ≡ 4115 = ap key e in omega (arith, k))
same (Storage p) (Stop p') in_c in_d e = absurd (let k : 7115 ≡ 4115 = ap key e in omega (arith, k))
same (Register p) (Stop p') in_c in_d e = absurd (let k : 8114 ≡ 4115 = ap key e in omega (arith, k))
same (Server s) (Stop p') in_c in_d e = absurd (let k : 6115 ≡ 4115 = ap key e in omega (arith, k))
same (Client m p) (Stop p') in_c in_d e = absurd (let k : 6099 ≡ 4115 = ap key e in omega (arith, k))
same (Stop p) (Stop p') in_c in_d e = ap (λ n. Stop n) (same_port p p' in_c in_d (second e))

pub one_command : (words : List (List ℕ)) (c d : Command) → AreWordsOf words c → AreWordsOf words d → Alike c d
one_command words c d p q = same c d p.range q.range (sym p.are ∙ q.are)
