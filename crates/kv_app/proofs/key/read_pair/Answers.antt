use Rattle.std.proofs.Common.{◌≡◌, ◌≢◌, ℕ, ◌+◌, ◌<◌, List, ◌∷◌, ◌++◌, length, take, drop, get_or, arith, refl, sym, ◌∙◌, ap, subst, length-take, length-drop}
use Rattle.std.proofs.lemmas.List.{take-append-drop}
use Rattle.std.proofs.Math.Seq.{drop-cons}
use Rattle.kv_app.specs.Places.{StopsAt}
use Rattle.kv_app.specs.Parts.{IsPairText}
use Rattle.kv_app.proofs.KeyLemmas.{IsKeyFront, StopsAt-no_space, StopsAt-pair, key_of_front}
use Rattle.kv_app.proofs.key.read_pair.Goals as goal

pub returns-then-len-eq0-clause-err : goal.returns-then-len-eq0-clause-err
returns-then-len-eq0-clause-err c =
    let told = c.key_len-len.ensures in
    let front : IsKeyFront c.args.text.now c.key_len-len.result = record { within = told.within; short = told.short; bytes = told.bytes; ends = told.ends } in
    StopsAt-no_space c.args.text.now c.key_len-len.result front (λ some _. absurd (omega arith))

pub returns-in-Err-clause-err : goal.returns-in-Err-clause-err
returns-in-Err-clause-err c =
    let told = c.key_len-len.ensures in
    let text = c.args.text.now in
    let len = c.key_len-len.result in
    let front : IsKeyFront text len = record { within = told.within; short = told.short; bytes = told.bytes; ends = told.ends } in
    let stops = StopsAt-pair (take len text) c.in-Some.number.now c.in-Err.at (key_of_front text len front (omega arith)) c.in-Err.ensures.err in
    let whole : take len text ++ 32 ∷ c.in-Some.number.now ≡ text = ap (λ xs. take len text ++ xs) (sym c.in-Some.ensures.some ∙ c.split_at.ensures.back) ∙ take-append-drop len text in
    let same : length (take len text) ≡ len = simp length-take (omega (arith, told.within)) in
    let P : List ℕ → Type 0 = λ t. StopsAt IsPairText t (length (take len text) + 1 + c.in-Err.at) in
    let Q : ℕ → Type 0 = λ n. StopsAt IsPairText text (n + 1 + c.in-Err.at) in
    subst Q same (subst P whole stops)

pub returns-in-None-clause-err : goal.returns-in-None-clause-err
returns-in-None-clause-err c =
    let told = c.key_len-len.ensures in
    let text = c.args.text.now in
    let len = c.key_len-len.result in
    let front : IsKeyFront text len = record { within = told.within; short = told.short; bytes = told.bytes; ends = told.ends } in
    let plain : 0 < len → len < length text → get_or text len 0 ≢ 32 = λ some inside e.
    let behind : c.split_at.result.1.now ≡ drop len text = c.split_at.ensures.back in
    let read : get_or c.split_at.result.1.now 0 0 ≡ get_or text len 0 = ap (λ xs. get_or xs 0 0) (behind ∙ drop-cons text len 0 inside) in
    let longer : 0 < length c.split_at.result.1.now = omega (arith, ap length behind, length-drop len text) in
    c.in-None.ensures.none refl longer (read ∙ e) in
    StopsAt-no_space text len front plain
