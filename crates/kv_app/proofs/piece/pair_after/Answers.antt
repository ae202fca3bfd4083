use Rattle.std.proofs.Common.{ℕ, ◌+◌, List, length, sym, subst}
use Rattle.kv_app.specs.Places.{StopsAt}
use Rattle.kv_app.specs.Parts.{IsPairText, IsAfter}
use Rattle.kv_app.proofs.PlaceLemmas.{StopsAt-after}
use Rattle.kv_app.proofs.PieceLemmas.{StopsAt-word, pair_text}
use Rattle.kv_app.proofs.piece.pair_after.Goals as goal

pub returns-in-Err-read_pair-clause-err : goal.returns-in-Err-read_pair-clause-err
returns-in-Err-read_pair-clause-err c =
    let P : List ℕ → Type 0 = λ text. StopsAt (IsAfter c.args.word.now IsPairText) text (length c.args.word.now + c.in-Err-read_pair.len) in
    subst P (sym c.in-Ok.ensures.ok) (StopsAt-after IsPairText c.args.word.now c.in-Ok.rest.now c.in-Err-read_pair.len c.in-Err-read_pair.ensures.err)

pub returns-in-Err-clause-err : goal.returns-in-Err-clause-err
returns-in-Err-clause-err c =
    let told = c.in-Err.ensures in
    StopsAt-word IsPairText c.args.word.now c.args.text.now c.in-Err.len _ pair_text told.short told.within told.same told.apart
