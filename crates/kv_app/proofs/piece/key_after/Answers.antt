use Rattle.std.proofs.Common.{ℕ, ◌+◌, List, length, sym, subst}
use Rattle.tx_model.specs.Applications.{IsKey}
use Rattle.kv_app.specs.Places.{StopsAt}
use Rattle.kv_app.specs.Parts.{IsAfter}
use Rattle.kv_app.proofs.PlaceLemmas.{StopsAt-after}
use Rattle.kv_app.proofs.PieceLemmas.{StopsAt-word}
use Rattle.kv_app.proofs.KeyLemmas.{some_key}
use Rattle.kv_app.proofs.piece.key_after.Goals as goal

pub returns-in-Err-read_key-clause-err : goal.returns-in-Err-read_key-clause-err
returns-in-Err-read_key-clause-err c =
    let P : List ℕ → Type 0 = λ text. StopsAt (IsAfter c.args.word.now IsKey) text (length c.args.word.now + c.in-Err-read_key.len) in
    subst P (sym c.in-Ok.ensures.ok) (StopsAt-after IsKey c.args.word.now c.in-Ok.key.now c.in-Err-read_key.len c.in-Err-read_key.ensures.err)

pub returns-in-Err-clause-err : goal.returns-in-Err-clause-err
returns-in-Err-clause-err c =
    let told = c.in-Err.ensures in
    StopsAt-word IsKey c.args.word.now c.args.text.now c.in-Err.len _ some_key told.short told.within told.same told.apart
