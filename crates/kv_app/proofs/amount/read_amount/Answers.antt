use Rattle.std.proofs.Common.{refl, sym, subst, ℕ, ◌+◌, List}
use Rattle.kv_app.specs.Places.{StopsAt}
use Rattle.kv_app.specs.Parts.{IsAmountText}
use Rattle.kv_app.proofs.AmountTexts.{StopsAt-plain, StopsAt-signed}
use Rattle.kv_app.proofs.amount.read_amount.Goals as goal

pub returns-in-Err-clause-err : goal.returns-in-Err-clause-err
returns-in-Err-clause-err c =
    let P : List ℕ → Type 0 = λ text. StopsAt IsAmountText text (1 + c.in-Err.len) in
    subst P (sym c.in-Some.ensures.some) (StopsAt-signed c.in-Some.digits.now c.in-Err.len c.in-Err.ensures.err)

pub returns-in-Err-read_count-clause-err : goal.returns-in-Err-read_count-clause-err
returns-in-Err-read_count-clause-err c =
    StopsAt-plain c.args.text.now c.in-Err-read_count.len (c.in-None.ensures.none refl) c.in-Err-read_count.ensures.err
