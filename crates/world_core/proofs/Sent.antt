-- What is said of envelopes that are sent one by one.
use Rattle.std.proofs.Common.{◌≡◌, ◌∙◌, ℕ, ◌+◌, List, [], ◌∷◌, ◌++◌, length, sym, ap, arith, add-zero, append_assoc, length-append}
use Rattle.net_model.specs.declared.mail.Envelope.{Envelope}
use Rattle.net_model.specs.declared.shown.Item.{Item}
use Rattle.net_model.specs.Briefs.{item_of, items_from}
use Rattle.net_model.specs.Pools.{Post}

items_end : (at : ℕ) (xs : List Envelope) (e : Envelope) → items_from at (xs ++ e ∷ []) ≡ items_from at xs ++ item_of (at + length xs) e ∷ []
items_end at [] e = rw add-zero
items_end at (x ∷ xs) e = let r = items_end (at + 1) xs e in let n : at + 1 + length xs ≡ at + length (x ∷ xs) = omega arith in rw (r, n)

-- these envelopes were sent, and the items tell of them
pub record SentSo (done : List Envelope) (old new : Post) (items : List Item) : Type 0 where
  pub pool : new ≡ record old { sent = old.sent ++ done }
  pub items_are : items ≡ items_from (length old.sent + 1) done

pub SentSo-more : (done : List Envelope) (old new new' : Post) (items items' : List Item) (e : Envelope) → SentSo done old new items → new' ≡ record new { sent = new.sent ++ e ∷ [] } → items' ≡ items ++ item_of (length new.sent + 1) e ∷ [] → SentSo (done ++ e ∷ []) old new' items'
SentSo-more done old new new' items items' e so more more_items =
    let sent : new.sent ≡ old.sent ++ done = ap (λ (p : Post). p.sent) so.pool in
    let size : length new.sent ≡ length old.sent + length done = ap length sent ∙ length-append old.sent done in
    let place : length new.sent + 1 ≡ length old.sent + 1 + length done = omega (arith, size) in
    record {
      pool = more ∙ (ap (λ (p : Post). record p { sent = p.sent ++ e ∷ [] }) so.pool ∙ ap (λ l. record old { sent = l }) (append_assoc old.sent done (e ∷ [])));
      items_are = more_items ∙ (ap (λ l. l ++ item_of (length new.sent + 1) e ∷ []) so.items_are
          ∙ (ap (λ k. items_from (length old.sent + 1) done ++ item_of k e ∷ []) place ∙ sym (items_end (length old.sent + 1) done e)));
    }
