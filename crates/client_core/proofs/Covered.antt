-- What is built holds each key that its ops name.
use Rattle.std.proofs.Common.{◌≡◌, ℕ, true, false, cond, not, List, [], ◌∷◌, Contains, find, Option, Some, None, refl, subst, inl, inr}
use Rattle.tx_model.specs.Transactions.{is_among}
use Rattle.tx_model.specs.Applications.{named_keys}
use Rattle.tx_model.proofs.Names.{Contains-from_is_among}
use Rattle.kv_app.specs.WellLocked.{Covers}
use Rattle.proto_model.specs.declared.refusal.BuildFault.{BuildFault}
use Rattle.client_core.specs.Clients.{ClientOf}
use Rattle.client_core.specs.Building.{form_refusal, unlocked_key, request_refusal, or_unlocked, or_earlier, build_refusal}
use Rattle.client_core.proofs.Orders.{none_in_none, where_in}

pub no_earlier : (earlier later : Option BuildFault) → or_earlier earlier later ≡ None → (earlier ≡ None) × (later ≡ None)
no_earlier None later e = (refl, e)
no_earlier (Some fault) later e = absurd cc

pub no_unlocked : (key : Option (List ℕ)) (later : Option BuildFault) → or_unlocked key later ≡ None → (key ≡ None) × (later ≡ None)
no_unlocked None later e = (refl, e)
no_unlocked (Some key) later e = absurd cc

-- where no key is free, each is a write lock
pub all_among : (writes keys : List (List ℕ)) → find (λ key. not (is_among key writes)) keys ≡ None → (key : List ℕ) → Contains keys key → Contains writes key
all_among writes [] none key is = absurd (none_in_none key is)
all_among writes (k ∷ keys) none key is =
    elim (is_among k writes) as (λ b. is_among k writes ≡ b → cond (not b) (Some k) (find (λ key. not (is_among key writes)) keys) ≡ None → Contains writes key) [
      | true ↦ λ held rest. elim (where_in k key keys is) [
        | inl same ↦ subst (λ x. Contains writes x) same (Contains-from_is_among k writes held)
        | inr among ↦ all_among writes keys rest key among
      ]
      | false ↦ λ free first. absurd cc
    ] refl none

pub keys_are_locked : {S : Type 0} (cl : ClientOf S) (writes reads : List (List ℕ)) (ops : List ℕ) → build_refusal cl writes reads ops ≡ None → Covers writes ops
unfolding build_refusal
keys_are_locked cl writes reads ops none =
    let later = no_earlier (form_refusal writes reads ops) (or_unlocked (unlocked_key writes ops) (request_refusal cl.request)) none in
    let free = no_unlocked (unlocked_key writes ops) (request_refusal cl.request) later.1 in
    all_among writes (named_keys ops) free.0
