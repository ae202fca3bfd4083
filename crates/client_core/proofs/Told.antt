-- The refusal as a function is the refusal as a relation.
use Rattle.std.proofs.Common.{◌≡◌, ◌≢◌, ℕ, ◌+◌, ◌-◌, ◌^◌, ◌==◌, Bool, true, false, not, nat_lt, if◌then◌else◌, List, ◌++◌, length, Option, Some, None, refl, sym, ap, subst, ◌∙◌, arith}
use Rattle.std.proofs.lemmas.Bool.Decides.{nat_tests}
use Rattle.kv_app.specs.Places.{IsOpText, is_op_text, bad_place}
use Rattle.kv_app.proofs.Endings.{op_text_tested, op_text_from_test, bad_place_is}
use Rattle.proto_model.specs.declared.refusal.BuildFault.{BuildFault}
use Rattle.proto_model.specs.declared.refusal.BuildFault.TheVariants.{BadOps, TooManyLocks, DoubleLock, PayloadTooLong, Unlocked, LastRequest, Memory}
use Rattle.client_core.specs.Clients.{ClientOf}
use Rattle.client_core.specs.Building.{Draft, has_double, form_refusal, unlocked_key, request_refusal, or_unlocked, or_earlier, build_refusal, named_keys, HasPayload, HasLockedKeys, IsBuildable, IsRefusal}
use Rattle.client_core.proofs.Builds.{unlocked_is_least}
use Rattle.client_core.proofs.Covered.{all_among, no_earlier}
use Rattle.client_core.proofs.Doubles.{double_tested, double_from_test}
use Rattle.client_core.proofs.Refusals.{one_refusal, buildable_not}

-- what the option says of a draft: the refusal, or that these tests are passed
abbrev Says : Draft → Option BuildFault → Type 0 → Type 0
Says d None Passed = Passed
Says d (Some fault) Passed = IsRefusal d fault

of_form : (d : Draft) (text many double long : Bool) → is_op_text d.ops ≡ text → nat_lt 64 (length d.reads + length d.writes) ≡ many → has_double (d.reads ++ d.writes) ≡ double → nat_lt 65536 (length d.ops) ≡ long → Says d (if not text then Some (BadOps (bad_place d.ops)) else if many then Some TooManyLocks else if double then Some DoubleLock else if long then Some PayloadTooLong else None) (HasPayload d)
of_form d false many double long t m o l = bad_place_is d.ops (λ is. clash (is_op_text d.ops) t (op_text_tested d.ops is))
  where
    clash : (b : Bool) → b ≡ false → b ≡ true → ⊥
    clash b f is = cc
of_form d true true double long t m o l = (op_text_from_test d.ops t, grind (arith, nat_tests, m))
of_form d true false true long t m o l = (record { ops = op_text_from_test d.ops t; few = grind (arith, nat_tests, m) }, double_from_test (d.reads ++ d.writes) o)
of_form d true false false true t m o l = (record { locks = record { ops = op_text_from_test d.ops t; few = grind (arith, nat_tests, m) }; once = λ is. clash _ o (double_tested (d.reads ++ d.writes) is) }, grind (arith, nat_tests, l))
  where
    clash : (b : Bool) → b ≡ false → b ≡ true → ⊥
    clash b f is = cc
of_form d true false false false t m o l = record { names = record { locks = record { ops = op_text_from_test d.ops t; few = grind (arith, nat_tests, m) }; once = λ is. clash _ o (double_tested (d.reads ++ d.writes) is) }; short = grind (arith, nat_tests, l) }
  where
    clash : (b : Bool) → b ≡ false → b ≡ true → ⊥
    clash b f is = cc

form_says : (d : Draft) → Says d (form_refusal d.writes d.reads d.ops) (HasPayload d)
form_says d = of_form d _ _ _ _ refl refl refl refl

keys_say : (d : Draft) → HasPayload d → (key : Option (List ℕ)) → unlocked_key d.writes d.ops ≡ key → Says d (or_unlocked key None) (HasLockedKeys d)
keys_say d payload None free = record { payload = payload; keys = all_among d.writes (named_keys d.ops) free }
keys_say d payload (Some key) found = (payload, unlocked_is_least d.writes d.ops key found)

request_says : (d : Draft) → HasLockedKeys d → Says d (request_refusal d.request) (IsBuildable d)
request_says d locked =
    elim (d.request == 2 ^ 64 - 1) as (λ b. (d.request == 2 ^ 64 - 1) ≡ b → Says d (if b then Some LastRequest else None) (IsBuildable d)) [
      | true ↦ λ last. (locked, grind (arith, nat_tests, last))
      | false ↦ λ other. record { locked = locked; request = grind (arith, nat_tests, other) }
    ] refl

later_says : (d : Draft) (key : Option (List ℕ)) → Says d (or_unlocked key None) (HasLockedKeys d) → Says d (or_unlocked key (request_refusal d.request)) (IsBuildable d)
later_says d None locked = request_says d locked
later_says d (Some key) is = is

pub refusal_says : {S : Type 0} (cl : ClientOf S) (d : Draft) → cl.request ≡ d.request → Says d (build_refusal cl d.writes d.reads d.ops) (IsBuildable d)
unfolding build_refusal
refusal_says cl d same =
    subst (λ (n : ℕ). Says d (or_earlier (form_refusal d.writes d.reads d.ops) (or_unlocked (unlocked_key d.writes d.ops) (request_refusal n))) (IsBuildable d)) (sym same)
    (go (form_refusal d.writes d.reads d.ops) (form_says d))
  where
    go : (earlier : Option BuildFault) → Says d earlier (HasPayload d) → Says d (or_earlier earlier (or_unlocked (unlocked_key d.writes d.ops) (request_refusal d.request))) (IsBuildable d)
    go None payload = later_says d (unlocked_key d.writes d.ops) (keys_say d payload (unlocked_key d.writes d.ops) refl)
    go (Some fault) is = is

-- ---- what the option says is all there is

pub built_if : (d : Draft) (refusal : Option BuildFault) → Says d refusal (IsBuildable d) → refusal ≡ None → IsBuildable d
built_if d None is e = is
built_if d (Some fault) is e = absurd cc

pub refused_if : (d : Draft) (refusal : Option BuildFault) (fault : BuildFault) → Says d refusal (IsBuildable d) → refusal ≡ Some fault → IsRefusal d fault
refused_if d None fault is e = absurd cc
refused_if d (Some told) fault is e = let same : told ≡ fault = cc in subst (IsRefusal d) same is

pub none_if : (d : Draft) (refusal : Option BuildFault) → Says d refusal (IsBuildable d) → IsBuildable d → refusal ≡ None
none_if d None is can = refl
none_if d (Some fault) is can = absurd (buildable_not d fault can is)

pub some_if : (d : Draft) (refusal : Option BuildFault) (fault : BuildFault) → Says d refusal (IsBuildable d) → IsRefusal d fault → refusal ≡ Some fault
some_if d None fault can is = absurd (buildable_not d fault can is)
some_if d (Some told) fault told_is is = ap (λ (f : BuildFault). Some f) (one_refusal d told fault told_is is)

-- ---- test by test

abbrev draft : {S : Type 0} → ClientOf S → List (List ℕ) → List (List ℕ) → List ℕ → Draft
draft cl writes reads ops = record { request = cl.request; writes = writes; reads = reads; ops = ops }

pub op_text_if : (writes reads : List (List ℕ)) (ops : List ℕ) → None ≡ form_refusal writes reads ops → IsOpText ops
op_text_if writes reads ops none = go (is_op_text ops) refl none
  where
    go : (b : Bool) → is_op_text ops ≡ b → None ≡ (if not b then Some (BadOps (bad_place ops)) else if nat_lt 64 (length reads + length writes) then Some TooManyLocks else if has_double (reads ++ writes) then Some DoubleLock else if nat_lt 65536 (length ops) then Some PayloadTooLong else None) → IsOpText ops
    go true is e = op_text_from_test ops is
    go false is e = absurd cc

pub form_refused : {S : Type 0} (cl : ClientOf S) (writes reads : List (List ℕ)) (ops : List ℕ) (fault : BuildFault) → Some fault ≡ form_refusal writes reads ops → Some fault ≡ build_refusal cl writes reads ops
unfolding build_refusal
form_refused cl writes reads ops fault is = ap (λ o. or_earlier o (or_unlocked (unlocked_key writes ops) (request_refusal cl.request))) is

later_refused : {S : Type 0} (cl : ClientOf S) (writes reads : List (List ℕ)) (ops : List ℕ) → None ≡ form_refusal writes reads ops → or_unlocked (unlocked_key writes ops) (request_refusal cl.request) ≡ build_refusal cl writes reads ops
unfolding build_refusal
later_refused cl writes reads ops none = ap (λ o. or_earlier o (or_unlocked (unlocked_key writes ops) (request_refusal cl.request))) none

pub key_refused : {S : Type 0} (cl : ClientOf S) (writes reads : List (List ℕ)) (ops key : List ℕ) → None ≡ form_refusal writes reads ops → Some key ≡ unlocked_key writes ops → Some (Unlocked key) ≡ build_refusal cl writes reads ops
key_refused cl writes reads ops key none is =
    ap (λ o. or_unlocked o (request_refusal cl.request)) is ∙ later_refused cl writes reads ops none

pub request_refused : {S : Type 0} (cl : ClientOf S) (writes reads : List (List ℕ)) (ops : List ℕ) → None ≡ form_refusal writes reads ops → None ≡ unlocked_key writes ops → cl.request ≡ 2 ^ 64 - 1 → Some LastRequest ≡ build_refusal cl writes reads ops
request_refused cl writes reads ops none free last =
    let test : (cl.request == 2 ^ 64 - 1) ≡ true = grind (arith, nat_tests, last) in
    ap (λ b. if b then Some LastRequest else None) (sym test) ∙ (ap (λ o. or_unlocked o (request_refusal cl.request)) free ∙ later_refused cl writes reads ops none)

pub not_refused : {S : Type 0} (cl : ClientOf S) (writes reads : List (List ℕ)) (ops : List ℕ) → None ≡ form_refusal writes reads ops → None ≡ unlocked_key writes ops → cl.request ≢ 2 ^ 64 - 1 → None ≡ build_refusal cl writes reads ops
not_refused cl writes reads ops none free other =
    let test : (cl.request == 2 ^ 64 - 1) ≡ false = grind (arith, nat_tests, other) in
    ap (λ b. if b then Some LastRequest else None) (sym test) ∙ (ap (λ o. or_unlocked o (request_refusal cl.request)) free ∙ later_refused cl writes reads ops none)

-- running out of memory is no refusal
pub not_memory : {S : Type 0} (cl : ClientOf S) (writes reads : List (List ℕ)) (ops : List ℕ) → Some Memory ≡ build_refusal cl writes reads ops → ⊥
not_memory cl writes reads ops is =
    let d : Draft = draft cl writes reads ops in
    refused_if d (build_refusal cl writes reads ops) Memory (refusal_says cl d refl) (sym is)

-- a client that builds has a request number left
pub request_left : {S : Type 0} (cl : ClientOf S) (writes reads : List (List ℕ)) (ops : List ℕ) → None ≡ build_refusal cl writes reads ops → cl.request ≢ 2 ^ 64 - 1
request_left cl writes reads ops none =
    let d : Draft = draft cl writes reads ops in
    let can : IsBuildable d = built_if d (build_refusal cl writes reads ops) (refusal_says cl d refl) (sym none) in
    can.request

pub no_form_refusal : {S : Type 0} (cl : ClientOf S) (writes reads : List (List ℕ)) (ops : List ℕ) → None ≡ build_refusal cl writes reads ops → form_refusal writes reads ops ≡ None
unfolding build_refusal
no_form_refusal cl writes reads ops none = (no_earlier (form_refusal writes reads ops) (or_unlocked (unlocked_key writes ops) (request_refusal cl.request)) (sym none)).0
