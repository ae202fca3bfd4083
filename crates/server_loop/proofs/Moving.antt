-- Each exchange of a drive leaves less before it.
use Rattle.std.proofs.Common.{◌≡◌, ℕ, zero, suc, ◌+◌, ◌^◌, ◌<◌, ◌||◌, if◌then◌else◌, Bool, true, false, List, [], ◌∷◌, length, set, Some, Result, Ok, Err, refl, sym, ap, subst, ◌∙◌, inl, inr, arith}
use Rattle.std.specs.Prelude.{OnOk, slice_index_or}
use Rattle.tx_model.specs.declared.record.Record.{Record}
use Rattle.tx_model.specs.Records.{IsBatch, IsPlace, RiseByOne, first_id}
use Rattle.proto_model.specs.declared.message.ToNode.{ToNode}
use Rattle.proto_model.specs.declared.message.FromNode.{FromNode}
use Rattle.proto_model.specs.Servers.{Config, ServerState}
use Rattle.proto_model.specs.Sending.{next_message}
use Rattle.proto_model.proofs.TableLemmas.{if_each}
use Rattle.wire_codec.specs.declared.message.Message.{Message}
use Rattle.wire_codec.specs.declared.message.Message.TheVariants as of
use Rattle.server_loop.specs.declared.driving.Out.{Out}
use Rattle.server_loop.specs.declared.driving.Out.TheVariants.{In, Other}
use Rattle.server_loop.specs.declared.awaiting.Answer.TheVariants as answer
use Rattle.server_loop.specs.Drives.{is_awaited_by, out_after, part, parts, work, is_closed, Driving, IsInRound, IsLess, IsRound, IsWanted, MovesForward}

-- ---- which nodes take part

parts_set : (list : List Out) (i : ℕ) (x : Out) → i < length list → slice_index_or list i In ≡ In → parts (set list i x) + 1 ≡ parts list + part x
unfolding parts
parts_set [] i x low is = absurd (omega (arith, low))
parts_set (y ∷ list) zero x low is = let one : part y ≡ 1 = ap part is in omega (arith, one)
parts_set (y ∷ list) (suc i) x low is = let rest = parts_set list i x (omega (arith, low)) is in omega (arith, rest)

-- a node that is out takes part no more
pub out_less : (list : List Out) (i : ℕ) (x : Out) (before after : ℕ) → part x ≡ 0 → after < 2 ^ 64 → i < length list → slice_index_or list i In ≡ In → work (set list i x) after < work list before
out_less list i x before after out small low is = let fewer = parts_set list i x low is in omega (arith, fewer, out, small)

still_less : (list : List Out) (i before after : ℕ) → after < before → i < length list → slice_index_or list i In ≡ In → work (set list i In) after < work list before
still_less list i before after less low is = let same = parts_set list i In low is in omega (arith, same, less)

reply_less : (c : Config) (sv : ServerState) (i : ℕ) (sent : Message) (reply : FromNode) (list : List Out) (before after : ℕ) → IsWanted c sv i sent → MovesForward c sv i reply before after → after < 2 ^ 64 →
    i < length list → slice_index_or list i In ≡ In → work (set list i (out_after sv sent (answer.From reply))) after < work list before
reply_less c sv i sent reply list before after wanted forward small low is =
    if_each (λ x. work (set list i x) after < work list before) (is_awaited_by sent reply (length sv.log)) In Other
    (λ awaited. still_less list i before after (forward wanted.message wanted.wanted (subst (λ (m : Message). is_awaited_by m reply (length sv.log) ≡ true) wanted.is awaited)) low is)
    (λ _. out_less list i Other before after refl small low is)

-- the node is out then or not, by a test of its reply
pub out_yes : (sv : ServerState) (sent : Message) (reply : FromNode) (last : ℕ) (awaited : Bool) (x : Out) → last ≡ length sv.log → awaited ≡ is_awaited_by sent reply last → awaited ≡ true → x ≡ In →
    x ≡ out_after sv sent (answer.From reply)
out_yes sv sent reply last awaited x e is held same =
    let test : is_awaited_by sent reply (length sv.log) ≡ true = ap (is_awaited_by sent reply) (sym e) ∙ (sym is ∙ held) in
    same ∙ sym (ap (λ b. if b then In else Other) test)

pub out_no : (sv : ServerState) (sent : Message) (reply : FromNode) (last : ℕ) (awaited : Bool) (x : Out) → last ≡ length sv.log → awaited ≡ is_awaited_by sent reply last → awaited ≡ false → x ≡ Other →
    x ≡ out_after sv sent (answer.From reply)
out_no sv sent reply last awaited x e is held same =
    let test : is_awaited_by sent reply (length sv.log) ≡ false = ap (is_awaited_by sent reply) (sym e) ∙ (sym is ∙ held) in
    same ∙ sym (ap (λ b. if b then In else Other) test)

-- after a reply was taken
pub heard_less : {T E : Type 0} (c : Config) (sv : ServerState) (i : ℕ) (sent : Message) (reply : FromNode) (list : List Out) (x : Out) (before after : ℕ) (result : Result T E) → x ≡ out_after sv sent (answer.From reply) →
    IsWanted c sv i sent → OnOk result (MovesForward c sv i reply before after) → after < 2 ^ 64 → i < length list → slice_index_or list i In ≡ In →
    OnOk result (work (set list i x) after < work list before)
heard_less c sv i sent reply list x before after (Ok _) same wanted forward small low is =
    subst (λ (out : Out). work (set list i out) after < work list before) (sym same) (reply_less c sv i sent reply list before after wanted forward small low is)
heard_less c sv i sent reply list x before after (Err e) same wanted forward small low is = tt

pub wanted_next : (c : Config) (sv : ServerState) (i : ℕ) (m : ToNode) → Some m ≡ next_message c sv i → IsWanted c sv i (of.ToNode m)
wanted_next c sv i m e = record { message = m; is = refl; wanted = sym e }

-- a batch begins at a place
pub batch_first : (batch : List Record) → IsBatch batch → IsPlace (first_id batch)
unfolding RiseByOne
batch_first [] is = absurd (let some = is.some in omega (arith, some))
batch_first (r ∷ batch) is = is.rise.0.id

-- ---- rounds

pub less_both : (sent more : Bool) (a b d : ℕ) → IsLess sent a b → IsLess more b d → IsLess (sent || more) a d
less_both true true a b d p q = omega (arith, p, q)
less_both true false a b d p q = omega (arith, p, q)
less_both false true a b d p q = omega (arith, p, q)
less_both false false a b d p q = q ∙ p

pub less_sent : {E : Type 0} (sent : Bool) (a b : ℕ) (result : Result Bool E) → IsLess sent a b → result ≡ Ok sent → result ≡ Ok true → b < a
less_sent true a b result p e f = p
less_sent false a b result p e f = absurd (let g : Ok false ≡ Ok true = sym e ∙ f in cc)

pub closed_round : (c : Config) (ports : List ℕ) (a d : Driving) (k : ℕ) (sent : Bool) → IsInRound c ports a k sent d → is_closed d.state.phase ≡ true → IsRound c ports false a d
closed_round c ports a d k sent round closed = inr (record { visits = k; sent = sent; round = round; closed = closed })

pub whole_round : (c : Config) (ports : List ℕ) (a d : Driving) (sent : Bool) → IsInRound c ports a c.nodes sent d → is_closed d.state.phase ≡ false → IsRound c ports sent a d
whole_round c ports a d true round works = (round, works)
whole_round c ports a d false round works = inl round
