-- The next messages for all nodes, one node after another.
use Rattle.std.proofs.Common.{◌≡◌, ℕ, zero, suc, ◌+◌, ◌-◌, ◌≤◌, List, ◌++◌, Option, refl, ap, sym, ◌∙◌, arith}
use Rattle.proto_model.specs.declared.message.ToNode.{ToNode}
use Rattle.proto_model.specs.Servers.{Config, ServerState}
use Rattle.proto_model.specs.Sending.{next_message, next_messages, one_message}

next_row : (c : Config) (sv : ServerState) (i : ℕ) → 1 ≤ i → next_messages c sv i ≡ next_messages c sv (i - 1) ++ one_message i (next_message c sv i)
next_row c sv zero some = absurd (omega arith)
next_row c sv (suc k) some = let e : suc k - 1 ≡ k = omega arith in rw e refl

pub messages_with : (c : Config) (sv : ServerState) (i : ℕ) (m : Option ToNode) (sent : List (ℕ × ToNode)) → 1 ≤ i → m ≡ next_message c sv i →
    sent ≡ next_messages c sv (i - 1) → sent ++ one_message i m ≡ next_messages c sv (i + 1 - 1)
messages_with c sv i m sent some e before =
    let back : i + 1 - 1 ≡ i = omega arith in
    (λ j. before j ++ one_message i (e j)) ∙ (sym (next_row c sv i some) ∙ ap (next_messages c sv) (sym back))
