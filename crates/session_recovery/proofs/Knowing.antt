-- What is known of nodes, and what each change makes of it.
use Rattle.std.proofs.Common.{◌≡◌, ℕ, ◌<◌, ◌≤◌, nat_lt, ◌&&◌, not, if◌then◌else◌, Bool, true, false, [], ◌∷◌, ◌++◌, length, slice_set, slice_index_or, refl, ap, sym, ◌∙◌, arith, length-set, length-append}
use Rattle.std.proofs.lemmas.Bool.Decides.{nat_tests}
use Rattle.proto_model.specs.declared.message.Report.{Report}
use Rattle.proto_model.specs.Tables.{put}
use Rattle.proto_model.specs.Quorums.{count, quorum}
use Rattle.proto_model.specs.Choices.{recovery_choice}
use Rattle.proto_model.specs.Servers.{after_report, phase_reported, reported_by, with_choice}
use Rattle.session_recovery.specs.Known.{Known, IsKnown, Rest, column, config_of, server_of}
use Rattle.session_recovery.proofs.Counts.{column-set, count-put, count_room}

-- ---- a report

abbrev pub with_report : Known → Report → Known
with_report k r = record k {
  phase = phase_reported (recovery_choice (quorum k.nodes) (k.reports ++ r ∷ [])) k.phase;
  reports = k.reports ++ r ∷ [];
  reported = slice_set k.reported r.node true;
  staged = slice_set k.staged r.node r.low;
  lows = slice_set k.lows r.node r.low;
}

pub room : (k : Known) (i : ℕ) → IsKnown k → 1 ≤ i → i ≤ k.nodes → slice_index_or k.reported i false ≡ false → length k.reports < k.nodes
room k i ok some within new =
    let free = count_room (column false k.reported) i k.nodes some within new in
    let once = ok.once in
    omega (arith, free, once)

pub with_report-known : (k : Known) (r : Report) → IsKnown k → 1 ≤ r.node → r.node ≤ k.nodes → slice_index_or k.reported r.node false ≡ false → IsKnown (with_report k r)
with_report-known k r ok some within new =
    let few = ok.few in
    let n = ok.reported in
    let once = ok.once in
    let longer = length-append k.reports (r ∷ []) in
    let more = count-put (column false k.reported) r.node k.nodes some within new in
    let same : count (column false (slice_set k.reported r.node true)) k.nodes ≡ count (put (column false k.reported) r.node true) k.nodes =
    ap (λ (p : ℕ → Bool). count p k.nodes) (column-set k.reported r.node true false (omega arith)) in
    record {
      some = ok.some;
      few = ok.few;
      reported = length-set k.reported r.node true ∙ ok.reported;
      staged = length-set k.staged r.node r.low ∙ ok.staged;
      lows = length-set k.lows r.node r.low ∙ ok.lows;
      adopted = ok.adopted;
      once = omega (arith, once, longer, more, same);
    }

and_not : (a b : Bool) → a ≡ false → b ≡ true → (not a && b) ≡ true
and_not false true e f = refl
and_not true b e f = absurd (let g : true ≡ false = e in cc)
and_not false false e f = absurd (let g : false ≡ true = f in cc)

pub with_report-state : (k : Known) (r : Report) (rest : Rest) → IsKnown k → r.node ≤ k.nodes → slice_index_or k.reported r.node false ≡ false → r.adopted < k.session →
    server_of (with_report k r) rest ≡ after_report (config_of k) (server_of k rest) r
with_report-state k r rest ok within new older =
    let few = ok.few in
    let n1 = ok.reported in
    let n2 = ok.staged in
    let n3 = ok.lows in
    let e1 = column-set k.reported r.node true false (omega arith) in
    let e2 = column-set k.staged r.node r.low 0 (omega arith) in
    let e3 = column-set k.lows r.node r.low 0 (omega arith) in
    let t : nat_lt r.adopted k.session ≡ true = grind (arith, nat_tests, older) in
    let test : (not (slice_index_or k.reported r.node false) && nat_lt r.adopted k.session) ≡ true = and_not _ _ new t in
    let all : server_of (with_report k r) rest ≡ with_choice (config_of k) (reported_by (server_of k rest) r) =
    (λ j. record (server_of (with_report k r) rest) { reported = e1 j; staged = e2 j; low = e3 j }) in
    all ∙ ap (λ b. if b then with_choice (config_of k) (reported_by (server_of k rest) r) else server_of k rest) (sym test)
