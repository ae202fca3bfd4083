use Rattle.std.proofs.Common.{◌≡◌, ◌+◌, ◌-◌, ◌≤◌, ℕ, min, List, [], ◌∷◌, ◌++◌, length, length-append, take, drop, refl, sym, ◌∙◌, ap, subst, arith}
use Rattle.tx_model.specs.declared.record.Record.{Record}
use Rattle.tx_model.specs.Records.{RiseByOne}
use Rattle.tx_model.specs.Contents.{records_in}
use Rattle.tx_model.proofs.Batches.{RiseByOne-append}
use Rattle.disk_model.specs.History.{History}
use Rattle.disk_model.proofs.Keeping.{kept_so_far, keeps_then}
use Rattle.segment_store.specs.Index.{Index, count_of, run_length, IsIndexOf}
use Rattle.segment_store.proofs.Indexing.{none_rise}
use Rattle.proto_model.specs.Held.{Contents}
use Rattle.partition_store.specs.Stands.{reads_of}
use Rattle.partition_store.specs.Stores.{records_by}
use Rattle.partition_store.proofs.Chains.{chain-more}
use Rattle.partition_store.proofs.Finding.{found-index, found-length, found-run, run-more}
use Rattle.partition_store.proofs.getting.read_run.Goals as goal

pub segments-init : goal.segments-init
segments-init g c =
    let none = c.in_ok-found.ensures.items in
    let long : length c.in_ok-found.found.items ≡ 0 = ap length none in
    record {
      most = omega (arith, long);
      rise = subst (RiseByOne c.args.from) (sym none) (none_rise c.args.from);
      log = λ t. none ∙ ap (λ (n : ℕ). take n (drop (c.args.from - 1) (records_by (reads_of (g.D.Disk.history c.args.disk.now).now) (c.args.closed.now ++ c.args.last.now ∷ [])))) (sym long);
      history = λ t. refl;
      none = refl;
      keeps = kept_so_far c.args.disk.now;
    }

pub get_run-requires : goal.get_run-requires
get_run-requires g c = λ t.
    let H = g.D.Disk.history in
    let i = c.find-segment.result.now in
    subst (λ (h : History). IsIndexOf i (h.now i.file).reads) (sym (c.segments.invariant.history t))
    (found-index (reads_of (H c.args.disk.now).now) (c.args.closed.now ++ c.args.last.now ∷ []) _ i (c.requires.indexed t) c.find-segment.ensures)

pub segments-preserved : goal.segments-preserved
segments-preserved g c =
    let inv = c.segments.invariant in
    let H = g.D.Disk.history in
    let last : Index = c.args.last.now in
    let segments : List Index = c.args.closed.now ++ last ∷ [] in
    let i : Index = c.find-segment.result.now in
    let taken : List Record = c.segments.found.items in
    let more : List Record = c.in_ok-more.more.items in
    let now : List Record = c.append.new.self.items in
    let from : ℕ = c.args.from in
    let next : ℕ = from + c.len-in-segments.result in
    let at : c.len-in-segments.result ≡ length taken = c.len-in-segments.ensures ∙ c.segments.found.ok.0 in
    let again : c.len-in-segments-2.result ≡ length taken = c.len-in-segments-2.ensures ∙ c.segments.found.ok.0 in
    let joins : now ≡ taken ++ more = c.in_ok-append.ensures.items in
    let left : ℕ = c.args.count - c.len-in-segments-2.result in
    let n : ℕ = run_length i next left in
    let some : n ≡ min left ((i.first + count_of i) - next) = found-length i next left c.find-segment.ensures.has in
    let long : length more ≡ n = c.in_ok-more.ensures.count in
    let total : length now ≡ length taken + length more = ap length joins ∙ length-append taken more in
    let next_is : next ≡ from + length taken = ap (λ (k : ℕ). from + k) at in
    record {
      most = omega (arith, total, long, some, again, inv.most);
      rise = subst (RiseByOne from) (sym joins) (RiseByOne-append from taken more inv.rise (subst (λ (k : ℕ). RiseByOne k more) next_is c.in_ok-more.ensures.found));
      log = λ t.
          let bytes : Contents = reads_of (H c.args.disk.now).now in
          let chain = chain-more 1 c.args.closed.now last c.requires.order in
          let fits : (next - i.first) + n ≤ count_of i = omega (arith, some, c.find-segment.ensures.has.0, c.find-segment.ensures.has.1) in
          let read : more ≡ take n (drop (next - i.first) (records_in (bytes i.file))) =
          c.in_ok-more.ensures.same t ∙ ap (λ (h : History). take n (drop (next - i.first) (records_in (h.now i.file).reads))) (inv.history t) in
          let then = read ∙ sym (found-run bytes segments (last.first + count_of last) next i chain (c.requires.indexed t) c.find-segment.ensures n fits) in
          run-more (records_by bytes segments) taken more now from next n c.requires.first next_is (inv.log t) then long joins;
      history = λ t. c.get_run.ensures.history t ∙ inv.history t;
      none = c.in_ok-more.ensures.cause.none (λ is. cc) ∙ inv.none;
      keeps = keeps_then inv.keeps c.in_ok-more.ensures.keeps (λ no. absurd no);
    }
