use Rattle.std.proofs.Common.{◌≡◌, ◌+◌, ◌-◌, [], ◌∷◌, ◌++◌, min, take, drop, Option, Vec, Global, sym, ◌∙◌, ap, subst, arith}
use Rattle.std.specs.Option.{option_to_list}
use Rattle.std.specs.Prelude.{option_copied}
use Rattle.std.proofs.lemmas.Result.{IfOk-weaker}
use Rattle.tx_model.specs.declared.record.Record.{Record}
use Rattle.tx_model.specs.Records.{RiseByOne}
use Rattle.segment_store.specs.Index.{Index}
use Rattle.segment_store.proofs.Indexing.{none_rise}
use Rattle.proto_model.specs.Held.{Contents}
use Rattle.partition_store.specs.Stands.{reads_of}
use Rattle.partition_store.specs.Stores.{records_by}
use Rattle.partition_store.proofs.Finding.{log-length, no-order, none-behind, all-left}
use Rattle.partition_store.proofs.getting.read_up_to.Goals as goal

pub returns-in_default-clause-found : goal.returns-in_default-clause-found
returns-in_default-clause-found g c = subst (RiseByOne c.args.from) (sym c.new.ensures.items) (none_rise c.args.from)

pub returns-in_default-clause-log : goal.returns-in_default-clause-log
returns-in_default-clause-log g c = λ t.
    let bytes : Contents = reads_of (g.D.Disk.history c.args.disk.now).now in
    let closed = c.args.closed.now in
    let last = option_copied c.args.last in
    let log = records_by bytes (closed ++ option_to_list last) in
    let nothing = no-order closed last c.args.len (ap option_copied c.in_default.is) c.requires.order in
    let long = log-length bytes closed last c.args.len c.requires.order (c.requires.indexed t) in
    c.new.ensures.items ∙ sym (none-behind log c.args.from c.args.max (omega (arith, long, nothing, c.requires.first)))

pub returns-then-len-from-clause-found : goal.returns-then-len-from-clause-found
returns-then-len-from-clause-found g c = subst (RiseByOne c.args.from) (sym c.new-then-len-from.ensures.items) (none_rise c.args.from)

pub returns-then-len-from-clause-log : goal.returns-then-len-from-clause-log
returns-then-len-from-clause-log g c = λ t.
    let bytes : Contents = reads_of (g.D.Disk.history c.args.disk.now).now in
    let closed = c.args.closed.now in
    let last = option_copied c.args.last in
    let log = records_by bytes (closed ++ option_to_list last) in
    let long = log-length bytes closed last c.args.len c.requires.order (c.requires.indexed t) in
    c.new-then-len-from.ensures.items ∙ sym (none-behind log c.args.from c.args.max (omega (arith, long, c.if-len-from.true)))

pub returns-clause-log : goal.returns-clause-log
returns-clause-log g c =
    let bytes : Contents = reads_of (g.D.Disk.history c.args.disk.now).now in
    let closed = c.args.closed.now in
    let from = c.args.from in
    let max = c.args.max in
    let last = option_copied c.args.last in
    let log = records_by bytes (closed ++ option_to_list last) in
    IfOk-weaker c.read_run.result
    (λ (found : Vec Record Global). g.D.Disk.tells → found.items ≡ take c.min.result (drop (from - 1) (records_by bytes (closed ++ c.in-Some.last.now ∷ []))))
    (λ (found : Vec Record Global). g.D.Disk.tells → found.items ≡ take max (drop (from - 1) (records_by bytes (closed ++ option_to_list (option_copied c.args.last)))))
    (λ found is t.
    let long = log-length bytes closed last c.args.len c.requires.order (c.requires.indexed t) in
    let count : c.min.result ≡ min max ((c.args.len - from) + 1) = omega (arith, c.min.ensures) in
    is t ∙ ap (λ (o : Option Index). take c.min.result (drop (from - 1) (records_by bytes (closed ++ option_to_list o)))) (sym (ap option_copied c.in-Some.is))
    ∙ all-left log c.args.len from max c.min.result long c.requires.first c.if-len-from.false count)
    c.read_run.ensures.log
