use Rattle.std.proofs.Common.{◌≡◌, ◌+◌, ◌-◌, [], ◌∷◌, ◌++◌, Option, Some, ◌∙◌, ap, subst}
use Rattle.std.specs.Option.{option_to_list}
use Rattle.std.specs.Prelude.{option_copied, slice_get}
use Rattle.tx_model.specs.declared.record.Record.{Record}
use Rattle.tx_model.specs.Contents.{records_in}
use Rattle.segment_store.specs.Index.{Index}
use Rattle.proto_model.specs.Held.{Contents}
use Rattle.partition_store.specs.Stands.{reads_of}
use Rattle.partition_store.specs.Stores.{AreInOrder, records_by}
use Rattle.partition_store.specs.Found.{AreIndexed}
use Rattle.partition_store.proofs.Finding.{chain-last, found-index, found-record, each_found}
use Rattle.partition_store.proofs.getting.read_one.Goals as goal

pub get-requires : goal.get-requires
get-requires g c = λ t.
    let bytes : Contents = reads_of (g.D.Disk.history c.args.disk.now).now in
    let closed = c.args.closed.now in
    let last = ap option_copied c.in-Some.is in
    let all = subst (λ (o : Option Index). AreIndexed bytes (closed ++ option_to_list o)) last (c.requires.indexed t) in
    found-index bytes (closed ++ c.in-Some.last.now ∷ []) c.args.id c.find.result.now all c.find.ensures

pub returns-clause-log : goal.returns-clause-log
returns-clause-log g c =
    let bytes : Contents = reads_of (g.D.Disk.history c.args.disk.now).now in
    let closed = c.args.closed.now in
    let id = c.args.id in
    let i = c.find.result.now in
    each_found
    (λ (r : Record). g.D.Disk.tells → slice_get (records_in (bytes i.file)) (id - i.first) ≡ Some r)
    (λ (r : Record). g.D.Disk.tells → slice_get (records_by bytes (closed ++ option_to_list (option_copied c.args.last))) (id - 1) ≡ Some r)
    c.get.result
    (λ r is t.
    let last = ap option_copied c.in-Some.is in
    let all = subst (λ (o : Option Index). AreIndexed bytes (closed ++ option_to_list o)) last (c.requires.indexed t) in
    let order = subst (λ (o : Option Index). AreInOrder closed o c.args.len) last c.requires.order in
    let chain = chain-last closed (Some c.in-Some.last.now) c.args.len order in
    ap (λ (o : Option Index). slice_get (records_by bytes (closed ++ option_to_list o)) (id - 1)) last
    ∙ found-record bytes (closed ++ c.in-Some.last.now ∷ []) (c.args.len + 1) id i chain all c.find.ensures r (is t))
    c.get.ensures.same
