use Rattle.std.proofs.Common.{◌<◌, ◌≤◌, ◌^◌, ◌++◌, ◌∷◌, [], refl, sym, ◌∙◌, ap, subst, arith}
use Rattle.tx_model.specs.declared.meta.Meta.{Meta}
use Rattle.tx_model.specs.declared.meta.Meta.TheVariants.{Adopt, Roll}
use Rattle.tx_model.specs.Spelling.{IsMeta}
use Rattle.proto_model.specs.Held.{held_after, is_legal, table_of}
use Rattle.partition_store.specs.Stands.{reads_of}
use Rattle.partition_store.specs.Loading.{IsLoadedOf}
use Rattle.partition_store.proofs.Legal.{damaged-illegal, illegal-promise, legal-promise, illegal-low, illegal-low-long, legal-low, legal-adopt, illegal-adopt, legal-roll, illegal-roll, taken-promise, taken-low, ok_too, damaged_too}
use Rattle.partition_store.proofs.taking.Loaded.take.Goals as goal

pub returns-then-session-self-clause-damaged : goal.returns-then-session-self-clause-damaged
returns-then-session-self-clause-damaged g c = λ t entries more h is place of.
    let all = reads_of (g.D.Disk.history c.args.disk.now).now in
    let l = c.args.self.now in
    damaged-illegal all entries h l of c.args.entry more c.args.place (ap (is_legal h) c.in-Promise.is ∙ illegal-promise all entries h l of c.in-Promise.session c.if-session-self.true) is place

pub returns-then-low-self-clause-damaged : goal.returns-then-low-self-clause-damaged
returns-then-low-self-clause-damaged g c = λ t entries more h is place of.
    let all = reads_of (g.D.Disk.history c.args.disk.now).now in
    let l = c.args.self.now in
    damaged-illegal all entries h l of c.args.entry more c.args.place (ap (is_legal h) c.in-Low.is ∙ illegal-low all entries h l of c.in-Low.low c.if-low-self.true) is place

pub returns-then-self-low-clause-damaged : goal.returns-then-self-low-clause-damaged
returns-then-self-low-clause-damaged g c = λ t entries more h is place of.
    let all = reads_of (g.D.Disk.history c.args.disk.now).now in
    let l = c.args.self.now in
    let small : c.in-Low.low < 2 ^ 48 = subst IsMeta c.in-Low.is c.requires.valid in
    damaged-illegal all entries h l of c.args.entry more c.args.place (ap (is_legal h) c.in-Low.is ∙ illegal-low-long all entries h l of c.in-Low.low (omega (arith, small)) c.if-self-low.true) is place

pub returns-then-not-may_adopt-clause-damaged : goal.returns-then-not-may_adopt-clause-damaged
returns-then-not-may_adopt-clause-damaged g c = λ t entries more h is place of.
    let all = reads_of (g.D.Disk.history c.args.disk.now).now in
    let l = c.args.self.now in
    let not = c.if-not-may_adopt.true in
    damaged-illegal all entries h l of c.args.entry more c.args.place
    (ap (is_legal h) c.in-Adopt.is ∙ illegal-adopt all entries h l of c.in-Adopt.session c.in-Adopt.first c.in-Adopt.file c.in-Adopt.count (λ may. let yes = c.may_adopt.ensures.1 may in absurd (cc (yes, not)))) is place

pub returns-then-not-may_roll-clause-damaged : goal.returns-then-not-may_roll-clause-damaged
returns-then-not-may_roll-clause-damaged g c = λ t entries more h is place of.
    let all = reads_of (g.D.Disk.history c.args.disk.now).now in
    let l = c.args.self.now in
    let not = c.if-not-may_roll.true in
    let small : c.in-Roll.first ≤ 2 ^ 48 = (subst IsMeta c.in-Roll.is c.requires.valid).1.within in
    damaged-illegal all entries h l of c.args.entry more c.args.place
    (ap (is_legal h) c.in-Roll.is ∙ illegal-roll all entries h l of c.in-Roll.file c.in-Roll.first (omega (arith, small)) (λ may. let yes = c.may_roll.ensures.1 may in absurd (cc (yes, not)))) is place

pub returns-else-session-self-clause-taken : goal.returns-else-session-self-clause-taken
returns-else-session-self-clause-taken g c = λ t entries h of.
    let all = reads_of (g.D.Disk.history c.args.disk.now).now in
    let l = c.args.self.now in
    taken-promise all entries h l of c.args.entry c.in-Promise.session _ c.in-Promise.is (legal-promise all entries h l of c.in-Promise.session c.if-session-self.false) refl

pub returns-else-self-low-clause-taken : goal.returns-else-self-low-clause-taken
returns-else-self-low-clause-taken g c = λ t entries h of.
    let all = reads_of (g.D.Disk.history c.args.disk.now).now in
    let l = c.args.self.now in
    taken-low all entries h l of c.args.entry c.in-Low.low _ c.in-Low.is (legal-low all entries h l of c.in-Low.low c.if-low-self.false c.if-self-low.false) refl

pub returns-else-not-may_adopt-clause-taken : goal.returns-else-not-may_adopt-clause-taken
returns-else-not-may_adopt-clause-taken g c = ok_too c.take_file.result _ _ c.take_file.ensures.taken (λ taken. λ t entries h of.
    let all = reads_of (g.D.Disk.history c.args.disk.now).now in
    let l = c.args.self.now in
    let may = c.may_adopt.ensures.0 c.if-not-may_adopt.false in
    let e = Adopt c.in-Adopt.session c.in-Adopt.first c.in-Adopt.file c.in-Adopt.count in
    subst (λ (d : Meta). IsLoadedOf all (entries ++ d ∷ []) (held_after (table_of all) h d) c.take_file.new.self) (sym c.in-Adopt.is)
    (taken t entries h e of refl (legal-adopt all entries h l of c.in-Adopt.session c.in-Adopt.first c.in-Adopt.file c.in-Adopt.count may) refl))

pub returns-else-not-may_adopt-clause-damaged : goal.returns-else-not-may_adopt-clause-damaged
returns-else-not-may_adopt-clause-damaged g c = damaged_too c.take_file.result _ _ c.take_file.ensures.damaged (λ file at damaged. λ t entries more h is place of.
    let all = reads_of (g.D.Disk.history c.args.disk.now).now in
    let l = c.args.self.now in
    let may = c.may_adopt.ensures.0 c.if-not-may_adopt.false in
    let e = Adopt c.in-Adopt.session c.in-Adopt.first c.in-Adopt.file c.in-Adopt.count in
    damaged t entries more h e (is ∙ ap (λ (d : Meta). entries ++ d ∷ more) c.in-Adopt.is) of refl (legal-adopt all entries h l of c.in-Adopt.session c.in-Adopt.first c.in-Adopt.file c.in-Adopt.count may))

pub returns-else-not-may_roll-clause-taken : goal.returns-else-not-may_roll-clause-taken
returns-else-not-may_roll-clause-taken g c = ok_too c.take_file-in-Roll.result _ _ c.take_file-in-Roll.ensures.taken (λ taken. λ t entries h of.
    let all = reads_of (g.D.Disk.history c.args.disk.now).now in
    let l = c.args.self.now in
    let may = c.may_roll.ensures.0 c.if-not-may_roll.false in
    let e = Roll c.in-Roll.file c.in-Roll.first in
    subst (λ (d : Meta). IsLoadedOf all (entries ++ d ∷ []) (held_after (table_of all) h d) c.take_file-in-Roll.new.self) (sym c.in-Roll.is)
    (taken t entries h e of refl (legal-roll all entries h l of c.in-Roll.file c.in-Roll.first may) (sym of.adopted)))

pub returns-else-not-may_roll-clause-damaged : goal.returns-else-not-may_roll-clause-damaged
returns-else-not-may_roll-clause-damaged g c = damaged_too c.take_file-in-Roll.result _ _ c.take_file-in-Roll.ensures.damaged (λ file at damaged. λ t entries more h is place of.
    let all = reads_of (g.D.Disk.history c.args.disk.now).now in
    let l = c.args.self.now in
    let may = c.may_roll.ensures.0 c.if-not-may_roll.false in
    let e = Roll c.in-Roll.file c.in-Roll.first in
    damaged t entries more h e (is ∙ ap (λ (d : Meta). entries ++ d ∷ more) c.in-Roll.is) of refl (legal-roll all entries h l of c.in-Roll.file c.in-Roll.first may))

pub returns-in-Value-clause-damaged : goal.returns-in-Value-clause-damaged
returns-in-Value-clause-damaged g c = λ t entries more h is place of.
    damaged-illegal (reads_of (g.D.Disk.history c.args.disk.now).now) entries h c.args.self.now of c.args.entry more c.args.place (ap (is_legal h) c.in-Value.is) is place
