-- The reply is that of the command, or tells its fault.
use Rattle.std.proofs.Common.{◌≡◌, None, subst}
use Rattle.vmv_keeper.specs.Outside.{OfTold}
use Rattle.vmv_keeper.specs.Formed.{AreFormed}
use Rattle.vmv_desk_rules.specs.Heard.{HandledBy, WellBy}
use Rattle.vmv_desk_rules.specs.Chain.{KeepsChains}
use Rattle.vmv_desk.proofs.SaidLemmas.{untold_by}
use Rattle.vmv_desk.proofs.HandledLemmas.{handled_by, well_by, chains_by, chains_of}
use Rattle.vmv_desk.proofs.desk.Desk.handle.Goals as goal

pub returns-clause-handled : goal.returns-clause-handled
returns-clause-handled g c =
    let judge = c.args.judge.now in
    let I = g.J.Judge.inspected judge in
    let C = g.J.Judge.compared judge in
    let then = g.K.Keeper.told c.answered.new.keeper in
    let P : _ → Type 0 = λ k. OfTold (g.K.Keeper.told k) (λ tables. AreFormed tables → HandledBy I C tables c.args.command.now then c.reply_of.result) in
    subst P c.self.view_is
    (handled_by I C (g.K.Keeper.told c.self.inside.keeper) then c.args.command.now c.answered.result c.reply_of.result
    c.answered.ensures.stepped c.answered.ensures.refused c.reply_of.ensures.ok c.reply_of.ensures.failed c.reply_of.ensures.memory)

pub returns-clause-well : goal.returns-clause-well
returns-clause-well g c =
    let judge = c.args.judge.now in
    let I = g.J.Judge.inspected judge in
    let C = g.J.Judge.compared judge in
    let then = g.K.Keeper.told c.answered.new.keeper in
    let told = g.K.Keeper.told c.args.self.now in
    well_by I C (λ text a b h k. g.met.J.Judge.one_inspected judge text a b h k) (λ base revision a b h k. g.met.J.Judge.one_compared judge base revision a b h k) (λ text said is h. g.met.J.Judge.utf8 judge text said is h)
    told then c.args.command.now c.reply_of.result (returns-clause-handled g c)

pub returns-clause-chains : goal.returns-clause-chains
returns-clause-chains g c =
    let judge = c.args.judge.now in
    let I = g.J.Judge.inspected judge in
    let C = g.J.Judge.compared judge in
    let then = g.K.Keeper.told c.answered.new.keeper in
    let told = g.K.Keeper.told c.args.self.now in
    chains_of told then (WellBy I C) (KeepsChains (g.J.Judge.keeps judge))
    (chains_by I C (λ text a b h k. g.met.J.Judge.one_inspected judge text a b h k) (λ base revision a b h k. g.met.J.Judge.one_compared judge base revision a b h k) (λ text said is h. g.met.J.Judge.utf8 judge text said is h)
    (g.J.Judge.keeps judge) (λ text said is h. g.met.J.Judge.reflexive judge text said is h) (λ a b d h k. g.met.J.Judge.transitive judge a b d h k)
    (λ a b said is h. g.met.J.Judge.sound judge a b said is h))
    (returns-clause-well g c)

pub returns-clause-untold : goal.returns-clause-untold
returns-clause-untold g c =
    let judge = c.args.judge.now in
    let I = g.J.Judge.inspected judge in
    let C = g.J.Judge.compared judge in
    let then = g.K.Keeper.told c.answered.new.keeper in
    let P : _ → Type 0 = λ k. g.K.Keeper.told k ≡ None → then ≡ None in
    subst P c.self.view_is
    (untold_by I C (λ text a b h k. g.met.J.Judge.one_inspected judge text a b h k) (λ base revision a b h k. g.met.J.Judge.one_compared judge base revision a b h k) (λ text said is h. g.met.J.Judge.utf8 judge text said is h)
    (g.K.Keeper.told c.self.inside.keeper) then c.args.command.now c.answered.result c.answered.ensures.stepped c.answered.ensures.refused)
