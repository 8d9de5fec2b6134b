-- The text that is given is the base's.
use Rattle.std.proofs.Common.{◌≡◌, length, rules}
use Rattle.vmv_desk.proofs.TextsLemmas.{no_base}
use Rattle.vmv_desk.proofs.AskedLemmas.{base_told}
use Rattle.vmv_desk.proofs.asking.base_of.Goals as goal

pub returns-in_default-clause-told : goal.returns-in_default-clause-told
returns-in_default-clause-told g c J =
    let many : c.len-version.result ≡ length c.args.held.now.versions = search rules in
    no_base (g.K.Keeper.told c.args.keeper.now) c.args.owner.now c.args.project.now c.args.held.now c.len-version.result _
    c.requires many (search rules)

pub returns-clause-told : goal.returns-clause-told
returns-clause-told g c J =
    let many : c.len-version.result ≡ length c.args.held.now.versions = search rules in
    base_told (g.K.Keeper.told c.args.keeper.now) c.args.owner.now c.args.project.now c.args.held.now c.len-version.result c.in-Some.text c.requires many (search rules)
