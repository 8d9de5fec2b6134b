use Rattle.std.proofs.Common.{get_or, subst}
use Rattle.vmv_snapshot.specs.declared.code.ProcId.{ProcId}
use Rattle.vmv_enough.proofs.Lists.{same_there}
use Rattle.vmv_report.specs.Work.{review_of, AreSitesFor}
use Rattle.vmv_report.proofs.Entered.{entry_at}
use Rattle.vmv_report.proofs.proving.Judging.judge.Goals as goal

pub entry_sites-requires-clause-entry : goal.entry_sites-requires-clause-entry
entry_sites-requires-clause-entry c =
    let entries = c.args.self.now.entries.now in
    let zero : ProcId = record { 0 = 0 } in
    (c.requires.ready.entries.each c.args.place (get_or entries c.args.place zero) (entry_at entries c.args.place zero c.requires.place)).0

pub returns : goal.returns
returns c = λ found there.
    let entries = c.args.self.now.entries.now in
    let zero : ProcId = record { 0 = 0 } in
    subst (λ (e : ProcId). AreSitesFor (review_of c.args.self.now) e.0 c.in_ok-sites.sites) (same_there entries c.args.place (get_or entries c.args.place zero) found (entry_at entries c.args.place zero c.requires.place) there) c.in_ok-sites.ensures
