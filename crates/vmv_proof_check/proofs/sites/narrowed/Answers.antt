use Rattle.std.proofs.Common.{◌↔◌, Option, List, sym, subst}
use Rattle.std.specs.List.{Contains}
use Rattle.vmv_tree.specs.declared.site.NamedSite.{NamedSite}
use Rattle.vmv_proof_check.specs.Work.{IsNarrowed}
use Rattle.vmv_proof_check.proofs.sites.narrowed.Goals as goal

pub returns-in_ok-both-in-Some : goal.returns-in_ok-both-in-Some
returns-in_ok-both-in-Some c =
    subst (λ (o : Option (List NamedSite)). IsNarrowed o c.args.row.now c.in_ok-both-in-Some.both) (sym c.in-Some.is)
    (λ site. subst (λ (xs : List NamedSite). Contains c.in_ok-both-in-Some.both site ↔ (Contains xs site × Contains c.args.row.now.unproved site)) c.as_slice.ensures
    (subst (λ (ys : List NamedSite). Contains c.in_ok-both-in-Some.both site ↔ (Contains c.as_slice.result.now site × Contains ys site)) c.as_slice-in-Some.ensures (c.in_ok-both-in-Some.ensures site)))
