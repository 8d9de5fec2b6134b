use Rattle.std.proofs.Common.{subst}
use Rattle.vmv_assumption.specs.Assumed.{Assumed}
use Rattle.vmv_report.specs.Work.{review_of, AreUnproved}
use Rattle.vmv_report.proofs.Listing.{sites_of_none}
use Rattle.vmv_report.proofs.proving.made_sites.Goals as goal

pub returns-then-is_empty : goal.returns-then-is_empty
returns-then-is_empty c =
    sites_of_none (review_of c.args.judging.now) c.args.entry.0 _ _ _ _ c.requires.ready.whole (c.is_empty.ensures.0 c.if-is_empty.true) c.new.ensures c.new-then-is_empty.ensures
    (record { decides = λ site. c.in_ok-always.ensures.provable _ site c.in_ok-thresholds.ensures; sites = c.in_ok-always.ensures.sites })

pub with_runs-requires-clause-some : goal.with_runs-requires-clause-some
with_runs-requires-clause-some c = λ e. let t = c.is_empty.ensures.1 e in let f = c.if-is_empty.false in absurd (cc)

pub with_runs-requires-clause-always : goal.with_runs-requires-clause-always
with_runs-requires-clause-always c =
    subst (λ (a : Assumed). AreUnproved c.args.judging.now.revision.now c.args.entry.0 c.args.judging.now.ends.now a c.in_ok-always.always) c.requires.ready.whole
    (record { decides = λ site. c.in_ok-always.ensures.provable _ site c.in_ok-thresholds.ensures; sites = c.in_ok-always.ensures.sites })

pub with_runs-requires-clause-relative : goal.with_runs-requires-clause-relative
with_runs-requires-clause-relative c = record { decides = λ site. c.in_ok-relative.ensures.provable _ site c.in_ok-thresholds.ensures; sites = c.in_ok-relative.ensures.sites }
