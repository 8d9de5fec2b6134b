use Rattle.std.proofs.Common.{refl}
use Rattle.vmv_report.specs.Work.{review_of}
use Rattle.vmv_report.proofs.Listing.{sites_of_one, sites_of_both}
use Rattle.vmv_report.proofs.proving.with_runs.Goals as goal

pub returns-then-is_empty : goal.returns-then-is_empty
returns-then-is_empty c =
    sites_of_one (review_of c.args.judging.now) c.args.entry.0 _ _ _ _ refl c.requires.some c.requires.always c.requires.relative (c.is_empty.ensures.0 c.if-is_empty.true) c.new.ensures

pub returns : goal.returns
returns c =
    sites_of_both (review_of c.args.judging.now) c.args.entry.0 _ _ _ _ refl c.requires.some c.requires.always c.requires.relative (λ e. let t = c.is_empty.ensures.1 e in let f = c.if-is_empty.false in absurd (cc)) c.in_ok-found.ensures
