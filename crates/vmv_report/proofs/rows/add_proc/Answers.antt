use Rattle.vmv_report.specs.Work.{review_of}
use Rattle.vmv_report.proofs.Gathering.{not_reached}
use Rattle.vmv_report.proofs.Listing.{in_order}
use Rattle.vmv_report.proofs.Passing.{none_there}
use Rattle.vmv_report.proofs.rows.add_proc.Goals as goal

pub returns-clause-told : goal.returns-clause-told
returns-clause-told c =
    record {
      rows = not_reached (review_of c.args.judging.now) c.args.entry.0 c.args.number c.args.told.now.rows (λ reached. let t = c.reaches.ensures.1 reached in absurd (cc)) c.requires.before.rows;
      witnesses = c.requires.before.witnesses;
      counted = c.requires.before.counted;
    }

pub returns-clause-ahead : goal.returns-clause-ahead
returns-clause-ahead c =
    let program = c.args.judging.now.revision.now in
    let lists = in_order (review_of c.args.judging.now) c.args.entry.0 c.args.sites.now c.requires.sites in (
      none_there program c.requires.resolution c.args.entry.0 c.args.sites.now.always lists.0 c.args.number c.args.ahead.now.always.now (λ reached. let t = c.reaches.ensures.1 reached in absurd (cc)) c.requires.ahead.0,
      none_there program c.requires.resolution c.args.entry.0 c.args.sites.now.relative lists.1 c.args.number c.args.ahead.now.relative.now (λ reached. let t = c.reaches.ensures.1 reached in absurd (cc)) c.requires.ahead.1,
    )
