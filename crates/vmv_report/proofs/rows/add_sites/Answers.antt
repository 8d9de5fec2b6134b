use Rattle.std.proofs.Common.{◌≡◌, ◌+◌, ◌≤◌, subst, arith}
use Rattle.vmv_report.specs.Work.{review_of, at, IsAhead}
use Rattle.vmv_report.proofs.Listing.{in_order}
use Rattle.vmv_report.proofs.Placing.{place_is}
use Rattle.vmv_report.proofs.Passing.{all_passed}
use Rattle.vmv_report.proofs.Gathering.{sites_done}
use Rattle.vmv_report.proofs.rows.add_sites.Goals as goal

pub add_row-requires-clause-place : goal.add_row-requires-clause-place
add_row-requires-clause-place c =
    let low : 1 ≤ c.loop-done.done + 1 = omega arith in
    let high : c.loop-done.done + 1 ≤ c.site_count-done-end.result = omega arith in
    place_is c.args.judging.now.revision.now c.args.entry.0 c.args.proc.0 (c.loop-done.done + 1) c.site_count-done-end.result c.requires.entry c.site_count-done-end.ensures c.requires.reached low high

pub returns-clause-told : goal.returns-clause-told
returns-clause-told c =
    let end : c.loop-done.done ≡ c.site_count-done-end.result = omega arith in
    record {
      rows = sites_done (review_of c.args.judging.now) c.args.entry.0 c.args.proc.0 c.site_count-done-end.result c.loop-done.done c.loop-done.told.rows c.site_count-done-end.ensures end c.loop-done.invariant.0.rows;
      witnesses = c.loop-done.invariant.0.witnesses;
      counted = c.loop-done.invariant.0.counted;
    }

pub returns-clause-ahead : goal.returns-clause-ahead
returns-clause-ahead c =
    let program = c.args.judging.now.revision.now in
    let last = c.site_count-done-end.result in
    let end : c.loop-done.done ≡ last = omega arith in
    let lists = in_order (review_of c.args.judging.now) c.args.entry.0 c.args.sites.now c.requires.sites in
    let ahead = subst (λ k. IsAhead program (at c.args.entry.0 c.args.proc.0 (k + 1)) c.args.sites.now c.loop-done.ahead) end c.loop-done.invariant.1 in (
      all_passed program c.requires.resolution c.args.entry.0 c.args.sites.now.always lists.0 c.args.proc.0 last c.loop-done.ahead.always.now c.site_count-done-end.ensures ahead.0,
      all_passed program c.requires.resolution c.args.entry.0 c.args.sites.now.relative lists.1 c.args.proc.0 last c.loop-done.ahead.relative.now c.site_count-done-end.ensures ahead.1,
    )
