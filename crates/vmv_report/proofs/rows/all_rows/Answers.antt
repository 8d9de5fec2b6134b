use denote.Param.Send.{sendable}
use Rattle.std.proofs.Common.{refl}
use Rattle.vmv_report.specs.Work.{review_of}
use Rattle.vmv_report.proofs.Lent.{judging_sync}
use Rattle.vmv_report.proofs.Entered.{all_sites}
use Rattle.vmv_report.proofs.rows.all_rows.Goals as goal

pub fan-requires-sync-J : goal.fan-requires-sync-J
fan-requires-sync-J g c κs within = let judging = judging_sync in search sendable depth 8

pub rows_of-requires-clause-sites : goal.rows_of-requires-clause-sites
rows_of-requires-clause-sites g c = all_sites (review_of c.args.judging.now) c.args.judging.now.entries.now _ _ _ refl c.as_slice.ensures c.in_ok-sites.ensures.answers c.in_ok-sites.ensures.count
