use Rattle.std.proofs.Common.{◌≡◌, sym, ◌∙◌, arith}
use Rattle.std.proofs.lemmas.Bool.{leb-true, le-leb}
use Rattle.vmv_tree.specs.Run.{name_of}
use Rattle.vmv_snapshot.specs.Tables.{body_sites}
use Rattle.vmv_snapshot.specs.Resolution.{procs_of}
use Rattle.vmv_witness.proofs.Entries.{told_same}
use Rattle.vmv_witness.proofs.fitting.is_site_of.Goals as goal

pub returns-then-site-ge1 : goal.returns-then-site-ge1
returns-then-site-ge1 c =
    λ item at.
    let name : c.proc_name.result ≡ name_of item = told_same name_of (procs_of c.args.snapshot.now) c.args.proc.0 item c.proc_name.result at c.proc_name.ensures in
    let count : c.site_count-count.result ≡ body_sites item = told_same body_sites (procs_of c.args.snapshot.now) c.args.proc.0 item c.site_count-count.result at c.site_count-count.ensures in (
      λ t. (
        sym name ∙ c.is_same.ensures.0 c.if-not-is_same.false,
        c.if-site-ge1.true,
        omega (arith, leb-true c.args.site.now.index c.site_count-count.result t),
      ),
      λ h. le-leb c.args.site.now.index c.site_count-count.result (omega (arith, h.2)),
    )

pub returns-else-site-ge1 : goal.returns-else-site-ge1
returns-else-site-ge1 c =
    λ item at. (λ t. absurd (omega (arith, leb-true 1 c.args.site.now.index t)), λ h. absurd (omega (arith, h.1)))
