use Rattle.vmv_snapshot.specs.Resolution.{procs_of}
use Rattle.vmv_witness.proofs.Entries.{item_at}
use Rattle.vmv_witness.proofs.fitting.is_site_in.Goals as goal

pub returns-then-reaches : goal.returns-then-reaches
returns-then-reaches c =
    let at = item_at (procs_of c.args.snapshot.now) c.args.proc.0 c.requires.proc in (
      λ t. (c.reaches.ensures.0 c.if-reaches.true, (at.0, at.1, (c.is_site_of.ensures at.0 at.1).0 t)),
      λ h. (c.is_site_of.ensures h.1.0 h.1.1).1 h.1.2,
    )
