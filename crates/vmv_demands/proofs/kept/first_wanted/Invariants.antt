use Rattle.std.proofs.Common.{◌≡◌, [], take}
use Rattle.std.specs.List.{filter_map}
use Rattle.vmv_snapshot.specs.View.{block_of}
use Rattle.vmv_back.specs.Kept.{keep_all}
use Rattle.vmv_demands.specs.Back.{over_all, results}
use Rattle.vmv_demands.specs.Leads.{leads_in_all, insides, asked}
use Rattle.vmv_demands.specs.Sources.{StandFor}
use Rattle.vmv_demands.specs.Demands.{same_found}
use Rattle.vmv_demands.proofs.kept.first_wanted.Given as goal

abbrev pub invariant-loop-i : goal.invariant-loop-i
invariant-loop-i l =
    (l.kept ≡ keep_all 32 same_found [] (filter_map asked (leads_in_all (results l.snapshot.codes l.proc.0) (insides l.snapshot.codes l.proc.0) l.proc (block_of (take l.i l.block)))))
    × StandFor (over_all (results l.snapshot.codes l.proc.0) (block_of (take l.i l.block))) l.sources
