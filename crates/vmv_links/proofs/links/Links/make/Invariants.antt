use Rattle.std.proofs.Common.{◌≡◌, map, vec_len}
use Rattle.std.specs.List.{range_with_len}
use Rattle.vmv_links.specs.Nodes.{alone}
use Rattle.vmv_links.proofs.links.Links.make.Given as goal

abbrev pub invariant-loop-place : goal.invariant-loop-place
invariant-loop-place l = (l.nodes.items ≡ map alone (range_with_len 0 l.place)) × (vec_len l.nodes ≡ l.place)
