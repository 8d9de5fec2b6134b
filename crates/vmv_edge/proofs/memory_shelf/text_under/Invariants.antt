-- The entries so far have other names.
use Rattle.std.proofs.Common.{◌≡◌, drop}
use Rattle.vmv_edge.specs.Held.{text_under}
use Rattle.vmv_edge.proofs.memory_shelf.text_under.Given as goal

abbrev pub invariant-loop-entry : goal.invariant-loop-entry
invariant-loop-entry l = text_under (drop l.entry-index l.entries) l.name ≡ text_under l.entries l.name
