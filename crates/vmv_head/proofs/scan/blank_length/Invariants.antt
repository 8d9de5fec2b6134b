-- The lines so far are empty ones.
use Rattle.std.proofs.Common.{◌≡◌, ◌≤◌, ◌+◌, ◌-◌, length, drop}
use Rattle.vmv_head.specs.Heads.{blank_length}
use Rattle.vmv_head.proofs.scan.blank_length.Given as goal

abbrev pub invariant-loop-at : goal.invariant-loop-at
invariant-loop-at l = record { within : l.at ≤ length l.bytes; blank : blank_length l.bytes ≡ l.at + blank_length (drop l.at l.bytes) }

abbrev pub decreases-loop-at : goal.decreases-loop-at
decreases-loop-at l = length l.bytes - l.at
