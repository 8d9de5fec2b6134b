use Rattle.std.proofs.Common.{◌≡◌, ◌+◌, ◌≤◌, drop}
use Rattle.vmv_valid.specs.Numbers.{changes}
use Rattle.vmv_valid.proofs.numbers.changes.Given as goal

-- the changes so far, with those that are left, are all
abbrev pub invariant-loop-number : goal.invariant-loop-number
invariant-loop-number l = record {
  told : l.count + changes l.last (drop l.number-index l.numbers) ≡ changes l.before l.numbers;
  few : l.count ≤ l.number-index;
}
