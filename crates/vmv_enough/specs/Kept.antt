-- Probes that are kept, up to 1,000.
use Rattle.std.specs.Prelude.{◌≡◌, ◌-◌, List, ◌++◌, length, take}
use Rattle.vmv_assumption.specs.Assumed.{Assumed}
use Rattle.vmv_enough.specs.declared.probe.Probe.{Probe}
use Rattle.vmv_enough.specs.Probes.{CanMiss, AreThose}

-- the tries that can miss their demand are added, until there are 1,000
pub record Adds (assumed : Assumed) (tries : List Probe) (old new : List Probe) : Type 0 where
  pub kept : List Probe
  pub kept_are : AreThose (λ (probe : Probe). CanMiss assumed probe.missed) tries kept
  pub added : new ≡ old ++ take (1000 - length old) kept
