-- What is found by the probes of an entry: for each site at which one fails, the run of the first one that does.
use Rattle.std.specs.Prelude.{◌≡◌, ◌≢◌, ℕ, ◌<◌, Some, List, slice_get}
use Rattle.std.specs.List.{AllZip, AllPairs, Contains}
use Rattle.vmv_snapshot.specs.Resolution.{Resolution}
use Rattle.vmv_assumption.specs.Assumed.{Assumed}
use Rattle.vmv_witness.specs.declared.witness.Witness.{Witness}
use Rattle.vmv_enough.specs.declared.probe.Probe.{Probe}
use Rattle.vmv_enough.specs.Probes.{AreProbes}
use Rattle.vmv_enough.specs.Failures.{FailsAt}

-- the probe in this place fails so
pub record FailsIn (program : Resolution) (n : ℕ) (assumed : Assumed) (probes : List Probe) (place : ℕ) (w : Witness) : Type 0 where
  pub probe : Probe
  pub there : slice_get probes place ≡ Some probe
  pub fails : FailsAt program n assumed probe w

-- the probe in this place is the first that fails at the site of the witness
pub record IsFirstFailure (program : Resolution) (n : ℕ) (assumed : Assumed) (probes : List Probe) (place : ℕ) (w : Witness) : Type 0 where
  pub fails : FailsIn program n assumed probes place w
  pub first : (earlier : ℕ) (v : Witness) → earlier < place → FailsIn program n assumed probes earlier v → v.site ≢ w.site

-- first failures in the order of their probes, one for each site at which a probe fails
pub record AreFailures (program : Resolution) (n : ℕ) (assumed : Assumed) (probes : List Probe) (found : List Witness) : Type 0 where
  pub places : List ℕ
  pub rising : AllPairs (λ a b. a < b) places
  pub each : AllZip (IsFirstFailure program n assumed probes) places found
  pub all : (place : ℕ) (w : Witness) → FailsIn program n assumed probes place w → (v : Witness) × Contains found v × (v.site ≡ w.site)

-- what is found by the probes of the entry of number n
abbrev pub AreFound : Resolution → ℕ → Assumed → List Witness → Type 0
AreFound program n assumed found = (probes : List Probe) × AreProbes program n assumed probes × AreFailures program n assumed probes found
