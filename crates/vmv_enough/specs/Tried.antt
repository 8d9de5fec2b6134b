-- What comes of one probe, and of the first so many.
use Rattle.std.specs.Prelude.{◌≡◌, ◌⊎◌, ℕ, ℤ, Option, Some, None, List, [], ◌∷◌, ◌++◌, map, slice_get}
use Rattle.std.specs.List.{AllZip, Contains}
use Rattle.vmv_tree.specs.declared.name.Name.{Name}
use Rattle.vmv_tree.specs.declared.tree.Param.{Param}
use Rattle.vmv_tree.specs.Words.{IsWord}
use Rattle.vmv_tree.specs.Run.{name_of}
use Rattle.vmv_snapshot.specs.declared.code.SiteId.{SiteId}
use Rattle.vmv_snapshot.specs.Procs.{params_of}
use Rattle.vmv_snapshot.specs.Resolution.{Resolution, procs_of}
use Rattle.vmv_run.specs.declared.constant_run.Constant.{Constant}
use Rattle.vmv_witness.specs.Fit.{words_of}
use Rattle.vmv_assumption.specs.Assumed.{Assumed}
use Rattle.vmv_witness.specs.declared.witness.Witness.{Witness}
use Rattle.vmv_cert.specs.Tables.{Box, IsEntry, IsBoxIn}
use Rattle.vmv_enough.specs.declared.probe.Mode.{Mode}
use Rattle.vmv_enough.specs.declared.probe.Probe.{Probe}
use Rattle.vmv_enough.specs.Picks.{IsPick}
use Rattle.vmv_enough.specs.Probes.{IsInRange, CanMiss, IsAnswer}
use Rattle.vmv_enough.specs.Failures.{FailsAt, IsCounterexample}

-- what is known of a probe of the entry of number n: its box lies in the parameters' ranges, and it can miss its demand
pub record IsReady (program : Resolution) (n : ℕ) (assumed : Assumed) (probe : Probe) : Type 0 where
  pub params : List Param
  pub entry : IsEntry program n params
  pub inside : IsBoxIn params probe.within
  pub can_miss : CanMiss assumed probe.missed

-- the mode picks each word in its range
abbrev pub ArePicks : Mode → Box → List ℤ → Type 0
ArePicks mode box words = AllZip (λ range word. IsWord word × IsPick mode (IsInRange range) word) box words

-- the words on which the probe tries its entry
abbrev pub AreWords : Probe → List ℤ → Type 0
AreWords probe words = ArePicks probe.mode probe.within words

-- what the probe has each of these names answer
abbrev pub AreAnswers : Assumed → Probe → List Name → List ℤ → Type 0
AreAnswers assumed probe names values = AllZip (λ name w. IsWord w × IsAnswer assumed probe.mode probe.missed name w) names values

-- the witness has the entry of number n with these words, the answers of the run, and this site
pub record IsWitnessOf (program : Resolution) (n : ℕ) (words : List ℤ) (run : Constant) (site : SiteId) (w : Witness) : Type 0 where
  pub params : List Param
  pub params_are : slice_get (map params_of (procs_of program)) n ≡ Some params
  pub named : slice_get (map name_of (procs_of program)) n ≡ Some w.entry
  pub names : map (λ p. p.name) w.params ≡ map (λ (p : Param). p.name) params
  pub words_are : words_of w ≡ words
  pub answers : w.answers ≡ run.answers
  pub proc : slice_get (map name_of (procs_of program)) site.proc.0 ≡ Some w.site.proc
  pub index : w.site.index ≡ site.index

-- the probe fails so, and only at that site; or it doesn't fail
abbrev pub IsTried : Resolution → ℕ → Assumed → Probe → Option Witness → Type 0
IsTried program n assumed probe (Some w) = FailsAt program n assumed probe w × IsCounterexample program n assumed w × ((v : Witness) → FailsAt program n assumed probe v → v.site ≡ w.site)
IsTried program n assumed probe None = (v : Witness) → FailsAt program n assumed probe v → ⊥

-- it is known of each of these probes
abbrev pub AreReady : Resolution → ℕ → Assumed → List Probe → Type 0
AreReady program n assumed probes = (probe : Probe) → Contains probes probe → IsReady program n assumed probe

-- the probe in this place fails so, or it doesn't fail
abbrev pub IsTriedAt : Resolution → ℕ → Assumed → List Probe → ℕ → Option Witness → Type 0
IsTriedAt program n assumed probes place tried = (probe : Probe) → slice_get probes place ≡ Some probe → IsTried program n assumed probe tried

-- a run is added where none before it is of its site
abbrev pub AddsFirst : List Witness → Option Witness → List Witness → Type 0
AddsFirst found None more = more ≡ found
AddsFirst found (Some w) more =
    (Contains (map (λ (v : Witness). v.site) found) w.site × (more ≡ found))
    ⊎ ((¬ Contains (map (λ (v : Witness). v.site) found) w.site) × (more ≡ found ++ w ∷ []))
