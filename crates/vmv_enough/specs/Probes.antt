-- Probes: the parameters and answers on which an entry is tried.
use Rattle.std.specs.Prelude.{◌≡◌, ◌≢◌, ◌⊎◌, ℕ, ℤ, ◌≤ℤ◌, Option, Some, None, List, [], ◌∷◌, map, take}
use Rattle.std.specs.List.{flat_map}
use Rattle.vmv_tree.specs.declared.name.Name.{Name}
use Rattle.vmv_cond.specs.Cond.{Holds}
use Rattle.vmv_cond.specs.declared.cond.Cond.{Cond}
use Rattle.vmv_snapshot.specs.Resolution.{Resolution}
use Rattle.vmv_assumption.specs.Assumed.{Assumed}
use Rattle.vmv_cert.specs.Tables.{Box}
use Rattle.vmv_back.specs.Boxes.{AreBoxes}
use Rattle.vmv_demands.specs.declared.demand.Demand.{Demand}
use Rattle.vmv_demands.specs.Demands.{AreDemands}
use Rattle.vmv_enough.specs.declared.probe.Mode.{Mode}
use Rattle.vmv_enough.specs.declared.probe.Mode.TheVariants.{Least, Greatest, Nearest}
use Rattle.vmv_enough.specs.declared.probe.Probe.{Probe}
use Rattle.vmv_enough.specs.Picks.{IsPick}

-- the modes, in order
abbrev pub modes : List Mode
modes = Least ∷ Greatest ∷ Nearest ∷ []

-- no demand is missed, or this one is
abbrev pub choices_of : List Demand → List (Option Demand)
choices_of demands = None ∷ map (λ d. Some d) demands

abbrev pub of_mode : List Demand → Box → Mode → List Probe
of_mode demands box mode = map (λ choice. record { within = box; mode = mode; missed = choice }) (choices_of demands)

abbrev pub of_box : List Demand → Box → List Probe
of_box demands box = flat_map (of_mode demands box) modes

-- all that can be tried: by box, then by mode, then by the demand that is missed
abbrev pub tries : List Box → List Demand → List Probe
tries boxes demands = flat_map (of_box demands) boxes

-- a word that meets the condition and misses the demand
abbrev pub Misses : Cond → Demand → ℤ → Type 0
Misses cond demand w = Holds cond w × ¬ Holds demand.cond w

-- the name of the demand that is missed may answer a word that misses it
abbrev pub CanMiss : Assumed → Option Demand → Type 0
CanMiss assumed None = Unit {0}
CanMiss assumed (Some demand) = (w : ℤ) × Misses (assumed demand.name) demand w

-- the ones of these of which this holds, in order
abbrev pub AreThose : {A : Type 0} (P : A → Type 0) → List A → List A → Type 0
AreThose P [] kept = kept ≡ []
AreThose P (x ∷ xs) kept = (P x × ((rest : List _) × (kept ≡ x ∷ rest) × AreThose P xs rest)) ⊎ (¬ P x × AreThose P xs kept)

-- the probes of the entry of number n: the first 1,000 tries, those left out that cannot miss their demand
pub record AreProbes (program : Resolution) (n : ℕ) (assumed : Assumed) (probes : List Probe) : Type 0 where
  pub boxes : List Box
  pub boxes_are : AreBoxes program n boxes
  pub demands : List Demand
  pub demands_are : AreDemands program n demands
  pub kept : List Probe
  pub kept_are : AreThose (λ (probe : Probe). CanMiss assumed probe.missed) (tries boxes demands) kept
  pub first : probes ≡ take 1000 kept

-- the word lies in the range
abbrev pub IsInRange : ℤ × ℤ → ℤ → Type 0
IsInRange range w = (range.0 ≤ℤ w) × (w ≤ℤ range.1)

-- what a probe has a name answer: what the mode picks, or the word nearest to 0 that misses the demand
abbrev pub IsAnswer : Assumed → Mode → Option Demand → Name → ℤ → Type 0
IsAnswer assumed mode None name w = IsPick mode (Holds (assumed name)) w
IsAnswer assumed mode (Some demand) name w =
    (name ≡ demand.name → IsPick Nearest (Misses (assumed name) demand) w) × (name ≢ demand.name → IsPick mode (Holds (assumed name)) w)
