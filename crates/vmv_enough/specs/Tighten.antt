-- The steps by which conditions are tightened until they suffice.
use Rattle.std.specs.Prelude.{◌≡◌, ◌⊎◌, ℕ, zero, suc, List, ◌∷◌}
use Rattle.vmv_tree.specs.declared.ends.NameEnds.{NameEnds}
use Rattle.vmv_cond.specs.declared.cond.Cond.{Cond}
use Rattle.vmv_cond.specs.Cond.{IsMeet}
use Rattle.vmv_snapshot.specs.Resolution.{Resolution}
use Rattle.vmv_assumption.specs.Assumed.{Assumed}
use Rattle.vmv_assumption.specs.Change.{IsSet}
use Rattle.vmv_table_sound.specs.Told.{IsProved}
use Rattle.vmv_demands.specs.declared.demand.Demand.{Demand}
use Rattle.vmv_enough.specs.Open.{IsFirstOpen, NoneOpen}
use Rattle.vmv_enough.specs.Levels.{IsLevelled}

-- what is assumed, and the levels that are still to come
pub record Stage : Type 0 where
  pub assumed : Assumed
  pub levels : List ℕ

-- b is a with the condition of the demand's name met with the demand
pub record IsMetWith (demand : Demand) (a b : Assumed) : Type 0 where
  pub met : Cond
  pub meet : IsMeet (a demand.name) demand.cond met
  pub set : IsSet a demand.name met b

-- the first open demand is met
pub record TakesDemand (program : Resolution) (ends : List NameEnds) (a b : Stage) : Type 0 where
  pub demand : Demand
  pub first : IsFirstOpen program ends a.assumed demand
  pub met : IsMetWith demand a.assumed b.assumed
  pub levels : b.levels ≡ a.levels

-- no demand is open, and the next level is taken
pub record TakesLevel (program : Resolution) (ends : List NameEnds) (a b : Stage) : Type 0 where
  pub none_open : NoneOpen program ends a.assumed
  pub level : ℕ
  pub levels : a.levels ≡ level ∷ b.levels
  pub levelled : IsLevelled program level a.assumed b.assumed

-- what is assumed doesn't prove every site yet, and is tightened once
pub record Tightens (program : Resolution) (ends : List NameEnds) (a b : Stage) : Type 0 where
  pub unproved : ¬ IsProved program ends a.assumed
  pub step : TakesDemand program ends a b ⊎ TakesLevel program ends a b

-- tightened so many times
abbrev pub Leads : Resolution → List NameEnds → ℕ → Stage → Stage → Type 0
Leads program ends zero a b = b ≡ a
Leads program ends (suc n) a c = (b : Stage) × Tightens program ends a b × Leads program ends n b c
