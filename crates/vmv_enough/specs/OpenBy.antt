-- Open demands, told by the sites that aren't provable.
use Rattle.std.specs.Prelude.{◌≡◌, ℕ, ◌<◌, Some, List, slice_get}
use Rattle.std.specs.List.{Contains}
use Rattle.vmv_tree.specs.declared.site.NamedSite.{NamedSite}
use Rattle.vmv_cond.specs.declared.cond.Cond.{Cond}
use Rattle.vmv_snapshot.specs.declared.code.SiteId.{SiteId}
use Rattle.vmv_snapshot.specs.Resolution.{Resolution}
use Rattle.vmv_assumption.specs.Assumed.{Assumed}
use Rattle.vmv_demands.specs.declared.demand.Demand.{Demand}
use Rattle.vmv_enough.specs.Open.{IsNamed, IsNarrower}

-- the sites have this one, its procedure being told by its number
abbrev pub HasSite : Resolution → List NamedSite → SiteId → Type 0
HasSite program sites site = (named : NamedSite) × IsNamed program site named × Contains sites named

-- the demand leaves some of what its name may answer, and not all
abbrev pub Narrows : Cond → Cond → Type 0
Narrows had wanted = (met : Cond) × IsNarrower had wanted met

abbrev pub IsOpenBy : Resolution → List NamedSite → Assumed → Demand → Type 0
IsOpenBy program sites assumed demand = HasSite program sites demand.site × Narrows (assumed demand.name) demand.cond

-- none of the first n is open
abbrev pub NoneBefore : Resolution → List NamedSite → Assumed → List Demand → ℕ → Type 0
NoneBefore program sites assumed demands n = (j : ℕ) (other : Demand) → j < n → slice_get demands j ≡ Some other → ¬ IsOpenBy program sites assumed other

-- the first of these that is open
pub record IsFirstBy (program : Resolution) (sites : List NamedSite) (assumed : Assumed) (demands : List Demand) (demand : Demand) : Type 0 where
  pub i : ℕ
  pub place : slice_get demands i ≡ Some demand
  pub is_open : IsOpenBy program sites assumed demand
  pub first : NoneBefore program sites assumed demands i

-- none of these is open
abbrev pub NoneBy : Resolution → List NamedSite → Assumed → List Demand → Type 0
NoneBy program sites assumed demands = (j : ℕ) (other : Demand) → slice_get demands j ≡ Some other → ¬ IsOpenBy program sites assumed other
