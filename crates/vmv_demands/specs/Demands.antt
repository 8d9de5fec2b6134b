-- The demands of an entry: the conditions on answers of outside functions that its sites need.
use Rattle.std.specs.Prelude.{◌≡◌, ◌≢◌, ◌↔◌, ℕ, ℤ, pos, ◌≤ℤ◌, Bool, true, false, ◌&&◌, List, take}
use Rattle.std.specs.List.{AllZip}
use Rattle.std.specs.Ordering.{int_eq}
use Rattle.std.specs.Str.{bytes_eq}
use Rattle.vmv_tree.specs.Words.{IsWord}
use Rattle.vmv_cond.specs.declared.cond.Cond.{Cond}
use Rattle.vmv_cond.specs.Cond.{Holds}
use Rattle.vmv_snapshot.specs.Resolution.{Resolution}
use Rattle.vmv_back.specs.Firsts.{firsts}
use Rattle.vmv_demands.specs.declared.want.Condition.{Condition}
use Rattle.vmv_demands.specs.declared.want.Condition.TheVariants.{Range, Nonzero}
use Rattle.vmv_demands.specs.declared.lead.Found.{Found}
use Rattle.vmv_demands.specs.declared.demand.Demand.{Demand}
use Rattle.vmv_demands.specs.Leads.{wanted_by}

abbrev pub same_condition : Condition → Condition → Bool
same_condition (Range lo hi) (Range low high) = int_eq lo low && int_eq hi high
same_condition (Range lo hi) Nonzero = false
same_condition Nonzero (Range low high) = false
same_condition Nonzero Nonzero = true

-- the same name with the same condition; the sites may differ
abbrev pub same_found : Found → Found → Bool
same_found a b = bytes_eq a.name b.name && same_condition a.cond b.cond

-- what the sites of procedure n and of its calls want of answers: the first 32 different ones, each with its first site
abbrev pub first_wanted : Resolution → ℕ → List Found
first_wanted s n = take 32 (firsts same_found (wanted_by s.codes n))

-- the word meets the condition
abbrev pub Meets : Condition → ℤ → Type 0
Meets (Range lo hi) w = (lo ≤ℤ w) × (w ≤ℤ hi)
Meets Nonzero w = IsWord w × (w ≢ pos 0)

-- it holds the words that meet the condition
abbrev pub IsCondOf : Condition → Cond → Type 0
IsCondOf cond c = (w : ℤ) → Holds c w ↔ Meets cond w

pub record IsDemand (found : Found) (demand : Demand) : Type 0 where
  pub name : demand.name ≡ found.name
  pub cond : IsCondOf found.cond demand.cond
  pub site : demand.site ≡ found.site

-- the demands of the procedure of this number
abbrev pub AreDemands : Resolution → ℕ → List Demand → Type 0
AreDemands s n demands = AllZip IsDemand (first_wanted s n) demands
