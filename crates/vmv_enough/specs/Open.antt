-- Demands that are open: what a next demand of the answers may help to prove.
use Rattle.std.specs.Prelude.{◌≡◌, ◌≢◌, ◌⊎◌, ℕ, ◌<◌, true, Some, List, map, slice_get}
use Rattle.vmv_tree.specs.declared.site.NamedSite.{NamedSite}
use Rattle.vmv_tree.specs.declared.ends.NameEnds.{NameEnds}
use Rattle.vmv_tree.specs.Run.{name_of}
use Rattle.vmv_cond.specs.declared.cond.Cond.{Cond}
use Rattle.vmv_cond.specs.Cond.{IsEmpty, IsMeet}
use Rattle.vmv_snapshot.specs.declared.code.SiteId.{SiteId}
use Rattle.vmv_snapshot.specs.Procs.{is_entry}
use Rattle.vmv_snapshot.specs.Resolution.{Resolution, procs_of}
use Rattle.vmv_assumption.specs.Assumed.{Assumed}
use Rattle.vmv_cert.specs.Tables.{Provable}
use Rattle.vmv_demands.specs.declared.demand.Demand.{Demand}
use Rattle.vmv_demands.specs.Demands.{AreDemands}

-- the site, with its procedure by name
pub record IsNamed (program : Resolution) (site : SiteId) (named : NamedSite) : Type 0 where
  pub proc : slice_get (map name_of (procs_of program)) site.proc.0 ≡ Some named.proc
  pub index : named.index ≡ site.index

-- the demand in place i among those of the entry of number n
pub record IsDemandAt (program : Resolution) (n i : ℕ) (demand : Demand) : Type 0 where
  pub entry : slice_get (map is_entry (procs_of program)) n ≡ Some true
  pub demands : List Demand
  pub are : AreDemands program n demands
  pub place : slice_get demands i ≡ Some demand

-- what the name may answer and the demand has in common is something, and not all that the name may answer
pub record IsNarrower (had wanted met : Cond) : Type 0 where
  pub meet : IsMeet had wanted met
  pub nonempty : ¬ IsEmpty met
  pub other : met ≢ had

-- A demand of the entry of number n is open where its site isn't provable for the entry, and it would narrow what its name may
-- answer, and leave something.
pub record IsOpen (program : Resolution) (ends : List NameEnds) (assumed : Assumed) (n : ℕ) (demand : Demand) : Type 0 where
  pub site : NamedSite
  pub named : IsNamed program demand.site site
  pub unproved : ¬ Provable program n ends assumed site
  pub met : Cond
  pub narrower : IsNarrower (assumed demand.name) demand.cond met

-- the one place comes before the other: by entry, then among the entry's demands
abbrev pub IsEarlier : (m j n i : ℕ) → Type 0
IsEarlier m j n i = (m < n) ⊎ ((m ≡ n) × (j < i))

-- the first open demand, by entry and place
pub record IsFirstOpen (program : Resolution) (ends : List NameEnds) (assumed : Assumed) (demand : Demand) : Type 0 where
  pub n : ℕ
  pub i : ℕ
  pub at : IsDemandAt program n i demand
  pub is_open : IsOpen program ends assumed n demand
  pub first : (m j : ℕ) (other : Demand) → IsEarlier m j n i → IsDemandAt program m j other → ¬ IsOpen program ends assumed m other

-- no demand of an entry is open
abbrev pub NoneOpen : Resolution → List NameEnds → Assumed → Type 0
NoneOpen program ends assumed = (n i : ℕ) (demand : Demand) → IsDemandAt program n i demand → ¬ IsOpen program ends assumed n demand
