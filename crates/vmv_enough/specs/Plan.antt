-- What is looked at in a program while its conditions are tightened.
use Rattle.std.specs.Prelude.{◌≡◌, ◌↔◌, ◌<◌, ℕ, true, false, Option, Some, None, List, [], length, map, slice_get}
use Rattle.std.specs.List.{Contains}
use Rattle.vmv_tree.specs.declared.ends.NameEnds.{NameEnds}
use Rattle.vmv_tree.specs.declared.site.NamedSite.{NamedSite}
use Rattle.vmv_snapshot.specs.Procs.{is_entry, outsides}
use Rattle.vmv_snapshot.specs.Resolution.{Resolution, tree_of, procs_of}
use Rattle.vmv_assumption.specs.Assumed.{Assumed}
use Rattle.vmv_cert.specs.Tables.{AreSitesOf, Provable}
use Rattle.vmv_thresholds.specs.Thresholds.{AreThresholds}
use Rattle.vmv_demands.specs.declared.demand.Demand.{Demand}
use Rattle.vmv_demands.specs.Demands.{AreDemands}
use Rattle.vmv_demands.specs.Ends.{AreEnds}
use Rattle.vmv_enough.specs.declared.plan.Subject.{Subject}
use Rattle.vmv_enough.specs.declared.plan.Plan.{Plan}

-- the procedure of this number is an entry
abbrev pub IsEntryOf : Resolution → ℕ → Type 0
IsEntryOf program n = slice_get (map is_entry (procs_of program)) n ≡ Some true

-- an entry with its thresholds and its demands
pub record IsSubject (program : Resolution) (ends : List NameEnds) (subject : Subject) : Type 0 where
  pub entry : IsEntryOf program subject.entry.0
  pub thresholds : AreThresholds (tree_of program) subject.entry.0 ends subject.thresholds
  pub demands : AreDemands program subject.entry.0 subject.demands
  pub names : (d : Demand) → Contains subject.demands d → Contains (outsides (tree_of program)) d.name

-- the subject in this place is of the entry of number n
pub record IsAt (subjects : List Subject) (place n : ℕ) : Type 0 where
  pub subject : Subject
  pub there : slice_get subjects place ≡ Some subject
  pub number : subject.entry.0 ≡ n

-- those of the entries among the first n procedures, in text order
pub record AreSubjects (program : Resolution) (ends : List NameEnds) (n : ℕ) (subjects : List Subject) : Type 0 where
  pub each : (place : ℕ) (subject : Subject) → slice_get subjects place ≡ Some subject → IsSubject program ends subject × (subject.entry.0 < n)
  pub rising : (place later m k : ℕ) → place < later → IsAt subjects place m → IsAt subjects later k → m < k
  pub all : (m : ℕ) → m < n → IsEntryOf program m → (place : ℕ) × IsAt subjects place m

-- the procedure of number n is a helper, where there is none, or the entry with this
abbrev pub IsFoundAt : Resolution → List NameEnds → ℕ → Option Subject → Type 0
IsFoundAt program ends n None = slice_get (map is_entry (procs_of program)) n ≡ Some false
IsFoundAt program ends n (Some subject) = IsSubject program ends subject × (subject.entry.0 ≡ n)

-- the ends of the program, and its entries
pub record IsPlan (program : Resolution) (plan : Plan) : Type 0 where
  pub ends : AreEnds program plan.ends
  pub subjects : AreSubjects program plan.ends (length (procs_of program)) plan.subjects

-- the sites that aren't provable for the entry of number n, sorted by procedure in text order, then by number, and distinct
pub record IsJudged (program : Resolution) (ends : List NameEnds) (assumed : Assumed) (n : ℕ) (unproved : List NamedSite) : Type 0 where
  pub decides : (site : NamedSite) → Provable program n ends assumed site ↔ (Contains unproved site → ⊥)
  pub sites : AreSitesOf program n unproved

-- those of the entry in this place
abbrev pub IsJudgedAt : Resolution → Plan → Assumed → ℕ → List NamedSite → Type 0
IsJudgedAt program plan assumed place unproved = (subject : Subject) → slice_get plan.subjects place ≡ Some subject → IsJudged program plan.ends assumed subject.entry.0 unproved

-- those of each entry
pub record AreJudged (program : Resolution) (plan : Plan) (assumed : Assumed) (judged : List (List NamedSite)) : Type 0 where
  pub count : length judged ≡ length plan.subjects
  pub each : (place : ℕ) (unproved : List NamedSite) → slice_get judged place ≡ Some unproved → IsJudgedAt program plan assumed place unproved

-- none of these lists has a site
abbrev pub AreEmpty : List (List NamedSite) → Type 0
AreEmpty judged = (n : ℕ) (unproved : List NamedSite) → slice_get judged n ≡ Some unproved → unproved ≡ []
