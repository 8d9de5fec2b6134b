-- What the gate says of texts, and what one text keeps of another.
use Rattle.std.specs.Prelude.{◌≡◌, ◌≢◌, ◌⊎◌, ℕ, ◌≤◌, List, length}
use Rattle.vmv_tree.specs.Tree.{Item}
use Rattle.vmv_tree.specs.Valid.{Valid}
use Rattle.vmv_tree.specs.Safe.{RelCorrect}
use Rattle.vmv_text.specs.Grammar.{IsText}
use Rattle.vmv_source.specs.declared.fault.TextFault.{TextFault}
use Rattle.vmv_source.specs.declared.fault.TextFault.TheVariants as fault
use Rattle.vmv_source.specs.Faults.{IsTextFault}
use Rattle.vmv_snapshot.specs.Resolution.{Resolution, IsResolution, tree_of}
use Rattle.vmv_assumption.specs.Assumed.{Assumed}
use Rattle.vmv_need.specs.declared.subject.Scope.{Scope}
use Rattle.vmv_need.specs.Candidates.{IsScopeOf}
use Rattle.vmv_need.specs.Acts.{IsNecessary}
use Rattle.vmv_need.specs.Vacuous.{IsVacuous}
use Rattle.vmv_report.specs.declared.report.Report.{Report}
use Rattle.vmv_report.specs.Reports.{IsReport}
use Rattle.vmv_report_json.specs.Json.{report_json}
use Rattle.vmv_keeper.specs.declared.judge.Inspected.{Inspected}
use Rattle.vmv_keeper.specs.declared.judge.Inspected.TheVariants.{Fine, Refused, Vacuous}
use Rattle.vmv_keeper.specs.declared.judge.Compared.{Compared}
use Rattle.vmv_keeper.specs.declared.judge.Compared.TheVariants.{Judged, Unreadable}

-- the text is that of this program, which is valid, and it isn't too long
abbrev pub IsProgramOf : List ℕ → List Item → Type 0
IsProgramOf text program = (length text ≤ 1048576) × IsText text program × Valid program

-- the text is that of a program, which is resolved so
abbrev pub IsReadAs : List ℕ → Resolution → Type 0
IsReadAs text program = IsProgramOf text (tree_of program) × IsResolution program

-- the text has this fault, which isn't want of memory
abbrev pub IsFaultOf : List ℕ → TextFault → Type 0
IsFaultOf text why = IsTextFault text why × (why ≢ fault.Memory)

-- the number of a fault, and its place: 0 where there is none
abbrev pub refusal : TextFault → Inspected
refusal (fault.NotUtf8 at) = Refused 1 0 0
refusal (fault.Syntax line column) = Refused 2 line column
refusal (fault.Defect line column defect) = Refused 3 line column
refusal fault.Memory = Refused 4 0 0
refusal (fault.TooLong found) = Refused 5 0 0

-- what is necessary for the program to be safe
pub record HasNecessary (program : Resolution) (scope : Scope) (assumed : Assumed) : Type 0 where
  pub scope_is : IsScopeOf program scope
  pub necessary : IsNecessary program scope assumed

-- what is said of a text: the fault for which it has no program; else whether its program is vacuous
abbrev pub Inspects : List ℕ → Inspected → Type 0
Inspects text Fine =
    (program : Resolution) × IsReadAs text program
    × (scope : Scope) × (assumed : Assumed) × HasNecessary program scope assumed × (¬ IsVacuous program scope assumed)
Inspects text (Refused number line column) = (why : TextFault) × IsFaultOf text why × (Refused number line column ≡ refusal why)
Inspects text Vacuous =
    (program : Resolution) × IsReadAs text program
    × (scope : Scope) × (assumed : Assumed) × HasNecessary program scope assumed × IsVacuous program scope assumed

-- what is said of a second text against a first: the verdict of the report of the two programs, and its JSON; or which is
-- the first of the two that has none
abbrev pub Compares : List ℕ → List ℕ → Compared → Type 0
Compares base revision (Judged verdict json) =
    (first : Resolution) × (second : Resolution) × IsReadAs base first × IsReadAs revision second
    × (report : Report) × IsReport first second report × (verdict ≡ report.verdict) × (json ≡ report_json report second)
Compares base revision (Unreadable which) =
    ((which ≡ 1) × ((why : TextFault) × IsFaultOf base why))
    ⊎ ((which ≡ 2) × ((first : Resolution) × IsReadAs base first) × ((why : TextFault) × IsFaultOf revision why))

-- the second text's program is relatively correct to the first's
abbrev pub Keeps : List ℕ → List ℕ → Type 0
Keeps base revision = (first : List Item) × (second : List Item) × IsProgramOf base first × IsProgramOf revision second × RelCorrect first second
