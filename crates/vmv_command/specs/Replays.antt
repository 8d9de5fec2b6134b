-- The replay of a witness: the line that it prints, and its status.
use Rattle.std.specs.Prelude.{◌≡◌, ◌≢◌, ◌⊎◌, ℕ, List, [], ◌++◌, codes, Ok, Err, ⊤}
use Rattle.std.specs.Fmt.{decimal, signed_decimal}
use Rattle.vmv_tree.specs.declared.name.Name.{Name}
use Rattle.vmv_tree.specs.declared.site.NamedSite.{NamedSite}
use Rattle.vmv_tree.specs.Tree.{Item}
use Rattle.vmv_snapshot.specs.declared.code.ProcId.{ProcId}
use Rattle.vmv_snapshot.specs.declared.code.SiteId.{SiteId}
use Rattle.vmv_run.specs.declared.outcome.Outcome.{Outcome}
use Rattle.vmv_run.specs.declared.outcome.Outcome.TheVariants.{Done, Fail, Short, Stranger, Extra}
use Rattle.vmv_run.specs.Replay.{pairs, IsProcName, IsReplay}
use Rattle.vmv_witness.specs.declared.witness.Witness.{Witness}
use Rattle.vmv_witness.specs.declared.fault.WitnessFault.{WitnessFault}
use Rattle.vmv_witness.specs.declared.fault.WitnessFault.TheVariants as fault
use Rattle.vmv_witness.specs.declared.fitting.Unfit.{Unfit}
use Rattle.vmv_witness.specs.declared.fitting.Unfit.TheVariants.{NoEntry, ParamCount, ParamRange, NoSite}
use Rattle.vmv_witness.specs.Text.{IsTextOf}
use Rattle.vmv_witness.specs.Faults.{IsWhy}
use Rattle.vmv_witness.specs.Fit.{words_of, Fits}
use Rattle.vmv_command.specs.Lines.{IsLine, syntax_end, range_end, site_end}
use Rattle.vmv_command.specs.Faults.{OnProgram}

-- what the line of a fault has behind `witness`; want of memory has no line
abbrev pub witness_fault_end : WitnessFault → List ℕ
witness_fault_end (fault.Syntax at) = syntax_end at
witness_fault_end (fault.Range at) = range_end at
witness_fault_end (fault.Limit found) = codes ": limit bytes found " ++ (decimal found ++ codes " most 1048576\n")
witness_fault_end fault.Memory = []

-- 5 for a text that is too long, and 4 for another that is no witness text
abbrev pub witness_fault_status : WitnessFault → ℕ
witness_fault_status (fault.Syntax at) = 4
witness_fault_status (fault.Range at) = 4
witness_fault_status (fault.Limit found) = 5
witness_fault_status fault.Memory = 8

-- the line of this fault of a witness text, and its status
abbrev pub SaysWitnessFault : WitnessFault → List ℕ → ℕ → Type 0
SaysWitnessFault why printed status = (printed ≡ codes "witness" ++ witness_fault_end why) × (status ≡ witness_fault_status why)

-- this is what is against the witness text, and not that memory ran out
abbrev pub HasWitnessWhy : List ℕ → WitnessFault → Type 0
HasWitnessWhy text why = IsWhy text why × (why ≢ fault.Memory)

-- the number by which it is told why a witness doesn't fit
abbrev pub unfit_number : Unfit → ℕ
unfit_number NoEntry = 1
unfit_number ParamCount = 2
unfit_number ParamRange = 3
unfit_number NoSite = 4

abbrev pub SaysUnfit : Unfit → List ℕ → ℕ → Type 0
SaysUnfit why printed status = IsLine (codes "unfit " ++ decimal (unfit_number why)) 1 printed status

-- the site of a program has this name and number
abbrev pub IsCalled : List Item → SiteId → NamedSite → Type 0
IsCalled program site at = IsProcName program site.proc.0 at.proc × (at.index ≡ site.index)

-- it stands in a procedure of the program
abbrev pub HasProc : List Item → SiteId → Type 0
HasProc program site = (name : Name) × IsProcName program site.proc.0 name

-- where a run has failed, it did so in a procedure of the program
abbrev pub FailsInside : List Item → Outcome → Type 0
FailsInside program (Done word) = ⊤
FailsInside program (Fail site) = HasProc program site
FailsInside program (Short at) = ⊤
FailsInside program (Stranger at) = ⊤
FailsInside program (Extra used) = ⊤

-- the line of a run that fails at a site; the status is 0 exactly where that is the named site of the witness
abbrev pub SaysFails : (at named : NamedSite) → List ℕ → ℕ → Type 0
SaysFails at named printed status =
    (printed ≡ codes "fails " ++ (at.proc ++ site_end at.index)) × (at ≡ named → status ≡ 0) × (at ≢ named → status ≡ 1)

-- the line of what a replay has found, where this is the named site of the witness
abbrev pub SaysOutcome : List Item → NamedSite → Outcome → List ℕ → ℕ → Type 0
SaysOutcome program named (Done word) printed status = IsLine (codes "done " ++ signed_decimal word) 1 printed status
SaysOutcome program named (Fail site) printed status = (at : NamedSite) × IsCalled program site at × SaysFails at named printed status
SaysOutcome program named (Short at) printed status = IsLine (codes "short at " ++ decimal at) 1 printed status
SaysOutcome program named (Stranger at) printed status = IsLine (codes "stranger at " ++ decimal at) 1 printed status
SaysOutcome program named (Extra used) printed status = IsLine (codes "extra after " ++ decimal used) 1 printed status

-- the entry of the witness is run on its words, and what is found of its answers is told
abbrev pub ReplaysEntry : List Item → Witness → List ℕ → ℕ → Type 0
ReplaysEntry program witness printed status =
    (outcome : Outcome) × IsReplay program witness.entry (words_of witness) (pairs witness.answers) outcome
    × SaysOutcome program witness.site outcome printed status

-- the replay of a witness over a valid program: why it doesn't fit the program, or else what its run comes to
abbrev pub ReplaysWitness : List Item → Witness → List ℕ → ℕ → Type 0
ReplaysWitness program witness printed status =
    ((why : Unfit) × Fits program witness (Err why) × SaysUnfit why printed status)
    ⊎ ((entry : ProcId) × Fits program witness (Ok entry) × ReplaysEntry program witness printed status)

-- the replay of a witness text over a valid program: the line of the text's fault, or else the replay of the witness
abbrev pub ReplaysText : List ℕ → List Item → List ℕ → ℕ → Type 0
ReplaysText witness program printed status =
    ((why : WitnessFault) × HasWitnessWhy witness why × SaysWitnessFault why printed status)
    ⊎ ((w : Witness) × IsTextOf witness w × ReplaysWitness program w printed status)

-- the replay of two texts
abbrev pub ReplaysTexts : (revision witness : List ℕ) → List ℕ → ℕ → Type 0
ReplaysTexts revision witness printed status = OnProgram (codes "revision") revision (ReplaysText witness) printed status
