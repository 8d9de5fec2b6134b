-- The lines that tell what is against a text, and their statuses.
use Rattle.std.specs.Prelude.{◌≡◌, ◌≢◌, ◌⊎◌, ℕ, nat_le, ◌==◌, List, [], ◌++◌, codes, if◌then◌else◌}
use Rattle.std.specs.Fmt.{decimal}
use Rattle.vmv_tree.specs.declared.defect.Defect.{Defect}
use Rattle.vmv_tree.specs.declared.defect.Defect.TheVariants.{UnknownName, Repeated, ArityWrong, IndexAssigned, RangeEmpty, Limit}
use Rattle.vmv_tree.specs.Tree.{Item}
use Rattle.vmv_tree.specs.Valid.{Valid}
use Rattle.vmv_text.specs.Grammar.{IsText}
use Rattle.vmv_source.specs.declared.fault.TextFault.{TextFault}
use Rattle.vmv_source.specs.declared.fault.TextFault.TheVariants as fault
use Rattle.vmv_source.specs.Faults.{IsTextFault}
use Rattle.vmv_report.specs.Texts.{line}

-- what a limit is called, by its number from 1: those of a program and of an outside name, of a procedure, and of a helper and an entry
abbrev pub program_limit : ℕ → List ℕ
program_limit which =
    if which == 1 then codes "outside" else (if which == 2 then codes "helpers" else (if which == 3 then codes "entries" else codes "arity"))

abbrev pub procedure_limit : ℕ → List ℕ
procedure_limit which =
    if which == 5 then codes "variables" else (if which == 6 then codes "statements" else (if which == 7 then codes "nesting" else codes "depth"))

abbrev pub entry_limit : ℕ → List ℕ
entry_limit which =
    if which == 9 then codes "numbers" else (if which == 10 then codes "paths" else (if which == 11 then codes "steps" else codes "calls"))

abbrev pub limit_word : ℕ → List ℕ
limit_word which = if nat_le which 4 then program_limit which else (if nat_le which 8 then procedure_limit which else entry_limit which)

abbrev pub defect_text : Defect → List ℕ
defect_text UnknownName = codes "unknown name"
defect_text Repeated = codes "repeated name"
defect_text ArityWrong = codes "wrong number of arguments"
defect_text IndexAssigned = codes "loop index assigned"
defect_text RangeEmpty = codes "empty range"
defect_text (Limit which found most) =
    codes "limit " ++ (limit_word which ++ (codes " found " ++ (decimal found ++ (codes " most " ++ decimal most))))

-- the end of a line that tells a place
abbrev pub place_end : (line column : ℕ) → List ℕ
place_end at column = codes " at line " ++ (decimal at ++ (codes " column " ++ line (decimal column)))

-- what the line of a fault has behind the name of the text; want of memory has no line
abbrev pub fault_end : TextFault → List ℕ
fault_end (fault.NotUtf8 at) = codes ": not UTF-8 at byte " ++ line (decimal at)
fault_end (fault.Syntax at column) = codes ": syntax" ++ place_end at column
fault_end (fault.Defect at column defect) = codes ": " ++ (defect_text defect ++ place_end at column)
fault_end (fault.TooLong found) = codes ": limit bytes found " ++ (decimal found ++ codes " most 1048576\n")
fault_end fault.Memory = []

-- 5 for a limit, and 4 for a text that is no text of the grammar or has another defect
abbrev pub defect_status : Defect → ℕ
defect_status (Limit which found most) = 5
defect_status defect = 4

abbrev pub fault_status : TextFault → ℕ
fault_status (fault.NotUtf8 at) = 4
fault_status (fault.Syntax at column) = 4
fault_status (fault.Defect at column defect) = defect_status defect
fault_status (fault.TooLong found) = 5
fault_status fault.Memory = 8

-- the line of this fault of the text of this name, and its status
abbrev pub SaysFault : (name : List ℕ) → TextFault → List ℕ → ℕ → Type 0
SaysFault name why printed status = (printed ≡ name ++ fault_end why) × (status ≡ fault_status why)

-- this is what is against the text, and not that memory ran out
abbrev pub HasWhy : List ℕ → TextFault → Type 0
HasWhy text why = IsTextFault text why × (why ≢ fault.Memory)

-- the text is that of this valid program
abbrev pub IsSource : List ℕ → List Item → Type 0
IsSource text program = IsText text program × Valid program

-- what is done with the program of the text that is called so, or the line of the first fault of the text
abbrev pub OnProgram : (called text : List ℕ) → (List Item → List ℕ → ℕ → Type 0) → List ℕ → ℕ → Type 0
OnProgram called text Next printed status =
    ((why : TextFault) × HasWhy text why × SaysFault called why printed status) ⊎ ((program : List Item) × IsSource text program × Next program printed status)
