-- What the rows show of an act that was done.
use Rattle.std.specs.Prelude.{◌≡◌, ℕ, List, [], ◌∷◌, length, Some, None, IsTrue, IsSomeAnd, unwrap_or}
use Rattle.std.specs.Option.{option_map}
use Rattle.vmv_keeper.specs.declared.project.Project.{Project}
use Rattle.vmv_keeper.specs.declared.project.Submitted.{Submitted}
use Rattle.vmv_keeper.specs.declared.reply.VersionRow.{VersionRow}
use Rattle.vmv_keeper.specs.declared.act.Act.{Act}
use Rattle.vmv_keeper.specs.declared.act.Act.TheVariants.{OpenProject, AddMember, Submit, Withdraw, Accept, Waive}
use Rattle.vmv_keeper.specs.declared.reply.Reply.{Reply}
use Rattle.vmv_keeper.specs.declared.reply.Reply.TheVariants.{Opened, Members, Submitted as WasSubmitted, Withdrawn, Accepted, Waived}
use Rattle.vmv_keeper.specs.Tables.{Tables, is_member, root_number, version_of, waiting_as, project_named, submission_in}
use Rattle.vmv_desk_rules.specs.Causes.{base_text}

-- the latest version has this row and this text
abbrev pub IsLatest : VersionRow → List ℕ → Project → Type 0
IsLatest row text p =
    (version_of row.number p ≡ Some (record { row = row; text = text })) × (length p.versions ≡ row.number) × (base_text p ≡ text)

-- the number of the latest root of the project of this owner and name
abbrev pub root_in : List ℕ → List ℕ → Tables → ℕ
root_in owner name tables = unwrap_or (option_map root_number (project_named tables owner name)) 0

-- the submission is the latest version, of this number and kind, judged against this one, by the caller, and waits no more
abbrev pub BecameVersion : ℕ → ℕ → ℕ → ℕ → List ℕ → Submitted → Project → Type 0
BecameVersion number kind against submission caller waited p =
    IsLatest (record { number = number; kind = kind; submission = submission; by = caller; against = against }) waited.text p × (waiting_as submission p ≡ None)

-- the project is as its caller opened it
abbrev pub IsOpened : List ℕ → List ℕ → Project → Type 0
IsOpened caller text p =
    IsLatest (record { number = 1; kind = 1; submission = 0; by = caller; against = 0 }) text p × (p.members ≡ caller ∷ []) × (p.pending ≡ [])

-- what was done is in the rows behind it, as the reply tells; what became a version is the text that waited before
abbrev pub Shows : Tables → Tables → List ℕ → Act → Reply → Type 0
Shows before behind caller (OpenProject name text) reply = (reply ≡ Opened 1) × IsSomeAnd (project_named behind caller name) (IsOpened caller text)
Shows before behind caller (AddMember owner project member) reply =
    (n : ℕ) × (reply ≡ Members n) × IsSomeAnd (project_named behind owner project) (λ p. IsTrue (is_member p member) × (length p.members ≡ n))
Shows before behind caller (Submit owner project text) reply =
    (n : ℕ) × (reply ≡ WasSubmitted n)
    × IsSomeAnd (project_named behind owner project) (λ p. waiting_as n p ≡ Some (record { row = record { submission = n; by = caller }; text = text }))
Shows before behind caller (Withdraw owner project submission) reply =
    (reply ≡ Withdrawn submission) × IsSomeAnd (project_named behind owner project) (λ p. waiting_as submission p ≡ None)
Shows before behind caller (Accept owner project submission) reply =
    (n : ℕ) × (reply ≡ Accepted n)
    × IsSomeAnd (submission_in owner project submission before)
    (λ waited. IsSomeAnd (project_named behind owner project) (BecameVersion n 2 (root_in owner project before) submission caller waited))
Shows before behind caller (Waive owner project submission) reply =
    (n : ℕ) × (reply ≡ Waived n)
    × IsSomeAnd (submission_in owner project submission before)
    (λ waited. IsSomeAnd (project_named behind owner project) (BecameVersion n 3 0 submission caller waited))
