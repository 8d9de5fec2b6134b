-- The bytes that are kept of an act and of its reply.
use Rattle.std.specs.Prelude.{ℕ, ◌<◌, ◌^◌, List, [], ◌∷◌, ◌++◌, length, Option, Some, None, IsTrue}
use Rattle.std.specs.Int.{w32, to_be_bytes}
use Rattle.vmv_keeper.specs.declared.act.Act.{Act}
use Rattle.vmv_keeper.specs.declared.act.Act.TheVariants.{OpenProject, AddMember, Submit, Withdraw, Accept, Waive}
use Rattle.vmv_keeper.specs.declared.reply.Reply.{Reply}
use Rattle.vmv_keeper.specs.declared.reply.Reply.TheVariants.{Opened, Members, Submitted, Withdrawn, Accepted, Waived}
use Rattle.vmv_keeper.specs.Label.{is_label}

-- a label behind its length, which is one byte
abbrev pub label_bytes : List ℕ → List ℕ
label_bytes label = length label ∷ label

-- a number's four bytes, the highest first
abbrev pub number_bytes : ℕ → List ℕ
number_bytes n = to_be_bytes w32 n

-- the labels of a project, its owner first, and what stands behind them
abbrev pub named_bytes : List ℕ → List ℕ → List ℕ → List ℕ
named_bytes owner project rest = label_bytes owner ++ (label_bytes project ++ rest)

-- a letter for what is done (o, m, s, w, a or v), the labels, and then the text or the number
abbrev pub act_bytes : Act → List ℕ
act_bytes (OpenProject name text) = 111 ∷ (label_bytes name ++ text)
act_bytes (AddMember owner project member) = 109 ∷ named_bytes owner project (label_bytes member)
act_bytes (Submit owner project text) = 115 ∷ named_bytes owner project text
act_bytes (Withdraw owner project submission) = 119 ∷ named_bytes owner project (number_bytes submission)
act_bytes (Accept owner project submission) = 97 ∷ named_bytes owner project (number_bytes submission)
act_bytes (Waive owner project submission) = 118 ∷ named_bytes owner project (number_bytes submission)

-- the letter of the act, and the number; replies of no act that was done have none
abbrev pub reply_bytes : Reply → Option (List ℕ)
reply_bytes (Opened n) = Some (111 ∷ number_bytes n)
reply_bytes (Members n) = Some (109 ∷ number_bytes n)
reply_bytes (Submitted n) = Some (115 ∷ number_bytes n)
reply_bytes (Withdrawn n) = Some (119 ∷ number_bytes n)
reply_bytes (Accepted n) = Some (97 ∷ number_bytes n)
reply_bytes (Waived n) = Some (118 ∷ number_bytes n)
reply_bytes _ = None

-- a number of 32 bits
abbrev pub IsNumber : ℕ → Type 0
IsNumber n = n < 2 ^ 32

abbrev pub IsLabel : List ℕ → Type 0
IsLabel label = IsTrue (is_label label)

-- an act whose labels are labels, and whose number is one of 32 bits
abbrev pub IsAct : Act → Type 0
IsAct (OpenProject name text) = IsLabel name
IsAct (AddMember owner project member) = IsLabel owner × IsLabel project × IsLabel member
IsAct (Submit owner project text) = IsLabel owner × IsLabel project
IsAct (Withdraw owner project submission) = IsLabel owner × IsLabel project × IsNumber submission
IsAct (Accept owner project submission) = IsLabel owner × IsLabel project × IsNumber submission
IsAct (Waive owner project submission) = IsLabel owner × IsLabel project × IsNumber submission

-- a reply of an act that was done, whose number is one of 32 bits
abbrev pub IsReply : Reply → Type 0
IsReply (Opened n) = IsNumber n
IsReply (Members n) = IsNumber n
IsReply (Submitted n) = IsNumber n
IsReply (Withdrawn n) = IsNumber n
IsReply (Accepted n) = IsNumber n
IsReply (Waived n) = IsNumber n
IsReply _ = ⊥
