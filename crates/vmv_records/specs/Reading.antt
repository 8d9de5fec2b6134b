-- The act and the reply that some bytes are of, where they are of one.
use Rattle.std.specs.Prelude.{ℕ, List, [], ◌∷◌, length, take, drop, Option, Some, None, nat_lt, ◌==◌, if◌then◌else◌}
use Rattle.std.specs.Option.{option_map}
use Rattle.std.specs.Int.{w32, from_be_bytes}
use Rattle.vmv_keeper.specs.declared.act.Act.{Act}
use Rattle.vmv_keeper.specs.declared.act.Act.TheVariants.{OpenProject, AddMember, Submit, Withdraw, Accept, Waive}
use Rattle.vmv_keeper.specs.declared.reply.Reply.{Reply}
use Rattle.vmv_keeper.specs.declared.reply.Reply.TheVariants.{Opened, Members, Submitted, Withdrawn, Accepted, Waived}
use Rattle.vmv_keeper.specs.Label.{is_label}

infixl 10 ◌>>=◌
abbrev pub ◌>>=◌ : {A B : Type 0} → Option A → (A → Option B) → Option B
None >>= f = None
(Some x) >>= f = f x

-- the label at the front, and what stands behind it
unfoldable pub label_at : List ℕ → Option (List ℕ × List ℕ)
label_at [] = None
label_at (n ∷ rest) = if nat_lt (length rest) n then None else (if is_label (take n rest) then Some (take n rest, drop n rest) else None)

-- the labels of a project at the front, and what stands behind them
unfoldable pub named_at : List ℕ → Option (List ℕ × List ℕ × List ℕ)
named_at bytes = do
  owner ← label_at bytes
  project ← label_at owner.1
  Some (owner.0, project.0, project.1)

-- the number that all of the bytes are
unfoldable pub number_in : List ℕ → Option ℕ
number_in bytes = if length bytes == 4 then Some (from_be_bytes w32 bytes) else None

-- the label that all of the bytes are
unfoldable pub label_in : List ℕ → Option (List ℕ)
label_in bytes = do
  label ← label_at bytes
  if length label.1 == 0 then Some label.0 else None

unfoldable pub opening_in : List ℕ → Option Act
opening_in bytes = do
  name ← label_at bytes
  Some (OpenProject name.0 name.1)

unfoldable pub adding_in : List ℕ → Option Act
adding_in bytes = do
  named ← named_at bytes
  member ← label_in named.2
  Some (AddMember named.0 named.1 member)

unfoldable pub submitting_in : List ℕ → Option Act
submitting_in bytes = do
  named ← named_at bytes
  Some (Submit named.0 named.1 named.2)

-- the labels of a project, and the number that all of the other bytes are
unfoldable pub numbered_in : List ℕ → Option (List ℕ × List ℕ × ℕ)
numbered_in bytes = do
  named ← named_at bytes
  number ← number_in named.2
  Some (named.0, named.1, number)

unfoldable pub withdrawing_in : List ℕ → Option Act
withdrawing_in bytes = do
  about ← numbered_in bytes
  Some (Withdraw about.0 about.1 about.2)

unfoldable pub accepting_in : List ℕ → Option Act
accepting_in bytes = do
  about ← numbered_in bytes
  Some (Accept about.0 about.1 about.2)

unfoldable pub waiving_in : List ℕ → Option Act
waiving_in bytes = do
  about ← numbered_in bytes
  Some (Waive about.0 about.1 about.2)

unfoldable pub act_in : List ℕ → Option Act
act_in [] = None
act_in (letter ∷ rest) =
    if letter == 111 then opening_in rest else
    (if letter == 109 then adding_in rest else
    (if letter == 115 then submitting_in rest else
    (if letter == 119 then withdrawing_in rest else
    (if letter == 97 then accepting_in rest else
    (if letter == 118 then waiving_in rest else None)))))

-- the reply of this letter with this number
abbrev pub reply_of : ℕ → ℕ → Option Reply
reply_of letter n =
    if letter == 111 then Some (Opened n) else
    (if letter == 109 then Some (Members n) else
    (if letter == 115 then Some (Submitted n) else
    (if letter == 119 then Some (Withdrawn n) else
    (if letter == 97 then Some (Accepted n) else
    (if letter == 118 then Some (Waived n) else None)))))

unfoldable pub reply_in : List ℕ → Option Reply
reply_in [] = None
reply_in (letter ∷ rest) = number_in rest >>= reply_of letter
