-- Lists of commands, one after another.
use Rattle.std.specs.Prelude.{◌≡◌, ◌⊎◌, List, [], ◌∷◌, Option, Some}
use Rattle.vmv_keeper.specs.declared.act.Command.{Command}
use Rattle.vmv_keeper.specs.declared.reply.Reply.{Reply}
use Rattle.vmv_keeper.specs.Tables.{Tables}
use Rattle.vmv_desk_rules.specs.Causes.{Meaning}
use Rattle.vmv_desk_rules.specs.Step.{Step, IsFault}
use Rattle.vmv_desk_rules.specs.Well.{Well}

-- a command has its step and its reply, or a fault leaves the rows as they were
abbrev pub Turn : Meaning → Tables → Command → Tables → Reply → Type 0
Turn J tables command new reply = Step J tables command new reply ⊎ ((new ≡ tables) × IsFault reply)

-- what some commands make of the rows, with the reply to each
abbrev pub Runs : Meaning → Tables → List Command → Tables → List Reply → Type 0
Runs J tables [] new replies = (new ≡ tables) × (replies ≡ [])
Runs J tables (command ∷ commands) new replies =
    (mid : Tables) × (reply : Reply) × (rest : List Reply) × Turn J tables command mid reply × Runs J mid commands new rest × (replies ≡ reply ∷ rest)

-- the commands were handled one after another, and the rows are well behind them
abbrev pub RanTo : Meaning → Tables → List Command → Option Tables → List Reply → Type 0
RanTo J tables commands told replies = (new : Tables) × (told ≡ Some new) × Well J new × Runs J tables commands new replies
