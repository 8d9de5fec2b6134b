-- What stays as it is under a command.
use Rattle.std.specs.Prelude.{◌≡◌, ℕ, List, IsTrue, IsUtf8, IsSomeAnd}
use Rattle.vmv_keeper.specs.declared.act.Act.{Act}
use Rattle.vmv_keeper.specs.declared.reply.Reply.{Reply}
use Rattle.vmv_keeper.specs.Judging.{parses}
use Rattle.vmv_keeper.specs.Tables.{Tables, kept_under}
use Rattle.vmv_desk_rules.specs.Causes.{Meaning}

-- a text that parses is UTF-8
abbrev pub ReadsUtf8 : Meaning → Type 0
ReadsUtf8 J = (text : List ℕ) → IsTrue (parses (J.inspected text)) → IsUtf8 text

-- the act and its reply are kept under the caller's id
abbrev pub IsKeptAs : Tables → List ℕ → List ℕ → Act → Reply → Type 0
IsKeptAs tables caller id act reply = IsSomeAnd (kept_under tables caller id) (λ kept. (kept.act ≡ act) × (kept.reply ≡ reply))
