-- The act that was done and its reply, by the bytes that are kept of them.
use Rattle.std.specs.Prelude.{◌≡◌, ℕ, List, Some}
use Rattle.vmv_keeper.specs.declared.act.Act.{Act}
use Rattle.vmv_keeper.specs.declared.reply.Reply.{Reply}
use Rattle.vmv_keeper.specs.Formed.{IsDone}
use Rattle.vmv_records.specs.Spelling.{act_bytes, reply_bytes}

-- the bytes are those of an act, and of a reply that it has where it is done
abbrev pub AreOf : List ℕ → List ℕ → Act → Reply → Type 0
AreOf act_kept answer_kept act reply = (act_bytes act ≡ act_kept) × (reply_bytes reply ≡ Some answer_kept) × IsDone act reply
