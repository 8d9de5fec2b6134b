-- What a caller sees of the rows.
use Rattle.std.specs.Prelude.{ℕ, List, filter}
use Rattle.vmv_keeper.specs.declared.act.Command.{Command}
use Rattle.vmv_keeper.specs.declared.act.Command.TheVariants.{Change, Ask}
use Rattle.vmv_keeper.specs.Tables.{Tables, is_member, is_same}

abbrev pub caller_of : Command → List ℕ
caller_of (Change caller id act) = caller
caller_of (Ask caller query) = caller

-- the projects that a caller is a member of, and the replies that are kept for him
abbrev pub seen_by : List ℕ → Tables → Tables
seen_by caller tables =
    record {
      projects = filter (λ p. is_member p caller) tables.projects;
      replies = filter (λ kept. is_same kept.caller caller) tables.replies;
    }
