-- Histories that begin without rows.
use Rattle.std.proofs.Common.{List, [], ◌∷◌, inl, inr, arith, sym, subst}
use Rattle.vmv_keeper.specs.declared.act.Command.{Command}
use Rattle.vmv_keeper.specs.declared.reply.Reply.{Reply}
use Rattle.vmv_keeper.specs.Tables.{Tables, no_rows}
use Rattle.vmv_desk_rules.specs.Causes.{Meaning}
use Rattle.vmv_desk_rules.specs.Well.{Well}
use Rattle.vmv_desk_rules.specs.Keeping.{ReadsUtf8}
use Rattle.vmv_desk_rules.specs.Runs.{Turn, Runs}
use Rattle.vmv_desk_rules.proofs.WellLemmas.{Well-step}

pub Well-none : (J : Meaning) → Well J no_rows
Well-none J =
    record {
      formed = record {
        each = tt;
        distinct = λ owner name. omega arith;
        few_projects = λ owner. omega arith;
        done = tt;
        one_each = λ caller id. omega arith;
        few_replies = λ caller. omega arith;
      };
      reviewed = tt;
    }

turn_well : (J : Meaning) (tables new : Tables) (command : Command) (reply : Reply) → ReadsUtf8 J → Well J tables → Turn J tables command new reply → Well J new
turn_well J tables new command reply utf8 well (inl step) = Well-step J tables new command reply utf8 well step
turn_well J tables new command reply utf8 well (inr fault) = subst (Well J) (sym fault.0) well

-- rows stay well over any commands
pub Well-runs : (J : Meaning) (tables new : Tables) (commands : List Command) (replies : List Reply) → ReadsUtf8 J → Well J tables → Runs J tables commands new replies → Well J new
Well-runs J tables new [] replies utf8 well runs = subst (Well J) (sym runs.0) well
Well-runs J tables new (command ∷ commands) replies utf8 well runs =
    Well-runs J runs.0 new commands runs.2 utf8 (turn_well J tables runs.0 command runs.1 utf8 well runs.3) runs.4
