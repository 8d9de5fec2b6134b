-- How clap sees what stands behind the word of a command: names, the option `--workers N` and the flag `--proof`.
use Rattle.std.specs.Prelude.{codes, true, Some}
use Rattle.clap.specs.Walk.{Rule}
use Rattle.clap.specs.Simple.{App, new_app, new_rule, with_rule, on_top}
use Rattle.clap.specs.declared.builder.action.ArgAction.TheVariants.{SetTrue, Append}

abbrev pub name_rule : Rule
name_rule = record (new_rule (codes "name")) { action = Some Append }

abbrev pub workers_rule : Rule
workers_rule = record (new_rule (codes "workers")) { long = Some (codes "workers") }

abbrev pub proof_rule : Rule
proof_rule = record (new_rule (codes "proof")) { long = Some (codes "proof"); action = Some SetTrue }

abbrev pub app : App
app = with_rule (with_rule (with_rule (on_top (λ s. record s { no_binary_name = true; disable_help_flag = true }) (new_app (codes "vmv"))) name_rule) workers_rule) proof_rule
