use Rattle.std.proofs.Common.{rules, ap₂, ◌≡◌, ◌∙◌, codes, true}
use Rattle.std.proofs.lemmas.Result.{IfOk-weaker}
use Rattle.clap.specs.Words.{app_of, with_rule, rule_of, new_app}
use Rattle.clap.specs.Simple.{on_top}
use Rattle.vmv_words.specs.Clap.{name_rule, workers_rule, proof_rule}
use Rattle.vmv_words.proofs.matches.names_and_options.Goals as goal

pub returns : goal.returns
returns c =
    let name_is : rule_of c.action-names.result ≡ name_rule = search rules in
    let workers_is : rule_of c.long-workers.result ≡ workers_rule = search rules in
    let proof_is : rule_of c.action-proof.result ≡ proof_rule = search rules in
    let top : app_of c.disable_help_flag.result ≡ on_top (λ s. record s { no_binary_name = true; disable_help_flag = true }) (new_app (codes "vmv")) = search rules in
    let first : app_of c.in_ok-arg.field-0 ≡ with_rule (on_top (λ s. record s { no_binary_name = true; disable_help_flag = true }) (new_app (codes "vmv"))) name_rule =
    c.in_ok-arg.ensures.shape (search rules) ∙ ap₂ with_rule top name_is in
    let second : app_of c.in_ok-arg-2.field-0 ≡ with_rule (with_rule (on_top (λ s. record s { no_binary_name = true; disable_help_flag = true }) (new_app (codes "vmv"))) name_rule) workers_rule =
    c.in_ok-arg-2.ensures.shape (search rules) ∙ ap₂ with_rule first workers_is in
    IfOk-weaker c.arg-3.result _ _ (λ command h. h.shape (search rules) ∙ ap₂ with_rule second proof_is) c.arg-3.ensures
