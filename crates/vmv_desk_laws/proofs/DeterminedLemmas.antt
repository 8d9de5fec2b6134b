-- A command has one step.
use Rattle.std.proofs.Common.{◌≡◌, inl, inr, ℕ, List, Option, Some, None, sym, ◌∙◌}
use Rattle.vmv_keeper.specs.declared.change.Change.{Change}
use Rattle.vmv_keeper.specs.declared.act.Act.{Act}
use Rattle.vmv_keeper.specs.declared.act.Command.{Command}
use Rattle.vmv_keeper.specs.declared.act.Command.TheVariants.{Change as ToChange, Ask}
use Rattle.vmv_keeper.specs.declared.reply.Reply.{Reply}
use Rattle.vmv_keeper.specs.Tables.{Tables, kept_under}
use Rattle.vmv_desk_rules.specs.declared.outcome.Outcome.{Outcome}
use Rattle.vmv_desk_rules.specs.declared.outcome.Outcome.TheVariants.{Done, NotDone}
use Rattle.vmv_desk_rules.specs.Causes.{Meaning, outcome}
use Rattle.vmv_desk_rules.specs.Step.{Step, Changes, Acts, IsRepeated}

pub one_reply : (kept : Change) (act : Act) (r s : Reply) → IsRepeated kept act r → IsRepeated kept act s → r ≡ s
one_reply kept act r s (inl a) (inl b) = a.1 ∙ sym b.1
one_reply kept act r s (inl a) (inr b) = absurd (b.0 a.0)
one_reply kept act r s (inr a) (inl b) = absurd (a.0 b.0)
one_reply kept act r s (inr a) (inr b) = a.1 ∙ sym b.1

one_act : (tables new other : Tables) (caller id : List ℕ) (act : Act) (o : Outcome) (r s : Reply) → Acts tables caller id act o new r → Acts tables caller id act o other s
    → (new ≡ other) × (r ≡ s)
one_act tables new other caller id act (Done done) r s a b = (a.0 ∙ sym b.0, a.1 ∙ sym b.1)
one_act tables new other caller id act (NotDone cause) r s a b = (a.0 ∙ sym b.0, a.1 ∙ sym b.1)

one_change : (J : Meaning) (tables new other : Tables) (caller id : List ℕ) (act : Act) (found : Option Change) (r s : Reply)
    → Changes J tables caller id act found new r → Changes J tables caller id act found other s → (new ≡ other) × (r ≡ s)
one_change J tables new other caller id act (Some kept) r s a b = (a.0 ∙ sym b.0, one_reply kept act r s a.1 b.1)
one_change J tables new other caller id act None r s a b = one_act tables new other caller id act (outcome J tables caller act) r s a b

pub one_step : (J : Meaning) (tables new other : Tables) (command : Command) (r s : Reply) → Step J tables command new r → Step J tables command other s
    → (new ≡ other) × (r ≡ s)
one_step J tables new other (ToChange caller id act) r s a b = one_change J tables new other caller id act (kept_under tables caller id) r s a b
one_step J tables new other (Ask caller query) r s a b = (a.0 ∙ sym b.0, a.1 ∙ sym b.1)
