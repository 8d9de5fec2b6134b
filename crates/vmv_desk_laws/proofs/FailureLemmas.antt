-- What fails changes nothing.
use Rattle.std.proofs.Common.{◌≡◌, inl, inr, ℕ, List, Option, Some, None, sym, subst}
use Rattle.vmv_keeper.specs.declared.change.Change.{Change}
use Rattle.vmv_keeper.specs.declared.act.Act.{Act}
use Rattle.vmv_keeper.specs.declared.act.Query.{Query}
use Rattle.vmv_keeper.specs.declared.act.Command.TheVariants.{Change as ToChange, Ask}
use Rattle.vmv_keeper.specs.declared.reply.Reply.{Reply}
use Rattle.vmv_keeper.specs.Tables.{Tables, kept_under}
use Rattle.vmv_keeper.specs.Formed.{IsDone}
use Rattle.vmv_desk_rules.specs.declared.outcome.Outcome.{Outcome}
use Rattle.vmv_desk_rules.specs.declared.outcome.Outcome.TheVariants.{Done, NotDone}
use Rattle.vmv_desk_rules.specs.Causes.{Meaning, outcome}
use Rattle.vmv_desk_rules.specs.Replies.{Belongs}
use Rattle.vmv_desk_rules.specs.Step.{Changes, Acts}
use Rattle.vmv_desk_rules.specs.Runs.{Turn}
use Rattle.vmv_desk_rules.proofs.OnceLemmas.{outcome_belongs}

failed_acts : (tables new : Tables) (caller id : List ℕ) (act : Act) (o : Outcome) (reply : Reply) → Belongs act o → Acts tables caller id act o new reply
    → (IsDone act reply → ⊥) → new ≡ tables
failed_acts tables new caller id act (Done done) reply belongs step failed = absurd (failed (subst (IsDone act) (sym step.1) belongs))
failed_acts tables new caller id act (NotDone cause) reply belongs step failed = step.0

failed_changes : (J : Meaning) (tables new : Tables) (caller id : List ℕ) (act : Act) (found : Option Change) (reply : Reply) → Changes J tables caller id act found new reply
    → (IsDone act reply → ⊥) → new ≡ tables
failed_changes J tables new caller id act (Some kept) reply step failed = step.0
failed_changes J tables new caller id act None reply step failed = failed_acts tables new caller id act (outcome J tables caller act) reply (outcome_belongs J tables caller act) step failed

-- an act that isn't done
pub failed_turn : (J : Meaning) (tables new : Tables) (caller id : List ℕ) (act : Act) (reply : Reply) → Turn J tables (ToChange caller id act) new reply
    → (IsDone act reply → ⊥) → new ≡ tables
failed_turn J tables new caller id act reply (inl step) failed = failed_changes J tables new caller id act (kept_under tables caller id) reply step failed
failed_turn J tables new caller id act reply (inr fault) failed = fault.0

-- a question
pub asked_turn : (J : Meaning) (tables new : Tables) (caller : List ℕ) (query : Query) (reply : Reply) → Turn J tables (Ask caller query) new reply → new ≡ tables
asked_turn J tables new caller query reply (inl step) = step.0
asked_turn J tables new caller query reply (inr fault) = fault.0
