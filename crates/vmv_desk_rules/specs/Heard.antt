-- What holds by the answers that a judge gave.
use Rattle.std.specs.Prelude.{◌≡◌, ℕ, List, Option}
use Rattle.std.specs.List.{AllByRecursion}
use Rattle.vmv_keeper.specs.declared.judge.Inspected.{Inspected}
use Rattle.vmv_keeper.specs.declared.judge.Compared.{Compared}
use Rattle.vmv_keeper.specs.declared.act.Command.{Command}
use Rattle.vmv_keeper.specs.declared.reply.Reply.{Reply}
use Rattle.vmv_keeper.specs.Tables.{Tables}
use Rattle.vmv_desk_rules.specs.Causes.{Meaning}
use Rattle.vmv_desk_rules.specs.Keeping.{ReadsUtf8}
use Rattle.vmv_desk_rules.specs.Step.{Step, Handled}
use Rattle.vmv_desk_rules.specs.Well.{Well}
use Rattle.vmv_desk_rules.specs.Runs.{Turn, Runs, RanTo}

-- texts with what a judge said of each, and pairs of texts with what it said of the second against the first
pub record Heard : Type 0 where
  pub inspected : List (List ℕ × Inspected)
  pub compared : List ((List ℕ × List ℕ) × Compared)

-- each is what this judge says
abbrev pub AreSaid : (List ℕ → Inspected → Type 0) → (List ℕ → List ℕ → Compared → Type 0) → Heard → Type 0
AreSaid Inspects Compares heard =
    AllByRecursion (λ h. Inspects h.0 h.1) heard.inspected × AllByRecursion (λ h. Compares h.0.0 h.0.1 h.1) heard.compared

-- a meaning by which each is said, and by which only texts that are UTF-8 parse
pub record Follows (J : Meaning) (heard : Heard) : Type 0 where
  pub utf8 : ReadsUtf8 J
  pub inspected : AllByRecursion (λ h. J.inspected h.0 ≡ h.1) heard.inspected
  pub compared : AllByRecursion (λ h. J.compared h.0.0 h.0.1 ≡ h.1) heard.compared

-- it holds by some answers of a judge, whatever is said of texts that it wasn't asked about
abbrev pub BySaid : (List ℕ → Inspected → Type 0) → (List ℕ → List ℕ → Compared → Type 0) → (Meaning → Type 0) → Type 0
BySaid Inspects Compares P = (heard : Heard) × AreSaid Inspects Compares heard × ((J : Meaning) → Follows J heard → P J)

-- a command's step, by a judge
abbrev pub StepBy : (List ℕ → Inspected → Type 0) → (List ℕ → List ℕ → Compared → Type 0) → Tables → Command → Tables → Reply → Type 0
StepBy Inspects Compares tables command new reply = BySaid Inspects Compares (λ J. Step J tables command new reply)

-- a command is handled by its step, by a judge, or a fault leaves the rows as they were
abbrev pub HandledBy : (List ℕ → Inspected → Type 0) → (List ℕ → List ℕ → Compared → Type 0) → Tables → Command → Option Tables → Reply → Type 0
HandledBy Inspects Compares tables command told reply = BySaid Inspects Compares (λ J. Handled J tables command told reply)

abbrev pub TurnBy : (List ℕ → Inspected → Type 0) → (List ℕ → List ℕ → Compared → Type 0) → Tables → Command → Tables → Reply → Type 0
TurnBy Inspects Compares tables command new reply = BySaid Inspects Compares (λ J. Turn J tables command new reply)

abbrev pub RunsBy : (List ℕ → Inspected → Type 0) → (List ℕ → List ℕ → Compared → Type 0) → Tables → List Command → Tables → List Reply → Type 0
RunsBy Inspects Compares tables commands new replies = BySaid Inspects Compares (λ J. Runs J tables commands new replies)

abbrev pub RanToBy : (List ℕ → Inspected → Type 0) → (List ℕ → List ℕ → Compared → Type 0) → Tables → List Command → Option Tables → List Reply → Type 0
RanToBy Inspects Compares tables commands told replies = BySaid Inspects Compares (λ J. RanTo J tables commands told replies)

-- rows that are well by a judge
abbrev pub WellBy : (List ℕ → Inspected → Type 0) → (List ℕ → List ℕ → Compared → Type 0) → Tables → Type 0
WellBy Inspects Compares tables = BySaid Inspects Compares (λ J. Well J tables)
