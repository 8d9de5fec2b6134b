-- What a text keeps of another.
use Rattle.std.proofs.Common.{◌≡◌, ⊎_elim, List, ℕ, IsTrue, true, sym, subst, ◌∙◌}
use Rattle.vmv_tree.specs.Tree.{Item}
use Rattle.vmv_tree.specs.Safe.{Covers, Safe, RelCorrect}
use Rattle.vmv_text.proofs.OneTree.{text_once}
use Rattle.vmv_snapshot.specs.Resolution.{Resolution, IsResolution, tree_of}
use Rattle.vmv_report.specs.declared.report.Report.{Report}
use Rattle.vmv_report.specs.Reports.{IsReport}
use Rattle.vmv_keeper.specs.declared.judge.Inspected.{Inspected}
use Rattle.vmv_keeper.specs.declared.judge.Inspected.TheVariants.{Fine, Refused, Vacuous}
use Rattle.vmv_keeper.specs.declared.judge.Compared.{Compared}
use Rattle.vmv_keeper.specs.declared.judge.Compared.TheVariants.{Judged, Unreadable}
use Rattle.vmv_keeper.specs.Judging.{parses, HasVerdict}
use Rattle.vmv_gate.specs.Judged.{IsReadAs, Inspects, Compares, Keeps}
use Rattle.vmv_gate.specs.Environments.{correct_on}

keeps_read : (text : List ℕ) (p : Resolution) → IsReadAs text p → Keeps text text
keeps_read text p h = (tree_of p, tree_of p, h.0, h.0, λ env covers again safe. safe)

pub keeps_itself : (text : List ℕ) (said : Inspected) → Inspects text said → IsTrue (parses said) → Keeps text text
keeps_itself text Fine is h = keeps_read text is.0 is.1
keeps_itself text (Refused number line column) is h = absurd (cc h)
keeps_itself text Vacuous is h = keeps_read text is.0 is.1

pub keeps_on : (first second third : List ℕ) → Keeps first second → Keeps second third → Keeps first third
keeps_on first second third h k =
    let same = text_once second h.1 k.0 h.3.1 k.2.1 in
    (h.0, k.1, h.2, k.3, correct_on h.0 h.1 k.1 h.4 (subst (λ p. RelCorrect p k.1) (sym same) k.4))

-- a verdict of 1 is a true one
abbrev pub AreVerdictsTrue : Type 0
AreVerdictsTrue = (base revision : Resolution) (report : Report) → IsResolution base → IsResolution revision → IsReport base revision report → report.verdict ≡ 1
    → RelCorrect (tree_of base) (tree_of revision)

pub verdict_one : (verdict : ℕ) (json : List ℕ) → HasVerdict 1 (Judged verdict json) → verdict ≡ 1
verdict_one verdict json h = cc h.1

pub not_judged : (which : ℕ) → HasVerdict 1 (Unreadable which) → ⊥
not_judged which h = cc h.1

pub keeps_sound : AreVerdictsTrue → (base revision : List ℕ) (said : Compared) → Compares base revision said → HasVerdict 1 said → Keeps base revision
keeps_sound law base revision (Judged verdict json) is h =
    (tree_of is.0, tree_of is.1, is.2.0, is.3.0, law is.0 is.1 is.4 is.2.1 is.3.1 is.5 (sym is.6 ∙ verdict_one verdict json h))
keeps_sound law base revision (Unreadable which) is h = absurd (not_judged which h)
