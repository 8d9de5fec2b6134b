-- A printed regression is one.
use Rattle.std.proofs.Common.{◌≡◌, ◌≢◌, inl, inr, ⊎_elim, ℕ, ◌==◌, Bool, true, false, if◌then◌else◌, Option, Some, List, ◌++◌, codes, refl, sym, subst, ◌∙◌}
use Rattle.std.proofs.lemmas.Bool.{eqb-true}
use Rattle.vmv_tree.specs.declared.defect.Defect.{Defect}
use Rattle.vmv_tree.specs.declared.defect.Defect.TheVariants.{UnknownName, Repeated, ArityWrong, IndexAssigned, RangeEmpty, Limit}
use Rattle.vmv_tree.specs.Tree.{Item}
use Rattle.vmv_snapshot.specs.Resolution.{Resolution, IsResolution, tree_of}
use Rattle.vmv_text.specs.Grammar.{IsText}
use Rattle.vmv_text.proofs.OneTree.{text_once}
use Rattle.vmv_edge.specs.Outside.{Appended}
use Rattle.vmv_source.specs.declared.fault.TextFault.{TextFault}
use Rattle.vmv_source.specs.declared.fault.TextFault.TheVariants as fault
use Rattle.vmv_words.specs.Words.{Word, Request, review, Asks}
use Rattle.vmv_report.specs.declared.report.Report.{Report}
use Rattle.vmv_report.specs.Reports.{IsReport}
use Rattle.vmv_report.specs.Regressions.{ShowsRegression}
use Rattle.vmv_report.specs.Texts.{report_text}
use Rattle.vmv_command.specs.Lines.{SaysTooLong}
use Rattle.vmv_command.specs.Faults.{SaysFault, fault_status, defect_status}
use Rattle.vmv_command.specs.Reviews.{ReviewsPrograms, review_status, too_large_line}
use Rattle.vmv_command.specs.Command.{text_most, ReviewsTexts, OnFile, Does}
use Rattle.vmv_command.specs.Regressions.{BeginsWithRegression, RegressionHolds}
use Rattle.vmv_command.proofs.Verdict.{append_same, begins_so, on_told, AskOnce}

-- the text of a report with verdict 3 shows a regression
abbrev pub RegressionsHold : Type 0
RegressionsHold =
    (base revision : Resolution) (report : Report) → IsResolution base → IsResolution revision → IsReport base revision report → report.verdict ≡ 3 → ShowsRegression (tree_of base) (tree_of revision) (report_text report base revision)

defect_is_not : (d : Defect) → defect_status d ≡ 2 → ⊥
defect_is_not UnknownName e = absurd (cc)
defect_is_not Repeated e = absurd (cc)
defect_is_not ArityWrong e = absurd (cc)
defect_is_not IndexAssigned e = absurd (cc)
defect_is_not RangeEmpty e = absurd (cc)
defect_is_not (Limit which found most) e = absurd (cc)

-- no fault has the status of a regression
fault_is_not : (why : TextFault) → fault_status why ≡ 2 → ⊥
fault_is_not (fault.NotUtf8 at) e = absurd (cc)
fault_is_not (fault.Syntax at column) e = absurd (cc)
fault_is_not (fault.Defect at column d) e = defect_is_not d e
fault_is_not (fault.TooLong found) e = absurd (cc)
fault_is_not fault.Memory e = absurd (cc)

says_not : (name : List ℕ) (why : TextFault) (printed : List ℕ) (status : ℕ) → SaysFault name why printed status → status ≡ 2 → ⊥
says_not name why printed status says is = fault_is_not why (sym says.1 ∙ is)

abbrev status_by : Bool → Bool → Bool → ℕ
status_by one two three = if one then 0 else (if two then 1 else (if three then 2 else 3))

third : (one two three : Bool) → status_by one two three ≡ 2 → three ≡ true
third true two three e = absurd (cc)
third false true three e = absurd (cc)
third false false true e = refl
third false false false e = absurd (cc)

verdict_is : (verdict : ℕ) → review_status verdict ≡ 2 → verdict ≡ 3
verdict_is verdict e = eqb-true verdict 3 (third (verdict == 1) (verdict == 2) (verdict == 3) e)

programs_show : RegressionsHold → (proved : Bool) (B R : List Item) (printed : List ℕ) (status : ℕ) → ReviewsPrograms proved B R printed status → status ≡ 2 → BeginsWithRegression B R printed
programs_show law proved B R printed status h is =
    ⊎_elim
    (λ (front : (more : List ℕ) × (printed ≡ report_text h.report h.base_code h.revision_code ++ more) × (status ≡ review_status h.report.verdict)).
    let text = report_text h.report h.base_code h.revision_code in
    let shows = law h.base_code h.revision_code h.report h.base_is.resolution h.revision_is.resolution h.report_is (verdict_is h.report.verdict (sym front.2 ∙ is)) in (
      text,
      front.0,
      front.1,
      subst (λ (P : List Item). ShowsRegression P R text) h.base_is.tree
          (subst (λ (P : List Item). ShowsRegression (tree_of h.base_code) P text) h.revision_is.tree shows),
    ))
    (λ (large : (found : ℕ) × (printed ≡ too_large_line found) × (status ≡ 5)). let e = sym large.2 ∙ is in absurd (cc))
    (begins_so proved h.base_code h.revision_code h.report printed status h.prints)

texts_show : RegressionsHold → (proved : Bool) (base revision : List ℕ) (B R : List Item) (printed : List ℕ) (status : ℕ) → ReviewsTexts proved base revision printed status → IsText base B → IsText revision R →
    status ≡ 2 → BeginsWithRegression B R printed
texts_show law proved base revision B R printed status (inl (why, has, says)) text text' is = absurd (says_not (codes "base") why printed status says is)
texts_show law proved base revision B R printed status (inr (C, source, (inl (why, has, says)))) text text' is = absurd (says_not (codes "revision") why printed status says is)
texts_show law proved base revision B R printed status (inr (C, source, (inr (P, source', reviews)))) text text' is =
    subst (λ (Q : List Item). BeginsWithRegression Q R printed) (text_once base C B source.0 text)
    (subst (λ (Q : List Item). BeginsWithRegression C Q printed) (text_once revision P R source'.0 text') (programs_show law proved C P printed status reviews is))

long_not : (called printed : List ℕ) (status : ℕ) → SaysTooLong called text_most printed status → status ≡ 2 → ⊥
long_not called printed status says is = let e = sym says.1 ∙ is in absurd (cc)

files_show : RegressionsHold → (told : Word → Option (List ℕ)) (base_name revision_name base revision : List ℕ) (B R : List Item) (printed : List ℕ) (status count : ℕ) (proved : Bool) → told base_name ≡ Some base
    → told revision_name ≡ Some revision → Does told (review base_name revision_name count proved) printed status → IsText base B → IsText revision R → status ≡ 2 → BeginsWithRegression B R printed
files_show law told base_name revision_name base revision B R printed status count proved told_b told_r done text text' is =
    ⊎_elim
    (λ (long : SaysTooLong (codes "base") text_most printed status). absurd (long_not (codes "base") printed status long is))
    (λ (read : OnFile told revision_name (codes "revision") text_most (ReviewsTexts proved base) printed status). ⊎_elim
    (λ (long : SaysTooLong (codes "revision") text_most printed status). absurd (long_not (codes "revision") printed status long is))
    (λ (both : ReviewsTexts proved base revision printed status). texts_show law proved base revision B R printed status both text text' is)
    (on_told told revision_name (codes "revision") text_most (ReviewsTexts proved base) revision printed status told_r read))
    (on_told told base_name (codes "base") text_most (λ b. OnFile told revision_name (codes "revision") text_most (ReviewsTexts proved b)) base printed status told_b done)

told_whole : (before after : Option (List ℕ)) (old printed text : List ℕ) → before ≡ Some old → after ≡ Some (old ++ printed) → Appended before text after → printed ≡ text
told_whole before after old printed text was is h =
    let h' : Appended (Some old) text (Some (old ++ printed)) = rw (was, is) at h in
    append_same old printed text h'

-- whatever was asked for
regression_holds : RegressionsHold → AskOnce → (request : Request) (words : List Word) (told : Word → Option (List ℕ)) (before after : Option (List ℕ)) (text : List ℕ) (status : ℕ) →
    Asks words request → Does told request text status → (status ≡ 2 → Appended before text after) → RegressionHolds words told before after status
regression_holds law once request words told before after text status asks done taken b r base revision old printed B R (count, proved, asks') told_b told_r text_b text_r was is status_is =
    let same : request ≡ review b r count proved = once words request (review b r count proved) asks asks' in
    let whole = told_whole before after old printed text was is (taken status_is) in
    subst (λ (t : List ℕ). BeginsWithRegression B R t) (sym whole)
    (files_show law told b r base revision B R text status count proved told_b told_r (subst (λ (q : Request). Does told q text status) same done) text_b text_r status_is)

-- whether or not all of it was printed
pub regression_printed : RegressionsHold → AskOnce → (request : Request) (words : List Word) (told : Word → Option (List ℕ)) (before after : Option (List ℕ)) (text : List ℕ) (status result : ℕ) →
    Asks words request → Does told request text status → (result ≢ 7 → result ≡ status) → (result ≢ 7 → Appended before text after) → RegressionHolds words told before after result
regression_printed law once request words told before after text status result asks done same taken b r base revision old printed B R review_is told_b told_r text_b text_r was is two =
    let whole : result ≢ 7 = λ e. not_seven result two e in
    regression_holds law once request words told before after text status asks done (λ s. taken whole) b r base revision old printed B R review_is told_b told_r text_b text_r was is (sym (same whole) ∙ two)
  where
    not_seven : (n : ℕ) → n ≡ 2 → n ≡ 7 → ⊥
    not_seven n two seven = absurd (cc)
