-- A printed verdict is right.
use Rattle.std.proofs.Common.{◌≡◌, ◌≢◌, ◌⊎◌, inl, inr, ⊎_elim, ℕ, nat_lt, nat_eq, eqb, Bool, true, false, MatchBool, Option, Some, List, [], ◌∷◌, ◌++◌, length, take, codes, refl, sym, ap, subst, arith, append-nil, ◌≤◌, ◌∙◌}
use Rattle.std.proofs.lemmas.Bool.{eqb-true}
use Rattle.std.specs.List.{starts_with}
use Rattle.std.proofs.lemmas.List.{length-take, take-take, take_all}
use Rattle.std.proofs.lemmas.Slice.Eq.{bytes_eq-Decides}
use Rattle.vmv_tree.specs.Tree.{Item}
use Rattle.vmv_tree.specs.Safe.{RelCorrect}
use Rattle.vmv_snapshot.specs.Resolution.{Resolution, IsResolution, tree_of}
use Rattle.vmv_text.specs.Grammar.{IsText}
use Rattle.vmv_text.proofs.OneTree.{text_once}
use Rattle.vmv_edge.specs.Outside.{IsAsTold, Appended, AppendedFront}
use Rattle.vmv_words.specs.Words.{Word, Request, review, Asks}
use Rattle.vmv_report.specs.declared.report.Report.{Report}
use Rattle.vmv_report.specs.Texts.{line, report_text}
use Rattle.vmv_report.specs.Reports.{IsReport}
use Rattle.vmv_proof_text.specs.Text.{proof_text}
use Rattle.vmv_command.specs.Reviews.{ReviewsPrograms, PrintsReview, too_large_line, review_status}
use Rattle.vmv_command.specs.Lines.{SaysTooLong, too_long_end}
use Rattle.vmv_command.specs.Faults.{fault_end}
use Rattle.vmv_command.specs.Command.{text_most, ReviewsTexts, OnFile, Does, SaysRelativelyCorrect, VerdictHolds}

-- what a front of a text begins with, the text begins with
front_begins : (said : List ℕ) (n : ℕ) (text : List ℕ) → starts_with nat_eq (take n text) said ≡ true → starts_with nat_eq text said ≡ true
front_begins said n text h =
    let e : said ≡ take (length said) (take n text) = (bytes_eq-Decides said (take (length said) (take n text))).0 h in
    let short : length said ≤ n = omega (arith, ap length e, length-take (length said) (take n text), length-take n text) in
    let same : take (length said) (take n text) ≡ take (length said) text = take-take (length said) n text short in
    (bytes_eq-Decides said (take (length said) text)).1 (e ∙ same)

not_said : (text printed : List ℕ) → printed ≡ text → starts_with nat_eq text (line (codes "verdict relatively correct")) ≡ false → SaysRelativelyCorrect printed → ⊥
not_said text printed is other said = let yes = subst SaysRelativelyCorrect is said in cc

pub cases : (b : Bool) (P Q : Type 0) → MatchBool b P Q → P ⊎ Q
cases true P Q h = inl h
cases false P Q h = inr h

-- the line of a fault says something else
base_not_said : (more printed : List ℕ) → printed ≡ codes "base" ++ more → SaysRelativelyCorrect printed → ⊥
base_not_said more printed is said = not_said (codes "base" ++ more) printed is refl said

revision_not_said : (more printed : List ℕ) → printed ≡ codes "revision" ++ more → SaysRelativelyCorrect printed → ⊥
revision_not_said more printed is said = not_said (codes "revision" ++ more) printed is refl said

-- a report with verdict 1 holds, and no other text says that the revision is relatively correct
pub record VerdictsHold : Type 0 where
  pub holds : (base revision : Resolution) (report : Report) → IsResolution base → IsResolution revision → IsReport base revision report → report.verdict ≡ 1 → RelCorrect (tree_of base) (tree_of revision)
  pub said : (base revision : Resolution) (report : Report) (more : List ℕ) → IsReport base revision report → SaysRelativelyCorrect (report_text report base revision ++ more) → report.verdict ≡ 1

-- what is printed of a review begins with its report, or tells that its proof is too long
pub begins_so : (proved : Bool) (B R : Resolution) (report : Report) (printed : List ℕ) (status : ℕ) → PrintsReview proved B R report printed status
    → ((more : List ℕ) × (printed ≡ report_text report B R ++ more) × (status ≡ review_status report.verdict)) ⊎ ((found : ℕ) × (printed ≡ too_large_line found) × (status ≡ 5))
begins_so false B R report printed status h = inl ([], h.0 ∙ sym (append-nil (report_text report B R)), h.1)
begins_so true B R report printed status (inl (four, h)) = inl ([], h.0 ∙ sym (append-nil (report_text report B R)), h.1)
begins_so true B R report printed status (inr (proof, is, (inl (within, text, meant)))) = inl (proof_text proof, text, meant)
begins_so true B R report printed status (inr (proof, is, (inr (found, over, text, meant)))) = inr (found, text, meant)

too_large_not_said : (found : ℕ) (printed : List ℕ) → printed ≡ too_large_line found → SaysRelativelyCorrect printed → ⊥
too_large_not_said found printed is said = not_said (too_large_line found) printed is refl said

programs_correct : VerdictsHold → (proved : Bool) (B R : List Item) (printed : List ℕ) (status : ℕ) → ReviewsPrograms proved B R printed status → SaysRelativelyCorrect printed → RelCorrect B R
programs_correct law proved B R printed status h said =
    ⊎_elim
    (λ (front : (more : List ℕ) × (printed ≡ report_text h.report h.base_code h.revision_code ++ more) × (status ≡ review_status h.report.verdict)).
    let verdict = law.said h.base_code h.revision_code h.report front.0 h.report_is (subst SaysRelativelyCorrect front.1 said) in
    let correct = law.holds h.base_code h.revision_code h.report h.base_is.resolution h.revision_is.resolution h.report_is verdict in
    subst (λ (P : List Item). RelCorrect P R) h.base_is.tree (subst (λ (P : List Item). RelCorrect (tree_of h.base_code) P) h.revision_is.tree correct))
    (λ (large : (found : ℕ) × (printed ≡ too_large_line found) × (status ≡ 5)). absurd (too_large_not_said large.0 printed large.1 said))
    (begins_so proved h.base_code h.revision_code h.report printed status h.prints)

texts_correct : VerdictsHold → (proved : Bool) (base revision : List ℕ) (B R : List Item) (printed : List ℕ) (status : ℕ) → ReviewsTexts proved base revision printed status → IsText base B → IsText revision R →
    SaysRelativelyCorrect printed → RelCorrect B R
texts_correct law proved base revision B R printed status (inl (why, has, says)) text text' said = absurd (base_not_said (fault_end why) printed says.0 said)
texts_correct law proved base revision B R printed status (inr (C, source, (inl (why, has, says)))) text text' said = absurd (revision_not_said (fault_end why) printed says.0 said)
texts_correct law proved base revision B R printed status (inr (C, source, (inr (P, source', reviews)))) text text' said =
    subst (λ (Q : List Item). RelCorrect Q R) (text_once base C B source.0 text)
    (subst (λ (Q : List Item). RelCorrect C Q) (text_once revision P R source'.0 text') (programs_correct law proved C P printed status reviews said))

-- of a text that is told, what is done with it, or the line of one that is too long
pub on_told : (told : Word → Option (List ℕ)) (name called : List ℕ) (most : ℕ) (Next : List ℕ → List ℕ → ℕ → Type 0) (text printed : List ℕ) (status : ℕ) → told name ≡ Some text
    → OnFile told name called most Next printed status → SaysTooLong called most printed status ⊎ Next text printed status
on_told told name called most Next text printed status is (read, as_told, branch) =
    let same : read ≡ text = subst (λ (t : Option (List ℕ)). IsAsTold t read) is as_told in
    subst (λ (t : List ℕ). SaysTooLong called most printed status ⊎ Next t printed status) same (cases (nat_lt most (length read)) _ _ branch)

files_correct : VerdictsHold → (told : Word → Option (List ℕ)) (base_name revision_name base revision : List ℕ) (B R : List Item) (printed : List ℕ) (status count : ℕ) (proved : Bool) → told base_name ≡ Some base
    → told revision_name ≡ Some revision → Does told (review base_name revision_name count proved) printed status → IsText base B → IsText revision R → SaysRelativelyCorrect printed → RelCorrect B R
files_correct law told base_name revision_name base revision B R printed status count proved told_b told_r done text text' said =
    ⊎_elim
    (λ (long : SaysTooLong (codes "base") text_most printed status). absurd (base_not_said (too_long_end text_most) printed long.0 said))
    (λ (read : OnFile told revision_name (codes "revision") text_most (ReviewsTexts proved base) printed status). ⊎_elim
    (λ (long : SaysTooLong (codes "revision") text_most printed status). absurd (revision_not_said (too_long_end text_most) printed long.0 said))
    (λ (both : ReviewsTexts proved base revision printed status). texts_correct law proved base revision B R printed status both text text' said)
    (on_told told revision_name (codes "revision") text_most (ReviewsTexts proved base) revision printed status told_r read))
    (on_told told base_name (codes "base") text_most (λ b. OnFile told revision_name (codes "revision") text_most (ReviewsTexts proved b)) base printed status told_b done)

-- what was printed is a front of the text
abbrev pub IsFront : List ℕ → List ℕ → Type 0
IsFront printed text = (n : ℕ) × (printed ≡ take n text)

pub append_same : (old xs ys : List ℕ) → old ++ xs ≡ old ++ ys → xs ≡ ys
append_same [] xs ys e = e
append_same (x ∷ old) xs ys e = append_same old xs ys (cc)

told_front : (before after : Option (List ℕ)) (old printed text : List ℕ) → before ≡ Some old → after ≡ Some (old ++ printed) → AppendedFront before text after → IsFront printed text
told_front before after old printed text was is (n, h) =
    let h' : Appended (Some old) (take n text) (Some (old ++ printed)) = rw (was, is) at h in
    (n, append_same old printed (take n text) h')

-- words ask for one thing
abbrev pub AskOnce : Type 0
AskOnce = (words : List Word) (one other : Request) → Asks words one → Asks words other → one ≡ other

-- whatever front of the output was printed, the verdict that it says holds
pub verdict_holds : VerdictsHold → AskOnce → (request : Request) (words : List Word) (told : Word → Option (List ℕ)) (before after : Option (List ℕ)) (text : List ℕ) (status : ℕ) →
    Asks words request → Does told request text status → AppendedFront before text after → VerdictHolds words told before after
verdict_holds law once request words told before after text status asks done taken b r base revision old printed B R (count, proved, asks') told_b told_r text_b text_r was is said =
    let same : request ≡ review b r count proved = once words request (review b r count proved) asks asks' in
    let front = told_front before after old printed text was is taken in
    let said' : SaysRelativelyCorrect text = front_begins (line (codes "verdict relatively correct")) front.0 text (subst SaysRelativelyCorrect front.1 said) in
    files_correct law told b r base revision B R text status count proved told_b told_r (subst (λ (q : Request). Does told q text status) same done) text_b text_r said'

-- where nothing was printed, no verdict was
pub nothing_said : (before : Option (List ℕ)) (old printed : List ℕ) → before ≡ Some old → before ≡ Some (old ++ printed) → SaysRelativelyCorrect printed → ⊥
nothing_said before old printed was is said =
    let e : old ++ [] ≡ old ++ printed = append-nil old ∙ same_some old (old ++ printed) (sym was ∙ is) in
    let none : [] ≡ printed = append_same old [] printed e in
    not_said [] printed (sym none) refl said
  where
    same_some : (x y : List ℕ) → Some x ≡ Some y → x ≡ y
    same_some x y e = cc

whole_front : (before after : Option (List ℕ)) (text : List ℕ) → Appended before text after → AppendedFront before text after
whole_front before after text h = (length text, subst (λ (t : List ℕ). Appended before t after) (sym (take_all (length text) text (omega arith))) h)

either_front : (b : Bool) (status : ℕ) (before after : Option (List ℕ)) (text : List ℕ) → eqb status 7 ≡ b → (status ≡ 7 → AppendedFront before text after) →
    (status ≢ 7 → Appended before text after) → AppendedFront before text after
either_front true status before after text e front whole = front (eqb-true status 7 e)
either_front false status before after text e front whole = whole_front before after text (whole (λ h. let t : eqb status 7 ≡ true = rw h refl in cc))

-- whether or not all of it was printed, a front of it was
pub some_front : (status : ℕ) (before after : Option (List ℕ)) (text : List ℕ) → (status ≡ 7 → AppendedFront before text after) →
    (status ≢ 7 → Appended before text after) → AppendedFront before text after
some_front status before after text front whole = either_front (eqb status 7) status before after text refl front whole
