-- One thing is said of a text, and of a text against another.
use Rattle.std.proofs.Common.{◌≡◌, ◌≢◌, ◌⊎◌, inl, inr, ℕ, ◌≤◌, Bool, true, false, List, length, IsTrue, IsUtf8, refl, sym, ap, subst, ◌∙◌, arith}
use Rattle.vmv_tree.specs.declared.defect.Defect.{Defect}
use Rattle.vmv_tree.specs.Valid.{FirstDefect}
use Rattle.vmv_tree.specs.Tree.{Item}
use Rattle.vmv_text.proofs.OneTree.{text_once}
use Rattle.vmv_text.proofs.OnePlace.{has_fault_once}
use Rattle.vmv_text.proofs.ValidFronts.{not_valid}
use Rattle.vmv_text.specs.Mentioned.{HasMention}
use Rattle.vmv_source.specs.declared.fault.TextFault.{TextFault}
use Rattle.vmv_source.specs.declared.fault.TextFault.TheVariants.{NotUtf8, Syntax, Defect as AtDefect, Memory, TooLong}
use Rattle.vmv_source.specs.Faults.{HasDefectAt}
use Rattle.vmv_source.proofs.NoFault.{no_fault}
use Rattle.vmv_snapshot.specs.Resolution.{Resolution, IsResolution, tree_of}
use Rattle.vmv_snapshot_laws.proofs.Codes.{resolution_once}
use Rattle.vmv_assumption.specs.Assumed.{Assumed}
use Rattle.vmv_need.specs.declared.subject.Scope.{Scope}
use Rattle.vmv_need.specs.Acts.{IsNecessary}
use Rattle.vmv_need.specs.Vacuous.{IsVacuous}
use Rattle.vmv_need.proofs.Scopes.{one_scope}
use Rattle.vmv_need.proofs.Lower.{necessary_once}
use Rattle.vmv_report.specs.declared.report.Report.{Report}
use Rattle.vmv_report.specs.Reports.{IsReport}
use Rattle.vmv_report_json.specs.Json.{report_json}
use Rattle.vmv_keeper.specs.declared.judge.Inspected.{Inspected}
use Rattle.vmv_keeper.specs.declared.judge.Inspected.TheVariants.{Fine, Refused, Vacuous}
use Rattle.vmv_keeper.specs.declared.judge.Compared.{Compared}
use Rattle.vmv_keeper.specs.declared.judge.Compared.TheVariants.{Judged, Unreadable}
use Rattle.vmv_keeper.specs.Judging.{parses, IsReadable}
use Rattle.vmv_gate.specs.Judged.{IsReadAs, IsFaultOf, refusal, HasNecessary, Inspects, Compares}
use Rattle.vmv_gate.specs.Mentions.{mention_place}

pub read_once : (text : List ℕ) (p q : Resolution) → IsReadAs text p → IsReadAs text q → p ≡ q
read_once text p q h k = resolution_once p q h.1 k.1 (text_once text (tree_of p) (tree_of q) h.0.1 k.0.1)

-- a text that has a program has no fault
pub not_both : (text : List ℕ) (p : Resolution) (why : TextFault) → IsReadAs text p → IsFaultOf text why → ⊥
not_both text p why h k = k.1 (no_fault text (tree_of p) why h.0.0 h.0.1 h.0.2 k.0)

-- what is necessary for a program is one thing
pub necessary_same : (p : Resolution) (s t : Scope) (a b : Assumed) → HasNecessary p s a → HasNecessary p t b → (s ≡ t) × (a ≡ b)
necessary_same p s t a b h k =
    let scopes = one_scope p s t h.scope_is k.scope_is in
    (scopes, necessary_once p s a b h.necessary (subst (λ x. IsNecessary p x b) (sym scopes) k.necessary))

vacuous_both : (p : Resolution) (s t : Scope) (a b : Assumed) → HasNecessary p s a → HasNecessary p t b → IsVacuous p t b → IsVacuous p s a
vacuous_both p s t a b h k vacuous =
    let same = necessary_same p s t a b h k in
    subst (λ x. IsVacuous p x a) (sym same.0) (subst (λ x. IsVacuous p t x) (sym same.1) vacuous)

-- a defect stands at one place
defect_place : (text : List ℕ) (line column line' column' : ℕ) (d e : Defect) → HasDefectAt text line column d → HasDefectAt text line' column' e
    → (line ≡ line') × (column ≡ column')
defect_place text line column line' column' d e h k =
    let program = text_once text h.program k.program h.is_text k.is_text in
    let other : FirstDefect h.program k.mention e = subst (λ p. FirstDefect p k.mention e) (sym program) k.first in
    let up = h.first.first k.mention e other.there in
    let down = other.first h.mention d h.first.there in
    let mention : h.mention ≡ k.mention = omega (arith, up, down) in
    mention_place text h.mention line column line' column' h.place (subst (λ m. HasMention text m line' column') (sym mention) k.place)

-- a text is refused in one way
fault_once : (text : List ℕ) (f g : TextFault) → IsFaultOf text f → IsFaultOf text g → refusal f ≡ refusal g
fault_once text Memory g h k = absurd (h.1 refl)
fault_once text f Memory h k = absurd (k.1 refl)
fault_once text (TooLong found) (TooLong other) h k = refl
fault_once text (TooLong found) (NotUtf8 at) h k = let long = h.0.0 in let short = k.0.0 in absurd (omega (arith, long, short))
fault_once text (TooLong found) (Syntax line column) h k = let long = h.0.0 in let short = k.0.0 in absurd (omega (arith, long, short))
fault_once text (TooLong found) (AtDefect line column d) h k = let long = h.0.0 in let short = k.0.0 in absurd (omega (arith, long, short))
fault_once text (NotUtf8 at) (TooLong found) h k = let long = k.0.0 in let short = h.0.0 in absurd (omega (arith, long, short))
fault_once text (Syntax line column) (TooLong found) h k = let long = k.0.0 in let short = h.0.0 in absurd (omega (arith, long, short))
fault_once text (AtDefect line column d) (TooLong found) h k = let long = k.0.0 in let short = h.0.0 in absurd (omega (arith, long, short))
fault_once text (NotUtf8 at) (NotUtf8 other) h k = refl
fault_once text (NotUtf8 at) (Syntax line column) h k = absurd (not_valid text at k.0.1 h.0.1)
fault_once text (NotUtf8 at) (AtDefect line column d) h k = absurd (not_valid text at k.0.1.is_text.utf8 h.0.1)
fault_once text (Syntax line column) (NotUtf8 at) h k = absurd (not_valid text at h.0.1 k.0.1)
fault_once text (AtDefect line column d) (NotUtf8 at) h k = absurd (not_valid text at h.0.1.is_text.utf8 k.0.1)
fault_once text (Syntax line column) (Syntax line' column') h k =
    let place = has_fault_once text line column line' column' h.0.2 k.0.2 in λ i. Refused 2 (place.0 i) (place.1 i)
fault_once text (Syntax line column) (AtDefect line' column' d) h k = absurd (h.0.2.fault.no_program k.0.1.program k.0.1.is_text.grammar)
fault_once text (AtDefect line column d) (Syntax line' column') h k = absurd (k.0.2.fault.no_program h.0.1.program h.0.1.is_text.grammar)
fault_once text (AtDefect line column d) (AtDefect line' column' e) h k =
    let place = defect_place text line column line' column' d e h.0.1 k.0.1 in λ i. Refused 3 (place.0 i) (place.1 i)

pub inspected_once : (text : List ℕ) (one other : Inspected) → Inspects text one → Inspects text other → one ≡ other
inspected_once text Fine Fine h k = refl
inspected_once text Fine Vacuous h k =
    let same = read_once text h.0 k.0 h.1 k.1 in
    let need : HasNecessary h.0 k.2 k.3 = subst (λ p. HasNecessary p k.2 k.3) (sym same) k.4 in
    let vacuous : IsVacuous h.0 k.2 k.3 = subst (λ p. IsVacuous p k.2 k.3) (sym same) k.5 in
    absurd (h.5 (vacuous_both h.0 h.2 k.2 h.3 k.3 h.4 need vacuous))
inspected_once text Vacuous Fine h k =
    let same = read_once text k.0 h.0 k.1 h.1 in
    let need : HasNecessary k.0 h.2 h.3 = subst (λ p. HasNecessary p h.2 h.3) (sym same) h.4 in
    let vacuous : IsVacuous k.0 h.2 h.3 = subst (λ p. IsVacuous p h.2 h.3) (sym same) h.5 in
    absurd (k.5 (vacuous_both k.0 k.2 h.2 k.3 h.3 k.4 need vacuous))
inspected_once text Vacuous Vacuous h k = refl
inspected_once text Fine (Refused number line column) h k = absurd (not_both text h.0 k.0 h.1 k.1)
inspected_once text Vacuous (Refused number line column) h k = absurd (not_both text h.0 k.0 h.1 k.1)
inspected_once text (Refused number line column) Fine h k = absurd (not_both text k.0 h.0 k.1 h.1)
inspected_once text (Refused number line column) Vacuous h k = absurd (not_both text k.0 h.0 k.1 h.1)
inspected_once text (Refused number line column) (Refused number' line' column') h k = h.2 ∙ (fault_once text h.0 k.0 h.1 k.1 ∙ sym k.2)

-- one verdict and one JSON are told of two programs
abbrev pub AreReportsOne : Type 0
AreReportsOne = (base revision : Resolution) (one other : Report) → IsResolution base → IsReport base revision one → IsReport base revision other
    → (one.verdict ≡ other.verdict) × (report_json one revision ≡ report_json other revision)

pub compared_once : AreReportsOne → (base revision : List ℕ) (one other : Compared) → Compares base revision one → Compares base revision other → one ≡ other
compared_once law base revision (Judged v j) (Judged w k) a b =
    let first = read_once base b.0 a.0 b.2 a.2 in
    let second = read_once revision b.1 a.1 b.3 a.3 in
    let report : IsReport a.0 a.1 b.4 = subst (λ p. IsReport p a.1 b.4) first (subst (λ p. IsReport b.0 p b.4) second b.5) in
    let same = law a.0 a.1 a.4 b.4 a.2.1 a.5 report in
    let verdict : v ≡ w = a.6 ∙ (same.0 ∙ sym b.6) in
    let json : j ≡ k = a.7 ∙ (same.1 ∙ (ap (report_json b.4) (sym second) ∙ sym b.7)) in
    λ i. Judged (verdict i) (json i)
compared_once law base revision (Judged v j) (Unreadable which) a (inl b) = absurd (not_both base a.0 b.1.0 a.2 b.1.1)
compared_once law base revision (Judged v j) (Unreadable which) a (inr b) = absurd (not_both revision a.1 b.2.0 a.3 b.2.1)
compared_once law base revision (Unreadable which) (Judged v j) (inl a) b = absurd (not_both base b.0 a.1.0 b.2 a.1.1)
compared_once law base revision (Unreadable which) (Judged v j) (inr a) b = absurd (not_both revision b.1 a.2.0 b.3 a.2.1)
compared_once law base revision (Unreadable which) (Unreadable other) (inl a) (inl b) = ap Unreadable (a.0 ∙ sym b.0)
compared_once law base revision (Unreadable which) (Unreadable other) (inl a) (inr b) = absurd (not_both base b.1.0 a.1.0 b.1.1 a.1.1)
compared_once law base revision (Unreadable which) (Unreadable other) (inr a) (inl b) = absurd (not_both base a.1.0 b.1.0 a.1.1 b.1.1)
compared_once law base revision (Unreadable which) (Unreadable other) (inr a) (inr b) = ap Unreadable (a.0 ∙ sym b.0)

pub read_utf8 : (text : List ℕ) (said : Inspected) → Inspects text said → IsTrue (parses said) → IsUtf8 text
read_utf8 text Fine h good = h.1.0.1.utf8
read_utf8 text (Refused number line column) h good = absurd (cc good)
read_utf8 text Vacuous h good = h.1.0.1.utf8

parses_read : (text : List ℕ) (said : Inspected) (p : Resolution) → Inspects text said → IsReadAs text p → parses said ≡ true
parses_read text Fine p h read = refl
parses_read text (Refused number line column) p h read = absurd (not_both text p h.0 read h.1)
parses_read text Vacuous p h read = refl

parses_not : (text : List ℕ) (said : Inspected) (why : TextFault) → Inspects text said → IsFaultOf text why → parses said ≡ false
parses_not text Fine why h at = absurd (not_both text h.0 why h.1 at)
parses_not text (Refused number line column) why h at = refl
parses_not text Vacuous why h at = absurd (not_both text h.0 why h.1 at)

-- a comparison is unreadable where a text doesn't parse
pub read_both : (base revision : List ℕ) (first second : Inspected) (said : Compared) → Inspects base first → Inspects revision second → Compares base revision said
    → IsReadable said (parses first) (parses second)
read_both base revision first second (Judged verdict json) h k is = (parses_read base first is.0 h is.2, parses_read revision second is.1 k is.3)
read_both base revision first second (Unreadable which) h k (inl is) = inl (is.0, parses_not base first is.1.0 h is.1.1)
read_both base revision first second (Unreadable which) h k (inr is) = inr (is.0, parses_read base first is.1.0 h is.1.1, parses_not revision second is.2.0 k is.2.1)
