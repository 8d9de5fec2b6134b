-- One scope is looked at in a program.
use Rattle.std.proofs.Common.{◌≡◌, ℕ, Some, List, [], ◌∷◌, map, refl, sym, subst, ◌∙◌}
use Rattle.std.specs.List.{Contains}
use Rattle.vmv_snapshot.specs.View.{code_of}
use Rattle.vmv_snapshot.specs.Resolution.{Resolution}
use Rattle.vmv_cert.specs.Tables.{Box}
use Rattle.vmv_back.specs.Boxes.{boxes_of, AreBoxes}
use Rattle.vmv_demands.specs.Demands.{first_wanted, AreDemands}
use Rattle.vmv_demands.proofs.Names.{same_demands}
use Rattle.vmv_need.specs.declared.subject.Subject.{Subject}
use Rattle.vmv_need.specs.declared.subject.Scope.{Scope}
use Rattle.vmv_need.specs.Candidates.{IsScopeOf}
use Rattle.vmv_need.proofs.Lists.{first_in, later_in}

some_same : {A : Type 0} {x y : A} → Some x ≡ Some y → x ≡ y
some_same e = cc

-- a procedure has one list of boxes
same_boxes : (program : Resolution) (n : ℕ) (one other : List Box) → AreBoxes program n one → AreBoxes program n other → one ≡ other
same_boxes program n one other a b =
    let params : a.params ≡ b.params = some_same (sym a.takes ∙ b.takes) in
    let code : a.code ≡ b.code = some_same (sym a.does ∙ b.does) in
    a.boxes_are ∙ (λ i. boxes_of (params i) (code_of (code i))) ∙ sym b.boxes_are

abbrev number_of : Subject → ℕ
number_of s = s.entry.0

-- its boxes and demands are those of its number
abbrev IsTrueOf : Resolution → Subject → Type 0
IsTrueOf program s = AreBoxes program s.entry.0 s.boxes × AreDemands program s.entry.0 s.demands

same_subject : (program : Resolution) (s t : Subject) → s.entry.0 ≡ t.entry.0 → IsTrueOf program s → IsTrueOf program t → s ≡ t
same_subject program s t e a b =
    let boxes = same_boxes program t.entry.0 s.boxes t.boxes (subst (λ (n : ℕ). AreBoxes program n s.boxes) e a.0) b.0 in
    let demands = same_demands (first_wanted program t.entry.0) s.demands t.demands (subst (λ (n : ℕ). AreDemands program n s.demands) e a.1) b.1 in
    λ i. record { entry = record { 0 = e i }; boxes = boxes i; demands = demands i }

same_subjects : (program : Resolution) (xs ys : List Subject) → map number_of xs ≡ map number_of ys → ((s : Subject) → Contains xs s → IsTrueOf program s) → ((s : Subject) → Contains ys s → IsTrueOf program s) → xs ≡ ys
same_subjects program [] [] e a b = refl
same_subjects program [] (y ∷ ys) e a b = absurd (cc)
same_subjects program (x ∷ xs) [] e a b = absurd (cc)
same_subjects program (x ∷ xs) (y ∷ ys) e a b =
    let first : number_of x ≡ number_of y = cc in
    let rest : map number_of xs ≡ map number_of ys = cc in
    let one = same_subject program x y first (a x (first_in x xs)) (b y (first_in y ys)) in
    let more = same_subjects program xs ys rest (λ s there. a s (later_in x xs s there)) (λ s there. b s (later_in y ys s there)) in
    λ i. one i ∷ more i

pub one_scope : (program : Resolution) (one other : Scope) → IsScopeOf program one → IsScopeOf program other → one ≡ other
one_scope program one other a b =
    let subjects = same_subjects program one.subjects other.subjects (a.entries ∙ sym b.entries) (λ s there. (a.boxes s there, a.demands s there)) (λ s there. (b.boxes s there, b.demands s there)) in
    let ends = a.ends ∙ sym b.ends in
    λ i. record { ends = ends i; subjects = subjects i }
