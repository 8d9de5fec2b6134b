-- The entries among the first procedures.
use Rattle.std.proofs.Common.{◌≡◌, ⊎_elim, ℕ, zero, suc, ◌+◌, ◌≤◌, Bool, true, false, Some, List, [], ◌∷◌, ◌++◌, length, map, take, slice_get, refl, sym, ap, subst, ◌∙◌, arith, add-one, length-take}
use Rattle.std.specs.List.{Contains}
use Rattle.std.proofs.lemmas.List.{map-append, take_all, length-map}
use Rattle.std.proofs.lemmas.List.Elements.{Contains-push_cases}
use Rattle.std.proofs.lemmas.Option.{slice_get_within}
use Rattle.vmv_snapshot.specs.Procs.{is_entry}
use Rattle.vmv_snapshot.specs.Resolution.{Resolution, procs_of}
use Rattle.vmv_back.specs.Boxes.{AreBoxes}
use Rattle.vmv_demands.specs.Demands.{AreDemands}
use Rattle.vmv_demands.specs.Ends.{AreEnds}
use Rattle.vmv_need.specs.declared.subject.Subject.{Subject}
use Rattle.vmv_need.specs.declared.subject.Scope.{Scope}
use Rattle.vmv_need.specs.Candidates.{entries_from, IsScopeOf}
use Rattle.vmv_need.specs.Plan.{AreFirst}
use Rattle.vmv_need.proofs.Lists.{none_in}

pub take_at : {A : Type 0} (xs : List A) (n : ℕ) (x : A) → slice_get xs n ≡ Some x → take (suc n) xs ≡ take n xs ++ x ∷ []
take_at [] n x e = absurd (cc)
take_at (y ∷ xs) zero x e = let same : y ≡ x = cc in ap (λ (z : _). z ∷ []) same
take_at (y ∷ xs) (suc n) x e = ap (λ (zs : List _). y ∷ zs) (take_at xs n x e)

pub take_more : {A : Type 0} (xs : List A) (n : ℕ) (x : A) → slice_get xs n ≡ Some x → take (n + 1) xs ≡ take n xs ++ x ∷ []
take_more xs n x e = rw add-one (take_at xs n x e)

pub entries_push : (k : ℕ) (flags : List Bool) → entries_from k (flags ++ true ∷ []) ≡ entries_from k flags ++ (k + length flags) ∷ []
entries_push k [] = ap (λ (n : ℕ). n ∷ []) (omega arith)
entries_push k (true ∷ flags) =
    let e : k + 1 + length flags ≡ k + length (true ∷ flags) = omega arith in
    ap (λ (ns : List ℕ). k ∷ ns) (entries_push (k + 1) flags ∙ ap (λ (n : ℕ). entries_from (k + 1) flags ++ n ∷ []) e)
entries_push k (false ∷ flags) =
    let e : k + 1 + length flags ≡ k + length (false ∷ flags) = omega arith in
    entries_push (k + 1) flags ∙ ap (λ (n : ℕ). entries_from (k + 1) flags ++ n ∷ []) e

pub entries_skip : (k : ℕ) (flags : List Bool) → entries_from k (flags ++ false ∷ []) ≡ entries_from k flags
entries_skip k [] = refl
entries_skip k (true ∷ flags) = ap (λ (ns : List ℕ). k ∷ ns) (entries_skip (k + 1) flags)
entries_skip k (false ∷ flags) = entries_skip (k + 1) flags

few_entries : (k : ℕ) (flags : List Bool) → length (entries_from k flags) ≤ length flags
few_entries k [] = omega arith
few_entries k (true ∷ flags) = omega (arith, few_entries (k + 1) flags)
few_entries k (false ∷ flags) = omega (arith, few_entries (k + 1) flags)

abbrev number_of : Subject → ℕ
number_of s = s.entry.0

pub no_entry : (program : Resolution) → AreFirst program 0 []
no_entry program = record { entries = refl; boxes = λ s there. absurd (none_in s there); demands = λ s there. absurd (none_in s there) }

pub one_entry : (program : Resolution) (n : ℕ) (old new : List Subject) (s : Subject) → AreFirst program n old → new ≡ old ++ s ∷ [] → s.entry.0 ≡ n →
    slice_get (map is_entry (procs_of program)) n ≡ Some true → AreBoxes program n s.boxes → AreDemands program n s.demands → AreFirst program (n + 1) new
one_entry program n old new s first pushed number flag boxes demands =
    let flags : List Bool = map is_entry (procs_of program) in
    let place : length (take n flags) ≡ n = let k = slice_get_within flags n true flag in omega (arith, length-take n flags) in
    let P : List Subject → Type 0 = λ ss. AreFirst program (n + 1) ss in
    subst P (sym pushed) (record {
      entries =
          map-append number_of old (s ∷ []) ∙ (λ i. first.entries i ++ number i ∷ [])
          ∙ (ap (λ (k : ℕ). entries_from 0 (take n flags) ++ k ∷ []) (omega (arith, place)) ∙ sym (entries_push 0 (take n flags)) ∙ ap (entries_from 0) (sym (take_more flags n true flag)));
      boxes = λ t there. ⊎_elim (λ (o : Contains old t). first.boxes t o)
          (λ (e : s ≡ t). subst (λ (u : Subject). AreBoxes program u.entry.0 u.boxes) e (subst (λ (k : ℕ). AreBoxes program k s.boxes) (sym number) boxes)) (Contains-push_cases old s t there);
      demands = λ t there. ⊎_elim (λ (o : Contains old t). first.demands t o)
          (λ (e : s ≡ t). subst (λ (u : Subject). AreDemands program u.entry.0 u.demands) e (subst (λ (k : ℕ). AreDemands program k s.demands) (sym number) demands)) (Contains-push_cases old s t there);
    })

pub one_helper : (program : Resolution) (n : ℕ) (subjects : List Subject) → AreFirst program n subjects → slice_get (map is_entry (procs_of program)) n ≡ Some false → AreFirst program (n + 1) subjects
one_helper program n subjects first flag =
    let flags : List Bool = map is_entry (procs_of program) in
    record {
      entries = first.entries ∙ (sym (entries_skip 0 (take n flags)) ∙ ap (entries_from 0) (sym (take_more flags n false flag)));
      boxes = first.boxes;
      demands = first.demands;
    }

pub all_flags : (program : Resolution) → take (length (procs_of program)) (map is_entry (procs_of program)) ≡ map is_entry (procs_of program)
all_flags program =
    let same = length-map (procs_of program) is_entry in
    take_all (length (procs_of program)) (map is_entry (procs_of program)) (omega (arith, same))

pub all_entries : (program : Resolution) (scope : Scope) → AreEnds program scope.ends → AreFirst program (length (procs_of program)) scope.subjects → IsScopeOf program scope
all_entries program scope ends first = record {
  ends = ends;
  entries = first.entries ∙ ap (entries_from 0) (all_flags program);
  boxes = first.boxes;
  demands = first.demands;
}

-- no more entries than procedures
pub few_subjects : (program : Resolution) (subjects : List Subject) → AreFirst program (length (procs_of program)) subjects → length subjects ≤ length (procs_of program)
few_subjects program subjects first =
    let one = length-map subjects number_of in
    let two = ap length (first.entries ∙ ap (entries_from 0) (all_flags program)) in
    let three = few_entries 0 (map is_entry (procs_of program)) in
    let four = length-map (procs_of program) is_entry in
    omega (arith, one, two, three, four)

pub all_of_them : (program : Resolution) (n : ℕ) (subjects : List Subject) → n ≡ length (procs_of program) → AreFirst program n subjects → AreFirst program (length (procs_of program)) subjects
all_of_them program n subjects e first = subst (λ (k : ℕ). AreFirst program k subjects) e first
