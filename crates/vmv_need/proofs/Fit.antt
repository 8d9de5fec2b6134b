-- Each candidate and each place is of an entry and one of its boxes, and each candidate's name is an outside name.
use Rattle.std.proofs.Common.{◌≡◌, ⊎_elim, ℕ, zero, suc, ◌+◌, ◌*◌, ◌^◌, ◌-◌, ◌<◌, ◌≤◌, pos, negsuc, int_lt, ◌&&◌, Bool, true, false, Some, List, [], ◌∷◌, ◌++◌, length, map, slice_get, refl, sym, ap, subst, ◌∙◌, arith, length-append}
use Rattle.std.specs.List.{Contains, flat_map}
use Rattle.std.proofs.lemmas.List.{length-map}
use Rattle.std.proofs.lemmas.List.Elements.{Contains-append_cases}
use Rattle.vmv_tree.specs.declared.name.Name.{Name}
use Rattle.vmv_tree.specs.declared.tree.Param.{Param}
use Rattle.vmv_tree.specs.Tree.{Body, Item, outside, helper, entry}
use Rattle.vmv_cond.specs.declared.cond.Cond.{Cond}
use Rattle.vmv_cond.specs.declared.cond.Piece.{Piece}
use Rattle.vmv_cond.specs.declared.cond.Piece.TheVariants.{Below, Above, Zero}
use Rattle.vmv_snapshot.specs.declared.code.ProcId.{ProcId}
use Rattle.vmv_snapshot.specs.View.{code_of}
use Rattle.vmv_snapshot.specs.Procs.{outsides, params_of, is_entry}
use Rattle.vmv_snapshot.specs.Resolution.{Resolution, IsResolution, tree_of, procs_of}
use Rattle.vmv_cert.specs.Tables.{Box, IsBoxIn}
use Rattle.vmv_demands.specs.declared.demand.Demand.{Demand}
use Rattle.vmv_need.specs.declared.subject.Subject.{Subject}
use Rattle.vmv_need.specs.declared.subject.Scope.{Scope}
use Rattle.vmv_need.specs.declared.candidate.Candidate.{Candidate}
use Rattle.vmv_need.specs.Candidates.{only, pieces_of, entries_from, IsScopeOf, of_demand, of_box, of_subject, candidates_of, places_in, places_of}
use Rattle.vmv_need.specs.Plan.{IsEntryWithin}
use Rattle.vmv_need.proofs.Lists.{none_in, first_in, later_in, first_or_later}
use Rattle.vmv_back.proofs.Boxed.{boxes_fit, few_boxes}
use Rattle.vmv_need.proofs.TableLaws.{demands_are_few, demands_are_of_outsides}

in_map : {A B : Type 0} (f : A → B) (xs : List A) (y : B) → Contains (map f xs) y → (x : A) × Contains xs x × (f x ≡ y)
in_map f [] y there = absurd (none_in y there)
in_map f (x ∷ xs) y there =
    ⊎_elim (λ (e : f x ≡ y). (x, first_in x xs, e)) (λ (later : Contains (map f xs) y). let more = in_map f xs y later in (more.0, later_in x xs more.0 more.1, more.2))
    (first_or_later (f x) (map f xs) y there)

to_map : {A B : Type 0} (f : A → B) (xs : List A) (x : A) → Contains xs x → Contains (map f xs) (f x)
to_map f [] x there = absurd (none_in x there)
to_map f (y ∷ xs) x there =
    ⊎_elim (λ (e : y ≡ x). subst (Contains (map f (y ∷ xs))) (ap f e) (first_in (f y) (map f xs))) (λ (later : Contains xs x). later_in (f y) (map f xs) (f x) (to_map f xs x later))
    (first_or_later y xs x there)

in_flat_map : {A B : Type 0} (f : A → List B) (xs : List A) (y : B) → Contains (flat_map f xs) y → (x : A) × Contains xs x × Contains (f x) y
in_flat_map f [] y there = absurd (none_in y there)
in_flat_map f (x ∷ xs) y there =
    ⊎_elim (λ (here : Contains (f x) y). (x, first_in x xs, here))
    (λ (later : Contains (flat_map f xs) y). let more = in_flat_map f xs y later in (more.0, later_in x xs more.0 more.1, more.2))
    (Contains-append_cases (f x) (flat_map f xs) y there)

-- a flat list is no longer than so many times the longest part
few_flat : {A B : Type 0} (f : A → List B) (most : ℕ) (xs : List A) → ((x : A) → Contains xs x → length (f x) ≤ most) → length (flat_map f xs) ≤ length xs * most
few_flat f most [] each = omega arith
few_flat f most (x ∷ xs) each =
    let joined = length-append (f x) (flat_map f xs) in
    let here = each x (first_in x xs) in
    let rest = few_flat f most xs (λ y there. each y (later_in x xs y there)) in
    grind arith

entry_true : (k : ℕ) (flags : List Bool) (n : ℕ) → Contains (entries_from k flags) n → (j : ℕ) × (n ≡ k + j) × (slice_get flags j ≡ Some true)
entry_true k [] n there = absurd (none_in n there)
entry_true k (true ∷ flags) n there =
    ⊎_elim (λ (e : k ≡ n). (0, omega (arith, e), refl))
    (λ (later : Contains (entries_from (k + 1) flags) n). let more = entry_true (k + 1) flags n later in (suc more.0, omega (arith, more.1), more.2))
    (first_or_later k (entries_from (k + 1) flags) n there)
entry_true k (false ∷ flags) n there = let more = entry_true (k + 1) flags n there in (suc more.0, omega (arith, more.1), more.2)

entry_at : (items : List Item) (n : ℕ) → slice_get (map is_entry items) n ≡ Some true →
    (name : Name) × (params : List Param) × (body : Body) × (slice_get items n ≡ Some (entry name params body)) × (slice_get (map params_of items) n ≡ Some params)
entry_at [] n e = absurd (cc)
entry_at (outside f arity ∷ items) zero e = absurd (cc)
entry_at (helper f params body ∷ items) zero e = absurd (cc)
entry_at (entry f params body ∷ items) zero e = (f, params, body, refl, refl)
entry_at (item ∷ items) (suc n) e = entry_at items n e

module _ (program : Resolution) (scope : Scope) (is : IsScopeOf program scope) where
  pub subject_is_entry : (s : Subject) → Contains scope.subjects s → slice_get (map is_entry (procs_of program)) s.entry.0 ≡ Some true
  subject_is_entry s there =
      let P : List ℕ → Type 0 = λ ns. Contains ns s.entry.0 in
      let found = entry_true 0 (map is_entry (procs_of program)) s.entry.0 (subst P is.entries (to_map (λ (t : Subject). t.entry.0) scope.subjects s there)) in
      let same : found.0 ≡ s.entry.0 = omega (arith, found.1) in
      ap (slice_get (map is_entry (procs_of program))) (sym same) ∙ found.2

  pub box_fits : (s : Subject) (box : Box) → Contains scope.subjects s → Contains s.boxes box → IsEntryWithin program s.entry.0 box
  box_fits s box there within =
      let at = entry_at (procs_of program) s.entry.0 (subject_is_entry s there) in
      let boxes = is.boxes s there in
      let same : boxes.params ≡ at.1 = some_same (sym boxes.takes ∙ at.4) in
      let inside = boxes_fit boxes.params (code_of boxes.code) box (subst (λ (bs : List Box). Contains bs box) boxes.boxes_are within) in
      (at.1, (at.0, at.2, at.3), subst (λ (ps : List Param). IsBoxIn ps box) same inside)
    where
      some_same : {A : Type 0} {x y : A} → Some x ≡ Some y → x ≡ y
      some_same e = cc

  pub place_fits : (place : ProcId × Box) → Contains (places_of scope) place → IsEntryWithin program place.0.0 place.1
  place_fits place there =
      let s = in_flat_map places_in scope.subjects place there in
      let box = in_map (λ (b : Box). (s.0.entry, b)) s.0.boxes place s.2 in
      let P : ProcId × Box → Type 0 = λ p. IsEntryWithin program p.0.0 p.1 in
      subst P box.2 (box_fits s.0 box.0 s.1 box.1)

  abbrev IsFit : Candidate → Type 0
  IsFit c = IsEntryWithin program c.entry.0 c.within × Contains (outsides (tree_of program)) c.name

  pub candidate_fits : IsResolution program → (c : Candidate) → Contains (candidates_of scope) c → IsFit c
  candidate_fits resolution c there =
      let s = in_flat_map of_subject scope.subjects c there in
      let box = in_flat_map (of_box s.0.entry s.0.demands) s.0.boxes c s.2 in
      let d = in_flat_map (of_demand s.0.entry box.0) s.0.demands c box.2 in
      let make : Piece → Candidate = λ piece. record { entry = s.0.entry; within = box.0; name = d.0.name; piece = piece } in
      let piece = in_map make (pieces_of d.0.cond) c d.2 in
      subst IsFit piece.2 (box_fits s.0 box.0 s.1 box.1, demands_are_of_outsides program s.0.entry.0 s.0.demands resolution (is.demands s.0 s.1) d.0 d.1)

  few_pieces : (c : Cond) → length (pieces_of c) ≤ 3
  few_pieces c =
      three (int_lt (negsuc (2 ^ 63 - 1)) c.lo) (int_lt c.hi (pos (2 ^ 63 - 1))) (c.zero_out && (int_lt c.lo (pos 0) && int_lt (pos 0) c.hi)) (Below c.lo) (Above c.hi) Zero
    where
      three : (x y z : Bool) (p q r : Piece) → length (only x p ++ (only y q ++ only z r)) ≤ 3
      three true true true p q r = omega arith
      three true true false p q r = omega arith
      three true false true p q r = omega arith
      three true false false p q r = omega arith
      three false true true p q r = omega arith
      three false true false p q r = omega arith
      three false false true p q r = omega arith
      three false false false p q r = omega arith

  few_of_box : (s : Subject) (box : Box) → Contains scope.subjects s → length (of_box s.entry s.demands box) ≤ 96
  few_of_box s box there =
      let few = demands_are_few program s.entry.0 s.demands (is.demands s there) in
      let all = few_flat (of_demand s.entry box) 3 s.demands (λ d h. of_one d) in
      omega (arith, few, all)
    where
      of_one : (d : Demand) → length (of_demand s.entry box d) ≤ 3
      of_one d =
          let make : Piece → Candidate = λ piece. record { entry = s.entry; within = box; name = d.name; piece = piece } in
          let same = length-map (pieces_of d.cond) make in
          let few = few_pieces d.cond in
          omega (arith, same, few)

  few_of_subject : (s : Subject) → Contains scope.subjects s → length (of_subject s) ≤ 1536
  few_of_subject s there =
      let boxes = is.boxes s there in
      let few = few_boxes boxes.params (code_of boxes.code) in
      let same = ap length boxes.boxes_are in
      let all = few_flat (of_box s.entry s.demands) 96 s.boxes (λ box h. few_of_box s box there) in
      omega (arith, few, same, all)

  pub few_candidates : length scope.subjects < 2 ^ 16 → length (candidates_of scope) < 2 ^ 32
  few_candidates few =
      let all = few_flat of_subject 1536 scope.subjects few_of_subject in
      omega (arith, few, all)
