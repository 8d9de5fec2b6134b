-- Bounds and marks are put into a state one by one.
use Rattle.std.proofs.Common.{◌≡◌, ◌⊎◌, inl, inr, ℕ, zero, suc, ◌+◌, ◌<◌, ◌≤◌, Bool, true, false, List, [], ◌∷◌, ◌++◌, length, refl, sym, ap, ◌∙◌, subst, arith, cond, IsTrue}
use Rattle.std.specs.Bool.{IsFalse}
use Rattle.std.specs.List.{flat_map}
use Rattle.std.proofs.lemmas.Bool.{cases_lt, cases_Bool}
use Rattle.std.proofs.lemmas.List.{append-nil}
use Rattle.vmv_zone.specs.declared.zone.Zone.{Zone}
use Rattle.vmv_zone.specs.Zone.{vars_of, bound_of, mark_of, IsMarked, NotBottom, ChangesBound, AddsMark, IsTop}
use Rattle.vmv_proof_words.specs.Words.{Word}
use Rattle.std.proofs.Common.{ℤ, FitsSigned, to_z, of_z}
use Rattle.std.proofs.lemmas.Int.{ints, to_z-of_z}
use Rattle.std.specs.Int.{w128}
use Rattle.std.specs.Bool.{OnTrue, OnFalse}
use Rattle.vmv_proof_words.specs.Taking.{IsNaturalWord, IsBetween}
use Rattle.vmv_proof_text.specs.States.{Bound, marked_thing, marked_things, marked_variables}
use Rattle.vmv_proof_line.specs.StateWords.{IsNext, IsNextMark, place_of, bound_triple, mark_word, AreBounds, AreMarks, AreTaken, LastMarks, counted}
use Rattle.vmv_proof_line.proofs.Climbing.{front, whole, AreRead, none_read, one_more, no_next, same_number, up_to_last, all_left}
use Rattle.vmv_proof_line.proofs.StateNaming.{HasBounds, top_has_none, bounds_more, named, up, bounds_few, marks_few, bound_told_once, mark_told_once}

-- bounds are read, and the state has them
pub record BoundsRead (before : Zone) (first : List Word) (n : ℕ) (words : List Word) (zone : Zone) (last : ℕ) : Type 0 where
  pub read : List Bound
  pub are : AreRead (IsNext (vars_of before)) place_of bound_triple 0 first n words last read
  pub has : HasBounds zone read
  pub vars : vars_of zone ≡ vars_of before
  pub bottom : NotBottom zone
  pub marks : (p : ℕ) → mark_of zone p ≡ mark_of before p

pub bounds_begun : (z : Zone) (first : List Word) → IsTop z → BoundsRead z first 0 first z 0
bounds_begun z first t = record { read = []; are = none_read (IsNext (vars_of z)) place_of bound_triple 0 first; has = top_has_none z t; vars = refl; bottom = t.not_bottom; marks = λ p. refl }

pub bounds_step : (before zone next : Zone) (first old new : List Word) (n last vars : ℕ) (b : Bound) → BoundsRead before first n old zone last → vars ≡ vars_of zone → IsNext vars last b → old ≡ bound_triple b ++ new
    → ChangesBound zone next b.0 b.1 b.2 → BoundsRead before first (n + 1) new next (place_of b)
bounds_step before zone next first old new n last vars b r v h e ch = record {
  read = r.read ++ b ∷ [];
  are = one_more (IsNext (vars_of before)) place_of bound_triple 0 first old new n last r.read b r.are (subst (λ k. IsNext k last b) (v ∙ r.vars) h) e;
  has =
      bounds_more zone next r.read last b r.has (subst (λ k. IsNext k last b) v h)
      (λ c k. omega (arith, r.are.latest, up_to_last (IsNext (vars_of before)) place_of (up (vars_of before)) 0 r.read c r.are.climb k)) ch;
  vars = ch.vars ∙ r.vars;
  bottom = ch.bottom ∙ r.bottom;
  marks = λ p. ch.marks p ∙ r.marks p;
}

pub bounds_stop : (before zone : Zone) (begin first words : List Word) (w : Word) (n count last vars : ℕ) → vars_of before ≤ 16 → IsNaturalWord 64 count w → begin ≡ w ∷ first → BoundsRead before first n words zone last → n < count
    → vars ≡ vars_of zone → ((b : Bound) (rest : List Word) → IsNext vars last b → words ≡ bound_triple b ++ rest → ⊥)
    → (bounds : List Bound) (rest : List Word) → AreBounds (vars_of before) bounds → begin ≡ counted bound_triple bounds ++ rest → ⊥
bounds_stop before zone begin first words w n count last vars small h e r less v none bounds rest c f =
    let s = same_number begin first (flat_map bound_triple bounds ++ rest) w count (length bounds) h e (omega (arith, bounds_few (vars_of before) bounds small c)) f in
    no_next (IsNext (vars_of before)) place_of bound_triple (bound_told_once (vars_of before) small) 0 first words n count last r.read r.are
    (λ b more k. none b more (subst (λ i. IsNext i last b) (sym (v ∙ r.vars)) k)) less bounds rest c s.0 s.1

pub bounds_done : (before zone : Zone) (begin first words : List Word) (w : Word) (n count last : ℕ) → vars_of before ≤ 16 → IsNaturalWord 64 count w → begin ≡ w ∷ first → BoundsRead before first n words zone last → n ≡ count
    → AreTaken begin words before zone
bounds_done before zone begin first words w n count last small h e r s = record {
  bounds = r.read;
  words = front bound_triple r.read begin first words w count h.1 (r.are.count ∙ s) e r.are.place;
  naming = named zone (vars_of before) r.read small r.are.climb r.has;
  vars = r.vars;
  bottom = r.bottom;
  marks = r.marks;
}

pub thing_marked : (z : Zone) (i : ℕ) → IsMarked z i → marked_thing z i ≡ i ∷ []
thing_marked z i h = ap (λ b. cond b (i ∷ []) []) h

pub thing_unmarked : (z : Zone) (i : ℕ) → mark_of z i ≡ false → marked_thing z i ≡ []
thing_unmarked z i h = ap (λ b. cond b (i ∷ []) []) h

same_marks : (a b : Zone) (n : ℕ) → ((i : ℕ) → i ≤ n → mark_of a i ≡ mark_of b i) → marked_things a n ≡ marked_things b n
same_marks a b zero h = refl
same_marks a b (suc n) h =
    let front = same_marks a b n (λ i k. h i (omega (arith, k))) in
    let back : marked_thing a (n + 1) ≡ marked_thing b (n + 1) = ap (λ t. cond t ((n + 1) ∷ []) []) (h (n + 1) (omega arith)) in
    λ i. front i ++ back i

no_mark : (z : Zone) (i : ℕ) → (IsMarked z i → ⊥) → mark_of z i ≡ false
no_mark z i h = by (cases_Bool (mark_of z i))
  where
    by : (mark_of z i ≡ true) ⊎ (mark_of z i ≡ false) → mark_of z i ≡ false
    by (inl t) = absurd (h t)
    by (inr f) = f

none_between : (z : Zone) (last k : ℕ) → last ≤ k → ((i : ℕ) → last < i → IsMarked z i → ⊥) → marked_things z k ≡ marked_things z last
none_between z last zero h none = let e : 0 ≡ last = omega (arith, h) in ap (marked_things z) e
none_between z last (suc k) h none = by (cases_lt k last) (none_between z last k)
  where
    by : (k < last) ⊎ (last ≤ k) → (last ≤ k → ((i : ℕ) → last < i → IsMarked z i → ⊥) → marked_things z k ≡ marked_things z last) → marked_things z (suc k) ≡ marked_things z last
    by (inl less) rest = let e : suc k ≡ last = omega (arith, less, h) in ap (marked_things z) e
    by (inr most) rest =
        ap (λ t. marked_things z k ++ t) (thing_unmarked z (k + 1) (no_mark z (k + 1) (none (k + 1) (omega (arith, most)))))
        ∙ (append-nil (marked_things z k) ∙ rest most none)

one_mark_more : (old new : Zone) (last m : ℕ) (read : List ℕ) → marked_things old last ≡ read → ((i : ℕ) → last < i → IsMarked old i → ⊥) → last < m → AddsMark old new m → marked_things new m ≡ read ++ m ∷ []
one_mark_more old new last zero read e none less a = absurd (omega (arith, less))
one_mark_more old new last (suc k) read e none less a =
    let next : k + 1 ≡ suc k = omega arith in
    let front = same_marks new old k (λ i h. a.others i (λ f. omega (arith, f, h))) ∙ (none_between old last k (omega (arith, less)) none ∙ e) in
    let back : marked_thing new (k + 1) ≡ suc k ∷ [] = ap (marked_thing new) next ∙ thing_marked new (suc k) a.marked in
    λ i. front i ++ back i

-- marks are read, and the state has them
pub record MarksRead (before : Zone) (first : List Word) (n : ℕ) (words : List Word) (zone : Zone) (last : ℕ) : Type 0 where
  pub read : List ℕ
  pub are : AreRead (IsNextMark (vars_of before)) (λ m. m) mark_word 0 first n words last read
  pub marked : marked_things zone last ≡ read
  pub above : (i : ℕ) → last < i → IsMarked zone i → ⊥
  pub within : last ≤ vars_of before
  pub vars : vars_of zone ≡ vars_of before
  pub bottom : NotBottom zone
  pub bounds : (i j : ℕ) → bound_of zone i j ≡ bound_of before i j

pub marks_begun : (z : Zone) (first : List Word) → NotBottom z → ((i : ℕ) → IsMarked z i → ⊥) → MarksRead z first 0 first z 0
marks_begun z first h none = record {
  read = [];
  are = none_read (IsNextMark (vars_of z)) (λ m. m) mark_word 0 first;
  marked = refl;
  above = λ i k. none i;
  within = omega arith;
  vars = refl;
  bottom = h;
  bounds = λ i j. refl;
}

pub marks_step : (before zone next : Zone) (first old new : List Word) (n last vars m : ℕ) → MarksRead before first n old zone last → vars ≡ vars_of zone → IsNextMark vars last m → old ≡ mark_word m ++ new
    → AddsMark zone next m → MarksRead before first (n + 1) new next m
marks_step before zone next first old new n last vars m r v h e a = record {
  read = r.read ++ m ∷ [];
  are = one_more (IsNextMark (vars_of before)) (λ k. k) mark_word 0 first old new n last r.read m r.are (subst (λ k. IsNextMark k last m) (v ∙ r.vars) h) e;
  marked = one_mark_more zone next last m r.read r.marked r.above h.0 a;
  above = λ i k t. r.above i (omega (arith, k, h.0)) (sym (a.others i (λ f. omega (arith, f, k))) ∙ t);
  within = omega (arith, h.1, v, r.vars);
  vars = a.vars ∙ r.vars;
  bottom = a.bottom ∙ r.bottom;
  bounds = λ i j. a.bounds i j ∙ r.bounds i j;
}

pub marks_stop : (before zone : Zone) (begin first words : List Word) (w : Word) (n count last vars : ℕ) → vars_of before ≤ 16 → IsNaturalWord 64 count w → begin ≡ w ∷ first → MarksRead before first n words zone last → n < count
    → vars ≡ vars_of zone → ((m : ℕ) (rest : List Word) → IsNextMark vars last m → words ≡ mark_word m ++ rest → ⊥) → (marks : List ℕ) → AreMarks (vars_of before) marks → begin ≡ counted mark_word marks → ⊥
marks_stop before zone begin first words w n count last vars small h e r less v none marks c f =
    let s = same_number begin first (flat_map mark_word marks ++ []) w count (length marks) h e (omega (arith, marks_few (vars_of before) marks small c)) (whole mark_word marks begin f) in
    no_next (IsNextMark (vars_of before)) (λ m. m) mark_word (mark_told_once (vars_of before) small) 0 first words n count last r.read r.are
    (λ m more k. none m more (subst (λ i. IsNextMark i last m) (sym (v ∙ r.vars)) k)) less marks [] c s.0 s.1

pub marks_done : (before zone : Zone) (begin first words : List Word) (w : Word) (n count last : ℕ) → IsNaturalWord 64 count w → begin ≡ w ∷ first → MarksRead before first n words zone last → n ≡ count → words ≡ []
    → LastMarks begin before zone
marks_done before zone begin first words w n count last h e r s f =
    let all : marked_variables zone ≡ r.read = none_between zone last (vars_of zone) (omega (arith, r.within, r.vars)) r.above ∙ r.marked in
    record {
      same =
          front mark_word r.read begin first words w count h.1 (r.are.count ∙ s) e r.are.place
          ∙ (ap (λ t. counted mark_word r.read ++ t) f ∙ (append-nil (counted mark_word r.read) ∙ ap (counted mark_word) (sym all)));
      vars = r.vars;
      bottom = r.bottom;
      bounds = r.bounds;
    }

-- words are left behind the marks
pub marks_go_on : (before zone : Zone) (begin first words : List Word) (w : Word) (n count last : ℕ) → vars_of before ≤ 16 → IsNaturalWord 64 count w → begin ≡ w ∷ first → MarksRead before first n words zone last → n ≡ count
    → (words ≡ [] → ⊥) → (marks : List ℕ) → AreMarks (vars_of before) marks → begin ≡ counted mark_word marks → ⊥
marks_go_on before zone begin first words w n count last small h e r s some marks c f =
    let t = same_number begin first (flat_map mark_word marks ++ []) w count (length marks) h e (omega (arith, marks_few (vars_of before) marks small c)) (whole mark_word marks begin f) in
    some (all_left (IsNextMark (vars_of before)) (λ m. m) mark_word (mark_told_once (vars_of before) small) 0 r.read marks words [] r.are.climb c (r.are.count ∙ (s ∙ sym t.0)) (sym r.are.place ∙ t.1))

-- a bound is as its words keep it
pub kept_bound : (z : ℤ) → IsBetween z → to_z w128 (of_z w128 z) ≡ z
kept_bound z h = to_z-of_z w128 z (fits z h)
  where
    fits : (z : ℤ) → IsBetween z → FitsSigned w128 z
    fits z h = grind (arith, ints, h.low, h.high)

pub on_true : {P : Type 0} (b : Bool) → (IsTrue b → P) → OnTrue b P
on_true true h = h refl
on_true false h = tt

pub on_false : {P : Type 0} (b : Bool) → (IsFalse b → P) → OnFalse b P
on_false true h = tt
on_false false h = h refl
