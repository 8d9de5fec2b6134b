-- Where a name is held, and what its condition is then.
use Rattle.std.proofs.Common.{◌≡◌, ◌≢◌, ⊎_elim, ℕ, zero, suc, ◌<◌, Bool, true, false, if◌then◌else◌, Some, None, List, [], ◌∷◌, length, map, get_or, set, slice_get, refl, sym, ap, subst, ◌∙◌, arith}
use Rattle.std.specs.List.{Contains, position}
use Rattle.std.specs.Str.{bytes_eq}
use Rattle.std.proofs.lemmas.List.Quantifiers.{position-Some}
use Rattle.vmv_tree.specs.declared.name.Name.{Name}
use Rattle.vmv_cond.specs.declared.cond.Cond.{Cond}
use Rattle.vmv_snapshot.proofs.Lookups.{position_none}
use Rattle.vmv_snapshot.proofs.Named.{first_or_further}
use Rattle.vmv_assumption.specs.Whole.{whole}
use Rattle.vmv_assumption.specs.Assumed.{names_of, is_for, cond_of}
use Rattle.vmv_assumption.specs.Change.{IsSet}
use Rattle.vmv_assumption.proofs.Names.{same_bytes, bytes_same, other_bytes}

abbrev Held : Type 0
Held = List (Name × Cond)

pick_true : {A : Type 0} (b : Bool) (x y : A) → b ≡ true → (if b then x else y) ≡ x
pick_true true x y e = refl
pick_true false x y e = absurd (cc)

pick_false : {A : Type 0} (b : Bool) (x y : A) → b ≡ false → (if b then x else y) ≡ y
pick_false true x y e = absurd (cc)
pick_false false x y e = refl

pick_same : {A : Type 0} (b : Bool) (x y z : A) → x ≡ z → y ≡ z → (if b then x else y) ≡ z
pick_same true x y z e f = e
pick_same false x y z e f = f

-- the first pair that is for the name has its condition
first_cond : (held : Held) (name : Name) (i : ℕ) (d : Name × Cond) → i < length held → is_for name (get_or held i d) ≡ true →
    ((k : ℕ) → k < i → is_for name (get_or held k d) ≡ false) → cond_of held name ≡ (get_or held i d).1
first_cond [] name i d h e before = absurd (omega (arith, h))
first_cond (p ∷ held) name zero d h e before = pick_true (is_for name p) p.1 (cond_of held name) e
first_cond (p ∷ held) name (suc i) d h e before =
    pick_false (is_for name p) p.1 (cond_of held name) (before 0 (omega arith)) ∙ first_cond held name i d (omega (arith, h)) e (λ k g. before (suc k) (omega (arith, g)))

present : (held : Held) (name : Name) (i : ℕ) (d : Name × Cond) → i < length held → is_for name (get_or held i d) ≡ true → Contains (names_of held) name
present [] name i d h e = absurd (omega (arith, h))
present (p ∷ held) name zero d h e = (0, omega arith, same_bytes p.0 name e)
present (p ∷ held) name (suc i) d h e = let c = present held name i d (omega (arith, h)) e in (suc c.0, omega (arith, c.1), c.2)

-- no pair is for the name
abbrev IsAbsent : Held → Name → Type 0
IsAbsent held name = (n : ℕ) (p : Name × Cond) → slice_get held n ≡ Some p → is_for name p ≡ false

absent_cond : (held : Held) (name : Name) → IsAbsent held name → cond_of held name ≡ whole
absent_cond [] name none = refl
absent_cond (p ∷ held) name none =
    pick_false (is_for name p) p.1 (cond_of held name) (none 0 p refl) ∙ absent_cond held name (λ n q e. none (suc n) q e)

absent_name : (held : Held) (name : Name) → IsAbsent held name → Contains (names_of held) name → ⊥
absent_name [] name none (k, h, e) = absurd (omega (arith, h))
absent_name (p ∷ held) name none c =
    ⊎_elim (λ (e : p.0 ≡ name). absurd (let t = bytes_same p.0 name e in let f = none 0 p refl in cc))
    (λ (g : Contains (names_of held) name). absent_name held name (λ n q e. none (suc n) q e) g)
    (first_or_further p.0 (names_of held) name c)

set_there : (held : Held) (f : Name) (i : ℕ) (d : Name × Cond) (c : Cond) → i < length held →
    ((k : ℕ) → k < i → is_for f (get_or held k d) ≡ false) → cond_of (set held i (f, c)) f ≡ c
set_there [] f i d c h before = absurd (omega (arith, h))
set_there (p ∷ held) f zero d c h before = pick_true (bytes_eq f f) c (cond_of held f) (bytes_same f f refl)
set_there (p ∷ held) f (suc i) d c h before =
    pick_false (is_for f p) p.1 (cond_of (set held i (f, c)) f) (before 0 (omega arith)) ∙ set_there held f i d c (omega (arith, h)) (λ k g. before (suc k) (omega (arith, g)))

set_elsewhere : (held : Held) (f : Name) (i : ℕ) (d : Name × Cond) (c : Cond) (name : Name) → i < length held → is_for f (get_or held i d) ≡ true → name ≢ f →
    cond_of (set held i (f, c)) name ≡ cond_of held name
set_elsewhere [] f i d c name h e other = absurd (omega (arith, h))
set_elsewhere (p ∷ held) f zero d c name h e other =
    let off : (q : Name) → q ≡ f → bytes_eq q name ≡ false = λ q s. other_bytes q name (λ t. other (sym t ∙ s)) in
    pick_false (bytes_eq f name) c (cond_of held name) (off f refl) ∙ sym (pick_false (is_for name p) p.1 (cond_of held name) (off p.0 (same_bytes p.0 f e)))
set_elsewhere (p ∷ held) f (suc i) d c name h e other =
    ap (λ (rest : Cond). if is_for name p then p.1 else rest) (set_elsewhere held f i d c name (omega (arith, h)) e other)

set_names : (held : Held) (f : Name) (i : ℕ) (d : Name × Cond) (c : Cond) → i < length held → is_for f (get_or held i d) ≡ true →
    names_of (set held i (f, c)) ≡ names_of held
set_names [] f i d c h e = absurd (omega (arith, h))
set_names (p ∷ held) f zero d c h e = ap (λ (name : Name). name ∷ names_of held) (sym (same_bytes p.0 f e))
set_names (p ∷ held) f (suc i) d c h e = ap (λ (names : List Name). p.0 ∷ names) (set_names held f i d c (omega (arith, h)) e)

module _ (held now given : Held) (viewed : held ≡ now) (as_given : given ≡ held) (name : Name) where
  absent : position (is_for name) given ≡ None → IsAbsent now name
  absent e = position_none (is_for name) now (subst (λ (h : Held). position (is_for name) h ≡ None) (as_given ∙ viewed) e)

  pub got_whole : position (is_for name) given ≡ None → cond_of now name ≡ whole
  got_whole e = absent_cond now name (absent e)

  pub not_held : position (is_for name) given ≡ None → Contains (names_of now) name → ⊥
  not_held e = absent_name now name (absent e)

  module _ (i : ℕ) (at : position (is_for name) given ≡ Some i) where
    at_held : position (is_for name) held ≡ Some i
    at_held = subst (λ (h : Held). position (is_for name) h ≡ Some i) as_given at

    pub got_held : (p : Name × Cond) → p ≡ get_or held i p → p.1 ≡ cond_of now name
    got_held p e =
        let first = position-Some (is_for name) held i p at_held in
        ap (λ (q : Name × Cond). q.1) e ∙ (sym (first_cond held name i p first.0 first.1 first.2) ∙ ap (λ (h : Held). cond_of h name) viewed)

    pub is_held : Contains (names_of now) name
    is_held =
        let d : Name × Cond = (name, whole) in
        let first = position-Some (is_for name) held i d at_held in
        subst (λ (h : Held). Contains (names_of h) name) viewed (present held name i d first.0 first.1)

    pub names_stay : (c : Cond) → names_of (set held i (name, c)) ≡ names_of now
    names_stay c =
        let d : Name × Cond = (name, whole) in
        let first = position-Some (is_for name) held i d at_held in
        set_names held name i d c first.0 first.1 ∙ ap names_of viewed

    pub cond_is_set : (c : Cond) → IsSet (cond_of now) name c (cond_of (set held i (name, c)))
    cond_is_set c =
        let d : Name × Cond = (name, whole) in
        let first = position-Some (is_for name) held i d at_held in
        record {
          there = set_there held name i d c first.0 first.2;
          elsewhere = λ other off. set_elsewhere held name i d c other first.0 first.1 off ∙ ap (λ (h : Held). cond_of h other) viewed;
        }

-- each name with one condition
pub names_of_all : (c : Cond) (names : List Name) → names_of (map (λ (name : Name). (name, c)) names) ≡ names
names_of_all c [] = refl
names_of_all c (n ∷ names) = ap (λ (ns : List Name). n ∷ ns) (names_of_all c names)

pub cond_of_all : (c : Cond) (names : List Name) (name : Name) → c ≡ whole → cond_of (map (λ (n : Name). (n, c)) names) name ≡ whole
cond_of_all c [] name e = refl
cond_of_all c (n ∷ names) name e = pick_same (bytes_eq n name) c (cond_of (map (λ (n : Name). (n, c)) names) name) whole e (cond_of_all c names name e)
