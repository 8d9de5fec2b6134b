-- Items in text order, and the nearest first.
use Rattle.std.proofs.Common.{◌≡◌, ◌+◌, Bool, true, false, ◌||◌, List, [], ◌∷◌, ◌++◌, map, reverse, refl, sym, ap, ◌∙◌, arith}
use Rattle.std.specs.Str.{bytes_eq}
use Rattle.std.proofs.lemmas.List.{reverse-append}
use Rattle.vmv_tree.specs.declared.name.Name.{Name}
use Rattle.vmv_tree.specs.Tree.{Item, outside, helper, entry}
use Rattle.vmv_tree.specs.Run.{name_of}
use Rattle.vmv_tree.specs.Limits.{outside_count, helper_count, entry_count}
use Rattle.vmv_valid.specs.Names.{is_among}

or_assoc : (a b c : Bool) → ((a || b) || c) ≡ (a || (b || c))
or_assoc true b c = refl
or_assoc false b c = refl

or_turned : (a b : Bool) → (a || (b || false)) ≡ (b || a)
or_turned true true = refl
or_turned true false = refl
or_turned false true = refl
or_turned false false = refl

among-append : (name : Name) (xs ys : List Item) → is_among (map name_of (xs ++ ys)) name ≡ (is_among (map name_of xs) name || is_among (map name_of ys) name)
among-append name [] ys = refl
among-append name (x ∷ xs) ys =
    ap (λ (b : Bool). bytes_eq name (name_of x) || b) (among-append name xs ys)
    ∙ sym (or_assoc (bytes_eq name (name_of x)) (is_among (map name_of xs) name) (is_among (map name_of ys) name))

reversed : (x : Item) (xs : List Item) → reverse (x ∷ xs) ≡ reverse xs ++ x ∷ []
reversed x xs = reverse-append (x ∷ []) xs

pub among-reverse : (name : Name) (xs : List Item) → is_among (map name_of (reverse xs)) name ≡ is_among (map name_of xs) name
among-reverse name [] = refl
among-reverse name (x ∷ xs) =
    ap (λ (l : List Item). is_among (map name_of l) name) (reversed x xs)
    ∙ (among-append name (reverse xs) (x ∷ [])
    ∙ (ap (λ (b : Bool). b || (bytes_eq name (name_of x) || false)) (among-reverse name xs)
    ∙ or_turned (is_among (map name_of xs) name) (bytes_eq name (name_of x))))

outside_count-append : (xs ys : List Item) → outside_count (xs ++ ys) ≡ outside_count xs + outside_count ys
outside_count-append [] ys = omega arith
outside_count-append (outside f arity ∷ xs) ys = omega (arith, outside_count-append xs ys)
outside_count-append (helper f params body ∷ xs) ys = outside_count-append xs ys
outside_count-append (entry f params body ∷ xs) ys = outside_count-append xs ys

helper_count-append : (xs ys : List Item) → helper_count (xs ++ ys) ≡ helper_count xs + helper_count ys
helper_count-append [] ys = omega arith
helper_count-append (outside f arity ∷ xs) ys = helper_count-append xs ys
helper_count-append (helper f params body ∷ xs) ys = omega (arith, helper_count-append xs ys)
helper_count-append (entry f params body ∷ xs) ys = helper_count-append xs ys

entry_count-append : (xs ys : List Item) → entry_count (xs ++ ys) ≡ entry_count xs + entry_count ys
entry_count-append [] ys = omega arith
entry_count-append (outside f arity ∷ xs) ys = entry_count-append xs ys
entry_count-append (helper f params body ∷ xs) ys = entry_count-append xs ys
entry_count-append (entry f params body ∷ xs) ys = omega (arith, entry_count-append xs ys)

outside_count-one : (x : Item) (xs : List Item) → outside_count (x ∷ xs) ≡ outside_count (x ∷ []) + outside_count xs
outside_count-one x xs = outside_count-append (x ∷ []) xs

helper_count-one : (x : Item) (xs : List Item) → helper_count (x ∷ xs) ≡ helper_count (x ∷ []) + helper_count xs
helper_count-one x xs = helper_count-append (x ∷ []) xs

entry_count-one : (x : Item) (xs : List Item) → entry_count (x ∷ xs) ≡ entry_count (x ∷ []) + entry_count xs
entry_count-one x xs = entry_count-append (x ∷ []) xs

pub outside_count-reverse : (xs : List Item) → outside_count (reverse xs) ≡ outside_count xs
outside_count-reverse [] = refl
outside_count-reverse (x ∷ xs) =
    let joined = ap outside_count (reversed x xs) ∙ outside_count-append (reverse xs) (x ∷ []) in
    omega (arith, joined, outside_count-reverse xs, outside_count-one x xs)

pub helper_count-reverse : (xs : List Item) → helper_count (reverse xs) ≡ helper_count xs
helper_count-reverse [] = refl
helper_count-reverse (x ∷ xs) =
    let joined = ap helper_count (reversed x xs) ∙ helper_count-append (reverse xs) (x ∷ []) in
    omega (arith, joined, helper_count-reverse xs, helper_count-one x xs)

pub entry_count-reverse : (xs : List Item) → entry_count (reverse xs) ≡ entry_count xs
entry_count-reverse [] = refl
entry_count-reverse (x ∷ xs) =
    let joined = ap entry_count (reversed x xs) ∙ entry_count-append (reverse xs) (x ∷ []) in
    omega (arith, joined, entry_count-reverse xs, entry_count-one x xs)

pub ruleset turned = (among-reverse, outside_count-reverse, helper_count-reverse, entry_count-reverse)
