-- What is told of procedures without a tree, and how many items there are.
use Rattle.std.proofs.Common.{◌≡◌, ℕ, ◌+◌, ◌<◌, ◌≤◌, min, ℤ, Bool, true, false, List, [], ◌∷◌, ◌++◌, length, map, refl, sym, ◌∙◌, ap, subst, arith}
use Rattle.vmv_tree.specs.declared.deep.ItemCounts.{ItemCounts}
use Rattle.vmv_tree.specs.declared.deep.DeepProcedure.{DeepProcedure}
use Rattle.vmv_tree.specs.declared.name.Name.{Name}
use Rattle.vmv_tree.specs.declared.tree.Item.{Item as CodeItem}
use Rattle.vmv_tree.specs.declared.tree.Item.TheVariants as code
use Rattle.vmv_tree.specs.Tree.{Body, Item, outside, helper, entry}
use Rattle.vmv_tree.specs.declared.tree.Body.{Body as CodeBody}
use Rattle.vmv_tree.specs.declared.tree.Param.{Param}
use Rattle.vmv_tree.specs.View.{item_of, body_of}
use Rattle.vmv_tree.specs.Limits.{outside_count, helper_count, entry_count}
use Rattle.vmv_tree.specs.Deep.{HasCounts, IsDeep}
use Rattle.vmv_text.specs.Parts.{with_procedure}

outside_more : (xs : List Item) (x : Item) → outside_count (xs ++ x ∷ []) ≡ outside_count xs + outside_count (x ∷ [])
outside_more [] x = omega arith
outside_more (outside f arity ∷ xs) x = omega (arith, outside_more xs x)
outside_more (helper f params body ∷ xs) x = outside_more xs x
outside_more (entry f params body ∷ xs) x = outside_more xs x

helper_more : (xs : List Item) (x : Item) → helper_count (xs ++ x ∷ []) ≡ helper_count xs + helper_count (x ∷ [])
helper_more [] x = omega arith
helper_more (outside f arity ∷ xs) x = helper_more xs x
helper_more (helper f params body ∷ xs) x = omega (arith, helper_more xs x)
helper_more (entry f params body ∷ xs) x = helper_more xs x

entry_more : (xs : List Item) (x : Item) → entry_count (xs ++ x ∷ []) ≡ entry_count xs + entry_count (x ∷ [])
entry_more [] x = omega arith
entry_more (outside f arity ∷ xs) x = entry_more xs x
entry_more (helper f params body ∷ xs) x = entry_more xs x
entry_more (entry f params body ∷ xs) x = omega (arith, entry_more xs x)

-- one more of each kind
pub one_outside : (counts : ItemCounts) (n : ℕ) (items : List Item) (name : Name) (arity : _) → n ≡ min (counts.outsides + 1) 1000000000 → HasCounts counts items → HasCounts (record counts { outsides = n }) (items ++ outside name arity ∷ [])
one_outside counts n items name arity e h = record {
  outsides = omega (arith, e, h.outsides, outside_more items (outside name arity));
  helpers = omega (arith, h.helpers, helper_more items (outside name arity));
  entries = omega (arith, h.entries, entry_more items (outside name arity));
}

one_helper : (counts : ItemCounts) (items : List Item) (name : Name) (params : _) (body : Body) → HasCounts counts items → HasCounts (with_procedure counts false) (items ++ helper name params body ∷ [])
one_helper counts items name params body h = record {
  outsides = omega (arith, h.outsides, outside_more items (helper name params body));
  helpers = omega (arith, h.helpers, helper_more items (helper name params body));
  entries = omega (arith, h.entries, entry_more items (helper name params body));
}

one_entry : (counts : ItemCounts) (items : List Item) (name : Name) (params : _) (body : Body) → HasCounts counts items → HasCounts (with_procedure counts true) (items ++ entry name params body ∷ [])
one_entry counts items name params body h = record {
  outsides = omega (arith, h.outsides, outside_more items (entry name params body));
  helpers = omega (arith, h.helpers, helper_more items (entry name params body));
  entries = omega (arith, h.entries, entry_more items (entry name params body));
}

pub one_deep : (counts all : ItemCounts) (items : List Item) (deep : DeepProcedure) (x : Item) → all ≡ with_procedure counts deep.is_entry → HasCounts counts items → IsDeep deep x → HasCounts all (items ++ x ∷ [])
one_deep counts all items deep (outside name arity) e h d = absurd d
one_deep counts all items deep (helper name params body) e h d =
    subst (λ (c : ItemCounts). HasCounts c (items ++ helper name params body ∷ [])) (sym (e ∙ ap (with_procedure counts) d.kind)) (one_helper counts items name params body h)
one_deep counts all items deep (entry name params body) e h d =
    subst (λ (c : ItemCounts). HasCounts c (items ++ entry name params body ∷ [])) (sym (e ∙ ap (with_procedure counts) d.kind)) (one_entry counts items name params body h)

-- the same of an item in the code
pub told_outside : (counts : ItemCounts) (n : ℕ) (items : List Item) (item : CodeItem) (name : Name) (arity : ℤ) → item ≡ code.Outside name arity → n ≡ min (counts.outsides + 1) 1000000000
    → HasCounts counts items → HasCounts (record counts { outsides = n }) (items ++ item_of item ∷ [])
told_outside counts n items item name arity f same h =
    subst (λ (y : Item). HasCounts (record counts { outsides = n }) (items ++ y ∷ [])) (sym (ap item_of f)) (one_outside counts n items name arity same h)

pub told_helper : (counts all : ItemCounts) (items : List Item) (item : CodeItem) (name : Name) (params : List Name) (body : CodeBody) → item ≡ code.Helper name params body → all ≡ with_procedure counts false
    → HasCounts counts items → HasCounts all (items ++ item_of item ∷ [])
told_helper counts all items item name params body f same h =
    subst (λ (y : Item). HasCounts all (items ++ y ∷ [])) (sym (ap item_of f))
    (subst (λ (c : ItemCounts). HasCounts c (items ++ helper name params (body_of body) ∷ [])) (sym same) (one_helper counts items name params (body_of body) h))

pub told_entry : (counts all : ItemCounts) (items : List Item) (item : CodeItem) (name : Name) (params : List Param) (body : CodeBody) → item ≡ code.Entry name params body → all ≡ with_procedure counts true
    → HasCounts counts items → HasCounts all (items ++ item_of item ∷ [])
told_entry counts all items item name params body f same h =
    subst (λ (y : Item). HasCounts all (items ++ y ∷ [])) (sym (ap item_of f))
    (subst (λ (c : ItemCounts). HasCounts c (items ++ entry name params (body_of body) ∷ [])) (sym same) (one_entry counts items name params (body_of body) h))
