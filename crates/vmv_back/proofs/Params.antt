-- The parameters of an entry of a valid program: at most 16, each with a word in its range.
use Rattle.std.proofs.Common.{◌≡◌, inl, inr, ℕ, zero, suc, ◌+◌, ◌<◌, ◌≤◌, min, ℤ, ◌<ℤ◌, int_le, Bool, true, false, ◌&&◌, Some, List, [], ◌∷◌, ◌++◌, length, map, slice_get, IsTrue, refl, ap, subst, ◌∙◌, arith}
use Rattle.std.proofs.lemmas.List.{length-map}
use Rattle.std.proofs.lemmas.Int.{ints}
use Rattle.vmv_tree.specs.declared.defect.Defect.TheVariants.{RangeEmpty, Limit}
use Rattle.vmv_tree.specs.declared.name.Name.{Name}
use Rattle.vmv_tree.specs.declared.tree.Param.{Param}
use Rattle.vmv_tree.specs.Tree.{Body, Item, outside, helper, entry}
use Rattle.vmv_tree.specs.Limits.{variables}
use Rattle.vmv_tree.specs.Mentions.{item_mentions}
use Rattle.vmv_tree.specs.Valid.{Valid, InParams, InItem, InItems}
use Rattle.vmv_snapshot.specs.Procs.{procs, params_of, is_entry}
use Rattle.vmv_snapshot.proofs.Known.{Clean}
use Rattle.vmv_back.specs.Boxes.{is_nonempty, full_box}

has_word : (lo hi : ℤ) → (hi <ℤ lo → ⊥) → int_le lo hi ≡ true
has_word lo hi h = by (int_le lo hi) refl
  where
    below : (lo hi : ℤ) → int_le lo hi ≡ false → hi <ℤ lo
    below lo hi e = grind (arith, ints)

    by : (b : Bool) → int_le lo hi ≡ b → int_le lo hi ≡ true
    by true e = e
    by false e = absurd (h (below lo hi e))

ranges_have_words : (k : ℕ) (seen : List Name) (params : List Param) → Clean (InParams k seen params) → is_nonempty (full_box params) ≡ true
ranges_have_words k seen [] clean = refl
ranges_have_words k seen (p ∷ params) clean =
    ap (λ (b : Bool). b && is_nonempty (full_box params)) (has_word p.lo p.hi (λ h. clean k RangeEmpty (inr (inl (refl, refl, h)))))
    ∙ ranges_have_words (k + 1) (seen ++ p.name ∷ []) params (λ m d h. clean m d (inr (inr h)))

abbrev AreGood : List Param → Type 0
AreGood params = (length params ≤ 16) × IsTrue (is_nonempty (full_box params))

entry_good : (program above : List Item) (k : ℕ) (name : Name) (params : List Param) (body : Body) → Clean (InItem program above k (entry name params body)) → AreGood params
entry_good program above k name params body clean =
    let few : variables (map (λ p. p.name) params) body ≤ 16 =
    not_more (λ h. clean k (Limit 5 (min (variables (map (λ p. p.name) params) body) 1000000000) 16) (inr (inr (inl (inl (refl, refl, h)))))) in
    let same : length (map (λ (p : Param). p.name) params) ≡ length params = length-map params (λ (p : Param). p.name) in
    (omega (arith, few, same), ranges_have_words (k + 1) [] params (λ m d h. clean m d (inr (inr (inr (inr (inl h)))))))
  where
    not_more : {n : ℕ} → (16 < n → ⊥) → n ≤ 16
    not_more h = omega (arith, h)

items_good : (program above items : List Item) (k : ℕ) → Clean (InItems program above k items) → (n : ℕ) (params : List Param) →
    slice_get (map is_entry (procs items)) n ≡ Some true → slice_get (map params_of (procs items)) n ≡ Some params → AreGood params
items_good program above [] k clean n params e f = absurd (cc)
items_good program above (outside name arity ∷ items) k clean n params e f =
    items_good program (outside name arity ∷ above) items (k + item_mentions (outside name arity)) (λ m d h. clean m d (inr h)) n params e f
items_good program above (helper name own body ∷ items) k clean zero params e f = absurd (cc)
items_good program above (helper name own body ∷ items) k clean (suc n) params e f =
    items_good program (helper name own body ∷ above) items (k + item_mentions (helper name own body)) (λ m d h. clean m d (inr h)) n params e f
items_good program above (entry name own body ∷ items) k clean zero params e f =
    let same : own ≡ params = cc in
    subst AreGood same (entry_good program above k name own body (λ m d h. clean m d (inl h)))
items_good program above (entry name own body ∷ items) k clean (suc n) params e f =
    items_good program (entry name own body ∷ above) items (k + item_mentions (entry name own body)) (λ m d h. clean m d (inr h)) n params e f

pub entry_params : (program : List Item) → Valid program → (n : ℕ) (params : List Param) → slice_get (map is_entry (procs program)) n ≡ Some true →
    slice_get (map params_of (procs program)) n ≡ Some params → (length params ≤ 16) × IsTrue (is_nonempty (full_box params))
entry_params program valid = items_good program [] program 0 valid
