-- An entry behind those that stand there.
use Rattle.std.proofs.Common.{◌≡◌, ℕ, ◌+◌, List, [], ◌∷◌, ◌++◌, map, sym, ap, ◌∙◌, arith}
use Rattle.std.specs.List.{range_with_len}
use Rattle.std.proofs.lemmas.List.{map-append, append_assoc}
use Rattle.std.proofs.lemmas.List.FromFn.{map-range_with_len_more}
use Rattle.vmv_tree.specs.declared.tree.Item.{Item}
use Rattle.vmv_tree.specs.Tree as tree
use Rattle.vmv_tree.specs.View.{item_of, items_of}
use Rattle.vmv_sample.specs.Sample.{sample_entry}

pub entry_pushed : (more k : ℕ) (items new : List Item) (item : Item) (front : List tree.Item) → new ≡ items ++ item ∷ [] → item_of item ≡ sample_entry more k
    → items_of items ≡ front ++ map (sample_entry more) (range_with_len 0 k) → items_of new ≡ front ++ map (sample_entry more) (range_with_len 0 (k + 1))
entry_pushed more k items new item front same made before =
    ap items_of same
    ∙ (map-append item_of items (item ∷ [])
    ∙ (ap (λ es. es ++ item_of item ∷ []) before
    ∙ (ap (λ e. (front ++ map (sample_entry more) (range_with_len 0 k)) ++ e ∷ []) made
    ∙ (append_assoc front (map (sample_entry more) (range_with_len 0 k)) (sample_entry more k ∷ [])
    ∙ ap (λ es. front ++ es) (sym (map-range_with_len_more (sample_entry more) 0 k k (omega arith)))))))
