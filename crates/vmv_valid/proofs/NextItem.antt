-- One item more above: what a walk over items keeps.
use Rattle.std.proofs.Common.{◌≡◌, ℕ, ◌+◌, ◌<◌, ◌≤◌, Bool, true, false, Ok, Err, ◌==◌, List, [], ◌∷◌, ◌++◌, length, map, take, drop, reverse, get_or, refl, sym, ap, ◌∙◌, subst, arith, length-take, if◌then◌else◌}
use Rattle.std.specs.Bool.{Decides}
use Rattle.std.proofs.lemmas.List.{take_more, drop_more, map-append, length-map, length-reverse, reverse-append}
use Rattle.std.proofs.lemmas.Bool.Decides.{Decides-eqb}
use Rattle.vmv_tree.specs.declared.deep.ItemCounts.{ItemCounts}
use Rattle.vmv_tree.specs.declared.defect.Defect.{Defect}
use Rattle.vmv_tree.specs.declared.tree.Item.{Item}
use Rattle.vmv_tree.specs.Tree as tree
use Rattle.vmv_tree.specs.Tree.{outside, helper, entry}
use Rattle.vmv_tree.specs.Run.{name_of}
use Rattle.vmv_tree.specs.View.{item_of, items_of}
use Rattle.vmv_tree.specs.Limits.{outside_count, helper_count, entry_count}
use Rattle.vmv_valid.specs.declared.callee.Callee.{Callee}
use Rattle.vmv_valid.specs.Names.{is_among}
use Rattle.vmv_valid.specs.Measures.{add_called, callees_of}
use Rattle.vmv_valid.specs.Walks.{Walked, and_on, defect_at, walk_item, walk_items, HasRoom}

-- the items above, the nearest first
abbrev pub above_of : List Item → ℕ → List tree.Item
above_of items i = reverse (items_of (take i items))

pub above_more : (items : List Item) (i : ℕ) (item : Item) → i < length items → item ≡ get_or items i item → above_of items (i + 1) ≡ item_of item ∷ above_of items i
above_more items i item below is =
    let more : take (i + 1) items ≡ take i items ++ item ∷ [] = take_more items i item below ∙ ap (λ (x : Item). take i items ++ x ∷ []) (sym is) in
    ap (λ (x : List Item). reverse (items_of x)) more
    ∙ (ap reverse (map-append item_of (take i items) (item ∷ []))
    ∙ reverse-append (items_of (take i items)) (item_of item ∷ []))

pub left_more : (items : List Item) (i : ℕ) (item : Item) → i < length items → item ≡ get_or items i item → items_of (drop i items) ≡ item_of item ∷ items_of (drop (i + 1) items)
left_more items i item below is =
    ap items_of (drop_more items i item below) ∙ ap (λ (x : Item). item_of x ∷ items_of (drop (i + 1) items)) (sym is)

-- the walk over what is left, an item later
told_by : (counts : ItemCounts) (above left : List tree.Item) (k next : ℕ) (item : tree.Item) (w : Walked) → w ≡ Ok next
    → and_on w (λ k. walk_items counts (item ∷ above) k left) ≡ walk_items counts (item ∷ above) next left
told_by counts above left k next item (Ok n) e = let same : n ≡ next = cc in ap (λ (x : ℕ). walk_items counts (item ∷ above) x left) same
told_by counts above left k next item (Err s) e = absurd (cc)

pub told_more : (counts : ItemCounts) (items : List Item) (i k next : ℕ) (item : Item) → i < length items → item ≡ get_or items i item
    → walk_item counts (above_of items i) k (item_of item) ≡ Ok next
    → walk_items counts (above_of items (i + 1)) next (items_of (drop (i + 1) items)) ≡ walk_items counts (above_of items i) k (items_of (drop i items))
told_more counts items i k next item below is walked =
    let above = above_of items i in
    let left = items_of (drop (i + 1) items) in
    ap (λ (x : List tree.Item). walk_items counts x next left) (above_more items i item below is)
    ∙ (sym (told_by counts above left k next (item_of item) (walk_item counts above k (item_of item)) walked)
    ∙ ap (λ (x : List tree.Item). walk_items counts above k x) (sym (left_more items i item below is)))

pub callees_more : (items : List Item) (i : ℕ) (item : Item) (callees more : List Callee) → i < length items → item ≡ get_or items i item
    → callees ≡ callees_of (above_of items i) → more ≡ add_called (item_of item) callees → more ≡ callees_of (above_of items (i + 1))
callees_more items i item callees more below is told added =
    added ∙ (ap (add_called (item_of item)) told ∙ ap callees_of (sym (above_more items i item below is)))

-- an item that a walk goes past leaves room

kind_by : (among full : Bool) (k next above : ℕ) (d e : Defect) (g : ℕ → Walked) → Decides full (above ≡ 64) → above ≤ 64
    → (if among then defect_at k d else and_on (if full then defect_at k e else Ok k) g) ≡ Ok next → 1 + above ≤ 64
kind_by true full k next above d e g tells most walked = absurd (cc)
kind_by false true k next above d e g tells most walked = absurd (cc)
kind_by false false k next above d e g tells most walked =
    let other : above ≡ 64 → ⊥ = λ (same : above ≡ 64). let no : false ≡ true = tells.1 same in cc in
    omega (arith, other)

pub room_more : (counts : ItemCounts) (above : List tree.Item) (k next : ℕ) (item : tree.Item) → HasRoom above → walk_item counts above k item ≡ Ok next → HasRoom (item ∷ above)
room_more counts above k next (outside name arity) room walked = record {
  outsides = kind_by (is_among (map name_of above) name) (outside_count above == 64) k next (outside_count above) _ _ _ (Decides-eqb (outside_count above) 64) room.outsides walked;
  helpers = room.helpers;
  entries = room.entries;
}
room_more counts above k next (helper name params body) room walked = record {
  outsides = room.outsides;
  helpers = kind_by (is_among (map name_of above) name) (helper_count above == 64) k next (helper_count above) _ _ _ (Decides-eqb (helper_count above) 64) room.helpers walked;
  entries = room.entries;
}
room_more counts above k next (entry name params body) room walked = record {
  outsides = room.outsides;
  helpers = room.helpers;
  entries = kind_by (is_among (map name_of above) name) (entry_count above == 64) k next (entry_count above) _ _ _ (Decides-eqb (entry_count above) 64) room.entries walked;
}

pub room_kept : (counts : ItemCounts) (items : List Item) (i k next : ℕ) (item : Item) → i < length items → item ≡ get_or items i item
    → HasRoom (above_of items i) → walk_item counts (above_of items i) k (item_of item) ≡ Ok next → HasRoom (above_of items (i + 1))
room_kept counts items i k next item below is room walked =
    subst HasRoom (sym (above_more items i item below is)) (room_more counts (above_of items i) k next (item_of item) room walked)

kinds_sum : (items : List tree.Item) → outside_count items + helper_count items + entry_count items ≡ length items
kinds_sum [] = refl
kinds_sum (outside name arity ∷ items) = omega (arith, kinds_sum items)
kinds_sum (helper name params body ∷ items) = omega (arith, kinds_sum items)
kinds_sum (entry name params body ∷ items) = omega (arith, kinds_sum items)

-- at most 192 items stand above
pub few_above : (items : List Item) (i : ℕ) → i < length items → HasRoom (above_of items i) → i ≤ 192
few_above items i below room =
    let sum = kinds_sum (above_of items i) in
    let turned = length-reverse (items_of (take i items)) in
    let mapped = length-map (take i items) item_of in
    let front : length (take i items) ≡ i = omega (arith, length-take i items) in
    omega (arith, sum, turned, mapped, front, room.outsides, room.helpers, room.entries)
