-- What is written of each part, and that it can be written, of the whole.
use Rattle.std.proofs.Common.{◌≡◌, ℕ, ◌+◌, ◌<◌, ◌≤◌, List, [], ◌∷◌, ◌++◌, append_assoc, length, get_or, drop, drop-cons, add-one, refl, sym, ap, ◌∙◌, subst}
use Rattle.std.specs.Prelude.{ℤ, Result, Ok, Err, OnOk, codes, All}
use Rattle.std.specs.Fmt.{signed_decimal}
use Rattle.std.proofs.lemmas.List.{drop_all}
use Rattle.std.proofs.lemmas.List.Elements.{All-cons, All-nil, All-head, All-tail}
use Rattle.vmv_tree.specs.declared.name.Name.{Name}
use Rattle.vmv_tree.specs.declared.tree.Operand.{Operand}
use Rattle.vmv_tree.specs.declared.tree.Op.{Op}
use Rattle.vmv_tree.specs.declared.tree.Test.{Test}
use Rattle.vmv_tree.specs.declared.tree.Stmt.{Stmt, Set, Arith, Call, Assert, If, Repeat}
use Rattle.vmv_tree.specs.declared.tree.Item.{Item}
use Rattle.vmv_tree.specs.View.{stmt_of, block_of, item_of, items_of, stmt_of-set, stmt_of-arith, stmt_of-call, stmt_of-assert, stmt_of-if, stmt_of-repeat}
use Rattle.vmv_tree.specs.Tree as tree
use Rattle.vmv_tree.specs.Tree.{[], ◌⨾◌}
use Rattle.vmv_print.specs.Canonical.{operand_text, after_commas, deeper, line, stmt_text, block_text, item_text, canonical}
use Rattle.vmv_print.specs.Written.{HasCounts, HasCountsBlock, HasCountsItem, HasCountsStmt, IsName, IsWritten, IsWrittenBlock, IsWrittenItem, IsWrittenOperand, IsWrittenStmt, IsWrittenTest}

-- a list from one of its elements on
from_next : {A : Type 0} (xs : List A) (i : ℕ) (x : A) → i < length xs → x ≡ get_or xs i x → drop i xs ≡ x ∷ drop (i + 1) xs
from_next xs i x h is = rw (add-one, drop-cons xs i x, ← is) refl

-- what is written with the rest is the whole, also behind the next element
pub text_next : {A : Type 0} (part : A → List ℕ) (all : List A → List ℕ) → ((x : A) (xs : List A) → all (x ∷ xs) ≡ part x ++ all xs) → (old new whole : List ℕ) (xs : List A) (i : ℕ) (x : A) → i < length xs → x ≡ get_or xs i x → new ≡ old ++ part x → old ++ all (drop i xs) ≡ whole → new ++ all (drop (i + 1) xs) ≡ whole
text_next {A = A} part all step old new whole xs i x h is a e =
    let rest = drop (i + 1) xs in
    ap (λ (t : List ℕ). t ++ all rest) a
    ∙ append_assoc old (part x) (all rest)
    ∙ ap (λ (t : List ℕ). old ++ t) (sym (step x rest))
    ∙ ap (λ (t : List A). old ++ all t) (sym (from_next xs i x h is))
    ∙ e

pub commas_next : {A : Type 0} (text : A → List ℕ) (old mid new whole : List ℕ) (xs : List A) (i : ℕ) (x : A) → i < length xs → x ≡ get_or xs i x → mid ≡ old ++ codes ", " → new ≡ mid ++ text x → old ++ after_commas text (drop i xs) ≡ whole → new ++ after_commas text (drop (i + 1) xs) ≡ whole
commas_next text old mid new whole xs i x h is a b =
    text_next (λ y. codes ", " ++ text y) (after_commas text) (λ y ys. sym (append_assoc (codes ", ") (text y) (after_commas text ys))) old new whole xs i x h is
    (b ∙ (ap (λ (t : List ℕ). t ++ text x) a ∙ append_assoc old (codes ", ") (text x)))

pub block_text_next : (indent old new whole : List ℕ) (block : List Stmt) (i : ℕ) (s : Stmt) → i < length block → s ≡ get_or block i s → new ≡ old ++ stmt_text indent (stmt_of s) → old ++ block_text indent (block_of (drop i block)) ≡ whole → new ++ block_text indent (block_of (drop (i + 1) block)) ≡ whole
block_text_next indent = text_next (λ (s : Stmt). stmt_text indent (stmt_of s)) (λ (b : List Stmt). block_text indent (block_of b)) (λ s b. refl)

pub items_text_next : (old new whole : List ℕ) (items : List Item) (i : ℕ) (item : Item) → i < length items → item ≡ get_or items i item → new ≡ old ++ item_text (item_of item) → old ++ canonical (items_of (drop i items)) ≡ whole → new ++ canonical (items_of (drop (i + 1) items)) ≡ whole
items_text_next = text_next (λ (item : Item). item_text (item_of item)) (λ (b : List Item). canonical (items_of b)) (λ item b. refl)

-- of each element from one on, as of that one and of each behind it
pub all_next : {A : Type 0} (P : A → Type 0) (xs : List A) (i : ℕ) (x : A) → i < length xs → x ≡ get_or xs i x → P x → (All P (drop i xs) → All P xs) → All P (drop (i + 1) xs) → All P xs
all_next P xs i x h is p all more =
    all (subst (All P) (sym (from_next xs i x h is)) (All-cons P x (drop (i + 1) xs) p more))

-- what can be written where it has counts
abbrev pub Printable : tree.Stmt → Type 0
Printable s = HasCountsStmt s → IsWrittenStmt s

abbrev pub PrintableBlock : tree.Block → Type 0
PrintableBlock block = HasCountsBlock block → IsWrittenBlock block

abbrev pub PrintableItem : tree.Item → Type 0
PrintableItem item = HasCountsItem item → IsWrittenItem item

abbrev pub PrintableItems : List tree.Item → Type 0
PrintableItems items = HasCounts items → IsWritten items

no_block : PrintableBlock []
unfolding HasCountsStmt IsWrittenStmt
no_block = λ counts. tt

one_more : (s : tree.Stmt) (block : tree.Block) → Printable s → PrintableBlock block → PrintableBlock (s ⨾ block)
unfolding HasCountsStmt IsWrittenStmt
one_more s block p more = λ counts. (p counts.0, more counts.1)

pub block_next : (block : List Stmt) (i : ℕ) (s : Stmt) → i < length block → s ≡ get_or block i s → Printable (stmt_of s) → (PrintableBlock (block_of (drop i block)) → PrintableBlock (block_of block)) → PrintableBlock (block_of (drop (i + 1) block)) → PrintableBlock (block_of block)
block_next block i s h is p all more =
    all (subst (λ (b : List Stmt). PrintableBlock (block_of b)) (sym (from_next block i s h is)) (one_more (stmt_of s) (block_of (drop (i + 1) block)) p more))

pub block_end : (block : List Stmt) (i : ℕ) → length block ≤ i → (PrintableBlock (block_of (drop i block)) → PrintableBlock (block_of block)) → PrintableBlock (block_of block)
block_end block i h all = all (subst (λ (b : List Stmt). PrintableBlock (block_of b)) (sym (drop_all i block h)) no_block)

no_items : PrintableItems []
no_items = λ counts. All-nil IsWrittenItem

one_item : (item : tree.Item) (items : List tree.Item) → PrintableItem item → PrintableItems items → PrintableItems (item ∷ items)
one_item item items p more = λ counts. All-cons IsWrittenItem item items (p (All-head HasCountsItem item items counts)) (more (All-tail HasCountsItem item items counts))

pub items_next : (items : List Item) (i : ℕ) (item : Item) → i < length items → item ≡ get_or items i item → PrintableItem (item_of item) → (PrintableItems (items_of (drop i items)) → PrintableItems (items_of items)) → PrintableItems (items_of (drop (i + 1) items)) → PrintableItems (items_of items)
items_next items i item h is p all more =
    all (subst (λ (b : List Item). PrintableItems (items_of b)) (sym (from_next items i item h is)) (one_item (item_of item) (items_of (drop (i + 1) items)) p more))

pub items_end : (items : List Item) (i : ℕ) → length items ≤ i → (PrintableItems (items_of (drop i items)) → PrintableItems (items_of items)) → PrintableItems (items_of items)
items_end items i h all = all (subst (λ (b : List Item). PrintableItems (items_of b)) (sym (drop_all i items h)) no_items)

-- what follows from what is known behind an Ok is known there
pub on_ok : {X E : Type 0} {A B : Type 0} (r : Result X E) → (A → B) → OnOk r A → OnOk r B
on_ok (Ok x) f a = f a
on_ok (Err e) f a = tt

pub on_ok_always : {X E : Type 0} {A : Type 0} (r : Result X E) → A → OnOk r A
on_ok_always (Ok x) a = a
on_ok_always (Err e) a = tt

as_tree : (s : Stmt) (t : tree.Stmt) → stmt_of s ≡ t → Printable t → Printable (stmt_of s)
as_tree s t e p = subst Printable (sym e) p

pub set_printable : (s : Stmt) (to : Name) (from : Operand) → s ≡ Set to from → IsName to × IsWrittenOperand from → Printable (stmt_of s)
unfolding IsWrittenStmt
set_printable s to from is h = as_tree s (tree.copy to from) (ap stmt_of is ∙ stmt_of-set to from) (λ counts. h)

pub arith_printable : (s : Stmt) (to : Name) (op : Op) (left right : Operand) → s ≡ Arith to op left right → IsName to × IsWrittenOperand left × IsWrittenOperand right → Printable (stmt_of s)
unfolding IsWrittenStmt
arith_printable s to op left right is h = as_tree s (tree.compute to op left right) (ap stmt_of is ∙ stmt_of-arith to op left right) (λ counts. h)

pub call_printable : (s : Stmt) (to callee : Name) (args written : List Operand) → s ≡ Call to callee args → written ≡ args → IsName to × IsName callee × All IsWrittenOperand written → Printable (stmt_of s)
unfolding IsWrittenStmt
call_printable s to callee args written is same h =
    as_tree s (tree.call to callee args) (ap stmt_of is ∙ stmt_of-call to callee args) (λ counts. (h.0, h.1, subst (All IsWrittenOperand) same h.2))

pub assert_printable : (s : Stmt) (test : Test) → s ≡ Assert test → IsWrittenTest test → Printable (stmt_of s)
unfolding IsWrittenStmt
assert_printable s test is h = as_tree s (tree.assert test) (ap stmt_of is ∙ stmt_of-assert test) (λ counts. h)

pub if_printable : (s : Stmt) (test : Test) (first second one two : List Stmt) → s ≡ If test first second → one ≡ first → two ≡ second → IsWrittenTest test → PrintableBlock (block_of one) → PrintableBlock (block_of two) → Printable (stmt_of s)
unfolding HasCountsStmt IsWrittenStmt
if_printable s test first second one two is a b t p q =
    let f = subst (λ (x : List Stmt). PrintableBlock (block_of x)) a p in
    let g = subst (λ (x : List Stmt). PrintableBlock (block_of x)) b q in
    as_tree s (tree.choose test (block_of first) (block_of second)) (ap stmt_of is ∙ stmt_of-if test first second) (λ counts. (t, f counts.0, g counts.1))

pub repeat_printable : (s : Stmt) (index : Name) (bound : Operand) (most : ℤ) (body inner : List Stmt) → s ≡ Repeat index bound most body → inner ≡ body → IsName index × IsWrittenOperand bound → PrintableBlock (block_of inner) → Printable (stmt_of s)
unfolding HasCountsStmt IsWrittenStmt
repeat_printable s index bound most body inner is a h p =
    let f = subst (λ (x : List Stmt). PrintableBlock (block_of x)) a p in
    as_tree s (tree.repeat index bound most (block_of body)) (ap stmt_of is ∙ stmt_of-repeat index bound most body) (λ counts. (h.0, h.1, counts.0, f counts.1))

-- the opening line of a loop, the statements in it and the closing line are its text
pub repeat_text : (s : Stmt) (index : Name) (bound : Operand) (most : ℤ) (body inner : List Stmt) (indent further old opened filled new : List ℕ) → s ≡ Repeat index bound most body → inner ≡ body → further ≡ deeper indent
    → opened ≡ old ++ line indent (codes "repeat " ++ index ++ codes " to " ++ operand_text bound ++ codes " cap " ++ signed_decimal most ++ codes " {")
    → filled ≡ opened ++ block_text further (block_of inner) → new ≡ filled ++ line indent (codes "}") → new ≡ old ++ stmt_text indent (stmt_of s)
repeat_text s index bound most body inner indent further old opened filled new is a d o f n =
    let head = line indent (codes "repeat " ++ index ++ codes " to " ++ operand_text bound ++ codes " cap " ++ signed_decimal most ++ codes " {") in
    let inside = block_text (deeper indent) (block_of body) in
    let last = line indent (codes "}") in
    let whole : old ++ (head ++ inside ++ last) ≡ old ++ stmt_text indent (stmt_of s) =
    ap (λ t. old ++ stmt_text indent t) (sym (ap stmt_of is ∙ stmt_of-repeat index bound most body)) in
    n
    ∙ ap (λ (t : List ℕ). t ++ last) (f ∙ ((λ i. o i ++ block_text (d i) (block_of (a i))) ∙ append_assoc old head inside))
    ∙ append_assoc old (head ++ inside) last
    ∙ whole
