-- The names of slots, part by part.
use Rattle.std.proofs.Common.{◌≡◌, ◌⊎◌, inl, inr, ℕ, ◌+◌, ◌<◌, ℤ, Option, Some, None, List, [], ◌∷◌, ◌++◌, length, drop, get_or, refl, sym, ap, ◌∙◌, append_assoc, append-nil, add-one, drop-cons}
use Rattle.vmv_tree.specs.declared.name.Name.{Name}
use Rattle.vmv_tree.specs.declared.tree.Operand.{Operand}
use Rattle.vmv_tree.specs.declared.tree.Op.{Op}
use Rattle.vmv_tree.specs.declared.tree.Test.{Test}
use Rattle.vmv_tree.specs.declared.tree.Stmt as declared
use Rattle.vmv_tree.specs.declared.tree.Stmt.{Set, Arith, Call, Assert, If, Repeat}
use Rattle.vmv_tree.specs.Tree.{Stmt, Block, [], ◌⨾◌}
use Rattle.vmv_tree.specs.View.{stmt_of, block_of, stmt_of-set, stmt_of-arith, stmt_of-call, stmt_of-assert, stmt_of-if, stmt_of-repeat}
use Rattle.vmv_tree.specs.Limits.{indexes_of, block_indexes}
use Rattle.vmv_snapshot.specs.Resolves.{loop_names}

pub loop_names-append : (xs ys : List Name) → loop_names (xs ++ ys) ≡ loop_names xs ++ loop_names ys
loop_names-append [] ys = refl
loop_names-append (x ∷ xs) ys = ap (λ t. Some x ∷ None ∷ t) (loop_names-append xs ys)

-- the loops of a statement, and those of the rest
pub loops_of_row : (slots : List (Option Name)) (s : Stmt) (rest : Block) →
    slots ++ loop_names (block_indexes (s ⨾ rest)) ≡ (slots ++ loop_names (indexes_of s)) ++ loop_names (block_indexes rest)
loops_of_row slots s rest =
    ap (λ t. slots ++ t) (loop_names-append (indexes_of s) (block_indexes rest)) ∙ sym (append_assoc slots (loop_names (indexes_of s)) (loop_names (block_indexes rest)))

-- the loops of one statement, by its form
pub loops_of_if : (slots first_slots all : List (Option Name)) (s : declared.Stmt) (test : Test) (first second one two : List declared.Stmt) → s ≡ If test first second →
    one ≡ first → two ≡ second → first_slots ≡ slots ++ loop_names (block_indexes (block_of one)) → all ≡ first_slots ++ loop_names (block_indexes (block_of two)) →
    all ≡ slots ++ loop_names (indexes_of (stmt_of s))
loops_of_if slots first_slots all s test first second one two is a b e f =
    let whole : indexes_of (stmt_of s) ≡ block_indexes (block_of first) ++ block_indexes (block_of second) = ap (λ x. indexes_of (stmt_of x)) is ∙ ap indexes_of (stmt_of-if test first second) in
    let parts : loop_names (indexes_of (stmt_of s)) ≡ loop_names (block_indexes (block_of first)) ++ loop_names (block_indexes (block_of second)) =
    ap loop_names whole ∙ loop_names-append (block_indexes (block_of first)) (block_indexes (block_of second)) in
    rw (parts, f, e, a, b) (append_assoc slots (loop_names (block_indexes (block_of first))) (loop_names (block_indexes (block_of second))))

pub loops_of_repeat : (slots one two all : List (Option Name)) (s : declared.Stmt) (index : Name) (bound : Operand) (cap : ℤ) (body inside : List declared.Stmt) → s ≡ Repeat index bound cap body →
    one ≡ slots ++ Some index ∷ [] → two ≡ one ++ None ∷ [] → inside ≡ body → all ≡ two ++ loop_names (block_indexes (block_of inside)) → all ≡ slots ++ loop_names (indexes_of (stmt_of s))
loops_of_repeat slots one two all s index bound cap body inside is a b e f =
    let whole : indexes_of (stmt_of s) ≡ index ∷ block_indexes (block_of body) = ap (λ x. indexes_of (stmt_of x)) is ∙ ap indexes_of (stmt_of-repeat index bound cap body) in
    rw (whole, f, e, b, a) (append_assoc (slots ++ Some index ∷ []) (None ∷ []) (loop_names (block_indexes (block_of body))) ∙ append_assoc slots (Some index ∷ []) (None ∷ loop_names (block_indexes (block_of body))))

loops_none : (slots : List (Option Name)) (s : declared.Stmt) → indexes_of (stmt_of s) ≡ [] → slots ≡ slots ++ loop_names (indexes_of (stmt_of s))
loops_none slots s e = rw e (sym (append-nil slots))

pub loops_of_simple : (slots : List (Option Name)) (s : declared.Stmt) →
    ((to : Name) × (from : Operand) × (s ≡ Set to from))
    ⊎ (((to : Name) × (op : Op) × (left : Operand) × (right : Operand) × (s ≡ Arith to op left right))
    ⊎ (((to : Name) × (callee : Name) × (args : List Operand) × (s ≡ Call to callee args)) ⊎ ((test : Test) × (s ≡ Assert test)))) →
    slots ≡ slots ++ loop_names (indexes_of (stmt_of s))
loops_of_simple slots s (inl (to, from, e)) = loops_none slots s (ap (λ x. indexes_of (stmt_of x)) e ∙ ap indexes_of (stmt_of-set to from))
loops_of_simple slots s (inr (inl (to, op, left, right, e))) = loops_none slots s (ap (λ x. indexes_of (stmt_of x)) e ∙ ap indexes_of (stmt_of-arith to op left right))
loops_of_simple slots s (inr (inr (inl (to, callee, args, e)))) = loops_none slots s (ap (λ x. indexes_of (stmt_of x)) e ∙ ap indexes_of (stmt_of-call to callee args))
loops_of_simple slots s (inr (inr (inr (test, e)))) = loops_none slots s (ap (λ x. indexes_of (stmt_of x)) e ∙ ap indexes_of (stmt_of-assert test))

-- a loop over a block, from one statement to the next
pub loops_over : (start slots more : List (Option Name)) (block : List declared.Stmt) (i : ℕ) (s : declared.Stmt) → i < length block → s ≡ get_or block i s →
    slots ++ loop_names (block_indexes (block_of (drop i block))) ≡ start → more ≡ slots ++ loop_names (indexes_of (stmt_of s)) →
    more ++ loop_names (block_indexes (block_of (drop (i + 1) block))) ≡ start
loops_over start slots more block i s h is inv e =
    let tail : drop i block ≡ s ∷ drop (i + 1) block = rw (add-one, drop-cons block i s, ← is) refl in
    let rows : slots ++ loop_names (block_indexes (block_of (drop i block))) ≡ (slots ++ loop_names (indexes_of (stmt_of s))) ++ loop_names (block_indexes (block_of (drop (i + 1) block))) =
    ap (λ b. slots ++ loop_names (block_indexes (block_of b))) tail ∙ loops_of_row slots (stmt_of s) (block_of (drop (i + 1) block)) in
    ap (λ x. x ++ loop_names (block_indexes (block_of (drop (i + 1) block)))) e ∙ sym rows ∙ inv
