-- The helpers that statements call, added one statement after another.
use Rattle.std.proofs.Common.{◌≡◌, ℕ, ◌+◌, ◌<◌, ◌≤◌, OnOk, Result, Ok, Err, List, [], ◌∷◌, ◌++◌, length, drop, get_or, refl, sym, ap, subst, ◌∙◌, append_assoc}
use Rattle.std.proofs.lemmas.List.{drop_all}
use Rattle.vmv_snapshot.specs.declared.code.ProcId.{ProcId}
use Rattle.vmv_snapshot.specs.declared.code.CodeTest.{CodeTest}
use Rattle.vmv_snapshot.specs.declared.code.Simple.{Simple}
use Rattle.vmv_snapshot.specs.declared.code.CodeStmt.{CodeStmt, Plain, If}
use Rattle.vmv_snapshot.specs.View.{stmt_of, block_of}
use Rattle.vmv_check.proofs.Walking.{from_item, is_plain, is_if}
use Rattle.vmv_pass.specs.Callees.{callees, block_callees}

append_nil : (xs : List ProcId) → xs ≡ xs ++ []
append_nil [] = refl
append_nil (x ∷ xs) = ap (λ ys. x ∷ ys) (append_nil xs)

pub plain_adds : (s : CodeStmt) (simple : Simple) (xs : List ProcId) → s ≡ Plain simple → xs ≡ xs ++ callees (stmt_of s)
plain_adds s simple xs is = subst (λ t. xs ≡ xs ++ callees t) (sym (is_plain s simple is)) (append_nil xs)

pub if_adds : (s : CodeStmt) (test : CodeTest) (first second one other : List CodeStmt) (xs ys zs : List ProcId) → s ≡ If test first second → one ≡ first → other ≡ second → ys ≡ xs ++ block_callees (block_of one) → zs ≡ ys ++ block_callees (block_of other) →
    zs ≡ xs ++ callees (stmt_of s)
if_adds s test first second one other xs ys zs is a b h g =
    let h' = subst (λ (l : List CodeStmt). ys ≡ xs ++ block_callees (block_of l)) a h in
    let g' = subst (λ (l : List CodeStmt). zs ≡ ys ++ block_callees (block_of l)) b g in
    let e : zs ≡ (xs ++ block_callees (block_of first)) ++ block_callees (block_of second) = g' ∙ ap (λ l. l ++ block_callees (block_of second)) h' in
    subst (λ t. zs ≡ xs ++ callees t) (sym (is_if s test first second is)) (e ∙ append_assoc xs (block_callees (block_of first)) (block_callees (block_of second)))

pub row_adds : (block : List CodeStmt) (i : ℕ) (s : CodeStmt) (init xs ys : List ProcId) → i < length block → s ≡ get_or block i s → ys ≡ xs ++ callees (stmt_of s) → xs ++ block_callees (block_of (drop i block)) ≡ init →
    ys ++ block_callees (block_of (drop (i + 1) block)) ≡ init
row_adds block i s init xs ys h is more before =
    let rest = block_callees (block_of (drop (i + 1) block)) in
    let e : block_callees (block_of (drop i block)) ≡ callees (stmt_of s) ++ rest = ap block_callees (from_item block i s h is) in
    ap (λ l. l ++ rest) more ∙ (append_assoc xs (callees (stmt_of s)) rest ∙ (ap (λ l. xs ++ l) (sym e) ∙ before))

pub row_added : (block : List CodeStmt) (i : ℕ) (init xs : List ProcId) → length block ≤ i → xs ++ block_callees (block_of (drop i block)) ≡ init → xs ≡ init
row_added block i init xs h before =
    let none : drop i block ≡ [] = drop_all i block h in
    append_nil xs ∙ (ap (λ (l : List CodeStmt). xs ++ block_callees (block_of l)) (sym none) ∙ before)

-- what is said where a call succeeds
pub on_then : {A E : Type 0} (r : Result A E) (P Q : Type 0) → (P → Q) → OnOk r P → OnOk r Q
on_then (Ok a) P Q f p = f p
on_then (Err e) P Q f p = tt
