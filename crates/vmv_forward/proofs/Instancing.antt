-- How many loops the instances of a procedure have.
use Rattle.std.proofs.Common.{◌≡◌, ◌⊎◌, inl, inr, ⊎_elim, ℕ, zero, suc, ◌+◌, ◌<◌, Some, List, [], ◌∷◌, slice_get, refl, sym, ap, subst, arith, ◌∙◌}
use Rattle.std.specs.Prelude.{sum_by}
use Rattle.std.specs.List.{Contains}
use Rattle.std.proofs.lemmas.List.Sums.{sum_by-append}
use Rattle.vmv_snapshot.specs.declared.code.Code.{Code}
use Rattle.vmv_snapshot.specs.declared.code.ProcId.{ProcId}
use Rattle.vmv_snapshot.specs.Code.{Block, []}
use Rattle.vmv_snapshot.specs.View.{code_of}
use Rattle.vmv_snapshot.specs.Resolution.{Resolution, IsResolution, tree_of}
use Rattle.vmv_snapshot.proofs.Links.{helps_call}
use Rattle.vmv_cert.specs.Sizes.{block_loops}
use Rattle.vmv_pass.specs.Callees.{block_callees}
use Rattle.vmv_forward.specs.Instances.{block_at, instances_within, instances}
use Rattle.vmv_forward.proofs.Fresh.{block_helps}

pub sum_one : {X : Type 0} (f : X → ℕ) (x : X) → sum_by f (x ∷ []) ≡ f x
sum_one f x = let e : sum_by f (x ∷ []) ≡ 0 + f x = refl in omega (arith, e)

pub sum_cons : {X : Type 0} (f : X → ℕ) (x : X) (xs : List X) → sum_by f (x ∷ xs) ≡ f x + sum_by f xs
sum_cons f x xs = let a = sum_by-append f (x ∷ []) xs in let b = sum_one f x in omega (arith, a, b)

-- terms that are equal have one sum
pub sum_same : {X : Type 0} (f g : X → ℕ) (xs : List X) → ((x : X) → Contains xs x → f x ≡ g x) → sum_by f xs ≡ sum_by g xs
sum_same f g [] h = refl
sum_same f g (x ∷ xs) h =
    let one : f x ≡ g x = h x (0, omega arith, refl) in
    let rest = sum_same f g xs (λ y among. h y (suc among.0, (let q = among.1 in omega arith), among.2)) in
    let a = sum_cons f x xs in
    let b = sum_cons g x xs in
    omega (arith, one, rest, a, b)

block_found : (codes : List Code) (n : ℕ) → (block_at codes n ≡ []) ⊎ ((code : Code) × (slice_get codes n ≡ Some code) × (block_at codes n ≡ (code_of code).block))
block_found [] n = inl refl
block_found (code ∷ codes) zero = inr (code, refl, refl)
block_found (code ∷ codes) (suc n) = block_found codes n

pub block_there : (codes : List Code) (n : ℕ) (code : Code) → slice_get codes n ≡ Some code → block_at codes n ≡ (code_of code).block
block_there [] n code e = absurd (cc)
block_there (c ∷ codes) zero code e = let same : c ≡ code = cc in ap (λ (x : Code). (code_of x).block) same
block_there (c ∷ codes) (suc n) code e = block_there codes n code e

none_among : {P : Type 0} (x : ProcId) → Contains [] x → P
none_among x (k, h, e) = absurd (omega (arith, h))

-- a procedure calls those of lower numbers
pub callees_below : (program : Resolution) (n : ℕ) (callee : ProcId) → IsResolution program → Contains (block_callees (block_at program.codes n)) callee → callee.0 < n
callees_below program n callee is among =
    ⊎_elim (λ (e : block_at program.codes n ≡ []). none_among callee (subst (λ (b : Block). Contains (block_callees b) callee) e among))
    (λ (h : (code : Code) × (slice_get program.codes n ≡ Some code) × (block_at program.codes n ≡ (code_of code).block)).
    let there = subst (λ (b : Block). Contains (block_callees b) callee) h.2 among in
    (helps_call (tree_of program) n (code_of h.0) (is.resolves n h.0 h.1) callee.0 (block_helps (code_of h.0).block callee there)).1)
    (block_found program.codes n)

-- paths of enough calls count all loops
pub enough : (program : Resolution) (a b n : ℕ) → IsResolution program → n < a → n < b → instances_within a program.codes n ≡ instances_within b program.codes n
enough program zero b n is h g = absurd (omega arith)
enough program (suc a) zero n is h g = absurd (omega arith)
enough program (suc a) (suc b) n is h g =
    let list = block_callees (block_at program.codes n) in
    let same = sum_same (λ (callee : ProcId). instances_within a program.codes callee.0) (λ (callee : ProcId). instances_within b program.codes callee.0) list
    (λ callee among. enough program a b callee.0 is (let k = callees_below program n callee is among in omega arith) (let k = callees_below program n callee is among in omega arith)) in
    ap (λ k. block_loops (block_at program.codes n) + k) same

-- the loops of a procedure, and those of the instances of its calls
pub counted : (program : Resolution) (n : ℕ) (code : Code) (list : List ProcId) → IsResolution program → slice_get program.codes n ≡ Some code → list ≡ block_callees (code_of code).block →
    block_loops (code_of code).block + sum_by (λ (callee : ProcId). instances program.codes callee.0) list ≡ instances program.codes n
counted program n code list is at same =
    let there = block_there program.codes n code at in
    let called : list ≡ block_callees (block_at program.codes n) = same ∙ ap block_callees (sym there) in
    let f : ProcId → ℕ = λ (callee : ProcId). instances program.codes callee.0 in
    let g : ProcId → ℕ = λ (callee : ProcId). instances_within n program.codes callee.0 in
    let sums : sum_by f (block_callees (block_at program.codes n)) ≡ sum_by g (block_callees (block_at program.codes n)) =
    sum_same f g (block_callees (block_at program.codes n)) (λ callee among. enough program (suc callee.0) n callee.0 is (omega arith) (callees_below program n callee is among)) in
    ap (λ (b : Block). block_loops b + sum_by f list) (sym there) ∙ ap (λ k. block_loops (block_at program.codes n) + k) (ap (sum_by f) called ∙ sums)
