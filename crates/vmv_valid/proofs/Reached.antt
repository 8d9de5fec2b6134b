-- What is reached by looking up each called name once is what the calls bring.
use Rattle.std.proofs.Common.{◌≡◌, ℤ, Bool, true, false, not, ◌&&◌, ◌||◌, List, [], ◌∷◌, ◌++◌, refl, sym, ap, ◌∙◌, if◌then◌else◌}
use Rattle.std.specs.List.{list_any}
use Rattle.std.specs.Ordering.{int_eq}
use Rattle.std.specs.Str.{bytes_eq}
use Rattle.std.proofs.lemmas.List.Folds.{list_any-append}
use Rattle.vmv_tree.specs.declared.name.Name.{Name}
use Rattle.vmv_tree.specs.declared.tree.Param.{Param}
use Rattle.vmv_tree.specs.Tree.{Stmt, copy, compute, call, assert, choose, repeat, Block, [], ◌⨾◌, Body, Item, outside, helper, entry}
use Rattle.vmv_tree.specs.Limits.{brought, operand_numbers, test_numbers, args_numbers, numbers, block_numbers, body_numbers, range_ends, entry_numbers}
use Rattle.vmv_valid.specs.Names.{is_among}
use Rattle.vmv_valid.specs.Numbers.{no_numbers, own_numbers, called, block_called, without, numbers_after, called_after, reached, reached_by}
use Rattle.vmv_valid.proofs.Distinct.{holds, HaveSame}

-- a call of one of these names brings the number
abbrev bring : ℤ → (Name → List ℤ) → List Name → Bool
bring n of names = list_any (λ c. holds n (of c)) names

holds-append : (n : ℤ) (xs ys : List ℤ) → holds n (xs ++ ys) ≡ (holds n xs || holds n ys)
holds-append n xs ys = list_any-append (int_eq n) xs ys

bring-append : (n : ℤ) (of : Name → List ℤ) (xs ys : List Name) → bring n of (xs ++ ys) ≡ (bring n of xs || bring n of ys)
bring-append n of xs ys = list_any-append (λ (c : Name). holds n (of c)) xs ys

-- laws of tests

or_false : (a : Bool) → a ≡ (a || false)
or_false true = refl
or_false false = refl

or_mid : (a b c d : Bool) → ((a || b) || (c || d)) ≡ ((a || c) || (b || d))
or_mid true b c d = refl
or_mid false true true d = refl
or_mid false true false d = refl
or_mid false false true d = refl
or_mid false false false d = refl

or_three : (t a b c d : Bool) → ((t || (a || b)) || (c || d)) ≡ (((t || a) || c) || (b || d))
or_three true a b c d = refl
or_three false a b c d = or_mid a b c d

or_loop : (o m h r : Bool) → (o || (m || (h || r))) ≡ ((o || (m || h)) || r)
or_loop true m h r = refl
or_loop false true h r = refl
or_loop false false h r = refl

or_call : (a b : Bool) → (a || b) ≡ ((a || false) || (b || false))
or_call true b = refl
or_call false true = refl
or_call false false = refl

or_back : (a b c : Bool) → ((a || b) || c) ≡ ((a || c) || b)
or_back true b c = refl
or_back false true true = refl
or_back false true false = refl
or_back false false true = refl
or_back false false false = refl

or_assoc : (a b c : Bool) → ((a || b) || c) ≡ (a || (b || c))
or_assoc true b c = refl
or_assoc false b c = refl

or_turn : (a b c : Bool) → (a || (b || c)) ≡ ((a || c) || b)
or_turn true b c = refl
or_turn false true true = refl
or_turn false true false = refl
or_turn false false true = refl
or_turn false false false = refl

both_sides : (a b c d : Bool) → a ≡ b → c ≡ d → (a || c) ≡ (b || d)
both_sides a b c d p q = ap (λ (x : Bool). x || c) p ∙ ap (λ (x : Bool). b || x) q

-- the numbers of statements are their own, and those that their calls bring
mutual
  stmt_numbers : (n : ℤ) (of : Name → List ℤ) (s : Stmt) → holds n (numbers of s) ≡ (holds n (own_numbers s) || bring n of (called s))
  stmt_numbers n of (copy to from) = or_false (holds n (operand_numbers from))
  stmt_numbers n of (compute to op left right) = or_false (holds n (operand_numbers left ++ operand_numbers right))
  stmt_numbers n of (call to callee args) =
      let a = args_numbers args in
      holds-append n a (of callee)
      ∙ (or_call (holds n a) (holds n (of callee))
      ∙ ap (λ (x : Bool). x || (holds n (of callee) || false)) (sym (holds-append n a [])))
  stmt_numbers n of (assert test) = or_false (holds n (test_numbers test))
  stmt_numbers n of (choose test first second) =
      let t = test_numbers test in
      let a = block_numbers of first in
      let b = block_numbers of second in
      let c = block_numbers no_numbers first in
      let d = block_numbers no_numbers second in
      holds-append n (t ++ a) b
      ∙ (ap (λ (x : Bool). x || holds n b) (holds-append n t a)
      ∙ (both_sides (holds n t || holds n a) (holds n t || (holds n c || bring n of (block_called first))) (holds n b) (holds n d || bring n of (block_called second))
      (ap (λ (x : Bool). holds n t || x) (all_numbers n of first)) (all_numbers n of second)
      ∙ (or_three (holds n t) (holds n c) (bring n of (block_called first)) (holds n d) (bring n of (block_called second))
      ∙ both_sides ((holds n t || holds n c) || holds n d) (holds n ((t ++ c) ++ d)) (bring n of (block_called first) || bring n of (block_called second)) (bring n of (block_called first ++ block_called second))
      (sym (holds-append n (t ++ c) d ∙ ap (λ (x : Bool). x || holds n d) (holds-append n t c)))
      (sym (bring-append n of (block_called first) (block_called second))))))
  stmt_numbers n of (repeat index bound most body) =
      let o = operand_numbers bound in
      let b = block_numbers of body in
      let c = block_numbers no_numbers body in
      holds-append n o (most ∷ b)
      ∙ (ap (λ (x : Bool). holds n o || (int_eq n most || x)) (all_numbers n of body)
      ∙ (or_loop (holds n o) (int_eq n most) (holds n c) (bring n of (block_called body))
      ∙ ap (λ (x : Bool). x || bring n of (block_called body)) (sym (holds-append n o (most ∷ c)))))

  all_numbers : (n : ℤ) (of : Name → List ℤ) (b : Block) → holds n (block_numbers of b) ≡ (holds n (block_numbers no_numbers b) || bring n of (block_called b))
  all_numbers n of [] = refl
  all_numbers n of (s ⨾ rest) =
      holds-append n (numbers of s) (block_numbers of rest)
      ∙ (both_sides (holds n (numbers of s)) (holds n (own_numbers s) || bring n of (called s)) (holds n (block_numbers of rest)) (holds n (block_numbers no_numbers rest) || bring n of (block_called rest))
      (stmt_numbers n of s) (all_numbers n of rest)
      ∙ (or_mid (holds n (own_numbers s)) (bring n of (called s)) (holds n (block_numbers no_numbers rest)) (bring n of (block_called rest))
      ∙ both_sides (holds n (own_numbers s) || holds n (block_numbers no_numbers rest)) (holds n (own_numbers s ++ block_numbers no_numbers rest)) (bring n of (called s) || bring n of (block_called rest)) (bring n of (called s ++ block_called rest))
      (sym (holds-append n (own_numbers s) (block_numbers no_numbers rest))) (sym (bring-append n of (called s) (block_called rest)))))

all_of_body : (n : ℤ) (of : Name → List ℤ) (body : Body) → holds n (body_numbers of body) ≡ (holds n (body_numbers no_numbers body) || bring n of (block_called body.block))
all_of_body n of body =
    let o = operand_numbers body.output in
    holds-append n (block_numbers of body.block) o
    ∙ (ap (λ (x : Bool). x || holds n o) (all_numbers n of body.block)
    ∙ (or_back (holds n (block_numbers no_numbers body.block)) (bring n of (block_called body.block)) (holds n o)
    ∙ ap (λ (x : Bool). x || bring n of (block_called body.block)) (sym (holds-append n (block_numbers no_numbers body.block) o))))

-- nothing is declared above

bring_none : (n : ℤ) (names : List Name) → bring n (brought [] [] body_numbers []) names ≡ false
bring_none n [] = refl
bring_none n (name ∷ names) = bring_none n names

-- a name that is looked up: what it brings, and the other names

named_true : (h a r : Bool) → (h || ((a && h) || r)) ≡ (h || r)
named_true true a r = refl
named_true false true r = refl
named_true false false r = refl

named_false : (x a h r : Bool) → (x || ((a && h) || r)) ≡ ((a && h) || (x || r))
named_false true true true r = refl
named_false true true false r = refl
named_false true false h r = refl
named_false false a h r = refl

looked_up_by : (n : ℤ) (t : Bool) (x : List ℤ) (of : Name → List ℤ) (c : Name) (names left : List Name) (all a : Bool)
    → all ≡ ((a && holds n x) || bring n of left)
    → (holds n (if t then x else of c) || all) ≡ (((t || a) && holds n x) || bring n of (if not t then c ∷ left else left))
looked_up_by n true x of c names left all a h = ap (λ (y : Bool). holds n x || y) h ∙ named_true (holds n x) a (bring n of left)
looked_up_by n false x of c names left all a h = ap (λ (y : Bool). holds n (of c) || y) h ∙ named_false (holds n (of c)) a (holds n x) (bring n of left)

looked_up : (n : ℤ) (name : Name) (x : List ℤ) (of : Name → List ℤ) (names : List Name)
    → bring n (λ c. if bytes_eq name c then x else of c) names ≡ ((is_among names name && holds n x) || bring n of (without name names))
looked_up n name x of [] = refl
looked_up n name x of (c ∷ names) =
    looked_up_by n (bytes_eq name c) x of c names (without name names) (bring n (λ c. if bytes_eq name c then x else of c) names) (is_among names name) (looked_up n name x of names)

and_false : (a r : Bool) → ((a && false) || r) ≡ r
and_false true r = refl
and_false false r = refl

-- over one item more

helper_reached_by : (n : ℤ) (numbers own : List ℤ) (of : Name → List ℤ) (left more : List Name) (a : Bool)
    → (holds n (if a then numbers ++ own else numbers) || bring n of (if a then left ++ more else left))
    ≡ (holds n numbers || ((a && (holds n own || bring n of more)) || bring n of left))
helper_reached_by n numbers own of left more true =
    both_sides (holds n (numbers ++ own)) (holds n numbers || holds n own) (bring n of (left ++ more)) (bring n of left || bring n of more) (holds-append n numbers own) (bring-append n of left more)
    ∙ (or_assoc (holds n numbers) (holds n own) (bring n of left || bring n of more)
    ∙ ap (λ (x : Bool). holds n numbers || x) (or_turn (holds n own) (bring n of left) (bring n of more)))
helper_reached_by n numbers own of left more false = refl

pub reached_brought : (n : ℤ) (above : List Item) (numbers : List ℤ) (names : List Name)
    → holds n (reached above numbers names) ≡ (holds n numbers || bring n (brought [] [] body_numbers above) names)
reached_brought n [] numbers names = or_false (holds n numbers) ∙ ap (λ (x : Bool). holds n numbers || x) (sym (bring_none n names))
reached_brought n (outside name arity ∷ above) numbers names =
    let of = brought [] [] body_numbers above in
    reached_brought n above numbers (without name names)
    ∙ ap (λ (x : Bool). holds n numbers || x) (sym (looked_up n name [] of names ∙ and_false (is_among names name) (bring n of (without name names))))
reached_brought n (helper name params body ∷ above) numbers names =
    let of = brought [] [] body_numbers above in
    let left = without name names in
    reached_brought n above (numbers_after (helper name params body) numbers names) (called_after (helper name params body) names)
    ∙ (helper_reached_by n numbers (body_numbers no_numbers body) of left (block_called body.block) (is_among names name)
    ∙ ap (λ (x : Bool). holds n numbers || x)
    (ap (λ (x : Bool). (is_among names name && x) || bring n of left) (sym (all_of_body n of body)) ∙ sym (looked_up n name (body_numbers of body) of names)))
reached_brought n (entry name params body ∷ above) numbers names = reached_brought n above numbers names

-- the numbers of an entry are those that are reached
pub entry_reached : (above : List Item) (params : List Param) (body : Body) → HaveSame (reached_by above params body) (entry_numbers above params body)
entry_reached above params body n =
    let of = brought [] [] body_numbers above in
    let ends = range_ends params in
    let own = body_numbers no_numbers body in
    reached_brought n above (ends ++ own) (block_called body.block)
    ∙ (ap (λ (x : Bool). x || bring n of (block_called body.block)) (holds-append n ends own)
    ∙ (or_assoc (holds n ends) (holds n own) (bring n of (block_called body.block))
    ∙ (ap (λ (x : Bool). holds n ends || x) (sym (all_of_body n of body))
    ∙ sym (holds-append n ends (body_numbers of body)))))
