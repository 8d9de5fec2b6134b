-- The boxes of an entry: parts of its parameters' ranges that its tests tell apart.
use Rattle.std.specs.Prelude.{◌≡◌, ℕ, nat_lt, nat_le, ℤ, int_le, Bool, not, ◌&&◌, Option, Some, None, List, [], ◌∷◌, ◌++◌, length, map, filter, take, slice_get, if◌then◌else◌}
use Rattle.std.specs.List.{list_all}
use Rattle.std.specs.Cmp.Lexicographic.{pointwise}
use Rattle.std.specs.Ordering.{int_eq}
use Rattle.vmv_tree.specs.declared.tree.Rel.TheVariants.{Greater}
use Rattle.vmv_tree.specs.declared.tree.Param.{Param}
use Rattle.vmv_snapshot.specs.declared.code.CodeOperand.{CodeOperand}
use Rattle.vmv_snapshot.specs.declared.code.CodeOperand.TheVariants.{Lit, Var}
use Rattle.vmv_snapshot.specs.declared.code.Simple.{Simple}
use Rattle.vmv_snapshot.specs.declared.code.Simple.TheVariants.{Set, Arith, Ask, Assert}
use Rattle.vmv_snapshot.specs.declared.code.Code.{Code}
use Rattle.vmv_snapshot.specs.Code.{Stmt, plain, help, branch, loop, Block, [], ◌⨾◌, Body}
use Rattle.vmv_snapshot.specs.View.{code_of}
use Rattle.vmv_snapshot.specs.Boxes.{Range}
use Rattle.vmv_snapshot.specs.Procs.{params_of}
use Rattle.vmv_snapshot.specs.Resolution.{Resolution, procs_of}
use Rattle.vmv_back.specs.Firsts.{firsts}
use Rattle.vmv_back.specs.Assigned.{block_assigns}
use Rattle.vmv_back.specs.declared.fact.Fact.{Fact}
use Rattle.vmv_back.specs.Facts.{fact_of, negation, narrowed}

-- a range for each parameter
abbrev pub Box : Type 0
Box = List Range

-- the box where the fact holds, or the box where none is told
abbrev pub where_true : Option Fact → Box → Box
where_true (Some fact) box = narrowed fact box
where_true None box = box

-- the box where the fact doesn't hold, or the box where none is told
abbrev pub where_false : Option Fact → Box → Box
where_false (Some fact) box = narrowed (negation fact) box
where_false None box = box

-- at an assert, the box where it fails
abbrev pub failing : Option Fact → Box → List Box
failing (Some fact) box = narrowed (negation fact) box ∷ []
failing None box = []

-- at an `if`, the box of the first part and that of the second
abbrev pub parts : Option Fact → Box → List Box
parts (Some fact) box = narrowed fact box ∷ narrowed (negation fact) box ∷ []
parts None box = []

-- at a loop, the box where its bound is above its cap
abbrev pub over_cap : (ℕ → Bool) → CodeOperand → ℤ → Box → List Box
over_cap fixed (Var x) most box = if fixed x.0 then narrowed (record { slot = x; rel = Greater; word = most }) box ∷ [] else []
over_cap fixed (Lit word) most box = []

abbrev pub simple_boxes : (ℕ → Bool) → Box → Simple → List Box
simple_boxes fixed box (Set to from) = []
simple_boxes fixed box (Arith to op left right site) = []
simple_boxes fixed box (Ask to callee args) = []
simple_boxes fixed box (Assert test site) = failing (fact_of fixed test) box

-- The boxes at the tests in a statement, in text order: both parts of an `if` before what is inside them, a loop's before
-- its body. The set of slots has the parameters that are never assigned.
unfoldable mutual
  pub boxes_in : (ℕ → Bool) → Box → Stmt → List Box
  boxes_in fixed box (plain simple) = simple_boxes fixed box simple
  boxes_in fixed box (help to callee args) = []
  boxes_in fixed box (branch test first second) =
      parts (fact_of fixed test) box
      ++ (boxes_inside fixed (where_true (fact_of fixed test) box) first ++ boxes_inside fixed (where_false (fact_of fixed test) box) second)
  boxes_in fixed box (loop index slot bound most site body) = over_cap fixed bound most box ++ boxes_inside fixed box body

  pub boxes_inside : (ℕ → Bool) → Box → Block → List Box
  boxes_inside fixed box [] = []
  boxes_inside fixed box (s ⨾ rest) = boxes_in fixed box s ++ boxes_inside fixed box rest

-- slot x is one of the first n, the parameters, and the statements never assign it
abbrev pub is_fixed : ℕ → Block → ℕ → Bool
is_fixed n block x = nat_lt 0 x && (nat_le x n && not (block_assigns x block))

-- the range has a word
abbrev pub is_nonempty_range : Range → Bool
is_nonempty_range r = int_le r.0 r.1

-- each range has a word
abbrev pub is_nonempty : Box → Bool
is_nonempty box = list_all is_nonempty_range box

abbrev pub same_range : Range → Range → Bool
same_range a b = int_eq a.0 b.0 && int_eq a.1 b.1

abbrev pub same_box : Box → Box → Bool
same_box a b = pointwise same_range a b

-- the parameters' own ranges
abbrev pub full_box : List Param → Box
full_box params = map (λ p. (p.lo, p.hi)) params

-- the full box, then those at the tests; empty and repeated ones are left out, and the first 16 are kept
abbrev pub boxes_of : List Param → Body → List Box
boxes_of params code =
    take 16 (firsts same_box (filter is_nonempty (full_box params ∷ boxes_inside (is_fixed (length params) code.block) (full_box params) code.block)))

-- the boxes of the procedure of this number
pub record AreBoxes (s : Resolution) (n : ℕ) (boxes : List Box) : Type 0 where
  pub params : List Param
  pub code : Code
  pub takes : slice_get (map params_of (procs_of s)) n ≡ Some params
  pub does : slice_get s.codes n ≡ Some code
  pub boxes_are : boxes ≡ boxes_of params (code_of code)
