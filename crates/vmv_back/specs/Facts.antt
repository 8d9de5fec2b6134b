-- What a test tells of a parameter that is never assigned, and a box narrowed by it. A box has a range for each
-- parameter, whose slots are numbered from 1.
use Rattle.std.specs.Prelude.{ℕ, ◌+◌, ◌==◌, ℤ, pos, ◌+ℤ◌, ◌-ℤ◌, Bool, false, Option, Some, None, List, [], ◌∷◌, slice_index_or, if◌then◌else◌}
use Rattle.std.specs.Int.{int_min, int_max}
use Rattle.std.specs.Ordering.{int_eq}
use Rattle.vmv_tree.specs.declared.tree.Rel.{Rel}
use Rattle.vmv_tree.specs.declared.tree.Rel.TheVariants.{Equal, Unequal, Less, AtMost, Greater, AtLeast}
use Rattle.vmv_snapshot.specs.declared.code.CodeOperand.{CodeOperand}
use Rattle.vmv_snapshot.specs.declared.code.CodeOperand.TheVariants.{Lit, Var}
use Rattle.vmv_snapshot.specs.declared.code.CodeTest.{CodeTest}
use Rattle.vmv_snapshot.specs.Boxes.{Range}
use Rattle.vmv_back.specs.declared.fact.Fact.{Fact}

-- the relation with its sides exchanged
abbrev pub mirrored : Rel → Rel
mirrored Equal = Equal
mirrored Unequal = Unequal
mirrored Less = Greater
mirrored AtMost = AtLeast
mirrored Greater = Less
mirrored AtLeast = AtMost

-- the relation that holds where this one doesn't
abbrev pub negated : Rel → Rel
negated Equal = Unequal
negated Unequal = Equal
negated Less = AtLeast
negated AtMost = Greater
negated Greater = AtMost
negated AtLeast = Less

-- what the two sides tell of a slot that the set of slots has, where the other side is a literal
abbrev pub told : (ℕ → Bool) → CodeOperand → Rel → CodeOperand → Option Fact
told fixed (Var x) rel (Lit word) = if fixed x.0 then Some (record { slot = x; rel = rel; word = word }) else None
told fixed (Lit word) rel (Var x) = if fixed x.0 then Some (record { slot = x; rel = mirrored rel; word = word }) else None
told fixed (Var x) rel (Var y) = None
told fixed (Lit word) rel (Lit other) = None

abbrev pub fact_of : (ℕ → Bool) → CodeTest → Option Fact
fact_of fixed test = told fixed test.left test.rel test.right

abbrev pub negation : Fact → Fact
negation fact = record { slot = fact.slot; rel = negated fact.rel; word = fact.word }

-- The range of the values that stand so to the word. A `!=` leaves out an end of the range; inside the range, which no
-- range can say, it changes nothing.
abbrev pub narrow : Rel → ℤ → Range → Range
narrow Equal word r = (int_max r.0 word, int_min r.1 word)
narrow Unequal word r =
    if int_eq word r.0 then (r.0 +ℤ pos 1, r.1) else (if int_eq word r.1 then (r.0, r.1 -ℤ pos 1) else (r.0, r.1))
narrow Less word r = (r.0, int_min r.1 (word -ℤ pos 1))
narrow AtMost word r = (r.0, int_min r.1 word)
narrow Greater word r = (int_max r.0 (word +ℤ pos 1), r.1)
narrow AtLeast word r = (int_max r.0 word, r.1)

-- the range of slot k
abbrev pub narrow_slot : Fact → ℕ → Range → Range
narrow_slot fact k r = if k == fact.slot.0 then narrow fact.rel fact.word r else r

-- the ranges of the slots from k on
abbrev pub narrow_from : Fact → ℕ → List Range → List Range
narrow_from fact k [] = []
narrow_from fact k (r ∷ box) = narrow_slot fact k r ∷ narrow_from fact (k + 1) box

-- the box, whose range of the fact's slot is narrowed
abbrev pub narrowed : Fact → List Range → List Range
narrowed fact box = narrow_from fact 1 box

-- the slots at which the array is true
abbrev pub slots_of : List Bool → ℕ → Bool
slots_of flags x = slice_index_or flags x false
