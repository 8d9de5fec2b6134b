-- What may be wanted of a variable: that it lies in a range, or that it isn't some word.
use Rattle.std.specs.Prelude.{◌^◌, ℤ, pos, ◌+ℤ◌, ◌-ℤ◌, neg_ℤ, int_le, Bool, ◌&&◌, Option, Some, None, if◌then◌else◌}
use Rattle.std.specs.Int.{int_min, int_max}
use Rattle.vmv_tree.specs.Words.{is_word}
use Rattle.vmv_demands.specs.declared.want.Want.{Want}
use Rattle.vmv_demands.specs.declared.want.Want.TheVariants.{Within, Except}

-- the least word
abbrev pub least : ℤ
least = neg_ℤ (pos (2 ^ 63))

-- the greatest word
abbrev pub greatest : ℤ
greatest = pos (2 ^ 63) -ℤ pos 1

-- every word lies in the range
abbrev pub is_whole : ℤ → ℤ → Bool
is_whole lo hi = int_le lo least && int_le greatest hi

-- the range, where it isn't empty
abbrev pub nonempty : ℤ → ℤ → Option Want
nonempty lo hi = if int_le lo hi then Some (Within lo hi) else None

-- the words of a range, where it has some
abbrev pub words_from : ℤ → ℤ → Option Want
words_from lo hi = nonempty (int_max lo least) (int_min hi greatest)

-- what is wanted where a word is to lie in a range: nothing where every word does, or none
abbrev pub needed : ℤ → ℤ → Option Want
needed lo hi = if is_whole lo hi then None else words_from lo hi

-- what is wanted of y where this is wanted of y - by
abbrev pub moved : ℤ → Want → Option Want
moved by (Within lo hi) = words_from (lo +ℤ by) (hi +ℤ by)
moved by (Except c) = if is_word (c +ℤ by) then Some (Except (c +ℤ by)) else None
