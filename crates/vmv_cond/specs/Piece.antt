-- The words of a piece, and a condition kept to a piece or cut by it.
use Rattle.std.specs.Prelude.{◌≡◌, ◌↔◌, ℤ, pos, ◌<ℤ◌}
use Rattle.vmv_cond.specs.declared.cond.Cond.{Cond}
use Rattle.vmv_cond.specs.declared.cond.Piece.{Piece}
use Rattle.vmv_cond.specs.declared.cond.Piece.TheVariants.{Below, Above, Zero}
use Rattle.vmv_cond.specs.Cond.{Holds}

abbrev pub InPiece : Piece → ℤ → Type 0
InPiece (Below c) w = w <ℤ c
InPiece (Above c) w = c <ℤ w
InPiece Zero w = w ≡ pos 0

-- c holds the words of a that are outside the piece
abbrev pub IsOutside : Cond → Piece → Cond → Type 0
IsOutside a piece c = (w : ℤ) → Holds c w ↔ (Holds a w × ¬ InPiece piece w)

-- c holds the words of a that are in the piece
abbrev pub IsInside : Cond → Piece → Cond → Type 0
IsInside a piece c = (w : ℤ) → Holds c w ↔ (Holds a w × InPiece piece w)
