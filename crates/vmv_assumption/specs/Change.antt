-- What is assumed, changed at one name.
use Rattle.std.specs.Prelude.{◌≡◌, ◌≢◌}
use Rattle.vmv_tree.specs.declared.name.Name.{Name}
use Rattle.vmv_cond.specs.declared.cond.Cond.{Cond}
use Rattle.vmv_cond.specs.declared.cond.Piece.{Piece}
use Rattle.vmv_cond.specs.Piece.{IsInside, IsOutside}
use Rattle.vmv_assumption.specs.Assumed.{Assumed}

-- every other name has the same condition in both
abbrev pub IsSameElsewhere : Name → Assumed → Assumed → Type 0
IsSameElsewhere f a b = (name : Name) → name ≢ f → b name ≡ a name

-- b is a with this condition for f
pub record IsSet (a : Assumed) (f : Name) (cond : Cond) (b : Assumed) : Type 0 where
  pub there : b f ≡ cond
  pub elsewhere : IsSameElsewhere f a b

-- b is a with f's condition met with the piece
pub record IsKept (a : Assumed) (f : Name) (piece : Piece) (b : Assumed) : Type 0 where
  pub there : IsInside (a f) piece (b f)
  pub elsewhere : IsSameElsewhere f a b

-- b is a with the words of the piece taken out of f's condition
pub record IsCut (a : Assumed) (f : Name) (piece : Piece) (b : Assumed) : Type 0 where
  pub there : IsOutside (a f) piece (b f)
  pub elsewhere : IsSameElsewhere f a b
