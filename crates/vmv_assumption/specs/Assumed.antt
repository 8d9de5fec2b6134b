-- What is assumed of outside names: a condition for each name.
use Rattle.std.specs.Prelude.{Bool, List, [], ◌∷◌, map, if◌then◌else◌}
use Rattle.std.specs.Str.{bytes_eq}
use Rattle.vmv_tree.specs.declared.name.Name.{Name}
use Rattle.vmv_cond.specs.declared.cond.Cond.{Cond}
use Rattle.vmv_assumption.specs.Whole.{whole}

-- the condition of each name
abbrev pub Assumed : Type 0
Assumed = Name → Cond

-- the names that are held, in order
abbrev pub names_of : List (Name × Cond) → List Name
names_of held = map (λ h. h.0) held

-- it is a condition of this name
abbrev pub is_for : Name → Name × Cond → Bool
is_for name h = bytes_eq h.0 name

-- the condition that is held for a name; a name that isn't held has the whole condition
abbrev pub cond_of : List (Name × Cond) → Assumed
cond_of [] name = whole
cond_of (h ∷ held) name = if is_for name h then h.1 else cond_of held name
