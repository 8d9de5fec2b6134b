-- What may be called, and what a call brings, each number at most 1,000,000,000.
use Rattle.std.specs.Prelude.{ℕ, ◌+◌, ◌*◌, min, ℤ, pos, negsuc, Bool, ◌&&◌, ◌||◌, ◌==◌, false, Option, Some, None, is_some, List, [], ◌∷◌, if◌then◌else◌}
use Rattle.std.specs.Str.{bytes_eq}
use Rattle.vmv_tree.specs.declared.name.Name.{Name}
use Rattle.vmv_valid.specs.declared.callee.Brought.{Brought}
use Rattle.vmv_valid.specs.declared.callee.Callee.{Callee}

abbrev pub capped_sum : ℕ → ℕ → ℕ
capped_sum a b = min (a + b) 1000000000

abbrev pub capped_product : ℕ → ℕ → ℕ
capped_product a b = min (a * b) 1000000000

abbrev pub fits : Option ℕ → ℕ → Bool
fits None count = false
fits (Some arity) count = arity == count

-- one of them has this name and takes so many arguments
abbrev pub takes : List Callee → Name → ℕ → Bool
takes [] name count = false
takes (callee ∷ callees) name count = (fits callee.arity count && bytes_eq callee.name name) || takes callees name count

-- one of them has this name and takes some number of arguments
abbrev pub declares : List Callee → Name → Bool
declares [] name = false
declares (callee ∷ callees) name = (is_some callee.arity && bytes_eq callee.name name) || declares callees name

-- what a call of the first that has this name brings
abbrev pub brought_by : List Callee → Name → Brought
brought_by [] name = record { depth = 0; paths = 0; steps = 0; asks = 0 }
brought_by (callee ∷ callees) name = if bytes_eq callee.name name then callee.brought else brought_by callees name

-- the arity of an outside name, where it isn't below 0
abbrev pub arity_of : ℤ → Option ℕ
arity_of (pos n) = Some n
arity_of (negsuc n) = None

abbrev pub called_outside : Name → ℤ → Callee
called_outside name arity = record { name = name; arity = arity_of arity; brought = record { depth = 0; paths = 0; steps = 0; asks = 1 } }
