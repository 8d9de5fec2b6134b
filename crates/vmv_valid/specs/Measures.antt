-- What the limits measure of statements, each number at most 1,000,000,000.
use Rattle.std.specs.Prelude.{ℕ, ◌≤◌, max, Some, List, [], ◌∷◌, length}
use Rattle.std.specs.Bool.{⊤}
use Rattle.vmv_tree.specs.declared.name.Name.{Name}
use Rattle.vmv_tree.specs.Tree.{Stmt, copy, compute, call, assert, choose, repeat, Block, [], ◌⨾◌, Item, outside, helper, entry}
use Rattle.vmv_tree.specs.Run.{turns_of}
use Rattle.vmv_valid.specs.declared.callee.Brought.{Brought}
use Rattle.vmv_valid.specs.declared.callee.Callee.{Callee}
use Rattle.vmv_valid.specs.declared.measure.Measures.{Measures}
use Rattle.vmv_valid.specs.Callees.{capped_sum, capped_product, brought_by, called_outside}

abbrev pub nothing : Measures
nothing = record { loops = 0; statements = 0; nesting = 0; deepest = 0; paths = 0; steps = 0; asks = 0 }

abbrev pub simple : Measures
simple = record { loops = 0; statements = 1; nesting = 0; deepest = 0; paths = 0; steps = 1; asks = 0 }

abbrev pub calling : Brought → Measures
calling b = record { loops = 0; statements = 1; nesting = 0; deepest = b.depth; paths = b.paths; steps = capped_sum 1 b.steps; asks = b.asks }

abbrev pub beside : Measures → Measures → Measures
beside m n = record {
  loops = capped_sum m.loops n.loops;
  statements = capped_sum m.statements n.statements;
  nesting = max m.nesting n.nesting;
  deepest = max m.deepest n.deepest;
  paths = capped_sum m.paths n.paths;
  steps = capped_sum m.steps n.steps;
  asks = capped_sum m.asks n.asks;
}

abbrev pub choosing : Measures → Measures
choosing m = record {
  loops = m.loops;
  statements = capped_sum 1 m.statements;
  nesting = capped_sum 1 m.nesting;
  deepest = m.deepest;
  paths = m.paths;
  steps = capped_sum 1 m.steps;
  asks = m.asks;
}

abbrev pub repeating : ℕ → Measures → Measures
repeating turns m = record {
  loops = capped_sum 1 m.loops;
  statements = capped_sum 1 m.statements;
  nesting = capped_sum 1 m.nesting;
  deepest = m.deepest;
  paths = m.paths;
  steps = capped_sum 1 (capped_product turns (capped_sum 1 m.steps));
  asks = capped_product turns m.asks;
}

abbrev mutual
  pub measured : List Callee → Stmt → Measures
  measured callees (copy to from) = simple
  measured callees (compute to op left right) = simple
  measured callees (call to callee args) = calling (brought_by callees callee)
  measured callees (assert test) = simple
  measured callees (choose test first second) = choosing (beside (measured_after callees nothing first) (measured_after callees nothing second))
  measured callees (repeat index bound most body) = repeating (turns_of most) (measured_after callees nothing body)

  -- with what was measured before
  pub measured_after : List Callee → Measures → Block → Measures
  measured_after callees before [] = before
  measured_after callees before (s ⨾ rest) = measured_after callees (beside before (measured callees s)) rest

abbrev pub measured_all : List Callee → Block → Measures
measured_all callees block = measured_after callees nothing block

-- a helper of these measures, with so many parameters, as its callers see it
abbrev pub called_helper : Name → ℕ → Measures → Callee
called_helper name count m = record {
  name = name;
  arity = Some count;
  brought = record { depth = capped_sum 1 m.deepest; paths = capped_sum 1 m.paths; steps = capped_sum m.steps 1; asks = m.asks };
}

-- few arguments
abbrev pub IsSmall : Item → Type 0
IsSmall (outside name arity) = turns_of arity ≤ 16
IsSmall (helper name params body) = length params ≤ 16
IsSmall (entry name params body) = ⊤

abbrev pub add_called : Item → List Callee → List Callee
add_called (outside name arity) callees = called_outside name arity ∷ callees
add_called (helper name params body) callees = called_helper name (length params) (measured_all callees body.block) ∷ callees
add_called (entry name params body) callees = callees

-- what the items below these may call, the nearest first
abbrev pub callees_of : List Item → List Callee
callees_of [] = []
callees_of (item ∷ above) = add_called item (callees_of above)
