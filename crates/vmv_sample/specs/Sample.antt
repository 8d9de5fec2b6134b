-- The programs of a sample: a base, and a revision of it that asks for more.
use Rattle.std.specs.Prelude.{ℕ, ◌+◌, ℤ, pos, List, [], ◌∷◌, ◌++◌, map, codes}
use Rattle.std.specs.List.{range_with_len}
use Rattle.std.specs.Fmt.{decimal}
use Rattle.vmv_tree.specs.declared.tree.Operand.TheVariants.{Lit, Var}
use Rattle.vmv_tree.specs.declared.tree.Op.TheVariants.{Add}
use Rattle.vmv_tree.specs.declared.tree.Rel.TheVariants.{Less, AtLeast}
use Rattle.vmv_tree.specs.Tree.{compute, call, assert, repeat, Block, [], ◌⨾◌, Body, Item, outside, helper, entry}

-- { var y; y = x + 1; return y; }
abbrev pub successor_body : Body
successor_body = record {
  vars = codes "y" ∷ [];
  block = compute (codes "y") Add (Var (codes "x")) (Lit (pos 1)) ⨾ [];
  output = Var (codes "y");
}

-- { assert i < n; s = s + 1; }
abbrev pub turn : Block
turn =
    assert (record { left = Var (codes "i"); rel = Less; right = Var (codes "n") })
    ⨾ compute (codes "s") Add (Var (codes "s")) (Lit (pos 1))
    ⨾ []

-- { var q, r, s; q = a(); assert q >= LEAST; r = h(q); repeat i to n cap 20 { .. } return s; }
abbrev pub entry_body : ℤ → Body
entry_body least = record {
  vars = codes "q" ∷ codes "r" ∷ codes "s" ∷ [];
  block =
      call (codes "q") (codes "a") []
      ⨾ assert (record { left = Var (codes "q"); rel = AtLeast; right = Lit least })
      ⨾ call (codes "r") (codes "h") (Var (codes "q") ∷ [])
      ⨾ repeat (codes "i") (Var (codes "n")) (pos 20) turn
      ⨾ [];
  output = Var (codes "s");
}

-- entry number k, which asks for an answer of at least k and so much more
abbrev pub sample_entry : (more : ℕ) → ℕ → Item
sample_entry more k =
    entry (codes "e" ++ decimal k) (record { name = codes "n"; lo = pos 0; hi = pos 20 } ∷ []) (entry_body (pos (k + more)))

-- an outside name, a helper and 64 entries; those of the base ask for nothing more
abbrev pub sample_program : (more : ℕ) → List Item
sample_program more =
    outside (codes "a") (pos 0) ∷ helper (codes "h") (codes "x" ∷ []) successor_body ∷ map (sample_entry more) (range_with_len 0 64)
