-- Lines of pairs, one after another.
use Rattle.std.proofs.Common.{◌≡◌, ℕ, ◌+◌, ◌<◌, ◌≤◌, List, [], ◌∷◌, ◌++◌, length, map, refl, sym, ap, ◌∙◌, IsTrue, arith, append_assoc, length-append}
use Rattle.std.specs.List.{AllByRecursion}
use Rattle.vmv_tree.specs.Names.{is_name}
use Rattle.vmv_tree.specs.declared.name.Name.{Name}
use Rattle.vmv_witness.specs.Numbers.{IsValue}
use Rattle.vmv_witness.specs.Text.{text_of, pair_line}
use Rattle.vmv_witness.specs.Reading.{IsStrict, TakesPairs}

strict_more : (ps : List (Name × List ℕ)) (p : Name × List ℕ) → AllByRecursion IsStrict ps → IsStrict p → AllByRecursion IsStrict (ps ++ p ∷ [])
strict_more [] p h k = (k, tt)
strict_more (q ∷ ps) p h k = (h.0, strict_more ps p h.1 k)

pub none_taken : (word old : List ℕ) → TakesPairs word old [] old
none_taken word old = record { strict = tt; place = refl }

joined : (word : List ℕ) (ps : List (Name × List ℕ)) (p : Name × List ℕ) (new : List ℕ) → text_of (map (pair_line word) (ps ++ p ∷ [])) ++ new ≡ text_of (map (pair_line word) ps) ++ (pair_line word p ++ 10 ∷ new)
joined word [] p new = append_assoc (pair_line word p) (10 ∷ []) new
joined word (q ∷ ps) p new =
    append_assoc (pair_line word q) (10 ∷ text_of (map (pair_line word) (ps ++ p ∷ []))) new
    ∙ (ap (λ t. pair_line word q ++ 10 ∷ t) (joined word ps p new)
    ∙ sym (append_assoc (pair_line word q) (10 ∷ text_of (map (pair_line word) ps)) (pair_line word p ++ 10 ∷ new)))

-- one more line of a pair is taken
pub one_more : (word old : List ℕ) (ps : List (Name × List ℕ)) (p : Name × List ℕ) (mid new : List ℕ) → TakesPairs word old ps mid → IsTrue (is_name p.0) → IsValue p.1 → mid ≡ pair_line word p ++ 10 ∷ new → TakesPairs word old (ps ++ p ∷ []) new
one_more word old ps p mid new h named value e =
    record {
      strict = strict_more ps p h.strict (named, value);
      place =
          h.place ∙ (ap (λ t. text_of (map (pair_line word) ps) ++ t) e ∙ sym (joined word ps p new));
    }

lines_long : (word : List ℕ) (ps : List (Name × List ℕ)) → length ps ≤ length (text_of (map (pair_line word) ps))
lines_long word [] = omega arith
lines_long word (p ∷ ps) = omega (arith, lines_long word ps, length-append (pair_line word p) (10 ∷ text_of (map (pair_line word) ps)))

-- there are no more lines than bytes
pub pairs_within : (word old : List ℕ) (ps : List (Name × List ℕ)) (new : List ℕ) → TakesPairs word old ps new → length ps + length new ≤ length old
pairs_within word old ps new h =
    omega (arith, ap length h.place, length-append (text_of (map (pair_line word) ps)) new, lines_long word ps)

-- a line that is taken has bytes
pub line_shorter : (line old new : List ℕ) → old ≡ line ++ 10 ∷ new → length new < length old
line_shorter line old new e = omega (arith, ap length e, length-append line (10 ∷ new))
