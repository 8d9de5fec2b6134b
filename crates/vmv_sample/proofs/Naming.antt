-- The names of the entries are names.
use Rattle.std.proofs.Common.{◌≡◌, ℕ, ◌<◌, Bool, true, false, List, ◌++◌, length, get_or, refl, sym, ap, ◌∙◌, IsTrue, arith}
use Rattle.std.specs.Prelude.{codes}
use Rattle.std.specs.Fmt.{decimal, digits}
use Rattle.std.specs.List.{list_all, range_with_len}
use Rattle.std.proofs.lemmas.Bool.{false≢true}
use Rattle.std.proofs.lemmas.List.Folds.{list_all_at}
use Rattle.std.proofs.lemmas.List.FromFn.{length-range_with_len, get_or-range_with_len}
use Rattle.vmv_tree.specs.Names.{is_name}

abbrev is_entry_name : ℕ → Bool
is_entry_name k = is_name (codes "e" ++ decimal k)

abbrev numbers : List ℕ
numbers = range_with_len 0 64

all_named : list_all is_entry_name numbers ≡ true
unfolding digits
all_named = refl

decided : (b : Bool) → (b ≡ false → ⊥) → IsTrue b
decided true h = refl
decided false h = absurd (h refl)

-- so is each: by going through them all
pub entry_named : (k : ℕ) → k < 64 → IsTrue (is_name (codes "e" ++ decimal k))
entry_named k h =
    let at : get_or numbers k 0 ≡ k = omega (arith, get_or-range_with_len 0 64 k 0 h) in
    let below : k < length numbers = omega (arith, length-range_with_len 0 64) in
    decided (is_entry_name k) (λ e. false≢true (sym (list_all_at is_entry_name numbers k 0 below (ap is_entry_name at ∙ e)) ∙ all_named))
