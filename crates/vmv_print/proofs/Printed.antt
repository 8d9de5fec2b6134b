-- What is printed of a program that can be written is a text of it.
use Rattle.std.proofs.Common.{◌≡◌, ℕ, List, [], ◌++◌, sym, ◌∙◌, subst}
use Rattle.std.specs.Prelude.{Result, Ok, Err, IfOk}
use Rattle.std.specs.declared.alloc.AllocError.{AllocError}
use Rattle.vmv_tree.specs.Tree.{Item}
use Rattle.vmv_text.specs.Grammar.{IsText}
use Rattle.vmv_print.specs.Canonical.{canonical}
use Rattle.vmv_print.specs.Written.{HasCounts, IsWritten}
use Rattle.vmv_print.proofs.Derived.{canonical_read}

pub printed_read : (r : Result (List ℕ) AllocError) (program : List Item) → IsWritten program → IfOk r (λ text. text ≡ canonical program) → IfOk r (λ text. IsText text program)
printed_read (Ok text) program h e = subst (λ (t : List ℕ). IsText t program) (sym e) (canonical_read program h)
printed_read (Err error) program h e = tt

-- what is written of a program with counts, from nothing on, is a text of it
pub counted_read : (text begun : List ℕ) (program written : List Item) → begun ≡ [] → written ≡ program → text ≡ begun ++ canonical written → (HasCounts written → IsWritten written) → HasCounts program → IsText text program
counted_read text begun program written none same e known counts =
    let whole : text ≡ canonical program = e ∙ (λ i. none i ++ canonical (same i)) in
    let h = subst IsWritten same (known (subst HasCounts (sym same) counts)) in
    subst (λ (t : List ℕ). IsText t program) (sym whole) (canonical_read program h)
