use Rattle.std.proofs.Common.{◌∙◌, sym, ap, subst, arith, codes, ◌++◌}
use Rattle.std.specs.Prelude.{IsTrue}
use Rattle.vmv_tree.specs.Names.{is_name}
use Rattle.vmv_lower.proofs.Numerals.{numeral-decimal, temporary_name}
use Rattle.vmv_lower.proofs.names.temporary.Goals as goal

pub unreachable-requires : goal.unreachable-requires
unreachable-requires c =
    let bytes = c.as_slice.ensures.value ∙ c.in_ok-bytes.ensures in
    let name = temporary_name c.args.number (omega arith) in
    let found = c.in-None.ensures.some.1 (subst (λ x. IsTrue (is_name x)) (sym bytes) name) in
    absurd (cc found)

pub returns : goal.returns
returns c =
    let bytes = c.as_slice.ensures.value ∙ c.in_ok-bytes.ensures in
    c.in-Some.ensures.value ∙ (bytes ∙ ap (λ d. codes "__" ++ d) (sym (numeral-decimal c.args.number (omega arith))))
