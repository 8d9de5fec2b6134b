use Rattle.std.proofs.Common.{ℤ, List, length, refl, subst, sym}
use Rattle.std.specs.List.{Contains}
use Rattle.vmv_tree.specs.declared.name.Name.{Name}
use Rattle.vmv_tree.specs.declared.tree.Param.{Param}
use Rattle.vmv_cert.specs.Tables.{IsBoxIn}
use Rattle.vmv_proof_check.proofs.Heading.{headed_here, box_of, at_most_told, told_at_most}
use Rattle.vmv_proof_check.proofs.entry.is_headed.Goals as goal

pub returns-then-not-is_box_in : goal.returns-then-not-is_box_in
returns-then-not-is_box_in c = (
  λ t. absurd (cc),
  λ h.
      let n = c.in-Some.ensures.entry in
      let inside = box_of c.args.base.now c.args.before.now c.args.x.now c.in-Some.entry.0 n.0 c.params.result.now c.requires n.1 c.params.ensures h in
      let B : List Param → Type 0 = λ ps. IsBoxIn ps c.args.x.now.within in
      let C : List (ℤ × ℤ) → Type 0 = λ rs. IsBoxIn c.as_slice.result.now rs in
      let t = c.if-not-is_box_in.ensures.1 (subst C (sym c.ranges-2.ensures) (subst B (sym c.as_slice.ensures) inside)) in
      absurd (cc),
)

pub returns : goal.returns
returns c =
    let n = c.in-Some.ensures.entry in
    let C : List (ℤ × ℤ) → Type 0 = λ rs. IsBoxIn c.as_slice.result.now rs in
    let B : List Param → Type 0 = λ ps. IsBoxIn ps c.args.x.now.within in
    let inside = subst B c.as_slice.ensures (subst C c.ranges-2.ensures (c.if-not-is_box_in.ensures.0 refl)) in
    let there = subst (λ (ns : List Name). Contains ns c.args.x.now.name) c.outsides.ensures (c.if-not-is_name_among.ensures.0 refl) in (
      λ t. headed_here c.args.base.now c.args.before.now c.args.x.now c.in-Some.entry.0 n.0 c.params.result.now c.requires n.1 c.params.ensures inside there (at_most_told c.args.x.now.under (length c.args.before.now) t),
      λ h. told_at_most c.args.x.now.under (length c.args.before.now) h.under_is,
    )
