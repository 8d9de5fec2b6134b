use Rattle.std.proofs.Common.{arith, refl, ◌≡◌}
use Rattle.vmv_zone.proofs.Copying.{copied_bounds, copied_marks}
use Rattle.vmv_zone.proofs.Equal.{same_fields}
use Rattle.vmv_zone.proofs.zone.Zone.copy_from.Goals as goal

pub invariant_of-self : goal.invariant_of-self
invariant_of-self c =
    let e = c.max-vars.ensures in
    let b = c.args.other.now in
    let bounds : c.copy_bounds.new.bounds ≡ b.bounds = copied_bounds c.args.self.now b c.copy_bounds.new.bounds c.max-vars.result (omega arith) (omega arith) c.copy_bounds.ensures.full c.copy_bounds.ensures.copied c.copy_bounds.ensures.rest in
    let marks : c.copy_marks.new.marks ≡ b.marks = copied_marks b c.copy_marks.new.marks c.copy_marks.ensures.full c.copy_marks.ensures.copied in
    record {
      few = b.few;
      full = c.copy_bounds.ensures.full;
      reach = rw bounds b.reach;
      topped = rw bounds b.topped;
      outside = rw bounds b.outside;
      sized = c.copy_marks.ensures.full;
      variables = rw marks b.variables;
      emptied = rw (bounds, marks) b.emptied;
    }

pub returns : goal.returns
returns c =
    let e = c.max-vars.ensures in
    let b = c.args.other.now in
    let bounds : c.copy_bounds.new.bounds ≡ b.bounds = copied_bounds c.args.self.now b c.copy_bounds.new.bounds c.max-vars.result (omega arith) (omega arith) c.copy_bounds.ensures.full c.copy_bounds.ensures.copied c.copy_bounds.ensures.rest in
    let marks : c.copy_marks.new.marks ≡ b.marks = copied_marks b c.copy_marks.new.marks c.copy_marks.ensures.full c.copy_marks.ensures.copied in
    same_fields _ b refl refl bounds marks
