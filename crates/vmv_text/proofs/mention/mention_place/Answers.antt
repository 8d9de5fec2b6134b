use Rattle.std.proofs.Common.{◌≤◌, length, sym, subst, ◌∙◌}
use Rattle.vmv_text.proofs.Faulty.{behind_short}
use Rattle.vmv_text.proofs.Skipping.{has_mention, no_mention}
use Rattle.vmv_text.proofs.mention.mention_place.Goals as goal

pub returns-then-not-go_to_name-clause-none : goal.returns-then-not-go_to_name-clause-none
returns-then-not-go_to_name-clause-none c = no_mention c.args.text.now _ c.go_to_name.new.self c.args.mention c.new-cursor.ensures c.if-not-go_to_name.ensures

pub slice_bounds-front-count : goal.slice_bounds-front-count
slice_bounds-front-count c =
    let at = c.if-not-go_to_name.ensures in
    subst (λ n. n ≤ length c.args.text.now) (sym c.left.ensures) (behind_short c.args.text.now at.2.used _ (sym c.new-cursor.ensures ∙ at.2.place))

pub returns-clause-place : goal.returns-clause-place
returns-clause-place c =
    has_mention c.args.text.now _ c.go_to_name.new.self c.args.mention c.left.result c.line.result c.column.result c.new-cursor.ensures c.if-not-go_to_name.ensures c.left.ensures c.line.ensures c.column.ensures
