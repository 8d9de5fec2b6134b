use Rattle.std.proofs.Common.{◌≡◌, ◌↔◌, ℤ, List, take, reverse, ap, subst, ◌∙◌}
use Rattle.std.specs.Global.{Vec}
use Rattle.std.specs.List.{Contains}
use Rattle.std.proofs.lemmas.Result.{IfOk-weaker}
use Rattle.vmv_tree.specs.declared.tree.Param.{Param}
use Rattle.vmv_tree.specs.Limits.{entry_numbers}
use Rattle.vmv_tree.specs.View.{body_of, items_of}
use Rattle.vmv_snapshot.specs.Resolution.{tree_of}
use Rattle.vmv_valid.specs.Same.{HaveSame}
use Rattle.vmv_thresholds.specs.Collect.{IsNumberOf}
use Rattle.vmv_thresholds.proofs.Entries.{entry_told, entry_not_other}
use Rattle.vmv_thresholds.proofs.seeds.numbers_of.Goals as goal

pub returns-in_default : goal.returns-in_default
returns-in_default c =
    let items : c.as_slice-items.result.now ≡ c.args.snapshot.now.program.items = c.as_slice-items.ensures ∙ ap (λ p. p.items) c.program.ensures.program in
    absurd (entry_not_other c.as_slice-items.result.now c.args.snapshot.now.program.items c.args.entry.0 c.place_of-place.result c.index-items-place.result items c.requires c.place_of-place.ensures.place c.place_of-place.ensures.within c.index-items-place.is c.in_default.not-Entry)

pub returns : goal.returns
returns c =
    let items : c.as_slice-items.result.now ≡ c.args.snapshot.now.program.items = c.as_slice-items.ensures ∙ ap (λ p. p.items) c.program.ensures.program in
    let above = reverse (items_of (take c.place_of-place.result c.as_slice-items.result.now)) in
    let body = body_of c.in-Entry.body in
    IfOk-weaker {X = Vec ℤ} c.reached_numbers.result
    (λ numbers. HaveSame numbers.items (entry_numbers above c.as_slice.result.now body))
    (λ numbers. (z : ℤ) → Contains numbers.items z ↔ IsNumberOf (tree_of c.args.snapshot.now) c.args.entry.0 z)
    (λ numbers same.
    entry_told c.as_slice-items.result.now c.args.snapshot.now.program.items c.args.entry.0 c.place_of-place.result c.index-items-place.result c.in-Entry.name c.in-Entry.params c.in-Entry.body numbers.items
    items c.requires c.place_of-place.ensures.place c.place_of-place.ensures.within c.index-items-place.is c.in-Entry.is
    (subst (λ (l : List Param). HaveSame numbers.items (entry_numbers above l body)) c.as_slice.ensures same))
    c.reached_numbers.ensures
