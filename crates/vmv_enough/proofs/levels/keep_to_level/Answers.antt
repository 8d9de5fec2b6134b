use Rattle.std.proofs.Common.{◌≡◌, ◌∙◌, ◌<◌, ◌≤◌, List, sym, subst, length, get_or}
use Rattle.std.specs.List.{Contains}
use Rattle.vmv_tree.specs.declared.name.Name.{Name}
use Rattle.vmv_snapshot.specs.Procs.{outsides}
use Rattle.vmv_snapshot.specs.Resolution.{tree_of}
use Rattle.vmv_assumption.specs.Assumed.{names_of, cond_of}
use Rattle.vmv_enough.specs.Levels.{IsKeptTo}
use Rattle.vmv_enough.proofs.Levelled.{levelled_start, levelled_more, levelled_end}
use Rattle.vmv_enough.proofs.levels.keep_to_level.Goals as goal

pub loop-name-init : goal.loop-name-init
loop-name-init c = (λ i. names_of c.args.assumed.now, levelled_start c.args.level (outsides (tree_of c.args.base.now)) (cond_of c.args.assumed.now))

pub loop-name-preserved : goal.loop-name-preserved
loop-name-preserved c =
    let names : List Name = outsides (tree_of c.args.base.now) in
    let same = c.outsides-name-items.ensures in
    let is = subst (λ (xs : List Name). c.name-item.result ≡ get_or xs c.loop-name.name-index c.name-item.result) same c.name-item.is in
    let below = subst (λ (xs : List Name). c.loop-name.name-index < length xs) same c.loop-name-test.true in
    let there : Contains (names_of c.loop-name.assumed) c.name-item.result =
    subst (λ (xs : List Name). Contains xs c.name-item.result) (sym (c.loop-name.invariant.0 ∙ c.requires.names)) (c.loop-name.name-index, below, sym is) in
    let kept = subst (λ x. IsKeptTo c.args.level x c.kept_to-cond.result) c.get.ensures c.kept_to-cond.ensures in (
      c.set.ensures.names ∙ c.loop-name.invariant.0,
      levelled_more c.args.level names (cond_of c.args.assumed.now) (cond_of c.loop-name.assumed) (cond_of c.set.new.self) c.loop-name.name-index c.name-item.result c.kept_to-cond.result below is c.loop-name.invariant.1 kept
          (c.set.ensures.conds (c.set.ensures.held.1 there)),
    )

pub returns-clause-levelled : goal.returns-clause-levelled
returns-clause-levelled c =
    levelled_end c.args.base.now c.args.level (outsides (tree_of c.args.base.now)) (cond_of c.args.assumed.now) (cond_of c.loop-name.assumed) c.loop-name.name-index (λ i. outsides (tree_of c.args.base.now))
    (subst (λ (xs : List Name). length xs ≤ c.loop-name.name-index) c.outsides-name-items.ensures c.loop-name-test.false) c.loop-name.invariant.1
