use Rattle.std.proofs.Common.{◌≡◌, ℕ, ◌*◌, ◌/◌, List, take, sym, subst, arith}
use Rattle.vmv_tree.specs.declared.name.Name.{Name}
use Rattle.vmv_cond.specs.declared.cond.Cond.{Cond}
use Rattle.vmv_snapshot.proofs.Zips.{take_one_more}
use Rattle.vmv_check.proofs.Lists.{got_in}
use Rattle.vmv_proof.specs.declared.proof.Exclusion.{Exclusion}
use Rattle.vmv_proof_check.specs.Work.{IsCutFor}
use Rattle.vmv_proof_check.proofs.Lists.{item_got}
use Rattle.vmv_proof_check.proofs.Adding.{held_more}
use Rattle.vmv_proof_check.proofs.cuts.Cuts.behind.Goals as goal

pub loop-i-init : goal.loop-i-init
loop-i-init c = λ base cuts named. subst (λ (hs : List (Name × Cond)). IsCutFor base (take (c.args.under / 64 * 64) c.args.before.now) hs) (sym c.in_ok-held.ensures) (cuts.kept (c.args.under / 64) c.index.result.now (item_got c.args.self.now.kept.items (c.args.under / 64) c.index.result.now (omega (arith, c.requires.kept, c.requires.under)) c.index.ensures))

pub loop-i-preserved : goal.loop-i-preserved
loop-i-preserved c = λ base cuts named.
    (let x = c.index-before-i.result in
    let inside = c.loop-i-test.true in
    let under = c.requires.under in
    let there = item_got c.args.before.now c.loop-i.i x (omega (arith, inside, under)) c.index-before-i.is in
    subst (λ (ys : List Exclusion). IsCutFor base ys c.cut-held.new.self) (sym (take_one_more c.args.before.now c.loop-i.i x (omega (arith, inside, under)) c.index-before-i.is))
    (held_more base (take c.loop-i.i c.args.before.now) x c.loop-i.held c.cut-held.new.self c.cut-held.result (c.loop-i.invariant base cuts named) (named x (got_in c.args.before.now c.loop-i.i x there)) c.cut-held.ensures.held c.cut-held.ensures.names c.cut-held.ensures.conds))

pub returns : goal.returns
returns c = λ base cuts named.
    (let e : c.loop-i.i ≡ c.args.under = omega (arith, c.loop-i-test.false, c.loop-i.auto.i-end (omega arith)) in
    subst (λ (k : ℕ). IsCutFor base (take k c.args.before.now) c.loop-i.held) e (c.loop-i.invariant base cuts named))
