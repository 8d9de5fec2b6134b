use Rattle.std.proofs.Common.{◌≡◌, length, ap, refl, arith, ◌∙◌, sym}
use Rattle.std.proofs.lemmas.List.{length-map}
use Rattle.vmv_tree.specs.declared.name.Name.{Name}
use Rattle.vmv_proof.specs.declared.proof.Shown.{Shown}
use Rattle.vmv_check.proofs.Lists.{within}
use Rattle.vmv_proof_check.proofs.Lists.{map_of, map_same, item_got, agree_more}
use Rattle.vmv_proof_check.proofs.shape.has_names.Goals as goal

abbrev entry_of : Shown → Name
entry_of s = s.entry

pub returns-then-shown-names : goal.returns-then-shown-names
returns-then-shown-names c = (
  λ t. absurd (cc),
  λ e. let l : length c.args.shown.now ≡ length c.args.names.now = sym (length-map c.args.shown.now entry_of) ∙ ap length e in absurd (omega (arith, c.if-shown-names.true, l)),
)

pub loop-i-preserved : goal.loop-i-preserved
loop-i-preserved c =
    agree_more (λ (s : Shown) (n : Name). s.entry ≡ n) c.args.shown.now c.args.names.now c.loop-i.i c.index-shown-i.result c.index-names-i.result (item_got c.args.shown.now c.loop-i.i c.index-shown-i.result (omega (arith, c.loop-i-test.true, c.if-shown-names.false)) c.index-shown-i.is)
    (item_got c.args.names.now c.loop-i.i c.index-names-i.result c.loop-i-test.true c.index-names-i.is) (c.if-not-is_name.ensures.0 refl) c.loop-i.invariant

pub returns-then-not-is_name : goal.returns-then-not-is_name
returns-then-not-is_name c = (
  λ t. absurd (cc),
  λ e.
      let t = c.if-not-is_name.ensures.1 (map_same entry_of c.args.shown.now c.args.names.now c.loop-i.i c.index-shown-i.result c.index-names-i.result e (item_got c.args.shown.now c.loop-i.i c.index-shown-i.result (omega (arith, c.loop-i-test.true, c.if-shown-names.false)) c.index-shown-i.is)
      (item_got c.args.names.now c.loop-i.i c.index-names-i.result c.loop-i-test.true c.index-names-i.is)) in
      absurd (cc),
)

pub returns : goal.returns
returns c = (
  λ t. map_of entry_of c.args.shown.now c.args.names.now c.if-shown-names.false (λ k s n at bt. c.loop-i.invariant k s n (let h = within c.args.names.now k n bt in omega (arith, h, c.loop-i-test.false)) at bt),
  λ e. refl,
)
