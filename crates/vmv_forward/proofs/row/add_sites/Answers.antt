use Rattle.std.proofs.Common.{ap, Vec, Global, length, ◌∙◌}
use Rattle.std.proofs.lemmas.List.{with_items_is, length-replicate}
use Rattle.vmv_tree.specs.declared.site.NamedSite.{NamedSite}
use Rattle.vmv_forward.proofs.Siting.{added_start, added_push, added_skip, added_end}
use Rattle.vmv_forward.proofs.Flagging.{flag_listed, flag_unlisted}
use Rattle.vmv_forward.proofs.row.add_sites.Goals.{then-marked-before+in_ok-push, else-marked-before}
use Rattle.vmv_forward.proofs.row.add_sites.Goals as goal

pub mark_listed-requires-clause-count : goal.mark_listed-requires-clause-count
mark_listed-requires-clause-count c = ap length c.as_mut_slice.ensures.value ∙ (ap length (c.in_ok-marks.ensures.items_if_clones_equal (λ y e. e)) ∙ length-replicate c.site_count-count.result _)

pub loop-before-init : goal.loop-before-init
loop-before-init c = added_start c.args.instances.now c.args.number c.args.proc.0 c.proc_name-name.result c.args.sites.now.items

pub loop-before-preserved : goal.loop-before-preserved
loop-before-preserved c =
    elim c.if-marked-before.branch [
      | then-marked-before+in_ok-push w ↦
          added_push c.args.instances.now c.args.number c.args.proc.0 c.loop-before.before c.proc_name-name.result c.args.sites.now.items c.loop-before.sites.items c.if-marked-before.sites.items c.loop-before.invariant
          (flag_listed c.args.instances.now c.args.number c.args.proc.0 c.site_count-count.result c.loop-before.before c.as_mut_slice.result.now c.mark_listed.new.marks c.as_slice-marked.result.now (c.as_mut_slice.ensures.value ∙ c.in_ok-marks.ensures.items_if_clones_equal (λ y e. e)) (c.as_slice-marked.ensures.value ∙ with_items_is c.in_ok-marks.marks c.mark_listed.new.marks (c.mark_listed.auto.marks ∙ c.as_mut_slice.ensures.len)) c.loop-before-test.true c.mark_listed.ensures w.if-marked-before.true)
          (ap (λ (v : Vec NamedSite Global). v.items) w.sites-is ∙ w.in_ok-push.ensures.items)
      | else-marked-before w ↦
          added_skip c.args.instances.now c.args.number c.args.proc.0 c.loop-before.before c.proc_name-name.result c.args.sites.now.items c.loop-before.sites.items c.if-marked-before.sites.items c.loop-before.invariant
          (flag_unlisted c.args.instances.now c.args.number c.args.proc.0 c.site_count-count.result c.loop-before.before c.as_mut_slice.result.now c.mark_listed.new.marks c.as_slice-marked.result.now (c.as_mut_slice.ensures.value ∙ c.in_ok-marks.ensures.items_if_clones_equal (λ y e. e)) (c.as_slice-marked.ensures.value ∙ with_items_is c.in_ok-marks.marks c.mark_listed.new.marks (c.mark_listed.auto.marks ∙ c.as_mut_slice.ensures.len)) c.loop-before-test.true c.mark_listed.ensures w.if-marked-before.false) (ap (λ (v : Vec NamedSite Global). v.items) w.sites-is)
    ]

pub returns : goal.returns
returns c =
    added_end c.args.search.now.snapshot.now c.args.instances.now c.args.number c.args.proc.0 c.loop-before.before c.site_count-count.result c.proc_name-name.result c.args.sites.now.items c.loop-before.sites.items c.proc_name-name.ensures
    c.site_count-count.ensures c.loop-before-test.false c.loop-before.auto.before-end c.loop-before.invariant
