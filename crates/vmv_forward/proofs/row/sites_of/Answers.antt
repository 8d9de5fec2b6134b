use Rattle.std.proofs.Common.{◌<◌, ◌+◌, length, ap, sym, subst, arith, Vec, Global}
use Rattle.vmv_tree.specs.declared.site.NamedSite.{NamedSite}
use Rattle.vmv_snapshot.specs.Resolution.{procs_of}
use Rattle.vmv_forward.specs.Path.{Path}
use Rattle.vmv_forward.specs.Rounds.{quest_of}
use Rattle.vmv_forward.proofs.Reading.{proc_inside}
use Rattle.vmv_forward.proofs.Stepping.{read, untold}
use Rattle.vmv_forward.proofs.Siting.{Sited, sited_start, sited_more, sited_skip, sited_end}
use Rattle.vmv_forward.proofs.row.sites_of.Goals.{then-reaches+in_ok-add_sites, else-reaches}
use Rattle.vmv_forward.proofs.row.sites_of.Goals as goal

pub loop-p-init : goal.loop-p-init
loop-p-init c = sited_start c.args.search.now.snapshot.now c.args.instances.now c.args.number c.instance.inside.proc.0 c.new-sites.result.items c.new-sites.ensures.items

pub reaches-requires-clause-from : goal.reaches-requires-clause-from
reaches-requires-clause-from c =
    let at = read c.args.instances.now c.args.number c.index-instances-number.result c.requires.to c.index-instances-number.is in
    let e = ap (λ (p : Path). p.proc.0) c.instance.view_is in
    subst (λ n. n < length (procs_of c.args.search.now.snapshot.now)) (sym e) (proc_inside (quest_of c.args.search.now) c.args.instances.now c.args.number c.index-instances-number.result c.requires.kept c.requires.from at)

pub loop-p-preserved : goal.loop-p-preserved
loop-p-preserved c =
    elim c.if-reaches.branch [
      | then-reaches+in_ok-add_sites w ↦
          subst (λ (v : Vec NamedSite Global). Sited c.args.search.now.snapshot.now c.args.instances.now c.args.number c.instance.inside.proc.0 (c.loop-p.p + 1) v.items) (sym w.sites-is)
          (sited_more c.args.search.now.snapshot.now c.args.instances.now c.args.number c.instance.inside.proc.0 c.loop-p.p c.loop-p.sites.items w.add_sites.new.sites.items c.loop-p.invariant (c.reaches.ensures.0 w.if-reaches.true) w.in_ok-add_sites.ensures)
      | else-reaches w ↦
          sited_skip c.args.search.now.snapshot.now c.args.instances.now c.args.number c.instance.inside.proc.0 c.loop-p.p c.loop-p.sites.items c.if-reaches.sites.items c.loop-p.invariant (untold c.reaches.result w.if-reaches.false c.reaches.ensures.1)
          (ap (λ (v : Vec NamedSite Global). v.items) w.sites-is)
    ]

pub returns : goal.returns
returns c =
    let path = c.index-instances-number.result in
    let at = read c.args.instances.now c.args.number path c.requires.to c.index-instances-number.is in
    let count = c.proc_count-p-end.ensures in
    let done = c.loop-p-test.false in
    sited_end c.args.search.now.snapshot.now c.args.instances.now c.args.number c.loop-p.p path c.loop-p.sites.items at (omega arith)
    (subst (λ (p : Path). Sited c.args.search.now.snapshot.now c.args.instances.now c.args.number p.proc.0 c.loop-p.p c.loop-p.sites.items) c.instance.view_is c.loop-p.invariant)
