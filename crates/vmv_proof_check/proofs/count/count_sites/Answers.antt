use Rattle.std.proofs.Common.{◌≡◌, ◌+◌, ◌≤◌, refl, arith}
use Rattle.vmv_tree.specs.declared.site.NamedSite.{NamedSite}
use Rattle.vmv_proof_check.specs.Work.{at}
use Rattle.vmv_proof_check.proofs.Placing.{place_is}
use Rattle.vmv_proof_check.proofs.Counting.{one_row, sites_done, room_at, site_named, stands_as}
use Rattle.vmv_proof_check.proofs.count.count_sites.Goals as goal

pub count_row-requires : goal.count_row-requires
count_row-requires c =
    let h = room_at c.args.checking.now.revision.now c.args.checking.now.shown.now c.args.entry.0 c.args.proc.0 c.loop-done.done c.site_count-done-end.result c.loop-done.claims c.requires.resolution c.requires.entry c.requires.proc c.site_count-done-end.ensures c.loop-done-test.true c.loop-done.invariant in
    omega (arith, h)

pub loop-done-preserved : goal.loop-done-preserved
loop-done-preserved c =
    let low : 1 ≤ c.loop-done.done + 1 = omega arith in
    let high : c.loop-done.done + 1 ≤ c.site_count-done-end.result = omega arith in
    let is = place_is c.args.checking.now.revision.now c.args.entry.0 c.args.proc.0 (c.loop-done.done + 1) c.site_count-done-end.result c.requires.entry c.site_count-done-end.ensures c.requires.reached low high in
    let site : NamedSite = record { proc = c.proc_name-name.result; index = c.loop-done.done + 1 } in
    let told = c.count_row.ensures in
    one_row c.args.checking.now.revision.now c.args.checking.now.shown.now c.args.entry.0 c.args.proc.0 (c.loop-done.done + 1) told.0 c.loop-done.claims c.count_row.new.claims told.2 is
    (stands_as c.args.checking.now.revision.now c.args.checking.now.shown.now c.args.entry.0 c.args.lists.now (at c.args.entry.0 c.args.proc.0 (c.loop-done.done + 1)) site told.0 c.requires.lists is refl
    (site_named c.args.checking.now.revision.now c.args.entry.0 c.args.proc.0 (c.loop-done.done + 1) c.proc_name-name.result c.proc_name-name.ensures) told.1) c.loop-done.invariant

pub returns : goal.returns
returns c =
    let end : c.loop-done.done ≡ c.site_count-done-end.result = omega arith in
    sites_done c.args.checking.now.revision.now c.args.checking.now.shown.now c.args.entry.0 c.args.proc.0 c.site_count-done-end.result c.loop-done.done c.loop-done.claims c.requires.resolution c.site_count-done-end.ensures end c.loop-done.invariant
