use Rattle.std.proofs.Common.{◌≡◌, ◌≤◌, List, length, ap, arith, refl, sym, subst}
use Rattle.std.specs.List.{All}
use Rattle.vmv_tree.specs.Run.{name_of}
use Rattle.vmv_snapshot.specs.declared.code.CodeStmt.{CodeStmt}
use Rattle.vmv_snapshot.specs.View.{block_of}
use Rattle.vmv_snapshot.specs.Resolution.{procs_of}
use Rattle.vmv_zone.specs.declared.zone.Zone.{Zone}
use Rattle.vmv_cert.specs.Sizes.{block_statements, block_loops}
use Rattle.vmv_cert.specs.Tables.{AreSitesOf}
use Rattle.vmv_check.proofs.Orders.{map_within}
use Rattle.vmv_check.proofs.Forms.{named_ready, parts_of, formed_of}
use Rattle.vmv_check.proofs.form.is_formed.Goals as goal

pub block_loops-requires : goal.block_loops-requires
block_loops-requires c =
    let ready = named_ready c.args.snapshot.now c.args.proc.0 c.code-code.result.now c.args.row.now.proc c.requires.resolution c.code-code.ensures.resolved c.requires.named in
    subst (λ (b : List CodeStmt). block_statements (block_of b) ≤ 2000) (sym c.as_slice.ensures) ready.steps

pub are_sites-requires-clause-from : goal.are_sites-requires-clause-from
are_sites-requires-clause-from c = map_within name_of (procs_of c.args.snapshot.now) c.args.proc.0 c.args.row.now.proc c.requires.named

pub returns : goal.returns
returns c =
    let input : c.args.row.now.input.vars ≡ length c.params.result.now = omega arith in
    let e : block_loops (block_of c.as_slice.result.now) ≡ block_loops (block_of c.code-code.result.now.block) = ap (λ (b : List CodeStmt). block_loops (block_of b)) c.as_slice.ensures in
    let keeps : length c.args.row.now.keeps ≡ block_loops (block_of c.code-code.result.now.block) = omega arith in
    let over = subst (λ (zs : List Zone). All (λ (z : Zone). z.vars ≡ c.code-code.result.now.vars) zs) c.as_slice-2.ensures (c.if-not-are_over.ensures.0 refl) in (
      λ t. formed_of c.args.snapshot.now c.args.row.now c.args.proc.0 c.params.result.now c.code-code.result.now c.params.ensures c.code-code.ensures.kept c.requires.named
          (record { input = input; keeps = keeps; over = over; sites = subst (AreSitesOf c.args.snapshot.now c.args.proc.0) c.as_slice-3.ensures (c.are_sites.ensures.0 t) }),
      λ f. c.are_sites.ensures.1 (subst (AreSitesOf c.args.snapshot.now c.args.proc.0) (sym c.as_slice-3.ensures)
          (parts_of c.args.snapshot.now c.args.row.now c.args.proc.0 c.params.result.now c.code-code.result.now c.params.ensures c.code-code.ensures.kept f).sites),
    )
