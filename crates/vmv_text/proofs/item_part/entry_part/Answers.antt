use Rattle.std.proofs.Common.{◌≡◌, ◌<◌, map, length, sym, ◌∙◌, arith}
use Rattle.std.proofs.lemmas.List.{length-map}
use Rattle.vmv_tree.specs.Limits.{block_nesting}
use Rattle.vmv_text.proofs.Sizing.{block_deep}
use Rattle.vmv_text.proofs.item_part.entry_part.Goals as goal

pub returns-in-Deep : goal.returns-in-Deep
returns-in-Deep c = λ b h.
    let told = block_deep 9 c.args.body.block c.in-Deep.sizes b c.in-Deep.is h in
    let deep : 8 < block_nesting b = omega (arith, told.1) in
    c.deep.ensures (map (λ p. p.name) c.args.params) (record { vars = c.args.body.vars; block = b; output = c.args.body.result }) ((length-map c.args.params (λ p. p.name) ∙ sym c.len.ensures)) (sym c.len-in-Deep.ensures) told.0 deep
