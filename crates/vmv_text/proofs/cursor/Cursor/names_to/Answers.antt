use Rattle.std.proofs.Common.{List, arith}
use Rattle.std.proofs.lemmas.Result.{err_from_is_err_and}
use Rattle.vmv_tree.specs.declared.name.Name.{Name}
use Rattle.vmv_text.specs.Symbols.{as_token}
use Rattle.vmv_text.specs.Grammar.{IsName}
use Rattle.vmv_text.specs.Reading.{Any}
use Rattle.vmv_text.proofs.Steps.{ends_within}
use Rattle.vmv_text.proofs.CommaLists.{reading_start, reading_more, reading_failed, reading_done, reading_open}
use Rattle.vmv_text.proofs.cursor.Cursor.names_to.Goals as goal

pub returns-in_err-name : goal.returns-in_err-name
returns-in_err-name c =
    let p = err_from_is_err_and c.from_residual.result c.from_residual.ensures.1 in
    rw (p.1, p.2)
    (reading_failed (as_token c.args.last) IsName (λ (x : Name). x) (λ (x : List Name). x) c.in_err-name.field-0.0 _ _ _ c.name.new.self c.loop-names.invariant c.in_err-name.ensures)

pub returns-in_err-expect : goal.returns-in_err-expect
returns-in_err-expect c =
    let p = err_from_is_err_and c.from_residual-in_err-expect.result c.from_residual-in_err-expect.ensures.1 in
    rw (p.1, p.2)
    (reading_open (as_token c.args.last) IsName (λ (x : List Name). x) c.in_err-expect.field-0.0 _ _ c.in_ok-name.name _ _ _ c.expect.new.self c.loop-names.invariant c.in_ok-name.ensures c.if-not-takes.ensures.tests c.in_err-expect.ensures.reads)

pub returns-then-not-takes : goal.returns-then-not-takes
returns-then-not-takes c =
    rw c.in_ok-push.ensures.ok
    (reading_done (as_token c.args.last) IsName _ _ c.in_ok-name.name _ _ _ _ c.loop-names.invariant c.in_ok-name.ensures c.if-not-takes.ensures.tests c.in_ok-expect.ensures.reads)

pub loop-names-init : goal.loop-names-init
loop-names-init c = rw c.new-names.ensures (reading_start (as_token c.args.last) IsName _)

pub loop-names-preserved : goal.loop-names-preserved
loop-names-preserved c =
    rw c.in_ok-push.ensures.ok
    (reading_more (as_token c.args.last) IsName c.requires _ _ c.in_ok-name.name _ _ _ c.loop-names.invariant c.in_ok-name.ensures c.if-not-takes.ensures.tests)

pub loop-names-smaller : goal.loop-names-smaller
loop-names-smaller c = omega (arith, ends_within IsName Any c.in_ok-name.name _ _ c.in_ok-name.ensures, c.if-not-takes.ensures.shorter)
