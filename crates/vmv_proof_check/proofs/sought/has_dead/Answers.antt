use Rattle.std.proofs.Common.{◌≡◌, refl}
use Rattle.vmv_cert.specs.declared.row.Row.{Row}
use Rattle.vmv_cert.specs.declared.row.Reach.TheVariants.{Bottom}
use Rattle.vmv_cert.specs.Tables.{IsRowAbove}
use Rattle.vmv_check.proofs.Lists.{item_in, upto_start, upto_more, upto_end}
use Rattle.vmv_proof_check.proofs.sought.has_dead.Goals as goal

pub loop-row-init : goal.loop-row-init
loop-row-init c = λ program number box named is. upto_start (λ (row : Row). (IsRowAbove program number box row × (row.result ≡ Bottom)) → ⊥) c.args.rows.now

pub loop-row-preserved : goal.loop-row-preserved
loop-row-preserved c = λ program number box named is.
    upto_more (λ (row : Row). (IsRowAbove program number box row × (row.result ≡ Bottom)) → ⊥) c.args.rows.now c.loop-row.row-index c.row-item.result c.loop-row-test.true c.row-item.is (c.loop-row.invariant program number box named is)
    (λ h. let t = (c.if-is_dead_above.ensures program number box named is).1 h in absurd (cc))

pub returns-then-is_dead_above : goal.returns-then-is_dead_above
returns-then-is_dead_above c = λ program number box named is.
    (let h = (c.if-is_dead_above.ensures program number box named is).0 refl in
    ((λ t. (c.row-item.result, item_in c.args.rows.now c.loop-row.row-index c.row-item.result c.loop-row-test.true c.row-item.is, h.0, h.1)), (λ x. refl)))

pub returns : goal.returns
returns c = λ program number box named is.
    ((λ t. absurd (cc)), (λ (row, among, above, bottom). absurd (upto_end (λ (r : Row). (IsRowAbove program number box r × (r.result ≡ Bottom)) → ⊥) c.args.rows.now c.loop-row.row-index c.loop-row-test.false (c.loop-row.invariant program number box named is) row among (above, bottom))))
