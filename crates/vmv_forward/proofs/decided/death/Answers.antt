use Rattle.std.proofs.Common.{◌∙◌, refl}
use Rattle.vmv_assumption.specs.Assumed.{cond_of}
use Rattle.vmv_forward.proofs.Deciding.{death_told}
use Rattle.vmv_forward.proofs.decided.death.Goals as goal

pub returns-then-is_dead-clause-dead : goal.returns-then-is_dead-clause-dead
returns-then-is_dead-clause-dead c = λ ends are.
    (let table = c.in_ok-table.ensures in
    let law =
    death_told c.args.snapshot.now c.args.entry.0 c.requires.entry.0 c.args.within.now ends (cond_of c.args.assumed.now) c.in_ok-table.table.rows c.is_dead.result c.requires.entry.1 c.requires.entry.2
    (table.least ends are) (λ first rest e. c.is_dead.ensures first rest (c.as_slice.ensures ∙ e)) in
    ((λ t. law.0 c.if-is_dead.true), (λ d. refl)))

pub returns-else-is_dead-clause-dead : goal.returns-else-is_dead-clause-dead
returns-else-is_dead-clause-dead c = λ ends are.
    (let table = c.in_ok-table.ensures in
    let law =
    death_told c.args.snapshot.now c.args.entry.0 c.requires.entry.0 c.args.within.now ends (cond_of c.args.assumed.now) c.in_ok-table.table.rows c.is_dead.result c.requires.entry.1 c.requires.entry.2
    (table.least ends are) (λ first rest e. c.is_dead.ensures first rest (c.as_slice.ensures ∙ e)) in
    let f = c.if-is_dead.false in
    ((λ t. absurd (cc)), (λ d. let t = law.1 d in absurd (cc))))
