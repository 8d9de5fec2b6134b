use Rattle.vmv_proof_check.proofs.Adding.{added, added_kept}
use Rattle.vmv_proof_check.proofs.cuts.Cuts.add.Goals as goal

pub returns-in_ok-push : goal.returns-in_ok-push
returns-in_ok-push c = λ base cuts named.
    added_kept base c.args.before.now c.args.x.now c.args.self.now (record { last = c.cut-held.new.self; kept = c.push.new.self }) c.cut-held.result c.in_ok-last.last c.if-before-eq63.true cuts named c.cut-held.ensures.held c.cut-held.ensures.names c.cut-held.ensures.conds c.in_ok-last.ensures c.in_ok-push.ensures.items

pub returns-else-before-eq63 : goal.returns-else-before-eq63
returns-else-before-eq63 c = λ base cuts named.
    added base c.args.before.now c.args.x.now c.args.self.now c.cut-held.new.self c.cut-held.result c.if-before-eq63.false cuts named c.cut-held.ensures.held c.cut-held.ensures.names c.cut-held.ensures.conds
