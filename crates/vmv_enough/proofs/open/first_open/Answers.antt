use Rattle.std.proofs.Common.{◌≤◌, length, sym, ap, subst, ◌∙◌}
use Rattle.vmv_assumption.specs.Assumed.{cond_of}
use Rattle.vmv_enough.specs.declared.plan.Subject.{Subject}
use Rattle.vmv_enough.proofs.Opened.{none_more, none_open_where, some_found, none_found, subject_at, sites_at, none_at}
use Rattle.vmv_enough.proofs.open.first_open.Goals as goal

pub returns-then-is_some-clause-some : goal.returns-then-is_some-clause-some
returns-then-is_some-clause-some c =
    let plan = c.args.plan.now in
    let judged = c.args.judged.now in
    let p = subject_at plan.subjects c.as_slice-subjects.result.now c.loop-k.k c.index-subjects-k.result c.as_slice-subjects.ensures c.loop-k-test.true c.index-subjects-k.is in
    let s = sites_at plan.subjects c.as_slice-subjects.result.now judged c.loop-k.k c.index-judged-k.result c.as_slice-subjects.ensures c.loop-k-test.true c.requires.judged.count c.index-judged-k.is in
    some_found c.args.base.now plan (cond_of c.args.assumed.now) judged c.requires.plan c.requires.judged c.loop-k.k c.index-subjects-k.result c.index-judged-k.result c.first_of-found.result p s c.loop-k.invariant _ _
    c.as_slice.ensures (c.as_slice-demands.ensures ∙ sym (ap (λ (s : Subject). s.demands) c.index-subjects-k.is)) c.first_of-found.ensures.some

pub loop-k-preserved : goal.loop-k-preserved
loop-k-preserved c =
    let plan = c.args.plan.now in
    let judged = c.args.judged.now in
    let p = subject_at plan.subjects c.as_slice-subjects.result.now c.loop-k.k c.index-subjects-k.result c.as_slice-subjects.ensures c.loop-k-test.true c.index-subjects-k.is in
    let s = sites_at plan.subjects c.as_slice-subjects.result.now judged c.loop-k.k c.index-judged-k.result c.as_slice-subjects.ensures c.loop-k-test.true c.requires.judged.count c.index-judged-k.is in
    none_more c.args.base.now (cond_of c.args.assumed.now) plan.subjects judged c.loop-k.k c.index-subjects-k.result c.index-judged-k.result p s c.loop-k.invariant
    (none_at c.args.base.now (cond_of c.args.assumed.now) c.index-subjects-k.result c.index-judged-k.result c.first_of-found.result _ _ c.as_slice.ensures (c.as_slice-demands.ensures ∙ sym (ap (λ (s : Subject). s.demands) c.index-subjects-k.is)) c.first_of-found.ensures.none (none_found c.first_of-found.result c.is_some.result c.is_some.ensures c.if-is_some.false))

pub returns-clause-none : goal.returns-clause-none
returns-clause-none c =
    let all = subst (λ xs. length xs ≤ c.loop-k.k) c.as_slice-subjects.ensures c.loop-k-test.false in
    none_open_where c.args.base.now c.args.plan.now (cond_of c.args.assumed.now) c.args.judged.now c.requires.plan c.requires.judged c.loop-k.k all c.loop-k.invariant
