use Rattle.vmv_cond.proofs.laws.cut_is_monotone.Goals as goal

pub returns : goal.returns
returns c = λ a b m n piece sub one two w held. (two w).1 (sub w ((one w).0 held).0, ((one w).0 held).1)
