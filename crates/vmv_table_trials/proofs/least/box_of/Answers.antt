use Rattle.std.proofs.Common.{◌≡◌, ◌<◌, ℕ, List, length, get_or, sym, subst}
use Rattle.std.proofs.lemmas.List.Elements.{Contains-get_or}
use Rattle.std.specs.List.{Contains}
use Rattle.vmv_snapshot.specs.View.{code_of}
use Rattle.vmv_cert.specs.Tables.{Box}
use Rattle.vmv_back.specs.Boxes.{boxes_of}
use Rattle.vmv_back.proofs.Boxed.{boxes_fit}
use Rattle.vmv_forward.proofs.Entries.{entry_is}
use Rattle.vmv_table_trials.proofs.least.box_of.Goals as goal

pub returns : goal.returns
returns c =
    let all = c.in_ok-all.all in
    let b = c.in_ok-all.ensures in
    let box = c.index-as_slice-number.result in
    let n = c.args.number in
    let few : n < length all = subst (λ (k : ℕ). n < k) c.len.ensures c.if-number-len.false in
    let got : Contains all (get_or all n box) = Contains-get_or all n box few in
    let same : box ≡ get_or all n box = subst (λ (xs : List Box). box ≡ get_or xs n box) c.as_slice.ensures c.index-as_slice-number.is in
    let there : Contains (boxes_of b.params (code_of b.code)) box = subst (λ (bs : List Box). Contains bs box) b.boxes_are (subst (λ (x : Box). Contains all x) (sym same) got) in
    (b.params, entry_is c.args.snapshot.now c.args.entry.0 b.params c.requires b.takes, boxes_fit b.params (code_of b.code) box there)
