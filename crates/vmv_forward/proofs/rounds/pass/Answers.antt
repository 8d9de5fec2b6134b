use Rattle.std.proofs.Common.{List, sym, ap, subst, ◌∙◌}
use Rattle.vmv_cond.specs.declared.cond.Cond.{Cond}
use Rattle.vmv_zone.specs.declared.zone.Zone.{Zone}
use Rattle.vmv_pass.specs.Holds.{Settles}
use Rattle.vmv_pass.specs.Told.{AreTold}
use Rattle.std.proofs.lemmas.List.{with_items_is}
use Rattle.vmv_pass.specs.Upper.{IsProc, Fits}
use Rattle.vmv_forward.specs.Path.{Path}
use Rattle.vmv_forward.specs.Rounds.{quest_of, stored_of, IsPassed}
use Rattle.vmv_forward.proofs.Passing.{storage, fits_of, passed_of, path_with}
use Rattle.vmv_forward.proofs.rounds.pass.Goals as goal

pub raise-requires-clause-fits : goal.raise-requires-clause-fits
raise-requires-clause-fits g c item code is =
    let q = quest_of c.args.search.now in
    let x = c.instance.inside in
    let is' = subst (λ (p : Path). IsProc q.program p.proc.0 item code) c.instance.view_is is in
    let own = subst (λ (p : Path). Fits q.program q.thresholds item code (stored_of q.assumed p)) (sym c.instance.view_is) (c.requires.fits item code is') in
    fits_of q q.thresholds item code x.keeps.items x.inputs.items x.results.items x.unproved.items c.as_mut_slice.result.now c.as_mut_slice-2.result.now c.as_slice.result.now c.as_mut_slice-3.result.now
    c.as_mut_slice.ensures.value c.as_mut_slice-2.ensures.value c.as_slice.ensures.value c.as_mut_slice-3.ensures.value own

pub returns-clause-passed : goal.returns-clause-passed
returns-clause-passed g c =
    let q = quest_of c.args.search.now in
    let x = c.instance.inside in
    let e = c.raise.ensures in
    let k = with_items_is x.keeps c.raise.new.keeps (c.raise.auto.keeps ∙ c.as_mut_slice.ensures.len) in
    let i = with_items_is x.inputs c.raise.new.inputs (c.raise.auto.inputs ∙ c.as_mut_slice-2.ensures.len) in
    let u = with_items_is x.unproved c.raise.new.unproved (c.raise.auto.unproved ∙ c.as_mut_slice-3.ensures.len) in
    let passed = passed_of q x.proc x.caller x.place x.callees.items c.args.input.now x.keeps.items x.inputs.items x.results.items x.unproved.items c.as_mut_slice.result.now c.as_mut_slice-2.result.now c.as_slice.result.now c.as_mut_slice-3.result.now
    c.raise.new.keeps c.raise.new.inputs c.raise.new.unproved c.raise.result.range c.raise.result.raised c.args.steps.now c.raise.new.steps
    c.as_mut_slice.ensures.value c.as_mut_slice-2.ensures.value c.as_slice.ensures.value c.as_mut_slice-3.ensures.value
    (record { keeps_stay = e.keeps_stay; inputs_stay = e.inputs_stay; fits = e.fits; keeps_rise = e.keeps_rise; inputs_rise = e.inputs_rise; falls = e.falls; under = e.under; cost = e.cost })
    c.args.instance.now c.instance.view_is in
    subst (λ (p : Path). IsPassed q c.args.input.now c.args.instance.now p c.raise.result.range c.raise.result.raised c.args.steps.now c.raise.new.steps)
    (λ t. path_with x.proc x.caller x.place x.callees.items (sym k t) (sym i t) x.results.items (sym u t)) passed

pub returns-clause-settled : goal.returns-clause-settled
returns-clause-settled g c stay item code is =
    let q = quest_of c.args.search.now in
    let x = c.instance.inside in
    let k = with_items_is x.keeps c.raise.new.keeps (c.raise.auto.keeps ∙ c.as_mut_slice.ensures.len) in
    let i = with_items_is x.inputs c.raise.new.inputs (c.raise.auto.inputs ∙ c.as_mut_slice-2.ensures.len) in
    let u = with_items_is x.unproved c.raise.new.unproved (c.raise.auto.unproved ∙ c.as_mut_slice-3.ensures.len) in
    let is' = subst (λ (p : Path). IsProc q.program p.proc.0 item code) (sym c.instance.view_is) is in
    let raw = c.raise.ensures.settled stay item code is' in
    let own = subst (λ (r : List Cond). Settles (storage q c.raise.new.keeps c.raise.new.inputs r c.raise.new.unproved) item code c.args.input.now c.raise.result.range) c.as_slice.ensures.value raw in
    subst (λ (p : Path). Settles (stored_of q.assumed p) item code c.args.input.now c.raise.result.range) (λ t. path_with x.proc x.caller x.place x.callees.items (sym k t) (sym i t) x.results.items (sym u t)) own

pub returns-clause-told : goal.returns-clause-told
returns-clause-told g c =
    let x = c.instance.inside in
    let i = with_items_is x.inputs c.raise.new.inputs (c.raise.auto.inputs ∙ c.as_mut_slice-2.ensures.len) in
    let own = subst (λ (l : List Zone). AreTold l c.args.risen.now c.raise.new.inputs c.raise.new.risen) (c.as_mut_slice-2.ensures.value ∙ ap (λ (p : Path). p.inputs) c.instance.view_is) c.raise.ensures.told in
    subst (λ (l : List Zone). AreTold c.args.instance.now.inputs c.args.risen.now l c.raise.new.risen) (sym i) own
