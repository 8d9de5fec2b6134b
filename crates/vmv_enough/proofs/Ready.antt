-- Probes are of boxes in the parameters' ranges, and can miss their demands.
use Rattle.std.proofs.Common.{◌≡◌, ⊎_elim, ℕ, true, Option, Some, List, [], ◌∷◌, map, slice_get, ap, subst}
use Rattle.std.specs.List.{Contains, flat_map}
use Rattle.std.proofs.lemmas.List.Elements.{Contains-append_cases}
use Rattle.vmv_snapshot.specs.View.{code_of}
use Rattle.vmv_snapshot.specs.Procs.{is_entry}
use Rattle.vmv_snapshot.specs.Resolution.{Resolution, procs_of}
use Rattle.vmv_snapshot.proofs.Lookups.{contains_at}
use Rattle.vmv_snapshot.proofs.Links.{map_at}
use Rattle.vmv_assumption.specs.Assumed.{Assumed}
use Rattle.vmv_cert.specs.Tables.{Box}
use Rattle.vmv_demands.specs.declared.demand.Demand.{Demand}
use Rattle.vmv_enough.specs.declared.probe.Mode.{Mode}
use Rattle.vmv_enough.specs.declared.probe.Probe.{Probe}
use Rattle.vmv_enough.specs.Probes.{modes, choices_of, of_mode, of_box, tries, CanMiss, AreThose, AreProbes}
use Rattle.vmv_enough.specs.Tried.{IsReady}
use Rattle.vmv_enough.proofs.Lists.{none_in, first_in, further, first_or_further}
use Rattle.vmv_forward.proofs.Entries.{entry_is}
use Rattle.vmv_back.proofs.Boxed.{boxes_fit, in_take}

those_in : {A : Type 0} (P : A → Type 0) (xs ks : List A) (x : A) → AreThose P xs ks → Contains ks x → P x × Contains xs x
those_in P [] ks x h there = absurd (none_in x (subst (λ ys. Contains ys x) h there))
those_in P (y ∷ xs) ks x h there =
    ⊎_elim
    (λ (p, (rest, e, more)).
    ⊎_elim (λ (same : y ≡ x). (subst P same p, subst (λ z. Contains (y ∷ xs) z) same (first_in y xs)))
    (λ (later : Contains rest x). let q = those_in P xs rest x more later in (q.0, further y xs x q.1))
    (first_or_further y rest x (subst (λ ys. Contains ys x) e there)))
    (λ (n, more). let q = those_in P xs ks x more there in (q.0, further y xs x q.1))
    h

mode_box : (demands : List Demand) (box : Box) (mode : Mode) (p : Probe) → Contains (of_mode demands box mode) p → box ≡ p.within
mode_box demands box mode p there =
    let F : Option Demand → Probe = λ choice. record { within = box; mode = mode; missed = choice } in
    let at = contains_at (map F (choices_of demands)) p there in
    let choice = map_at F (choices_of demands) at.0 p at.1 in
    ap (λ (q : Probe). q.within) choice.2

box_box : (demands : List Demand) (box : Box) (ms : List Mode) (p : Probe) → Contains (flat_map (of_mode demands box) ms) p → box ≡ p.within
box_box demands box [] p there = absurd (none_in p there)
box_box demands box (m ∷ ms) p there =
    ⊎_elim (λ (h : Contains (of_mode demands box m) p). mode_box demands box m p h) (λ (h : Contains (flat_map (of_mode demands box) ms) p). box_box demands box ms p h)
    (Contains-append_cases (of_mode demands box m) (flat_map (of_mode demands box) ms) p there)

tries_box : (boxes : List Box) (demands : List Demand) (p : Probe) → Contains (tries boxes demands) p → Contains boxes p.within
tries_box [] demands p there = absurd (none_in p there)
tries_box (box ∷ boxes) demands p there =
    ⊎_elim (λ (h : Contains (of_box demands box) p). subst (λ b. Contains (box ∷ boxes) b) (box_box demands box modes p h) (first_in box boxes))
    (λ (h : Contains (tries boxes demands) p). further box boxes p.within (tries_box boxes demands p h))
    (Contains-append_cases (of_box demands box) (tries boxes demands) p there)

pub ready : (program : Resolution) (n : ℕ) (assumed : Assumed) (probes : List Probe) (probe : Probe) → slice_get (map is_entry (procs_of program)) n ≡ Some true → AreProbes program n assumed probes → Contains probes probe → IsReady program n assumed probe
ready program n assumed probes probe flag are there =
    let among = in_take 1000 are.kept probe (subst (λ xs. Contains xs probe) are.first there) in
    let h = those_in (λ (p : Probe). CanMiss assumed p.missed) (tries are.boxes are.demands) are.kept probe are.kept_are among in
    let box = tries_box are.boxes are.demands probe h.1 in
    let b = are.boxes_are in
    record {
      params = b.params;
      entry = entry_is program n b.params flag b.takes;
      inside = boxes_fit b.params (code_of b.code) probe.within (subst (λ xs. Contains xs probe.within) b.boxes_are box);
      can_miss = h.0;
    }
