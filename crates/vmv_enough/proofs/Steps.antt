-- Steps of tightening: what each leaves, and chains of them.
use Rattle.std.proofs.Common.{◌≡◌, ◌≢◌, inl, inr, ⊎_elim, ℕ, zero, suc, ◌+◌, ◌<◌, ◌≤◌, List, ◌∷◌, drop, get_or, refl, sym, ap, subst, ◌∙◌, arith, add-one}
use Rattle.std.specs.List.{Contains}
use Rattle.std.proofs.Math.Seq.{drop-cons}
use Rattle.vmv_tree.specs.declared.name.Name.{Name}
use Rattle.vmv_tree.specs.declared.ends.NameEnds.{NameEnds}
use Rattle.vmv_cond.specs.declared.cond.Cond.{Cond}
use Rattle.vmv_cond.specs.Cond.{IsEmpty, IsMeet, IsSubset}
use Rattle.vmv_snapshot.specs.Procs.{outsides}
use Rattle.vmv_snapshot.specs.Resolution.{Resolution, tree_of}
use Rattle.vmv_assumption.specs.Assumed.{Assumed}
use Rattle.vmv_assumption.proofs.Names.{by_name}
use Rattle.vmv_demands.specs.declared.demand.Demand.{Demand}
use Rattle.vmv_enough.specs.Open.{IsFirstOpen, NoneOpen}
use Rattle.vmv_enough.specs.Levels.{all_levels, IsKeptTo, IsLevelled}
use Rattle.vmv_enough.specs.Tighten.{Stage, IsMetWith, Tightens, Leads}
use Rattle.vmv_enough.specs.Measure.{Steps}
use Rattle.vmv_enough.proofs.Narrower.{same_meet}
use Rattle.vmv_enough.proofs.Room.{IsPart, part_of, room_kept, room_falls}

meet_inside : (a b c : Cond) → IsMeet a b c → IsSubset c a
meet_inside a b c h w p = ((h w).0 p).0

itself : (c : Cond) → IsSubset c c
itself c w p = p

-- what is met with a demand that narrows its name's condition
record Met (a b : Assumed) (demand : Demand) : Type 0 where
  part : (name : Name) → ¬ IsEmpty (a name) → IsPart (a name) (b name)
  kept : (name : Name) → ¬ IsEmpty (a name) → ¬ IsEmpty (b name)
  other : b demand.name ≢ a demand.name

met : (program : Resolution) (ends : List NameEnds) (a b : Assumed) (demand : Demand) → IsFirstOpen program ends a demand → IsMetWith demand a b → Met a b demand
met program ends a b demand first m =
    let narrower = first.is_open.narrower in
    let same : b demand.name ≡ first.is_open.met = m.set.there ∙ same_meet (a demand.name) demand.cond m.met first.is_open.met m.meet narrower.meet in
    let some : ¬ IsEmpty (b demand.name) = subst (λ c. ¬ IsEmpty c) (sym same) narrower.nonempty in
    let inside : IsSubset (b demand.name) (a demand.name) = subst (λ c. IsSubset c (a demand.name)) (sym m.set.there) (meet_inside (a demand.name) demand.cond m.met m.meet) in
    let P : Name → Type 0 = λ name. ¬ IsEmpty (a name) → ¬ IsEmpty (b name) in
    let Q : Name → Type 0 = λ name. ¬ IsEmpty (a name) → IsPart (a name) (b name) in
    record {
      part = by_name {P = Q} demand.name (λ was. part_of (a demand.name) (b demand.name) inside some)
          (λ name apart was. subst (λ c. IsPart (a name) c) (sym (m.set.elsewhere name apart)) (part_of (a name) (a name) (itself (a name)) was));
      kept = by_name {P = P} demand.name (λ was. some) (λ name apart was. subst (λ c. ¬ IsEmpty c) (sym (m.set.elsewhere name apart)) was);
      other = λ e. narrower.other (sym same ∙ e);
    }

-- a condition that is kept to a level
kept_part : (k : ℕ) (c d : Cond) → IsKeptTo k c d → ¬ IsEmpty c → IsPart c d × ¬ IsEmpty d
kept_part k c d h was =
    ⊎_elim
    (λ (p : ¬ IsEmpty h.met × (d ≡ h.met)).
    let some : ¬ IsEmpty d = subst (λ x. ¬ IsEmpty x) (sym p.1) p.0 in
    let inside : IsSubset d c = subst (λ x. IsSubset x c) (sym p.1) (λ w q. ((h.meet w).0 q).0) in
    (part_of c d inside some, some))
    (λ (p : IsEmpty h.met × (d ≡ c)). (subst (λ x. IsPart c x) (sym p.1) (part_of c c (itself c) was), subst (λ x. ¬ IsEmpty x) (sym p.1) was))
    h.choice

pub demand_step : (program : Resolution) (ends : List NameEnds) (old new : Assumed) (taken : ℕ) (demand : Demand) → taken ≤ 4 → Contains (outsides (tree_of program)) demand.name → IsFirstOpen program ends old demand → IsMetWith demand old new →
    Steps program ends old taken new taken
demand_step program ends old new taken demand few there first m = record {
  step = inl (record { demand = demand; first = first; met = m; levels = refl });
  few = few;
  left = λ nonempty.
      let h = met program ends old new demand first m in
      record {
        nonempty = λ name t. h.kept name (nonempty name t);
        less = room_falls program old new taken demand.name (λ name t. h.part name (nonempty name t)) there h.other;
      };
}

next_level : (taken : ℕ) → taken < 4 → (d : ℕ) → drop taken all_levels ≡ get_or all_levels taken d ∷ drop (taken + 1) all_levels
next_level taken h d = rw (add-one, drop-cons all_levels taken d h) refl

pub level_step : (program : Resolution) (ends : List NameEnds) (old new : Assumed) (taken level : ℕ) → taken < 4 → level ≡ get_or all_levels taken level → NoneOpen program ends old → IsLevelled program level old new →
    Steps program ends old taken new (taken + 1)
level_step program ends old new taken level few is none h = record {
  step = inr (record { none_open = none; level = level; levels = next_level taken few level ∙ ap (λ k. k ∷ drop (taken + 1) all_levels) (sym is); levelled = h });
  few = omega arith;
  left = λ nonempty. record {
    nonempty = λ name t. (kept_part level (old name) (new name) (h.there name t) (nonempty name t)).1;
    less = room_kept program old new taken few (λ name t. (kept_part level (old name) (new name) (h.there name t) (nonempty name t)).0);
  };
}

-- one step more
pub leads_more : (program : Resolution) (ends : List NameEnds) (n : ℕ) (a b c : Stage) → Leads program ends n a b → Tightens program ends b c → Leads program ends (suc n) a c
leads_more program ends zero a b c leads step = (c, subst (λ x. Tightens program ends x c) leads step, refl)
leads_more program ends (suc n) a b c (mid, first, rest) step = (mid, first, leads_more program ends n mid b c rest step)
