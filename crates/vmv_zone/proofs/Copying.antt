-- Lists that are the same place by place.
use Rattle.std.proofs.Common.{◌∙◌, ◌≡◌, ℕ, ◌+◌, ◌*◌, ◌<◌, ◌≤◌, ℤ, pos, Bool, false, List, length, get_or, arith, sym, ⊎_elim}
use Rattle.std.proofs.lemmas.List.{same_lists, get_or_default}
use Rattle.std.proofs.lemmas.Bool.{cases_lt}
use Rattle.vmv_zone.specs.declared.zone.Zone.{Zone}
use Rattle.vmv_zone.proofs.Lines.{outside_at}

pub copied_bounds : (a b : Zone) (new : List ℤ) (vars : ℕ) → a.vars ≤ vars → b.vars ≤ vars → length new ≡ 324 →
    ((k : ℕ) → k < 18 * (vars + 1) → get_or new k (pos 0) ≡ get_or b.bounds k (pos 0)) → ((k : ℕ) → 18 * (vars + 1) ≤ k → get_or new k (pos 0) ≡ get_or a.bounds k (pos 0)) → new ≡ b.bounds
copied_bounds a b new vars ha hb full copied rest =
    let at : (k : ℕ) → get_or new k (pos 0) ≡ get_or b.bounds k (pos 0) = λ k. ⊎_elim (λ (here : k < 18 * (vars + 1)). copied k here)
    (λ (past : 18 * (vars + 1) ≤ k). rest k past ∙ outside_at a.bounds a.vars k a.full a.outside (omega arith) ∙ sym (outside_at b.bounds b.vars k b.full b.outside (omega arith)))
    (cases_lt k (18 * (vars + 1))) in
    same_lists new b.bounds (full ∙ sym b.full)
    (λ k d inside. get_or_default new k d (pos 0) (omega (arith, full)) ∙ at k ∙ get_or_default b.bounds k (pos 0) d (omega (arith, full, b.full)))

pub copied_marks : (b : Zone) (new : List Bool) → length new ≡ 18 → ((i : ℕ) → i < 18 → get_or new i false ≡ get_or b.marks i false) → new ≡ b.marks
copied_marks b new full copied = same_lists new b.marks (full ∙ sym b.sized)
    (λ k d inside. get_or_default new k d false (omega (arith, full)) ∙ copied k (omega (arith, full)) ∙ get_or_default b.marks k false d (omega (arith, full, b.sized)))
