-- What is assumed behind one more exclusion.
use Rattle.std.proofs.Common.{◌≡◌, ◌↔◌, ◌⊎◌, inl, inr, ⊎_elim, ℕ, zero, suc, ◌+◌, ◌*◌, ◌/◌, ◌%◌, ◌<◌, ◌≤◌, IsTrue, Bool, Some, List, [], ◌∷◌, ◌++◌, length, take, slice_get, refl, sym, ap, subst, arith, ◌∙◌, length-append}
use Rattle.std.specs.List.{Contains}
use Rattle.std.proofs.lemmas.List.{take_all, take-append-le}
use Rattle.std.proofs.lemmas.Nat.{div-add-mod', div-mul-add}
use Rattle.vmv_tree.specs.declared.name.Name.{Name}
use Rattle.vmv_cond.specs.declared.cond.Cond.{Cond}
use Rattle.vmv_snapshot.specs.Procs.{outsides}
use Rattle.vmv_snapshot.specs.Resolution.{Resolution, tree_of}
use Rattle.vmv_assumption.specs.Assumed.{names_of, cond_of}
use Rattle.vmv_assumption.specs.Change.{IsCut}
use Rattle.vmv_check.proofs.Lists.{some_same, within}
use Rattle.vmv_proof.specs.declared.proof.Exclusion.{Exclusion}
use Rattle.vmv_proof_check.specs.declared.cuts.Cuts.{Cuts}
use Rattle.vmv_proof_check.specs.Work.{IsCutFor, AreCuts}
use Rattle.vmv_proof_check.proofs.Cutting.{cut_by_more}

pub held_more : (base : Resolution) (xs : List Exclusion) (x : Exclusion) (old new : List (Name × Cond)) (b : Bool) → IsCutFor base xs old → Contains (outsides (tree_of base)) x.name → (IsTrue b ↔ Contains (names_of old) x.name) → names_of new ≡ names_of old →
    (IsTrue b → IsCut (cond_of old) x.name x.piece (cond_of new)) → IsCutFor base (xs ++ x ∷ []) new
held_more base xs x old new b is there held same conds =
    let t = held.1 (subst (λ (ns : List Name). Contains ns x.name) (sym is.names) there) in
    record { names = same ∙ is.names; cut = cut_by_more xs x (cond_of old) (cond_of new) is.cut (conds t) }

parts : (n : ℕ) → n / 64 * 64 + n % 64 ≡ n
parts n = div-add-mod' n 64

div_full : (n : ℕ) → n % 64 ≡ 63 → (n + 1) / 64 ≡ n / 64 + 1
div_full n e =
    let p = parts n in
    let s : n + 1 ≡ (n / 64 + 1) * 64 + 0 = omega (arith, p, e) in
    ap (λ (k : ℕ). k / 64) s ∙ div-mul-add (n / 64 + 1) 64 0 (omega arith)

div_more : (n : ℕ) → (n % 64 ≡ 63 → ⊥) → (n + 1) / 64 ≡ n / 64
div_more n other =
    let p = parts n in
    let m : n % 64 < 64 = omega arith in
    let s : n + 1 ≡ n / 64 * 64 + (n % 64 + 1) = omega (arith, p) in
    let less : n % 64 + 1 < 64 = omega (arith, m, other) in
    ap (λ (k : ℕ). k / 64) s ∙ div-mul-add (n / 64) 64 (n % 64 + 1) less

long : (xs : List Exclusion) (x : Exclusion) → length (xs ++ x ∷ []) ≡ length xs + 1
long xs x = length-append xs (x ∷ [])

-- what is kept already stays
old_kept : (base : Resolution) (xs : List Exclusion) (x : Exclusion) (cuts : Cuts) (k : ℕ) (held : List (Name × Cond)) → AreCuts base xs cuts → slice_get cuts.kept.items k ≡ Some held → IsCutFor base (take (k * 64) (xs ++ x ∷ [])) held
old_kept base xs x cuts k held are at =
    let h = within cuts.kept.items k held at in
    let c = are.count in
    let p = parts (length xs) in
    let few : k * 64 ≤ length xs = omega (arith, h, c, p) in
    subst (λ (ys : List Exclusion). IsCutFor base ys held) (sym (take-append-le (k * 64) xs (x ∷ []) few)) (are.kept k held at)

pub added : (base : Resolution) (xs : List Exclusion) (x : Exclusion) (cuts : Cuts) (last : List (Name × Cond)) (b : Bool) → (length xs % 64 ≡ 63 → ⊥) → AreCuts base xs cuts → Contains (outsides (tree_of base)) x.name → (IsTrue b ↔ Contains (names_of cuts.last) x.name) →
    names_of last ≡ names_of cuts.last → (IsTrue b → IsCut (cond_of cuts.last) x.name x.piece (cond_of last)) → AreCuts base (xs ++ x ∷ []) (record { last = last; kept = cuts.kept })
added base xs x cuts last b other are there held same conds = record {
  last = held_more base xs x cuts.last last b are.last there held same conds;
  count = are.count ∙ (ap (λ (n : ℕ). n + 1) (sym (div_more (length xs) other)) ∙ ap (λ (n : ℕ). n / 64 + 1) (sym (long xs x)));
  kept = λ k h at. old_kept base xs x cuts k h are at;
}

last_of : {X : Type 0} (xs : List X) (x y : X) (k : ℕ) → slice_get (xs ++ x ∷ []) k ≡ Some y → (slice_get xs k ≡ Some y) ⊎ ((k ≡ length xs) × (x ≡ y))
last_of [] x y zero e = inr (refl, some_same e)
last_of [] x y (suc k) e = absurd (cc)
last_of (z ∷ xs) x y zero e = inl e
last_of {X} (z ∷ xs) x y (suc k) e =
    ⊎_elim (λ (h : slice_get xs k ≡ Some y). inl h) (λ (h : (k ≡ length xs) × (x ≡ y)). inr (ap suc h.0, h.1)) (last_of xs x y k e)

pub added_kept : (base : Resolution) (xs : List Exclusion) (x : Exclusion) (cuts new : Cuts) (b : Bool) (copy : List (Name × Cond)) → length xs % 64 ≡ 63 → AreCuts base xs cuts → Contains (outsides (tree_of base)) x.name → (IsTrue b ↔ Contains (names_of cuts.last) x.name) →
    names_of new.last ≡ names_of cuts.last → (IsTrue b → IsCut (cond_of cuts.last) x.name x.piece (cond_of new.last)) → copy ≡ new.last → new.kept.items ≡ cuts.kept.items ++ copy ∷ [] → AreCuts base (xs ++ x ∷ []) new
added_kept base xs x cuts new b copy full are there held same conds copied grown =
    let last = held_more base xs x cuts.last new.last b are.last there held same conds in
    let l : length new.kept.items ≡ length cuts.kept.items + 1 = ap length grown ∙ length-append cuts.kept.items (copy ∷ []) in
    let d = div_full (length xs) full in
    let c = are.count in
    let m = long xs x in
    record {
      last = last;
      count = l ∙ (ap (λ (n : ℕ). n + 1) (c ∙ sym d) ∙ ap (λ (n : ℕ). n / 64 + 1) (sym m));
      kept = λ k h at.
          ⊎_elim (λ (old : slice_get cuts.kept.items k ≡ Some h). old_kept base xs x cuts k h are old)
          (λ (one : (k ≡ length cuts.kept.items) × (copy ≡ h)).
          let p = parts (length xs) in
          let e = one.0 in
          let all : take (k * 64) (xs ++ x ∷ []) ≡ xs ++ x ∷ [] = take_all (k * 64) (xs ++ x ∷ []) (omega (arith, e, c, p, m, full)) in
          subst (λ (ys : List Exclusion). IsCutFor base ys h) (sym all) (subst (λ (hs : List (Name × Cond)). IsCutFor base (xs ++ x ∷ []) hs) (sym copied ∙ one.1) last))
          (last_of cuts.kept.items copy h k (subst (λ (ks : List (List (Name × Cond))). slice_get ks k ≡ Some h) grown at));
    }
