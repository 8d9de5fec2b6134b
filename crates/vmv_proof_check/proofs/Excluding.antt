-- How an exclusion turns out, and all of them.
use Rattle.std.proofs.Common.{◌≡◌, ◌↔◌, ◌⊎◌, inl, inr, ⊎_elim, ℕ, suc, ◌+◌, ◌<◌, ◌≤◌, IsTrue, IsFalse, Bool, true, false, Option, Some, None, List, [], ◌∷◌, ◌++◌, length, map, take, drop, get_or, slice_get, refl, sym, ap, subst, arith, ◌∙◌, length-take}
use Rattle.std.specs.List.{Contains}
use Rattle.std.proofs.lemmas.Slice.Zip.{AllZip-long}
use Rattle.vmv_tree.specs.declared.name.Name.{Name}
use Rattle.vmv_tree.specs.declared.tree.Param.{Param}
use Rattle.vmv_tree.specs.Tree.{entry}
use Rattle.vmv_tree.specs.Run.{name_of}
use Rattle.vmv_cond.specs.declared.cond.Cond.{Cond}
use Rattle.vmv_snapshot.specs.Procs.{outsides, is_entry, params_of}
use Rattle.vmv_snapshot.specs.Resolution.{Resolution, IsResolution, tree_of, procs_of}
use Rattle.vmv_snapshot.proofs.Zips.{take_one_more}
use Rattle.std.specs.Option.{option_map}
use Rattle.std.proofs.lemmas.Option.{slice_get-map}
use Rattle.vmv_back.proofs.Params.{entry_params}
use Rattle.vmv_assumption.specs.Assumed.{Assumed, names_of, cond_of}
use Rattle.vmv_assumption.specs.Change.{IsKept}
use Rattle.vmv_cert.specs.declared.row.Row.{Row}
use Rattle.vmv_cert.specs.declared.row.Reach.TheVariants.{Bottom}
use Rattle.vmv_cert.specs.Tables.{Accepted, Box, IsBoxIn}
use Rattle.vmv_check.proofs.Orders.{name_at}
use Rattle.vmv_check.proofs.Lists.{push_in}
use Rattle.vmv_check.specs.declared.refused.Refused.{Refused}
use Rattle.vmv_proof.specs.declared.proof.Exclusion.{Exclusion}
use Rattle.vmv_proof_check.specs.declared.sought.Sought.{Sought}
use Rattle.vmv_proof_check.specs.Parts.{Turn, passes, fails, HasRow, IsNamedEntry, IsTried, IsHeaded, ExclusionTurns, AllPass}
use Rattle.vmv_proof_check.specs.Proofs.{IsExclusionRefused}
use Rattle.vmv_proof_check.specs.Work.{IsSought, IsDeadTried, IsCutFor, AreNamed, turn_of}
use Rattle.vmv_proof_check.proofs.Lists.{split_here}

-- the name that is looked for is the entry's
pub sought_at : (program : Resolution) (number : ℕ) (params : List Param) (name : Name) (box : Box) (sought : Sought) → IsNamedEntry program name number params → IsSought name box sought → slice_get (map name_of (procs_of program)) number ≡ Some sought.name
sought_at program number params name box sought (body, at) is = name_at program number (entry name params body) sought.name at (sym is.name_is)

pub sought_here : (name : Name) (box : Box) (sought : Sought) → IsSought name box sought → IsSought sought.name box sought
sought_here name box sought is = record { name_is = refl; boxed = is.boxed; box_is = is.box_is; norm = is.norm }

abbrev Tells : Sought → List Row → Bool → Type 0
Tells sought rows b = (program : Resolution) (number : ℕ) (box : Box) → slice_get (map name_of (procs_of program)) number ≡ Some sought.name → IsSought sought.name box sought → IsTrue b ↔ HasRow program number box (λ row. row.result ≡ Bottom) rows

pub dead_told : (base : Resolution) (number : ℕ) (params : List Param) (x : Exclusion) (sought : Sought) (rows : List Row) (b : Bool) → IsSought x.entry x.within sought → rows ≡ x.table.rows → Tells sought rows b → IsNamedEntry base x.entry number params →
    IsTrue b ↔ HasRow base number x.within (λ row. row.result ≡ Bottom) x.table.rows
dead_told base number params x sought rows b is same tells named =
    subst (λ (rs : List Row). IsTrue b ↔ HasRow base number x.within (λ row. row.result ≡ Bottom) rs) same (tells base number x.within (sought_at base number params x.entry x.within sought named is) (sought_here x.entry x.within sought is))

pub dead_turn : (base : Resolution) (assumed : Assumed) (x : Exclusion) (b : Bool) (o : Option Refused) → Accepted base assumed x.table.rows →
    ((program : Resolution) (number : ℕ) (params : List Param) → IsNamedEntry program x.entry number params → IsTrue b ↔ HasRow program number x.within (λ row. row.result ≡ Bottom) x.table.rows) →
    (IsTrue b → o ≡ None) → (IsFalse b → o ≡ Some (record { row = 0; step = 0 })) → IsDeadTried base assumed x (turn_of o)
dead_turn base assumed x true o accepted tells pass fail number params named =
    let P : Option Refused → Type 0 = λ p. IsTried base assumed x.table.rows (HasRow base number x.within (λ row. row.result ≡ Bottom)) (turn_of p) in
    subst P (sym (pass refl)) (accepted, (tells base number params named).0 refl)
dead_turn base assumed x false o accepted tells pass fail number params named =
    let P : Option Refused → Type 0 = λ p. IsTried base assumed x.table.rows (HasRow base number x.within (λ row. row.result ≡ Bottom)) (turn_of p) in
    subst P (sym (fail refl)) (inr (accepted, (λ has. let t = (tells base number params named).1 has in absurd (cc)), refl, refl))

-- a box of an entry of a valid program has at most 16 ranges
pub few_ranges : (program : Resolution) (number : ℕ) (params : List Param) (name : Name) (box : Box) → IsResolution program → IsNamedEntry program name number params → IsBoxIn params box → length box ≤ 16
few_ranges program number params name box is (body, at) inside =
    let marked : slice_get (map is_entry (procs_of program)) number ≡ Some true = slice_get-map is_entry (procs_of program) number ∙ ap (option_map is_entry) at in
    let takes : slice_get (map params_of (procs_of program)) number ≡ Some params = slice_get-map params_of (procs_of program) number ∙ ap (option_map params_of) at in
    let good = entry_params (tree_of program) is.valid number params marked takes in
    let long = AllZip-long _ params box inside in
    omega (arith, good.0, long)

-- an exclusion with a right head turns out as its table does
pub turned : (base : Resolution) (before : List Exclusion) (x : Exclusion) (cut kept : List (Name × Cond)) (b : Bool) (turn : Turn) → IsHeaded base before x → IsCutFor base (take x.under before) cut → (IsTrue b ↔ Contains (names_of cut) x.name) →
    (IsTrue b → IsKept (cond_of cut) x.name x.piece (cond_of kept)) → IsDeadTried base (cond_of kept) x turn → ExclusionTurns base before x turn
turned base before x cut kept b turn head is held conds tried =
    let t = held.1 (subst (λ (ns : List Name). Contains ns x.name) (sym is.names) head.name_is) in
    inr (head, (cond_of kept, (cond_of cut, is.cut, conds t), tried head.number head.params head.entry_is))

-- a part of a list with one more element is one of the list, or ends before that element
no_parts : {X : Type 0} (before after : List X) (x : X) → [] ≡ before ++ x ∷ after → ⊥
no_parts [] after x e = absurd (cc)
no_parts (y ∷ before) after x e = absurd (cc)

split_push : {X : Type 0} (xs : List X) (y : X) (before after : List X) (x : X) → xs ++ y ∷ [] ≡ before ++ x ∷ after → ((rest : List X) × (xs ≡ before ++ x ∷ rest)) ⊎ ((before ≡ xs) × (x ≡ y))
split_push [] y [] after x e = inr (refl, cc)
split_push [] y (z ∷ before) after x e = let f : [] ≡ before ++ x ∷ after = cc in absurd (no_parts before after x f)
split_push (w ∷ xs) y [] after x e = let f : w ≡ x = cc in inl (xs, ap (λ v. v ∷ xs) f)
split_push {X} (w ∷ xs) y (z ∷ before) after x e =
    let f : w ≡ z = cc in
    let g : xs ++ y ∷ [] ≡ before ++ x ∷ after = cc in
    ⊎_elim
    (λ (h : (rest : List X) × (xs ≡ before ++ x ∷ rest)). let i = h.1 in inl (h.0, cc))
    (λ (h : (before ≡ xs) × (x ≡ y)). let i = h.0 in inr (cc, h.1))
    (split_push xs y before after x g)

pub none_pass : (base : Resolution) → AllPass base []
none_pass base before after x e = absurd (no_parts before after x e)

pass_more : (base : Resolution) (xs : List Exclusion) (y : Exclusion) → AllPass base xs → ExclusionTurns base xs y passes → AllPass base (xs ++ y ∷ [])
pass_more base xs y all one before after x e = ⊎_elim
    (λ (h : (rest : List Exclusion) × (xs ≡ before ++ x ∷ rest)). all before h.0 x h.1)
    (λ (h : (before ≡ xs) × (x ≡ y)). subst (λ (b : List Exclusion). ExclusionTurns base b x passes) (sym h.0) (subst (λ (z : Exclusion). ExclusionTurns base xs z passes) (sym h.1) one))
    (split_push xs y before after x e)

passing_name : (base : Resolution) (xs : List Exclusion) (x : Exclusion) → ExclusionTurns base xs x passes → Contains (outsides (tree_of base)) x.name
passing_name base xs x (inl (wrong, e)) = absurd (cc)
passing_name base xs x (inr (head, tried)) = head.name_is

pub name_passing : (base : Resolution) (xs : List Exclusion) (x : Exclusion) → ExclusionTurns base xs x passes → Contains (outsides (tree_of base)) x.name
name_passing base xs x one = passing_name base xs x one

module _ (base : Resolution) (xs : List Exclusion) (i : ℕ) (x : Exclusion) (inside : i < length xs) (is : x ≡ get_or xs i x) where
  pub pass_next : AllPass base (take i xs) → ExclusionTurns base (take i xs) x passes → AllPass base (take (i + 1) xs)
  pass_next all one = subst (λ (ys : List Exclusion). AllPass base ys) (sym (take_one_more xs i x inside is)) (pass_more base (take i xs) x all one)

  pub named_next : AreNamed base (take i xs) → ExclusionTurns base (take i xs) x passes → AreNamed base (take (i + 1) xs)
  named_next all one = subst (λ (ys : List Exclusion). AreNamed base ys) (sym (take_one_more xs i x inside is))
      (λ y there. ⊎_elim (λ (o : Contains (take i xs) y). all y o) (λ (e : x ≡ y). subst (λ (z : Exclusion). Contains (outsides (tree_of base)) z.name) e (passing_name base (take i xs) x one)) (push_in (take i xs) x y there))

  pub refused_here : (row step : ℕ) → AllPass base (take i xs) → ExclusionTurns base (take i xs) x (fails row step) → IsExclusionRefused base xs (i + 1) row step
  refused_here row step all one = record {
    before = take i xs;
    x = x;
    after = drop (suc i) xs;
    parts = split_here xs i x inside is;
    place = let l = length-take i xs in omega (arith, l, inside);
    passed = all;
    failed = one;
  }
