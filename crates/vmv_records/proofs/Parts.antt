-- A label, a number and a project's labels that are read are those that were written, and what was written is read.
use Rattle.std.proofs.Common.{◌≡◌, ℕ, suc, ◌+◌, ◌^◌, ◌<◌, ◌≤◌, Bool, true, false, cond, ltb, eqb, List, [], ◌∷◌, ◌++◌, length, get_or, take, drop, Option, Some, None, refl, sym, ap, subst, ◌∙◌, append_assoc, arith, inl, inr}
use Rattle.std.specs.Prelude.{IsTrue}
use Rattle.std.specs.Int.{w32, from_be_bytes, to_be_bytes}
use Rattle.std.proofs.lemmas.Bool.{ltb-false, le-ltb, eqb-true, eq-eqb}
use Rattle.std.proofs.lemmas.List.{take_at, drop_at, take-append-drop, length-append, length-take, get_or-drop, nil_from_length, append-nil}
use Rattle.std.proofs.lemmas.Nat.{be_bytes_4, from_be_bytes-to_be_bytes_4}
use Rattle.std.proofs.lemmas.Option.{cond_some}
use Rattle.vmv_keeper.specs.Label.{is_label}
use Rattle.vmv_records.specs.Spelling.{label_bytes, number_bytes, named_bytes}
use Rattle.vmv_records.specs.Reading.{◌>>=◌, label_at, named_at, label_in, number_in}

-- numbers that are bytes
abbrev pub IsBytes : List ℕ → Type 0
IsBytes bytes = (i : ℕ) → get_or bytes i 0 < 256

pub IsBytes-behind : (front rest : List ℕ) → IsBytes (front ++ rest) → IsBytes rest
IsBytes-behind [] rest h = h
IsBytes-behind (x ∷ front) rest h = IsBytes-behind front rest (λ i. h (suc i))

-- the value of a step that found something
pub found_by : {A B : Type 0} (o : Option A) (f : A → Option B) (y : B) → (o >>= f) ≡ Some y → (x : A) × (o ≡ Some x) × (f x ≡ Some y)
found_by None f y e = absurd cc
found_by (Some x) f y e = (x, refl, e)

-- a test that didn't end the search
pub not_none : {A : Type 0} (b : Bool) (o : Option A) (y : A) → cond b None o ≡ Some y → (b ≡ false) × (o ≡ Some y)
not_none true o y e = absurd cc
not_none false o y e = (refl, e)

pub some_is : {A : Type 0} (x y : A) → ◌≡◌ {A = Option A} (Some x) (Some y) → x ≡ y
some_is x y e = cc

-- ---- labels

pub label_takes : (bytes : List ℕ) (x : List ℕ × List ℕ) → label_at bytes ≡ Some x → (bytes ≡ label_bytes x.0 ++ x.1) × IsTrue (is_label x.0)
unfolding label_at
label_takes [] x e = absurd cc
label_takes (n ∷ rest) x e =
    let long = not_none (ltb (length rest) n) (cond (is_label (take n rest)) (Some (take n rest, drop n rest)) None) x e in
    let taken = cond_some (is_label (take n rest)) (take n rest, drop n rest) x long.1 in
    let fits : n ≤ length rest = ltb-false _ _ long.0 in
    let len : length (take n rest) ≡ n = omega (arith, length-take n rest) in
    let whole : n ∷ rest ≡ label_bytes (take n rest) ++ drop n rest = rw (len, take-append-drop n rest) refl in
    subst (λ (y : List ℕ × List ℕ). (n ∷ rest ≡ label_bytes y.0 ++ y.1) × IsTrue (is_label y.0)) taken.1 (whole, taken.0)

pub label_again : (label rest : List ℕ) → IsTrue (is_label label) → label_at (label_bytes label ++ rest) ≡ Some (label, rest)
unfolding label_at
label_again label rest is =
    let long : ltb (length (label ++ rest)) (length label) ≡ false = le-ltb _ _ (omega (arith, length-append label rest)) in
    rw (long, take_at label rest (length label) refl, drop_at label rest (length label) refl, is) refl

pub label_in_takes : (bytes label : List ℕ) → label_in bytes ≡ Some label → (bytes ≡ label_bytes label) × IsTrue (is_label label)
unfolding label_in
label_in_takes bytes label e =
    let a = found_by (label_at bytes) (λ x. cond (eqb (length x.1) 0) (Some x.0) None) label e in
    let g = cond_some (eqb (length a.0.1) 0) a.0.0 label a.2 in
    let nothing : a.0.1 ≡ [] = nil_from_length a.0.1 (eqb-true _ _ g.0) in
    let t = label_takes bytes a.0 a.1 in
    let whole : bytes ≡ label_bytes a.0.0 = t.0 ∙ ap (λ (r : List ℕ). label_bytes a.0.0 ++ r) nothing ∙ append-nil (label_bytes a.0.0) in
    subst (λ (y : List ℕ). (bytes ≡ label_bytes y) × IsTrue (is_label y)) g.1 (whole, t.1)

pub label_in_again : (label : List ℕ) → IsTrue (is_label label) → label_in (label_bytes label) ≡ Some label
unfolding label_in
label_in_again label is =
    let e : label_at (label_bytes label) ≡ Some (label, []) = ap label_at (sym (append-nil (label_bytes label))) ∙ label_again label [] is in
    rw e refl

-- ---- a project's labels

pub record TakesNamed (bytes owner project rest : List ℕ) : Type 0 where
  pub whole : bytes ≡ named_bytes owner project rest
  pub owner_is : IsTrue (is_label owner)
  pub project_is : IsTrue (is_label project)

pub named_takes : (bytes : List ℕ) (x : List ℕ × List ℕ × List ℕ) → named_at bytes ≡ Some x → TakesNamed bytes x.0 x.1 x.2
unfolding named_at
named_takes bytes x e =
    let a = found_by (label_at bytes) (λ owner. label_at owner.1 >>= λ project. Some (owner.0, project.0, project.1)) x e in
    let b = found_by (label_at a.0.1) (λ project. Some (a.0.0, project.0, project.1)) x a.2 in
    let t = label_takes bytes a.0 a.1 in
    let u = label_takes a.0.1 b.0 b.1 in
    let whole : bytes ≡ named_bytes a.0.0 b.0.0 b.0.1 = t.0 ∙ ap (λ (r : List ℕ). label_bytes a.0.0 ++ r) u.0 in
    let made : List ℕ × List ℕ × List ℕ = (a.0.0, b.0.0, b.0.1) in
    subst (λ (y : List ℕ × List ℕ × List ℕ). TakesNamed bytes y.0 y.1 y.2) (some_is made x b.2) (record { whole = whole; owner_is = t.1; project_is = u.1 })

pub named_again : (owner project rest : List ℕ) → IsTrue (is_label owner) → IsTrue (is_label project) → named_at (named_bytes owner project rest) ≡ Some (owner, project, rest)
unfolding named_at
named_again owner project rest o p = rw (label_again owner (label_bytes project ++ rest) o, label_again project rest p) refl

-- ---- numbers

pub number_takes : (bytes : List ℕ) (n : ℕ) → IsBytes bytes → number_in bytes ≡ Some n → bytes ≡ number_bytes n
unfolding number_in
number_takes bytes n fits e =
    let g = cond_some (eqb (length bytes) 4) (from_be_bytes w32 bytes) n e in
    let len : length bytes ≡ 4 = eqb-true _ _ g.0 in
    sym (be_bytes_4 bytes n len fits (sym g.1))

pub number_again : (n : ℕ) → n < 2 ^ 32 → number_in (number_bytes n) ≡ Some n
unfolding number_in
number_again n lt = ap (λ (k : ℕ). Some k) (from_be_bytes-to_be_bytes_4 n lt)
