-- Lists that rise by an order, with the same elements, are equal; so are lists of sites.
use Rattle.std.proofs.Common.{◌≡◌, ◌⊎◌, inl, inr, ⊎_elim, ℕ, zero, suc, ◌+◌, ◌<◌, Some, List, [], ◌∷◌, slice_get, refl, sym, ap, subst, arith, ◌∙◌}
use Rattle.std.specs.List.{Contains}
use Rattle.vmv_tree.specs.declared.site.NamedSite.{NamedSite}
use Rattle.vmv_snapshot.specs.Resolution.{Resolution, IsResolution, tree_of}
use Rattle.vmv_cert.specs.Tables.{Precedes, AreSitesOf}
use Rattle.vmv_check.proofs.Above.{procs_once}
use Rattle.vmv_forward.proofs.Items.{further}

-- each element stands before the next
abbrev pub Rises : {X : Type 0} → (X → X → Type 0) → List X → Type 0
Rises P xs = (i : ℕ) (one other : _) → slice_get xs i ≡ Some one → slice_get xs (i + 1) ≡ Some other → P one other

rises_behind : {X : Type 0} (P : X → X → Type 0) (x : X) (xs : List X) → Rises P (x ∷ xs) → Rises P xs
rises_behind P x xs rises i one other a b = rises (suc i) one other a (subst (λ j. slice_get (x ∷ xs) j ≡ Some other) (let t : suc (i + 1) ≡ suc i + 1 = omega arith in t) b)

none_in : {X : Type 0} (x : X) → Contains [] x → ⊥
none_in x (k, h, e) = absurd (omega (arith, h))

first_or_further : {X : Type 0} (x : X) (xs : List X) (y : X) → Contains (x ∷ xs) y → (x ≡ y) ⊎ Contains xs y
first_or_further x xs y (zero, h, e) = inl e
first_or_further x xs y (suc k, h, e) = inr (k, omega (arith, h), e)

here : {X : Type 0} (x : X) (xs : List X) → Contains (x ∷ xs) x
here x xs = (0, omega arith, refl)

-- the first stands before all others
first_before : {X : Type 0} (P : X → X → Type 0) (x : X) (xs : List X) → ((a b c : X) → P a b → P b c → P a c) → Rises P (x ∷ xs) → (y : X) → Contains xs y → P x y
first_before P x [] chain rises y c = absurd (none_in y c)
first_before P x (z ∷ xs) chain rises y c =
    let one : P x z = rises 0 x z refl refl in
    ⊎_elim (λ (e : z ≡ y). subst (P x) e one) (λ (g : Contains xs y). chain x z y one (first_before P z xs chain (rises_behind P x (z ∷ xs) rises) y g)) (first_or_further z xs y c)

-- an element of a list behind its first is one of the other list behind its first
tail_in : {X : Type 0} (P : X → X → Type 0) (x y : X) (xs ys : List X) → ((a : X) → P a a → ⊥) → x ≡ y → ((z : X) → Contains xs z → P x z) → ((z : X) → Contains (x ∷ xs) z → Contains (y ∷ ys) z) → (z : X) → Contains xs z → Contains ys z
tail_in P x y xs ys never same before sub z c =
    ⊎_elim (λ (e : y ≡ z). absurd (never x (subst (P x) (sym (same ∙ e)) (before z c)))) (λ (g : Contains ys z). g) (first_or_further y ys z (sub z (further x xs z c)))

pub rising_same : {X : Type 0} (P : X → X → Type 0) (xs ys : List X) → ((a b c : X) → P a b → P b c → P a c) → ((a : X) → P a a → ⊥) → Rises P xs → Rises P ys → ((z : X) → Contains xs z → Contains ys z) →
    ((z : X) → Contains ys z → Contains xs z) → xs ≡ ys
rising_same P [] [] chain never r q sub sup = refl
rising_same P [] (y ∷ ys) chain never r q sub sup = absurd (none_in y (sup y (here y ys)))
rising_same P (x ∷ xs) [] chain never r q sub sup = absurd (none_in x (sub x (here x xs)))
rising_same {X = X} P (x ∷ xs) (y ∷ ys) chain never r q sub sup =
    let before = first_before P x xs chain r in
    let before' = first_before P y ys chain q in
    let same : x ≡ y =
    ⊎_elim (λ (e : y ≡ x). sym e)
    (λ (g : Contains ys x). ⊎_elim (λ (e : x ≡ y). e) (λ (g' : Contains xs y). absurd (never x (chain x y x (before y g') (before' x g)))) (first_or_further x xs y (sup y (here y ys))))
    (first_or_further y ys x (sub x (here x xs))) in
    let rest : xs ≡ ys = rising_same P xs ys chain never (rises_behind P x xs r) (rises_behind P y ys q) (tail_in P x y xs ys never same before sub) (tail_in P y x ys xs never (sym same) before' sup) in
    ap (λ (v : X). v ∷ xs) same ∙ ap (λ (vs : List X). y ∷ vs) rest

orders : (i j k l a b c : ℕ) → j ≡ k → (i < j) ⊎ ((i ≡ j) × (a < b)) → (k < l) ⊎ ((k ≡ l) × (b < c)) → (i < l) ⊎ ((i ≡ l) × (a < c))
orders i j k l a b c e (inl h) (inl g) = inl (omega arith)
orders i j k l a b c e (inl h) (inr g) = let u = g.0 in inl (omega arith)
orders i j k l a b c e (inr h) (inl g) = let u = h.0 in inl (omega arith)
orders i j k l a b c e (inr h) (inr g) = let u = h.0 in let v = g.0 in let x = h.1 in let y = g.1 in inr (omega arith, omega arith)

-- the order of sites
pub precedes_on : (program : Resolution) → IsResolution program → (a b c : NamedSite) → Precedes program a b → Precedes program b c → Precedes program a c
precedes_on program is a b c p q =
    let same : p.second ≡ q.first = procs_once (tree_of program) is.valid p.second q.first b.proc p.second_is q.first_is in
    record { first = p.first; second = q.second; first_is = p.first_is; second_is = q.second_is; order = orders p.first p.second q.first q.second a.index b.index c.index same p.order q.order }

not_before : (i j a : ℕ) → i ≡ j → (i < j) ⊎ ((i ≡ j) × (a < a)) → ⊥
not_before i j a e (inl h) = omega arith
not_before i j a e (inr h) = let u = h.1 in omega arith

precedes_never : (program : Resolution) → IsResolution program → (a : NamedSite) → Precedes program a a → ⊥
precedes_never program is a p =
    let same : p.first ≡ p.second = procs_once (tree_of program) is.valid p.first p.second a.proc p.first_is p.second_is in
    not_before p.first p.second a.index same p.order

pub sites_same : (program : Resolution) (n m : ℕ) (xs ys : List NamedSite) → IsResolution program → AreSitesOf program n xs → AreSitesOf program m ys → ((site : NamedSite) → Contains xs site → Contains ys site) →
    ((site : NamedSite) → Contains ys site → Contains xs site) → xs ≡ ys
sites_same program n m xs ys is a b sub sup = rising_same (Precedes program) xs ys (precedes_on program is) (precedes_never program is) a.sorted b.sorted sub sup
