-- What links that are changed spell: a number put at the end of a list, and a number taken out.
use Rattle.std.proofs.Common.{◌≡◌, ◌≢◌, inl, inr, ℕ, ◌≤◌, suc, zero, true, false, nat_eq, List, [], ◌∷◌, ◌++◌, length, refl, sym, ap, subst, ◌∙◌, arith}
use Rattle.std.specs.List.{AllByRecursion, IsDistinct, list_any}
use Rattle.std.proofs.lemmas.Bool.{eq-eqb, ne_eqb, cases_eq, false≢true}
use Rattle.vmv_links.specs.Lists.{without}
use Rattle.vmv_links.specs.Rings.{Path, walk}

-- what holds of each number of a list holds of one that is in it
pub any_member : (Q : ℕ → Type 0) (q : ℕ) (xs : List ℕ) → AllByRecursion Q xs → list_any (nat_eq q) xs ≡ true → Q q
any_member Q q [] all h = absurd (false≢true h)
any_member Q q (y ∷ ys) all h =
    elim (cases_eq q y) [
      | inl e ↦ subst Q (sym e) all.0
      | inr ne ↦ any_member Q q ys all.1 (rw (ne_eqb q y ne) at h)
    ]

pub all_weaker : (Q Q' : ℕ → Type 0) (xs : List ℕ) → ((y : ℕ) → Q y → Q' y) → AllByRecursion Q xs → AllByRecursion Q' xs
all_weaker Q Q' [] w h = tt
all_weaker Q Q' (x ∷ xs) w h = (w x h.0, all_weaker Q Q' xs w h.1)

pub all_push : (Q : ℕ → Type 0) (xs : List ℕ) (x : ℕ) → AllByRecursion Q xs → Q x → AllByRecursion Q (xs ++ x ∷ [])
all_push Q [] x h q = (q, tt)
all_push Q (y ∷ ys) x h q = (h.0, all_push Q ys x h.1 q)

-- a number of which something else holds isn't in the list
pub not_member : (q : ℕ) (xs : List ℕ) → AllByRecursion (λ y. y ≢ q) xs → list_any (nat_eq q) xs ≡ false
not_member q [] h = refl
not_member q (y ∷ ys) h = rw (ne_eqb q y (λ e. h.0 (sym e)), not_member q ys h.1) refl

pub without_same : (x y : ℕ) (ys : List ℕ) → y ≡ x → without x (y ∷ ys) ≡ without x ys
without_same x y ys e = rw (eq-eqb y x e) refl

pub without_other : (x y : ℕ) (ys : List ℕ) → y ≢ x → without x (y ∷ ys) ≡ y ∷ without x ys
without_other x y ys ne = rw (ne_eqb y x ne) refl

pub all_without : (Q Q' : ℕ → Type 0) (x : ℕ) (xs : List ℕ) → ((y : ℕ) → y ≢ x → Q y → Q' y) → AllByRecursion Q xs → AllByRecursion Q' (without x xs)
all_without Q Q' x [] w h = tt
all_without Q Q' x (y ∷ ys) w h =
    let rest = all_without Q Q' x ys w h.1 in
    elim (cases_eq y x) [
      | inl e ↦ rw (without_same x y ys e) rest
      | inr ne ↦ rw (without_other x y ys ne) (w y ne h.0, rest)
    ]

pub distinct_without : (x : ℕ) (xs : List ℕ) → IsDistinct nat_eq xs → IsDistinct nat_eq (without x xs)
unfolding IsDistinct
distinct_without x [] h = tt
distinct_without x (y ∷ ys) h =
    let rest = distinct_without x ys h.1 in
    elim (cases_eq y x) [
      | inl e ↦ rw (without_same x y ys e) rest
      | inr ne ↦ rw (without_other x y ys ne) (all_without (λ z. nat_eq y z ≡ false) (λ z. nat_eq y z ≡ false) x ys (λ z _ k. k) h.0, rest)
    ]

module _ (N P : ℕ → ℕ) where
  -- the last link leads to the end
  pub Path-last : (a : ℕ) (xs : List ℕ) (b : ℕ) → Path N P a xs b → N (P b) ≡ b
  Path-last a [] b h = ap N h.1 ∙ h.0
  Path-last a (x ∷ xs) b h = Path-last x xs b h.2

  -- the node before the end is one of those that the links lead over
  pub Path-last_is : (Good : ℕ → Type 0) (a : ℕ) (xs : List ℕ) (b : ℕ) → Good a → AllByRecursion Good xs → Path N P a xs b → Good (P b)
  Path-last_is Good a [] b ga gs h = subst Good (sym h.1) ga
  Path-last_is Good a (x ∷ xs) b ga gs h = Path-last_is Good x xs b gs.0 gs.1 h.2

  -- the first link leads back
  pub Path-first : (a : ℕ) (xs : List ℕ) (b : ℕ) → Path N P a xs b → P (N a) ≡ a
  Path-first a [] b h = ap P h.0 ∙ h.1
  Path-first a (x ∷ xs) b h = ap P h.0 ∙ h.1

  -- the links of a number in the list lead back to it
  pub Path-member : (x a : ℕ) (xs : List ℕ) (b : ℕ) → Path N P a xs b → list_any (nat_eq x) xs ≡ true → (N (P x) ≡ x) × (P (N x) ≡ x)
  Path-member x a [] b h any = absurd (false≢true any)
  Path-member x a (y ∷ ys) b h any =
      elim (cases_eq x y) [
        | inl e ↦ subst (λ z. (N (P z) ≡ z) × (P (N z) ≡ z)) (sym e) (ap N h.1 ∙ h.0, Path-first y ys b h.2)
        | inr ne ↦ Path-member x y ys b h.2 (rw (ne_eqb x y ne) at any)
      ]

  -- the links from a number on lead over the rest of its list
  pub Path-rest : (a : ℕ) (front : List ℕ) (x : ℕ) (back : List ℕ) (b : ℕ) → Path N P a (front ++ x ∷ back) b → Path N P x back b
  Path-rest a [] x back b h = h.2
  Path-rest a (y ∷ ys) x back b h = Path-rest y ys x back b h.2

  -- a walk along the links finds the list
  pub walk-Path : (a : ℕ) (xs : List ℕ) (b most : ℕ) → AllByRecursion (λ y. y ≢ b) xs → length xs ≤ most → Path N P a xs b → walk N b most a ≡ xs
  walk-Path a [] b zero apart le h = refl
  walk-Path a [] b (suc most) apart le h = rw (eq-eqb (N a) b h.0) refl
  walk-Path a (x ∷ xs) b zero apart le h = absurd (omega arith)
  walk-Path a (x ∷ xs) b (suc most) apart le h =
      rw (h.0, ne_eqb x b apart.0) (ap (λ l. x ∷ l) (walk-Path x xs b most apart.1 (omega arith) h.2))

-- links between nodes that are kept
module _ (N P N' P' : ℕ → ℕ) (Good : ℕ → Type 0)
    (keepN : (y z : ℕ) → Good y → Good z → N y ≡ z → N' y ≡ z)
    (keepP : (y z : ℕ) → Good y → Good z → P z ≡ y → P' z ≡ y) where
  Path-kept : (a : ℕ) (xs : List ℕ) (b : ℕ) → Good a → AllByRecursion Good xs → Good b → Path N P a xs b → Path N' P' a xs b
  Path-kept a [] b ga gs gb h = (keepN a b ga gb h.0, keepP a b ga gb h.1)
  Path-kept a (x ∷ xs) b ga gs gb h = (keepN a x ga gs.0 h.0, keepP a x ga gs.0 h.1, Path-kept x xs b gs.0 gs.1 gb h.2)

-- the node x is put before the node b
pub record IsPut (N P N' P' : ℕ → ℕ) (x b : ℕ) : Type 0 where
  pub after_x : N' x ≡ b
  pub after_last : N' (P b) ≡ x
  pub after_rest : (y : ℕ) → y ≢ x → y ≢ P b → N' y ≡ N y
  pub before_b : P' b ≡ x
  pub before_x : P' x ≡ P b
  pub before_rest : (y : ℕ) → y ≢ x → y ≢ b → P' y ≡ P y

module _ (N P N' P' : ℕ → ℕ) (x b : ℕ) (put : IsPut N P N' P' x b) (last : N (P b) ≡ b) where
  pub Path-put : (a : ℕ) (xs : List ℕ) → a ≢ x → AllByRecursion (λ y. (y ≢ x) × (y ≢ b)) xs → Path N P a xs b → Path N' P' a (xs ++ x ∷ []) b
  Path-put a [] ax gs h = (rw h.1 at put.after_last, put.before_x ∙ h.1, (put.after_x, put.before_b))
  Path-put a (y ∷ ys) ax gs h =
      let not_last : a ≢ P b = λ e. gs.0.1 (sym h.0 ∙ ap N e ∙ last) in
      (put.after_rest a ax not_last ∙ h.0, put.before_rest y gs.0.0 gs.0.1 ∙ h.1, Path-put y ys gs.0.0 gs.1 h.2)

  pub Path-put_elsewhere : (a : ℕ) (xs : List ℕ) (c : ℕ) → (a ≢ x) × (a ≢ b) → AllByRecursion (λ y. (y ≢ x) × (y ≢ b)) xs → (c ≢ x) × (c ≢ b) → Path N P a xs c → Path N' P' a xs c
  Path-put_elsewhere = Path-kept N P N' P' (λ y. (y ≢ x) × (y ≢ b))
      (λ y z gy gz e. put.after_rest y gy.0 (λ is_last. gz.1 (sym e ∙ ap N is_last ∙ last)) ∙ e)
      (λ y z gy gz e. put.before_rest z gz.0 gz.1 ∙ e)

-- the node x is cut out of its links
pub record IsCut (N P N' P' : ℕ → ℕ) (x : ℕ) : Type 0 where
  pub after_before : N' (P x) ≡ N x
  pub after_rest : (y : ℕ) → y ≢ P x → N' y ≡ N y
  pub before_after : P' (N x) ≡ P x
  pub before_rest : (y : ℕ) → y ≢ N x → P' y ≡ P y

module _ (N P N' P' : ℕ → ℕ) (x : ℕ) (cut : IsCut N P N' P' x) (back : N (P x) ≡ x) (forth : P (N x) ≡ x) where
  keepN : (y z : ℕ) → z ≢ x → N y ≡ z → N' y ≡ z
  keepN y z zx e = cut.after_rest y (λ is. zx (sym e ∙ ap N is ∙ back)) ∙ e

  keepP : (y z : ℕ) → y ≢ x → P z ≡ y → P' z ≡ y
  keepP y z yx e = cut.before_rest z (λ is. yx (sym e ∙ ap P is ∙ forth)) ∙ e

  pub Path-cut : (a : ℕ) (xs : List ℕ) (b : ℕ) → a ≢ x → b ≢ x → Path N P a xs b → Path N' P' a (without x xs) b
  Path-cut a [] b ax bx h = (keepN a b bx h.0, keepP a b ax h.1)
  Path-cut a (y ∷ []) b ax bx h =
      elim (cases_eq y x) [
        | inl e ↦
            let before_x : P x ≡ a = ap P (sym e) ∙ h.1 in
            let after_x : N x ≡ b = ap N (sym e) ∙ h.2.0 in
            rw (without_same x y [] e) (rw (before_x, after_x) at cut.after_before, rw (after_x, before_x) at cut.before_after)
        | inr ne ↦ rw (without_other x y [] ne) (keepN a y ne h.0, keepP a y ax h.1, Path-cut y [] b ne bx h.2)
      ]
  Path-cut a (y ∷ z ∷ zs) b ax bx h =
      elim (cases_eq y x) [
        | inl e ↦
            let before_x : P x ≡ a = ap P (sym e) ∙ h.1 in
            let after_x : N x ≡ z = ap N (sym e) ∙ h.2.0 in
            let zx : z ≢ x = λ is. ax (sym before_x ∙ ap P (sym is) ∙ h.2.1 ∙ e) in
            rw (without_same x y (z ∷ zs) e, without_other x z zs zx)
            (rw (before_x, after_x) at cut.after_before, rw (after_x, before_x) at cut.before_after, Path-cut z zs b zx bx h.2.2)
        | inr ne ↦ rw (without_other x y (z ∷ zs) ne) (keepN a y ne h.0, keepP a y ax h.1, Path-cut y (z ∷ zs) b ne bx h.2)
      ]
