-- The least and the greatest of the results at ends.
use Rattle.std.proofs.Common.{◌∙◌, ◌≡◌, ◌⊎◌, ◌↔◌, suc, ◌≤◌, ◌^◌, ℤ, pos, negsuc, ◌*ℤ◌, ◌≤ℤ◌, unsigned_abs, arith, inl, inr, ⊎_elim, refl}
use Rattle.std.specs.Prelude.{int_div}
use Rattle.std.specs.Int.{int_min, int_max}
use Rattle.std.proofs.Math.Nat.{mul-le-mul_left, mul-le-mul_right, div-le_self}
use Rattle.std.proofs.lemmas.Int.{ints, clamps, unsigned_abs-mul}
use Rattle.vmv_zone.specs.Bounds.{IsWide}
use Rattle.vmv_zone.specs.Four.{least_of, greatest_of}
use Rattle.vmv_zone.specs.Ends.{IsEnd, IsEndResult, IsEndQuotient, IsHull}

min_is : (a b : ℤ) → (int_min a b ≡ a) ⊎ (int_min a b ≡ b)
min_is a b = grind (arith, ints)

max_is : (a b : ℤ) → (int_max a b ≡ a) ⊎ (int_max a b ≡ b)
max_is a b = grind (arith, ints)

-- a property of both is one of the less and of the greater
pub at_min : (P : ℤ → Type 0) (a b : ℤ) → P a → P b → P (int_min a b)
at_min P a b pa pb = ⊎_elim (λ (e : int_min a b ≡ a). rw e pa) (λ (e : int_min a b ≡ b). rw e pb) (min_is a b)

pub at_max : (P : ℤ → Type 0) (a b : ℤ) → P a → P b → P (int_max a b)
at_max P a b pa pb = ⊎_elim (λ (e : int_max a b ≡ a). rw e pa) (λ (e : int_max a b ≡ b). rw e pb) (max_is a b)

-- results of ends are those of the four pairs
pub at_ends : (P : ℤ → Type 0) (op : ℤ → ℤ → ℤ) (a b c d q : ℤ) → IsEndResult op a b c d q → P (op a c) → P (op a d) → P (op b c) → P (op b d) → P q
at_ends P op a b c d q r ac ad bc bd =
    ⊎_elim
    (λ (l : r.left ≡ a). ⊎_elim
    (λ (m : r.right ≡ c). let e = rw (l, m) at r.is in rw e ac)
    (λ (m : r.right ≡ d). let e = rw (l, m) at r.is in rw e ad) r.right_end)
    (λ (l : r.left ≡ b). ⊎_elim
    (λ (m : r.right ≡ c). let e = rw (l, m) at r.is in rw e bc)
    (λ (m : r.right ≡ d). let e = rw (l, m) at r.is in rw e bd) r.right_end)
    r.left_end

pub end_result : (op : ℤ → ℤ → ℤ) (a b c d l r : ℤ) → IsEnd a b l → IsEnd c d r → IsEndResult op a b c d (op l r)
end_result op a b c d l r le re = record { left = l; right = r; left_end = le; right_end = re; is = refl }

pub hull_clean : (op : ℤ → ℤ → ℤ) (a b c d : ℤ) →
    IsHull (IsEndResult op a b c d) (least_of (op a c) (op a d) (op b c) (op b d)) (greatest_of (op a c) (op a d) (op b c) (op b d))
hull_clean op a b c d =
    let P : ℤ → Type 0 = λ q. IsEndResult op a b c d q in
    let ac = end_result op a b c d a c (inl refl) (inl refl) in
    let ad = end_result op a b c d a d (inl refl) (inr refl) in
    let bc = end_result op a b c d b c (inr refl) (inl refl) in
    let bd = end_result op a b c d b d (inr refl) (inr refl) in
    record {
      low = at_min P _ _ (at_min P _ _ ac ad) (at_min P _ _ bc bd);
      high = at_max P _ _ (at_max P _ _ ac ad) (at_max P _ _ bc bd);
      above = λ q r. at_ends (λ v. least_of (op a c) (op a d) (op b c) (op b d) ≤ℤ v) op a b c d q r
          (omega (arith, ints, clamps)) (omega (arith, ints, clamps)) (omega (arith, ints, clamps)) (omega (arith, ints, clamps));
      below = λ q r. at_ends (λ v. v ≤ℤ greatest_of (op a c) (op a d) (op b c) (op b d)) op a b c d q r
          (omega (arith, ints, clamps)) (omega (arith, ints, clamps)) (omega (arith, ints, clamps)) (omega (arith, ints, clamps));
    }

pub hull_four : (op : ℤ → ℤ → ℤ) (a b c d a' b' c' d' w x y z w' x' y' z' lo hi : ℤ) → w ≡ op a' c' → x ≡ op a' d' → y ≡ op b' c' → z ≡ op b' d' →
    lo ≡ least_of w' x' y' z' → hi ≡ greatest_of w' x' y' z' → a' ≡ a → b' ≡ b → c' ≡ c → d' ≡ d → w' ≡ w → x' ≡ x → y' ≡ y → z' ≡ z →
    IsHull (IsEndResult op a b c d) lo hi
hull_four op a b c d a' b' c' d' w x y z w' x' y' z' lo hi ew ex ey ez el eh ea eb ec ed fw fx fy fz =
    let gw : w' ≡ op a c = fw ∙ (rw (ea, ec) at ew) in
    let gx : x' ≡ op a d = fx ∙ (rw (ea, ed) at ex) in
    let gy : y' ≡ op b c = fy ∙ (rw (eb, ec) at ey) in
    let gz : z' ≡ op b d = fz ∙ (rw (eb, ed) at ez) in
    let gl : lo ≡ least_of (op a c) (op a d) (op b c) (op b d) = (rw (gw, gx, gy, gz) at el) in
    let gh : hi ≡ greatest_of (op a c) (op a d) (op b c) (op b d) = (rw (gw, gx, gy, gz) at eh) in
    rw (gl, gh) (hull_clean op a b c d)

pub hull_as : (P Q : ℤ → Type 0) (lo hi : ℤ) → ((q : ℤ) → P q ↔ Q q) → IsHull P lo hi → IsHull Q lo hi
hull_as P Q lo hi iff h = record { low = (iff lo).0 h.low; high = (iff hi).0 h.high; above = λ q r. h.above q ((iff q).1 r); below = λ q r. h.below q ((iff q).1 r) }

pub hull_either : (P Q : ℤ → Type 0) (lo hi lo' hi' l h : ℤ) → IsHull P lo hi → IsHull Q lo' hi' → l ≡ int_min lo lo' → h ≡ int_max hi hi' → IsHull (λ q. P q ⊎ Q q) l h
hull_either P Q lo hi lo' hi' l h one two el eh = rw (el, eh) (record {
  low = at_min (λ q. P q ⊎ Q q) lo lo' (inl one.low) (inr two.low);
  high = at_max (λ q. P q ⊎ Q q) hi hi' (inl one.high) (inr two.high);
  above = λ q r. ⊎_elim (λ (p : P q). let f = one.above q p in omega (arith, ints, clamps)) (λ (p : Q q). let f = two.above q p in omega (arith, ints, clamps)) r;
  below = λ q r. ⊎_elim (λ (p : P q). let f = one.below q p in omega (arith, ints, clamps)) (λ (p : Q q). let f = two.below q p in omega (arith, ints, clamps)) r;
})

pub no_parts : (a b c d : ℤ) → pos 0 ≤ℤ c → d ≤ℤ pos 0 → (q : ℤ) → ¬ IsEndQuotient a b c d q
no_parts a b c d low high q r = ⊎_elim (λ n. let l = n.0 in omega (arith, ints)) (λ n. let l = n.0 in omega (arith, ints)) r

pub positive_part : (a b c d c' d' lo hi : ℤ) → IsHull (IsEndResult int_div a b c' d') lo hi → c' ≡ int_max c (pos 1) → d' ≡ d → pos 0 ≤ℤ c → pos 1 ≤ℤ d → IsHull (IsEndQuotient a b c d) lo hi
positive_part a b c d c' d' lo hi h ec ed low high =
    hull_as (IsEndResult int_div a b c' d') (IsEndQuotient a b c d) lo hi
    (λ q. rw (ec, ed) ((λ r. inr (high, r)), (λ r. ⊎_elim (λ n. absurd (let l = n.0 in omega (arith, ints))) (λ n. n.1) r))) h

pub negative_part : (a b c d c' d' lo hi : ℤ) → IsHull (IsEndResult int_div a b c' d') lo hi → c' ≡ c → d' ≡ int_min d (negsuc 0) → c ≤ℤ negsuc 0 → d ≤ℤ pos 0 → IsHull (IsEndQuotient a b c d) lo hi
negative_part a b c d c' d' lo hi h ec ed low high =
    hull_as (IsEndResult int_div a b c' d') (IsEndQuotient a b c d) lo hi
    (λ q. rw (ec, ed) ((λ r. inl (low, r)), (λ r. ⊎_elim (λ n. n.1) (λ n. absurd (let l = n.0 in omega (arith, ints))) r))) h

pub both_parts : (a b c d c' d' c'' d'' lo hi lo' hi' l h : ℤ) → IsHull (IsEndResult int_div a b c' d') lo hi → IsHull (IsEndResult int_div a b c'' d'') lo' hi' →
    l ≡ int_min lo lo' → h ≡ int_max hi hi' → c' ≡ c → d' ≡ int_min d (negsuc 0) → c'' ≡ int_max c (pos 1) → d'' ≡ d → c ≤ℤ negsuc 0 → pos 1 ≤ℤ d → IsHull (IsEndQuotient a b c d) l h
both_parts a b c d c' d' c'' d'' lo hi lo' hi' l h one two el eh ec ed ec' ed' low high =
    hull_as (λ q. IsEndResult int_div a b c' d' q ⊎ IsEndResult int_div a b c'' d'' q) (IsEndQuotient a b c d) l h
    (λ q. rw (ec, ed, ec', ed') ((λ r. ⊎_elim (λ p. inl (low, p)) (λ p. inr (high, p)) r), (λ r. ⊎_elim (λ n. inl n.1) (λ n. inr n.1) r)))
    (hull_either (IsEndResult int_div a b c' d') (IsEndResult int_div a b c'' d'') lo hi lo' hi' l h one two el eh)

-- a number of at most this size
pub size_wide : (z : ℤ) → unsigned_abs z ≤ 2 ^ 126 → IsWide z
size_wide (pos n) h = record { low = omega (arith, ints); high = omega (arith, ints) }
size_wide (negsuc n) h = record { low = omega (arith, ints); high = omega (arith, ints) }

pub product_wide : (a b : ℤ) → unsigned_abs a ≤ 2 ^ 63 → unsigned_abs b ≤ 2 ^ 63 → IsWide (a *ℤ b)
product_wide a b ha hb =
    let e = unsigned_abs-mul a b in
    let one = mul-le-mul_right (unsigned_abs b) ha in
    let two = mul-le-mul_left (2 ^ 63) hb in
    size_wide (a *ℤ b) (omega (arith, e, one, two))

div_size : (a b : ℤ) → unsigned_abs (int_div a b) ≤ unsigned_abs a
div_size (pos a) (pos b) = div-le_self a b
div_size (pos a) (negsuc b) = let l = div-le_self a (suc b) in omega (arith, ints)
div_size (negsuc a) (pos b) = let l = div-le_self (suc a) b in omega (arith, ints)
div_size (negsuc a) (negsuc b) = let l = div-le_self (suc a) (suc b) in omega (arith, ints)

pub quotient_wide : (a b : ℤ) → unsigned_abs a ≤ 2 ^ 63 → IsWide (int_div a b)
quotient_wide a b h = let s = div_size a b in size_wide (int_div a b) (omega arith)
