-- Two conditions that hold the same words are equal.
use Rattle.std.proofs.Common.{◌≡◌, ℤ, pos, ◌<ℤ◌, IsTrue, IsFalse, Bool, true, false, refl, subst, ap, arith, rules}
use Rattle.std.proofs.Props.{props}
use Rattle.std.proofs.lemmas.Int.{ints, by_lt_z}
use Rattle.vmv_cond.specs.declared.cond.Cond.{Cond}
use Rattle.vmv_cond.specs.Normal.{IsNormal}
use Rattle.vmv_cond.specs.Cond.{Holds, IsSubset}
use Rattle.vmv_cond.proofs.Ranges.{ends_held, ends_same}

is_normal_once : (lo hi : ℤ) (z : Bool) → IsProp (IsNormal lo hi z)
is_normal_once lo hi z = hlevel props

abbrev cond_of : (lo hi : ℤ) (z : Bool) → IsNormal lo hi z → Cond
cond_of lo hi z n = record { lo = lo; hi = hi; zero_out = z; normal = n }

same_parts : (lo hi lo' hi' : ℤ) (z z' : Bool) (n : IsNormal lo hi z) (n' : IsNormal lo' hi' z') → lo ≡ lo' → hi ≡ hi' → z ≡ z' →
    cond_of lo hi z n ≡ cond_of lo' hi' z' n'
same_parts lo hi lo' hi' z z' n n' e f g =
    let P : ℤ → Type 0 = λ l. (h : ℤ) (m : Bool) (n' : IsNormal l h m) → hi ≡ h → z ≡ m → cond_of lo hi z n ≡ cond_of l h m n' in
    let Q : ℤ → Type 0 = λ h. (m : Bool) (n' : IsNormal lo h m) → z ≡ m → cond_of lo hi z n ≡ cond_of lo h m n' in
    let R : Bool → Type 0 = λ m. (n' : IsNormal lo hi m) → cond_of lo hi z n ≡ cond_of lo hi m n' in
    subst P e (λ h m n' f g. subst Q f (λ m n' g. subst R g (λ n'. ap (cond_of lo hi z) (is_normal_once lo hi z n n')) n') m n' g) hi' z' n' f g

pub same_fields : (a b : Cond) → a.lo ≡ b.lo → a.hi ≡ b.hi → a.zero_out ≡ b.zero_out → a ≡ b
same_fields a b e f g = same_parts a.lo a.hi b.lo b.hi a.zero_out b.zero_out a.normal b.normal e f g

true_of : (a b : Bool) → (IsTrue a → IsTrue b) → (IsTrue b → IsTrue a) → a ≡ b
true_of true true f g = refl
true_of true false f g = absurd (let h = f (search rules) in search rules)
true_of false true f g = absurd (let h = g (search rules) in search rules)
true_of false false f g = refl

by_mark : {P : Type 0} (z : Bool) → (IsTrue z → P) → (IsFalse z → P) → P
by_mark true f g = f refl
by_mark false f g = g refl

clash : (z : Bool) → IsTrue z → IsFalse z → ⊥
clash true t f = search rules
clash false t f = search rules

both_empty : (a b : Cond) → a.hi <ℤ a.lo → b.hi <ℤ b.lo → (a.lo ≡ b.lo) × (a.hi ≡ b.hi)
both_empty a b empty empty' =
    let one = a.normal.empty_lo empty in
    let two = b.normal.empty_lo empty' in
    let three = a.normal.empty_hi empty in
    let four = b.normal.empty_hi empty' in
    (cc, cc)

-- the mark is set exactly where 0 isn't held
marked_off : (c : Cond) → IsTrue c.zero_out → ¬ Holds c (pos 0)
marked_off c marked held = held.nonzero marked refl

off_marked : (c : Cond) → ¬ Holds c (pos 0) → IsTrue c.zero_out
off_marked c out = by_mark c.zero_out (λ t. t)
    (λ unmarked. absurd (out (record { above = c.normal.unmarked_lo unmarked; below = c.normal.unmarked_hi unmarked; nonzero = λ t. absurd (clash c.zero_out t unmarked) })))

same_marks : (a b : Cond) → IsSubset a b → IsSubset b a → a.zero_out ≡ b.zero_out
same_marks a b sub sup = true_of a.zero_out b.zero_out
    (λ t. off_marked b (λ h. marked_off a t (sup (pos 0) h))) (λ t. off_marked a (λ h. marked_off b t (sub (pos 0) h)))

same_ends : (a b : Cond) → IsSubset a b → IsSubset b a → (a.lo ≡ b.lo) × (a.hi ≡ b.hi)
same_ends a b sub sup =
    by_lt_z a.hi a.lo
    (λ empty. by_lt_z b.hi b.lo
    (λ empty'. both_empty a b empty empty')
    (λ order. let held = sup b.lo (ends_held b.lo b.hi b.zero_out b.normal order).0 in absurd (let above = held.above in let below = held.below in omega (arith, ints))))
    (λ order. ends_same a.lo a.hi b.lo b.hi a.zero_out b.zero_out a.normal b.normal (λ w. (sub w, sup w)) order)

pub same_words : (a b : Cond) → IsSubset a b → IsSubset b a → a ≡ b
same_words a b sub sup = let ends = same_ends a b sub sup in same_fields a b ends.0 ends.1 (same_marks a b sub sup)
