-- The join of two states that aren't Bottom: the greater bounds, and the marks of both.
use Rattle.std.proofs.Common.{◌≡◌, ℕ, ◌+◌, ◌*◌, ◌<◌, ℤ, pos, ◌+ℤ◌, ◌≤ℤ◌, ◌<ℤ◌, false, IsFalse, arith, rules, inl, inr, ⊎_elim, refl, sym, ◌∙◌, subst}
use Rattle.std.proofs.lemmas.Int.{ints}
use Rattle.vmv_zone.specs.declared.zone.Zone.{Zone}
use Rattle.vmv_zone.specs.Zone.{bound_of, mark_of, IsTighter, IsBelow, IsNormal, HasNormalBounds, IsJoin}
use Rattle.vmv_zone.proofs.Equal.{by_truth, clash, below_both}
use Rattle.vmv_states_exist.proofs.Lists.{IsMax, IsBoth, highest, highest_length, highest_at, common, common_length, common_at}

-- j has the greater bounds of a and b, and the marks of both
pub record IsOver (a b j : Zone) : Type 0 where
  pub vars : j.vars ≡ a.vars
  pub same : b.vars ≡ a.vars
  pub up : IsFalse j.bottom
  pub bounds : (i k : ℕ) → IsMax (bound_of a i k) (bound_of b i k) (bound_of j i k)
  pub marks : (i : ℕ) → IsBoth (mark_of a i) (mark_of b i) (mark_of j i)

-- what both bounds meet, the greater one does
pub max_by : (P : ℤ → Type 0) (a b m : ℤ) → IsMax a b m → P a → P b → P m
max_by P a b m is pa pb = ⊎_elim (λ e. subst P (sym e) pa) (λ e. subst P (sym e) pb) is.is

pub joined : (a b : Zone) → a.vars ≡ b.vars → Zone
joined a b e = record {
  vars = a.vars;
  bottom = false;
  bounds = highest a.bounds b.bounds;
  marks = common a.marks b.marks;
  few = a.few;
  full = highest_length a.bounds b.bounds (a.full ∙ sym b.full) ∙ a.full;
  reach = λ k.
      let m = highest_at a.bounds b.bounds k (a.full ∙ sym b.full) in
      let p = a.reach k in
      let q = b.reach k in
      record {
        low = let l = p.low in let h = m.left in omega (arith, ints);
        high = let l = p.high in let h = q.high in ⊎_elim (λ e. omega (arith, ints, e)) (λ e. omega (arith, ints, e)) m.is;
      };
  topped = λ i j hi hj.
      let m = highest_at a.bounds b.bounds (18 * i + j) (a.full ∙ sym b.full) in
      let p = a.topped i j hi hj in
      let q = b.topped i j (omega (arith, e)) (omega (arith, e)) in
      ⊎_elim (λ is. omega (arith, ints, is)) (λ is. omega (arith, ints, is)) m.is;
  outside = λ i j hi hj out.
      let m = highest_at a.bounds b.bounds (18 * i + j) (a.full ∙ sym b.full) in
      let p = a.outside i j hi hj out in
      let q = b.outside i j hi hj (⊎_elim (λ (past : a.vars < i). inl (omega (arith, e))) (λ (past : a.vars < j). inr (omega (arith, e))) out) in
      ⊎_elim (λ is. is ∙ p) (λ is. is ∙ q) m.is;
  sized = common_length a.marks b.marks (a.sized ∙ sym b.sized) ∙ a.sized;
  variables = λ i marked. a.variables i ((common_at a.marks b.marks i (a.sized ∙ sym b.sized)).left marked);
  emptied = λ t. absurd (search rules);
}

pub over_joined : (a b : Zone) (e : a.vars ≡ b.vars) → IsOver a b (joined a b e)
unfolding joined
over_joined a b e = record {
  vars = refl;
  same = sym e;
  up = refl;
  bounds = λ i k. highest_at a.bounds b.bounds (18 * i + k) (a.full ∙ sym b.full);
  marks = λ i. common_at a.marks b.marks i (a.sized ∙ sym b.sized);
}

-- the join is above both
pub over_left : {a b j : Zone} → IsOver a b j → IsTighter a j
over_left over = record { not_bottom = over.up; bounds = λ i k hi hk. (over.bounds i k).left; marks = λ i from hi. (over.marks i).left }

pub over_right : {a b j : Zone} → IsOver a b j → IsTighter b j
over_right over = record { not_bottom = over.up; bounds = λ i k hi hk. (over.bounds i k).right; marks = λ i from hi. (over.marks i).right }

-- and below each state that is above both
pub over_least : {a b j n : Zone} → IsOver a b j → IsTighter a n → IsTighter b n → IsTighter j n
over_least {n = n} over one two = record {
  not_bottom = one.not_bottom;
  bounds = λ i k hi hk. max_by (λ x. x ≤ℤ bound_of n i k) _ _ _ (over.bounds i k) (one.bounds i k hi hk) (two.bounds i k hi hk);
  marks = λ i from hi marked. (over.marks i).both (one.marks i from hi marked) (two.marks i from hi marked);
}

max_zero : (a b m : ℤ) → IsMax a b m → a ≡ pos 0 → b ≡ pos 0 → m ≡ pos 0
max_zero a b m is ea eb = ⊎_elim (λ e. e ∙ ea) (λ e. e ∙ eb) is.is

max_path : (a b m a' b' m' a'' b'' m'' : ℤ) → IsMax a b m → IsMax a' b' m' → IsMax a'' b'' m'' → a ≤ℤ (a' +ℤ a'') → b ≤ℤ (b' +ℤ b'') → m ≤ℤ (m' +ℤ m'')
max_path a b m a' b' m' a'' b'' m'' is is' is'' p q =
    let l = is'.left in let r = is'.right in let l' = is''.left in let r' = is''.right in
    ⊎_elim (λ e. omega (arith, ints, e)) (λ e. omega (arith, ints, e)) is.is

max_under : (a b m : ℤ) → IsMax a b m → m <ℤ pos 0 → (a <ℤ pos 0) × (b <ℤ pos 0)
max_under a b m is h = let l = is.left in let r = is.right in (omega (arith, ints), omega (arith, ints))

-- the join of two states with normal bounds has normal bounds
pub over_normal : {a b j : Zone} → IsOver a b j → HasNormalBounds a → HasNormalBounds b → HasNormalBounds j
over_normal over one two = record {
  tight = record {
    closed = record {
      self = λ i hi. max_zero _ _ _ (over.bounds i i) (one.tight.closed.self i (omega (arith, over.vars))) (two.tight.closed.self i (omega (arith, over.vars, over.same)));
      paths = λ i j k hi hj hk. max_path _ _ _ _ _ _ _ _ _ (over.bounds i k) (over.bounds i j) (over.bounds j k)
          (one.tight.closed.paths i j k (omega (arith, over.vars)) (omega (arith, over.vars)) (omega (arith, over.vars)))
          (two.tight.closed.paths i j k (omega (arith, over.vars, over.same)) (omega (arith, over.vars, over.same)) (omega (arith, over.vars, over.same)));
    };
    upper = λ i from hi marked. max_by (λ x. ¬ (x ≡ pos 0)) _ _ _ (over.bounds i 0)
        (one.tight.upper i from (omega (arith, over.vars)) ((over.marks i).left marked))
        (two.tight.upper i from (omega (arith, over.vars, over.same)) ((over.marks i).right marked));
    lower = λ i from hi marked. max_by (λ x. ¬ (x ≡ pos 0)) _ _ _ (over.bounds 0 i)
        (one.tight.lower i from (omega (arith, over.vars)) ((over.marks i).left marked))
        (two.tight.lower i from (omega (arith, over.vars, over.same)) ((over.marks i).right marked));
  };
  marked = λ i from hi out. (over.marks i).both
      (one.marked i from (omega (arith, over.vars)) (⊎_elim (λ h. inl (max_under _ _ _ (over.bounds i 0) h).0) (λ h. inr (max_under _ _ _ (over.bounds 0 i) h).0) out))
      (two.marked i from (omega (arith, over.vars, over.same)) (⊎_elim (λ h. inl (max_under _ _ _ (over.bounds i 0) h).1) (λ h. inr (max_under _ _ _ (over.bounds 0 i) h).1) out));
}

pub below_self : (a : Zone) → IsBelow a a
below_self a up = record { not_bottom = up; bounds = λ i j hi hj. omega (arith, ints); marks = λ i from hi marked. marked }

-- a join of two states, which is normal where both are
pub record Joined (a b : Zone) : Type 0 where
  pub state : Zone
  pub join : IsJoin a b state
  pub normal : IsNormal a → IsNormal b → IsNormal state

pub joins : (a b : Zone) → a.vars ≡ b.vars → Joined a b
joins a b e =
    by_truth a.bottom
    (λ none. record {
      state = b;
      join = record { vars = sym e; left = λ up. clash a.bottom none up; right = below_self b; least = λ n same one two. two };
      normal = λ one two. two;
    })
    (λ up. by_truth b.bottom
    (λ none. record {
      state = a;
      join = record { vars = refl; left = below_self a; right = λ up. clash b.bottom none up; least = λ n same one two. one };
      normal = λ one two. one;
    })
    (λ up'.
    let over = over_joined a b e in
    record {
      state = joined a b e;
      join = record {
        vars = over.vars;
        left = λ h. over_left over;
        right = λ h. over_right over;
        least = λ n same one two h. over_least over (one up) (two up');
      };
      normal = λ one two h. over_normal over (one up) (two up');
    }))

-- the join of two normal states is normal
pub join_normal : (a b j : Zone) → a.vars ≡ b.vars → IsNormal a → IsNormal b → IsJoin a b j → IsNormal j
join_normal a b j e one two join =
    let other = joins a b e in
    let k = other.join in
    let same = below_both other.state j (k.vars ∙ sym join.vars) (k.least j join.vars join.left join.right) (join.least other.state k.vars k.left k.right) in
    subst IsNormal same (other.normal one two)
