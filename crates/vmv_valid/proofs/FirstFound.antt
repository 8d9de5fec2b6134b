-- Walks find the first defect: how the walks over two parts make the walk over both.
use Rattle.std.proofs.Common.{◌≡◌, ◌⊎◌, inl, inr, ℕ, ◌+◌, ◌<◌, ◌≤◌, Bool, true, false, not, Ok, Err, refl, sym, ap, subst, arith, if◌then◌else◌}
use Rattle.std.specs.Bool.{Decides}
use Rattle.vmv_tree.specs.declared.defect.Defect.{Defect}
use Rattle.vmv_tree.specs.Valid.{Finds, At, rank}
use Rattle.vmv_valid.specs.declared.stop.Stop.TheVariants.{Found, Memory}
use Rattle.vmv_valid.specs.Walks.{Walked, and_on, defect_at}

-- nothing is found
abbrev pub Clean : Finds → Type 0
Clean finds = (m : ℕ) (d : Defect) → finds m d → ⊥

-- what is found in either part
abbrev pub Either : Finds → Finds → Finds
Either a b m d = a m d ⊎ b m d

-- the first of what is found
pub record IsFirst (finds : Finds) (m : ℕ) (d : Defect) : Type 0 where
  pub there : finds m d
  pub first : (n : ℕ) (e : Defect) → finds n e → m ≤ n
  pub least : (e : Defect) → finds m e → rank d ≤ rank e

-- a walk that ends at this mention, or at the first of what is found
abbrev pub Ends : Finds → ℕ → Walked → Type 0
Ends finds hi (Ok next) = (next ≡ hi) × Clean finds
Ends finds hi (Err (Found f)) = IsFirst finds f.mention f.defect
Ends finds hi (Err Memory) = ⊥

-- the part of a program whose mentions are these, walked over
pub record Part (finds : Finds) (lo hi : ℕ) (w : Walked) : Type 0 where
  pub grows : lo ≤ hi
  pub bounds : (m : ℕ) (d : Defect) → finds m d → (lo ≤ m) × (m < hi)
  pub ends : Ends finds hi w

clean_both : (a b : Finds) → Clean a → Clean b → Clean (Either a b)
clean_both a b p q m d (inl h) = p m d h
clean_both a b p q m d (inr h) = q m d h

-- what is found first behind a part with no defect is the first of both
first_behind : (a b : Finds) (m : ℕ) → Clean a → ((n : ℕ) (e : Defect) → b n e → m ≤ n) → (n : ℕ) (e : Defect) → Either a b n e → m ≤ n
first_behind a b m clean p n e (inl x) = absurd (clean n e x)
first_behind a b m clean p n e (inr x) = p n e x

least_behind : (a b : Finds) (m : ℕ) (d : Defect) → Clean a → ((e : Defect) → b m e → rank d ≤ rank e) → (e : Defect) → Either a b m e → rank d ≤ rank e
least_behind a b m d clean p e (inl x) = absurd (clean m e x)
least_behind a b m d clean p e (inr x) = p e x

ends_behind : (a b : Finds) (hi : ℕ) (w : Walked) → Clean a → Ends b hi w → Ends (Either a b) hi w
ends_behind a b hi (Ok next) clean h = (h.0, clean_both a b clean h.1)
ends_behind a b hi (Err (Found f)) clean h = record {
  there = inr h.there;
  first = first_behind a b f.mention clean h.first;
  least = least_behind a b f.mention f.defect clean h.least;
}
ends_behind a b hi (Err Memory) clean h = h

-- what stands behind this mention, or at it with no lower rank
abbrev pub IsBehind : Finds → ℕ → Defect → Type 0
IsBehind b m d = (n : ℕ) (e : Defect) → b n e → (m ≤ n) × (n ≡ m → rank d ≤ rank e)

first_before : (a b : Finds) (m : ℕ) (d : Defect) → IsBehind b m d → IsFirst a m d → (n : ℕ) (e : Defect) → Either a b n e → m ≤ n
first_before a b m d behind h n e (inl x) = h.first n e x
first_before a b m d behind h n e (inr x) = (behind n e x).0

least_before : (a b : Finds) (m : ℕ) (d : Defect) → IsBehind b m d → IsFirst a m d → (e : Defect) → Either a b m e → rank d ≤ rank e
least_before a b m d behind h e (inl x) = h.least e x
least_before a b m d behind h e (inr x) = (behind m e x).1 refl

-- what is found first before all of another part is the first of both
pub is_first_before : (a b : Finds) (m : ℕ) (d : Defect) → IsBehind b m d → IsFirst a m d → IsFirst (Either a b) m d
is_first_before a b m d behind h = record {
  there = inl h.there;
  first = first_before a b m d behind h;
  least = least_before a b m d behind h;
}

bounds_both : (a b : Finds) (lo mid hi : ℕ) → lo ≤ mid → mid ≤ hi
    → ((m : ℕ) (d : Defect) → a m d → (lo ≤ m) × (m < mid)) → ((m : ℕ) (d : Defect) → b m d → (mid ≤ m) × (m < hi))
    → (m : ℕ) (d : Defect) → Either a b m d → (lo ≤ m) × (m < hi)
bounds_both a b lo mid hi below above p q m d (inl x) =
    let h : (lo ≤ m) × (m < mid) = p m d x in
    (h.0, omega (arith, h.1))
bounds_both a b lo mid hi below above p q m d (inr x) =
    let h : (mid ≤ m) × (m < hi) = q m d x in
    (omega (arith, h.0), h.1)

ends_both : (a b : Finds) (lo mid hi : ℕ) (w : Walked) (g : ℕ → Walked) → Part a lo mid w → Part b mid hi (g mid) → Ends a mid w → Ends (Either a b) hi (and_on w g)
ends_both a b lo mid hi (Ok next) g p q h =
    let next_ends : (k : ℕ) → k ≡ mid → Ends b hi (g k) = λ (k : ℕ) (e : k ≡ mid). subst (λ (x : ℕ). Ends b hi (g x)) (sym e) q.ends in
    ends_behind a b hi (g next) h.1 (next_ends next h.0)
ends_both a b lo mid hi (Err (Found f)) g p q h =
    let inside : f.mention < mid = (p.bounds f.mention f.defect h.there).1 in
    is_first_before a b f.mention f.defect
    (λ (n : ℕ) (e : Defect) (x : b n e). let after : mid ≤ n = (q.bounds n e x).0 in (omega arith, λ (same : n ≡ f.mention). absurd (omega arith)))
    h
ends_both a b lo mid hi (Err Memory) g p q h = h

-- a part, and behind it another
pub both : {a b : Finds} {w : Walked} (lo mid hi : ℕ) (g : ℕ → Walked) → Part a lo mid w → Part b mid hi (g mid) → Part (Either a b) lo hi (and_on w g)
both {a} {b} {w} lo mid hi g p q = record {
  grows = let one : lo ≤ mid = p.grows in let two : mid ≤ hi = q.grows in omega arith;
  bounds = bounds_both a b lo mid hi p.grows q.grows p.bounds q.bounds;
  ends = ends_both a b lo mid hi w g p q p.ends;
}

-- what is checked at one mention: the defects there have this rank or a higher one
pub record Here (finds : Finds) (k low hi : ℕ) (w : Walked) : Type 0 where
  pub part : Part finds k hi w
  pub ranks : (e : Defect) → finds k e → low ≤ rank e

-- what begins behind a mention has nothing at it
pub here_from : {b : Finds} {w : Walked} (k low hi : ℕ) → Part b (k + 1) hi w → Here b k low hi w
here_from {b} {w} k low hi p = record {
  part = record {
    grows = let one : k + 1 ≤ hi = p.grows in omega arith;
    bounds = λ (m : ℕ) (d : Defect) (x : b m d). let h : (k + 1 ≤ m) × (m < hi) = p.bounds m d x in (omega (arith, h.0), h.1);
    ends = p.ends;
  };
  ranks = λ (e : Defect) (x : b k e). let h : k + 1 ≤ k = (p.bounds k e x).0 in absurd (omega (arith, h));
}

-- a lower rank to begin with
pub lower_from : {b : Finds} {w : Walked} (k low higher hi : ℕ) → low ≤ higher → Here b k higher hi w → Here b k low hi w
lower_from {b} {w} k low higher hi below h = record {
  part = h.part;
  ranks = λ (e : Defect) (x : b k e). let from : higher ≤ rank e = h.ranks e x in omega arith;
}

-- nothing is found
pub quiet : (k low hi : ℕ) → k ≤ hi → Here (λ m d. ⊥) k low hi (Ok hi)
quiet k low hi below = record {
  part = record {
    grows = below;
    bounds = λ (m : ℕ) (d : Defect) (x : ⊥). absurd x;
    ends = (refl, λ (m : ℕ) (d : Defect) (x : ⊥). x);
  };
  ranks = λ (e : Defect) (x : ⊥). absurd x;
}

-- nothing is found at this mention
pub no_part : (k : ℕ) → Part (λ m d. ⊥) k k (Ok k)
no_part k = record {
  grows = omega arith;
  bounds = λ (m : ℕ) (d : Defect) (x : ⊥). absurd x;
  ends = (refl, λ (m : ℕ) (d : Defect) (x : ⊥). x);
}

first_here : (k : ℕ) (d : Defect) (P : Type 0) (b : Finds) (low hi : ℕ) (w : Walked) → Here b k low hi w → (n : ℕ) (e : Defect) → Either (At k d P) b n e → k ≤ n
first_here k d P b low hi w h n e (inl x) = omega (arith, x.0)
first_here k d P b low hi w h n e (inr x) = (h.part.bounds n e x).0

least_here : (k : ℕ) (d : Defect) (P : Type 0) (b : Finds) (low hi : ℕ) (w : Walked) → rank d ≤ low → Here b k low hi w → (e : Defect) → Either (At k d P) b k e → rank d ≤ rank e
least_here k d P b low hi w below h e (inl x) = let same : rank e ≡ rank d = ap rank x.1 in omega (arith, same)
least_here k d P b low hi w below h e (inr x) = let from : low ≤ rank e = h.ranks e x in omega (arith, from)

ends_check : (k : ℕ) (d : Defect) (P : Type 0) (b : Finds) (low hi : ℕ) (w : Walked) (test : Bool) → Decides test P → rank d ≤ low → Here b k low hi w
    → Ends (Either (At k d P) b) hi (if test then defect_at k d else w)
ends_check k d P b low hi w true tells below h = record {
  there = inl (refl, refl, tells.0 refl);
  first = first_here k d P b low hi w h;
  least = least_here k d P b low hi w below h;
}
ends_check k d P b low hi w false tells below h =
    ends_behind (At k d P) b hi w
    (λ (m : ℕ) (e : Defect) (x : At k d P m e). let no : false ≡ true = tells.1 x.2 in absurd (cc))
    h.part.ends

bounds_check : (k : ℕ) (d : Defect) (P : Type 0) (b : Finds) (hi : ℕ) → k < hi → ((m : ℕ) (e : Defect) → b m e → (k ≤ m) × (m < hi))
    → (m : ℕ) (e : Defect) → Either (At k d P) b m e → (k ≤ m) × (m < hi)
bounds_check k d P b hi inside p m e (inl x) = (omega (arith, x.0), omega (arith, x.0))
bounds_check k d P b hi inside p m e (inr x) = p m e x

-- one check at a mention, before others there of no lower rank
pub check : {b : Finds} {w : Walked} (k : ℕ) (d : Defect) (P : Type 0) (low hi : ℕ) (test : Bool) → Decides test P → rank d ≤ low → k < hi → Here b k low hi w
    → Here (Either (At k d P) b) k (rank d) hi (if test then defect_at k d else w)
check {b} {w} k d P low hi test tells below inside h = record {
  part = record {
    grows = omega arith;
    bounds = bounds_check k d P b hi inside h.part.bounds;
    ends = ends_check k d P b low hi w test tells below h;
  };
  ranks = least_here k d P b low hi w below h;
}

same_ends : (a b : Finds) (hi : ℕ) (w : Walked) → ((m : ℕ) (d : Defect) → a m d → b m d) → ((m : ℕ) (d : Defect) → b m d → a m d) → Ends a hi w → Ends b hi w
same_ends a b hi (Ok next) to from h = (h.0, λ (m : ℕ) (d : Defect) (x : b m d). h.1 m d (from m d x))
same_ends a b hi (Err (Found f)) to from h = record {
  there = to f.mention f.defect h.there;
  first = λ (n : ℕ) (e : Defect) (x : b n e). h.first n e (from n e x);
  least = λ (e : Defect) (x : b f.mention e). h.least e (from f.mention e x);
}
same_ends a b hi (Err Memory) to from h = h

-- the same finds, told in another way
pub same_finds : {a b : Finds} {w : Walked} (lo hi : ℕ) → ((m : ℕ) (d : Defect) → a m d → b m d) → ((m : ℕ) (d : Defect) → b m d → a m d) → Part a lo hi w → Part b lo hi w
same_finds {a} {b} {w} lo hi to from p = record {
  grows = p.grows;
  bounds = λ (m : ℕ) (d : Defect) (x : b m d). p.bounds m d (from m d x);
  ends = same_ends a b hi w to from p.ends;
}

pub same_here : {a b : Finds} {w : Walked} (k low hi : ℕ) → ((m : ℕ) (d : Defect) → a m d → b m d) → ((m : ℕ) (d : Defect) → b m d → a m d) → Here a k low hi w → Here b k low hi w
same_here {a} {b} {w} k low hi to from h = record {
  part = same_finds k hi to from h.part;
  ranks = λ (e : Defect) (x : b k e). h.ranks e (from k e x);
}

-- one check at a mention where the test says that it holds good
pub check_not : {b : Finds} {w : Walked} (k : ℕ) (d : Defect) (P : Type 0) (low hi : ℕ) (test : Bool) → Decides (not test) P → rank d ≤ low → k < hi → Here b k low hi w
    → Here (Either (At k d P) b) k (rank d) hi (if test then w else defect_at k d)
check_not k d P low hi true tells below inside h = check k d P low hi false tells below inside h
check_not k d P low hi false tells below inside h = check k d P low hi true tells below inside h

pub nothing_else : (a : Finds) (m : ℕ) (d : Defect) → Either a (λ m d. ⊥) m d → a m d
nothing_else a m d (inl x) = x
nothing_else a m d (inr x) = absurd x

-- a check alone
pub only_check : (k : ℕ) (d : Defect) (P : Type 0) (test : Bool) → Decides test P
    → Here (At k d P) k (rank d) (k + 1) (if test then defect_at k d else Ok (k + 1))
only_check k d P test tells =
    same_here k (rank d) (k + 1) (nothing_else (At k d P)) (λ (m : ℕ) (e : Defect) (x : At k d P m e). inl x)
    (check k d P (rank d) (k + 1) test tells (omega arith) (omega arith) (quiet k (rank d) (k + 1) (omega arith)))

pub only_check_not : (k : ℕ) (d : Defect) (P : Type 0) (test : Bool) → Decides (not test) P
    → Here (At k d P) k (rank d) (k + 1) (if test then Ok (k + 1) else defect_at k d)
only_check_not k d P test tells =
    same_here k (rank d) (k + 1) (nothing_else (At k d P)) (λ (m : ℕ) (e : Defect) (x : At k d P m e). inl x)
    (check_not k d P (rank d) (k + 1) test tells (omega arith) (omega arith) (quiet k (rank d) (k + 1) (omega arith)))

-- another way to write the end
pub ends_at : {a : Finds} {w : Walked} (lo hi to : ℕ) → hi ≡ to → Part a lo hi w → Part a lo to w
ends_at {a} {w} lo hi to e p = subst (λ (x : ℕ). Part a lo x w) e p
