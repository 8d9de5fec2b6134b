-- Closed bounds with one bound lowered, and with one variable more.
use Rattle.std.proofs.Common.{◌≡◌, ◌≢◌, ◌⊎◌, ℕ, ◌+◌, ◌*◌, ◌-◌, ◌^◌, ◌≤◌, ◌<◌, ℤ, pos, ◌+ℤ◌, ◌≤ℤ◌, List, get_or, arith, ⊎_elim}
use Rattle.std.specs.Int.{int_min}
use Rattle.std.proofs.lemmas.Int.{ints, clamps}
use Rattle.std.proofs.lemmas.Bool.{cases_eq}
use Rattle.vmv_zone.specs.Bounds.{IsInReach, AreInReach, AreUnderTop, bound_at, IsClosed, IsTableBy, top_bound, extended_bound, through_bound}

-- a path over the lowered bound is no shorter than the bounds in reach
pub through_reach : (bs : List ℤ) (vars i j p q : ℕ) (b : ℤ) → i ≤ vars → j ≤ vars → p ≤ vars → q ≤ vars → AreInReach bs → IsClosed (bound_at bs) vars →
    pos 0 ≤ℤ (b +ℤ bound_at bs j i) → IsInReach (through_bound bs i j b p q)
through_reach bs vars i j p q b hi hj hp hq reach closed cycle =
    let one = closed.paths j q i hj hq hi in
    let two = closed.paths q p i hq hp hi in
    let back = reach (18 * q + p) in
    let here = reach (18 * p + q) in
    let back_high = back.high in
    let here_high = here.high in
    let here_low = here.low in
    record { low = omega (arith, ints, clamps); high = omega (arith, ints, clamps) }

min_left : (a b : ℤ) → int_min a b ≤ℤ a
min_left a b = omega (arith, ints, clamps)

min_right : (a b : ℤ) → int_min a b ≤ℤ b
min_right a b = omega (arith, ints, clamps)

min_is : (a b : ℤ) → (int_min a b ≡ a) ⊎ (int_min a b ≡ b)
min_is a b = grind (arith, ints)

-- of two steps, each the bound or over the lowered one, none is shorter than the bound on both ends and the path over
-- the lowered one
pub steps_through : (pq pr rq pi jq jr ri ji b : ℤ) → pos 0 ≤ℤ (b +ℤ ji) → pq ≤ℤ (pr +ℤ rq) → pi ≤ℤ (pr +ℤ ri) → jq ≤ℤ (jr +ℤ rq) → ji ≤ℤ (jr +ℤ ri) →
    int_min pq ((pi +ℤ b) +ℤ jq) ≤ℤ (int_min pr ((pi +ℤ b) +ℤ jr) +ℤ int_min rq ((ri +ℤ b) +ℤ jq))
steps_through pq pr rq pi jq jr ri ji b cycle one two three four =
    let l = min_left pq ((pi +ℤ b) +ℤ jq) in
    let r = min_right pq ((pi +ℤ b) +ℤ jq) in
    ⊎_elim
    (λ (e : int_min pr ((pi +ℤ b) +ℤ jr) ≡ pr).
    ⊎_elim
    (λ (e' : int_min rq ((ri +ℤ b) +ℤ jq) ≡ rq). omega (arith, ints))
    (λ (e' : int_min rq ((ri +ℤ b) +ℤ jq) ≡ (ri +ℤ b) +ℤ jq). omega (arith, ints))
    (min_is rq ((ri +ℤ b) +ℤ jq)))
    (λ (e : int_min pr ((pi +ℤ b) +ℤ jr) ≡ (pi +ℤ b) +ℤ jr).
    ⊎_elim
    (λ (e' : int_min rq ((ri +ℤ b) +ℤ jq) ≡ rq). omega (arith, ints))
    (λ (e' : int_min rq ((ri +ℤ b) +ℤ jq) ≡ (ri +ℤ b) +ℤ jq). omega (arith, ints))
    (min_is rq ((ri +ℤ b) +ℤ jq)))
    (min_is pr ((pi +ℤ b) +ℤ jr))

-- one look at each pair closes the bounds again
pub through_closed : (bs bs' : List ℤ) (vars i j : ℕ) (b : ℤ) → i ≤ vars → j ≤ vars → IsClosed (bound_at bs) vars → pos 0 ≤ℤ (b +ℤ bound_at bs j i) →
    IsTableBy (λ p q x. x ≡ through_bound bs i j b p q) vars bs' → IsClosed (bound_at bs') vars
through_closed bs bs' vars i j b hi hj closed cycle table = record {
  self = λ p hp.
      let e = table.at p p hp hp in
      let s = closed.self p hp in
      let round = closed.paths j p i hj hp hi in
      let r = min_is (bound_at bs p p) ((bound_at bs p i +ℤ b) +ℤ bound_at bs j p) in
      let l = min_left (bound_at bs p p) ((bound_at bs p i +ℤ b) +ℤ bound_at bs j p) in
      ⊎_elim (λ (k : int_min (bound_at bs p p) ((bound_at bs p i +ℤ b) +ℤ bound_at bs j p) ≡ bound_at bs p p). omega (arith, ints))
      (λ (k : int_min (bound_at bs p p) ((bound_at bs p i +ℤ b) +ℤ bound_at bs j p) ≡ (bound_at bs p i +ℤ b) +ℤ bound_at bs j p). omega (arith, ints))
      r;
  paths = λ p r q hp hr hq.
      let pq = table.at p q hp hq in
      let pr = table.at p r hp hr in
      let rq = table.at r q hr hq in
      rw (pq, pr, rq) (steps_through (bound_at bs p q) (bound_at bs p r) (bound_at bs r q) (bound_at bs p i) (bound_at bs j q) (bound_at bs j r) (bound_at bs r i) (bound_at bs j i) b
      cycle (closed.paths p r q hp hr hq) (closed.paths p r i hp hr hi) (closed.paths j r q hj hr hq) (closed.paths j r i hj hr hi));
}

-- one variable more

pub extended_both : (bs : List ℤ) (last i j : ℕ) → i ≡ last → j ≡ last → extended_bound bs last i j ≡ pos 0
extended_both bs last i j hi hj = grind arith

pub extended_from : (bs : List ℤ) (last i j : ℕ) → i ≡ last → j < last → extended_bound bs last i j ≡ pos (2 ^ 63 - 1) +ℤ bound_at bs 0 j
extended_from bs last i j hi hj = grind arith

pub extended_to : (bs : List ℤ) (last i j : ℕ) → i < last → j ≡ last → extended_bound bs last i j ≡ bound_at bs i 0 +ℤ pos (2 ^ 63)
extended_to bs last i j hi hj = grind arith

pub extended_old : (bs : List ℤ) (last i j : ℕ) → i < last → j < last → extended_bound bs last i j ≡ bound_at bs i j
extended_old bs last i j hi hj = grind arith

pub by_last : {P : Type 0} (last i : ℕ) → i ≤ last → (i ≡ last → P) → (i < last → P) → P
by_last last i hi at before = ⊎_elim at (λ off. before (omega arith)) (cases_eq i last)

extended_step : (bs : List ℤ) (last i j k : ℕ) → 1 ≤ last → i ≤ last → j ≤ last → k ≤ last → IsClosed (bound_at bs) (last - 1) →
    extended_bound bs last i k ≤ℤ (extended_bound bs last i j +ℤ extended_bound bs last j k)
extended_step bs last i j k from hi hj hk closed =
    let zero = closed.self 0 (omega arith) in
    by_last last i hi
    (λ ei. by_last last j hj
    (λ ej. by_last last k hk
    (λ ek. rw (extended_both bs last i k ei ek, extended_both bs last i j ei ej, extended_both bs last j k ej ek) (omega (arith, ints)))
    (λ lk. rw (extended_from bs last i k ei lk, extended_both bs last i j ei ej, extended_from bs last j k ej lk) (omega (arith, ints))))
    (λ lj. by_last last k hk
    (λ ek. let p = closed.paths 0 j 0 (omega arith) (omega arith) (omega arith) in
    rw (extended_both bs last i k ei ek, extended_from bs last i j ei lj, extended_to bs last j k lj ek) (omega (arith, ints)))
    (λ lk. let p = closed.paths 0 j k (omega arith) (omega arith) (omega arith) in
    rw (extended_from bs last i k ei lk, extended_from bs last i j ei lj, extended_old bs last j k lj lk) (omega (arith, ints)))))
    (λ li. by_last last j hj
    (λ ej. by_last last k hk
    (λ ek. rw (extended_to bs last i k li ek, extended_to bs last i j li ej, extended_both bs last j k ej ek) (omega (arith, ints)))
    (λ lk. let p = closed.paths i 0 k (omega arith) (omega arith) (omega arith) in
    rw (extended_old bs last i k li lk, extended_to bs last i j li ej, extended_from bs last j k ej lk) (omega (arith, ints))))
    (λ lj. by_last last k hk
    (λ ek. let p = closed.paths i j 0 (omega arith) (omega arith) (omega arith) in
    rw (extended_to bs last i k li ek, extended_old bs last i j li lj, extended_to bs last j k lj ek) (omega (arith, ints)))
    (λ lk. let p = closed.paths i j k (omega arith) (omega arith) (omega arith) in
    rw (extended_old bs last i k li lk, extended_old bs last i j li lj, extended_old bs last j k lj lk) (omega (arith, ints)))))

pub extended_closed : (bs bs' : List ℤ) (last : ℕ) → 1 ≤ last → IsClosed (bound_at bs) (last - 1) → IsTableBy (λ i j b. b ≡ extended_bound bs last i j) last bs' → IsClosed (bound_at bs') last
extended_closed bs bs' last from closed table = record {
  self = λ i hi. let e = table.at i i hi hi in
      by_last last i hi (λ at. let x = extended_both bs last i i at at in omega (arith, ints)) (λ before. let x = extended_old bs last i i before before in let s = closed.self i (omega arith) in omega (arith, ints));
  paths = λ i j k hi hj hk.
      let ik = table.at i k hi hk in
      let ij = table.at i j hi hj in
      let jk = table.at j k hj hk in
      rw (ik, ij, jk) (extended_step bs last i j k from hi hj hk closed);
}

-- bounds against 0 that words keep
pub from_zero_high : (bs : List ℤ) (vars j : ℕ) → j ≤ vars → AreUnderTop vars bs → get_or bs j (pos 0) ≤ℤ pos (2 ^ 63)
from_zero_high bs vars j hj topped =
    let t = topped 0 j (omega arith) hj in
    let top : top_bound 0 j ≤ℤ pos (2 ^ 63) = grind (arith, ints) in
    let place : 18 * 0 + j ≡ j = omega arith in
    let t' : get_or bs j (pos 0) ≤ℤ top_bound 0 j = rw place at t in
    omega (arith, ints)

pub to_zero_high : (bs : List ℤ) (vars i : ℕ) → i ≤ vars → AreUnderTop vars bs → get_or bs (18 * i) (pos 0) ≤ℤ pos (2 ^ 63 - 1)
to_zero_high bs vars i hi topped =
    let t = topped i 0 hi (omega arith) in
    let top : top_bound i 0 ≤ℤ pos (2 ^ 63 - 1) = grind (arith, ints) in
    let place : 18 * i + 0 ≡ 18 * i = omega arith in
    let t' : get_or bs (18 * i) (pos 0) ≤ℤ top_bound i 0 = rw place at t in
    omega (arith, ints)

top_from : (i j : ℕ) → i ≢ j → j ≢ 0 → i ≢ 0 → top_bound i j ≡ pos (2 ^ 64 - 1)
top_from i j h k l = grind arith

-- the bounds on one variable more are no higher than words keep them
pub extended_under : (bs : List ℤ) (vars i j : ℕ) → i ≤ vars + 1 → j ≤ vars + 1 → AreUnderTop vars bs → extended_bound bs (vars + 1) i j ≤ℤ top_bound i j
extended_under bs vars i j hi hj topped =
    let last = vars + 1 in
    by_last last i hi
    (λ ei. by_last last j hj
    (λ ej. let e = extended_both bs last i j ei ej in let t : top_bound i j ≡ pos 0 = grind arith in omega (arith, ints))
    (λ lj. let e = extended_from bs last i j ei lj in let t = topped 0 j (omega arith) (omega arith) in
    ⊎_elim
    (λ (z : j ≡ 0). let t' : top_bound 0 j ≡ pos 0 = grind arith in let t'' : top_bound i j ≡ pos (2 ^ 63 - 1) = grind arith in omega (arith, ints))
    (λ (z : j ≢ 0). let t' : top_bound 0 j ≡ pos (2 ^ 63) = grind arith in let t'' = top_from i j (omega arith) z (omega arith) in omega (arith, ints))
    (cases_eq j 0)))
    (λ li. by_last last j hj
    (λ ej. let e = extended_to bs last i j li ej in let t = topped i 0 (omega arith) (omega arith) in
    ⊎_elim
    (λ (z : i ≡ 0). let t' : top_bound i 0 ≡ pos 0 = grind arith in let t'' : top_bound i j ≡ pos (2 ^ 63) = grind arith in omega (arith, ints))
    (λ (z : i ≢ 0). let t' : top_bound i 0 ≡ pos (2 ^ 63 - 1) = grind arith in let t'' = top_from i j (omega arith) (omega arith) z in omega (arith, ints))
    (cases_eq i 0))
    (λ lj. let e = extended_old bs last i j li lj in let t = topped i j (omega arith) (omega arith) in omega (arith, ints)))
