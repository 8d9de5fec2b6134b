-- What is reached through calls, by rows of bits.
use Rattle.std.proofs.Common.{◌≡◌, ◌⊎◌, inl, inr, ⊎_elim, ◌↔◌, ℕ, zero, suc, ◌+◌, ◌<◌, ◌≤◌, ◌^◌, max, bit_or, nat_lt, eqb, Bool, true, false, Some, List, [], ◌∷◌, ◌++◌, length, take, drop, get_or, slice_get, refl, sym, ap, subst, arith, ◌∙◌, add-one, drop-cons, length-append}
use Rattle.std.specs.List.{slice_index}
use Rattle.std.specs.Int.{bit_at}
use Rattle.std.proofs.lemmas.Bool.{eqb-true, eq-eqb}
use Rattle.std.proofs.lemmas.Bool.Decides.{nat_tests}
use Rattle.std.proofs.lemmas.Option.{slice_get_read, slice_get_within}
use Rattle.std.proofs.lemmas.Nat.Bits.{bit_at_or, bit_at-lt, bit_at-zero, bit_at-pow_same, bit_at-pow_other}
use Rattle.vmv_snapshot.specs.declared.code.CodeOperand.{CodeOperand}
use Rattle.vmv_snapshot.specs.declared.code.CodeTest.{CodeTest}
use Rattle.vmv_snapshot.specs.declared.tables.Proc.{Proc}
use Rattle.vmv_snapshot.specs.declared.code.CodeStmt as declared
use Rattle.vmv_snapshot.specs.declared.code.CodeStmt.{If}
use Rattle.vmv_snapshot.specs.Code.{Stmt, plain, help, branch, loop, Block, [], ◌⨾◌}
use Rattle.vmv_snapshot.specs.View.{stmt_of, block_of, code_of, stmt_of-if}
use Rattle.vmv_snapshot.specs.Rows.{IsIn, Helps, BlockHelps, IsReached, AreRows}

one_of : (x y : ℕ) → x < 2 → y < 2 → max x y ≡ 1 → (x ≡ 1) ⊎ (y ≡ 1)
one_of zero y a b e = inr (omega arith)
one_of (suc x) y a b e = inl (omega arith)

left_of : (x y : ℕ) → y < 2 → x ≡ 1 → max x y ≡ 1
left_of x y b e = omega arith

right_of : (x y : ℕ) → x < 2 → y ≡ 1 → max x y ≡ 1
right_of x y a e = omega arith

-- the union of two sets
pub in_union : (a b n : ℕ) → IsIn (bit_or a b) n ↔ (IsIn a n ⊎ IsIn b n)
in_union a b n = (
  λ h. one_of (bit_at a n) (bit_at b n) (bit_at-lt a n) (bit_at-lt b n) (sym (bit_at_or a b n) ∙ h),
  λ h. bit_at_or a b n
      ∙ ⊎_elim (λ (g : IsIn a n). left_of (bit_at a n) (bit_at b n) (bit_at-lt b n) g) (λ (g : IsIn b n). right_of (bit_at a n) (bit_at b n) (bit_at-lt a n) g) h,
)

pub none_in : (n : ℕ) → IsIn 0 n → ⊥
none_in n h = let z = bit_at-zero n in absurd (omega arith)

-- what is reached through the one or the other
pub either_reached : (rows : List ℕ) (A B : ℕ → Type 0) (n : ℕ) → IsReached rows (λ c. A c ⊎ B c) n ↔ (IsReached rows A n ⊎ IsReached rows B n)
either_reached rows A B n = (
  λ (c, called, there). ⊎_elim (λ (a : A c). inl (c, a, there)) (λ (b : B c). inr (c, b, there)) called,
  λ h. ⊎_elim (λ (r : IsReached rows A n). (r.0, inl r.1, r.2)) (λ (r : IsReached rows B n). (r.0, inr r.1, r.2)) h,
)

pub reached_if : (rows : List ℕ) (s : declared.CodeStmt) (test : CodeTest) (first second one two : List declared.CodeStmt) (a b : ℕ) → s ≡ If test first second → one ≡ first → two ≡ second →
    ((n : ℕ) → IsIn a n ↔ IsReached rows (BlockHelps (block_of one)) n) → ((n : ℕ) → IsIn b n ↔ IsReached rows (BlockHelps (block_of two)) n) →
    (n : ℕ) → IsIn (bit_or a b) n ↔ IsReached rows (Helps (stmt_of s)) n
reached_if rows s test first second one two a b is e f left right n =
    let whole : stmt_of s ≡ branch test (block_of one) (block_of two) = ap stmt_of is ∙ (stmt_of-if test first second ∙ (λ i. branch test (block_of (sym e i)) (block_of (sym f i)))) in
    let split = either_reached rows (BlockHelps (block_of one)) (BlockHelps (block_of two)) n in
    rw whole (
      λ h. split.1 (⊎_elim (λ (g : IsIn a n). inl ((left n).0 g)) (λ (g : IsIn b n). inr ((right n).0 g)) ((in_union a b n).0 h)),
      λ h. (in_union a b n).1
          (⊎_elim (λ (g : IsReached rows (BlockHelps (block_of one)) n). inl ((left n).1 g)) (λ (g : IsReached rows (BlockHelps (block_of two)) n). inr ((right n).1 g)) (split.0 h)),
    )

-- what is in the set or is reached from the i-th statement on
abbrev pub Remains : List ℕ → List declared.CodeStmt → ℕ → ℕ → Type 0
Remains rows block i all =
    (n : ℕ) → (IsIn all n ⊎ IsReached rows (BlockHelps (block_of (drop i block))) n) ↔ IsReached rows (BlockHelps (block_of block)) n

pub remains_start : (rows : List ℕ) (block : List declared.CodeStmt) → Remains rows block 0 0
remains_start rows block n = (λ h. ⊎_elim (λ (g : IsIn 0 n). absurd (none_in n g)) (λ (g : IsReached rows (BlockHelps (block_of block)) n). g) h, λ h. inr h)

pub remains_more : (rows : List ℕ) (block : List declared.CodeStmt) (i all one : ℕ) (s : declared.CodeStmt) → i < length block → s ≡ get_or block i s → Remains rows block i all →
    ((n : ℕ) → IsIn one n ↔ IsReached rows (Helps (stmt_of s)) n) → Remains rows block (i + 1) (bit_or all one)
remains_more rows block i all one s h is old this n =
    let tail : drop i block ≡ s ∷ drop (i + 1) block = rw (add-one, drop-cons block i s, ← is) refl in
    let rest : List declared.CodeStmt = drop (i + 1) block in
    let before : (IsIn all n ⊎ IsReached rows (BlockHelps (block_of (s ∷ rest))) n) ↔ IsReached rows (BlockHelps (block_of block)) n =
    subst (λ (b : List declared.CodeStmt). (IsIn all n ⊎ IsReached rows (BlockHelps (block_of b)) n) ↔ IsReached rows (BlockHelps (block_of block)) n) tail (old n) in
    let split = either_reached rows (Helps (stmt_of s)) (BlockHelps (block_of rest)) n in (
      λ g. before.0
          (⊎_elim
          (λ (k : IsIn (bit_or all one) n). ⊎_elim (λ (l : IsIn all n). inl l) (λ (l : IsIn one n). inr (split.1 (inl ((this n).0 l)))) ((in_union all one n).0 k))
          (λ (k : IsReached rows (BlockHelps (block_of rest)) n). inr (split.1 (inr k)))
          g),
      λ g. ⊎_elim (λ (k : IsIn all n). inl ((in_union all one n).1 (inl k)))
          (λ (k : IsReached rows (BlockHelps (block_of (s ∷ rest))) n).
          ⊎_elim (λ (l : IsReached rows (Helps (stmt_of s)) n). inl ((in_union all one n).1 (inr ((this n).1 l)))) (λ (l : IsReached rows (BlockHelps (block_of rest)) n). inr l) (split.0 k))
          (before.1 g),
    )

nothing_reached : (rows : List ℕ) (n : ℕ) → IsReached rows (BlockHelps []) n → ⊥
nothing_reached rows n r = r.1

drop-all : {X : Type 0} (xs : List X) (i : ℕ) → length xs ≤ i → drop i xs ≡ []
drop-all [] zero h = refl
drop-all [] (suc i) h = refl
drop-all (x ∷ xs) zero h = absurd (omega arith)
drop-all (x ∷ xs) (suc i) h = drop-all xs i (omega (arith, h))

pub remains_end : (rows : List ℕ) (block : List declared.CodeStmt) (i all : ℕ) → length block ≤ i → Remains rows block i all → (n : ℕ) → IsIn all n ↔ IsReached rows (BlockHelps (block_of block)) n
remains_end rows block i all h old n =
    let rest : (IsIn all n ⊎ IsReached rows (BlockHelps []) n) ↔ IsReached rows (BlockHelps (block_of block)) n =
    subst (λ (b : List declared.CodeStmt). (IsIn all n ⊎ IsReached rows (BlockHelps (block_of b)) n) ↔ IsReached rows (BlockHelps (block_of block)) n) (drop-all block i h) (old n) in
    (λ g. rest.0 (inl g), λ g. ⊎_elim (λ (k : IsIn all n). k) (λ (k : IsReached rows (BlockHelps []) n). absurd (nothing_reached rows n k)) (rest.1 g))

-- rows that end at the i-th procedure
pub record RowsTo (procs : List Proc) (i : ℕ) (rows : List ℕ) : Type 0 where
  pub count : length rows ≡ i
  pub reached : (p : ℕ) (proc : Proc) → p < i → slice_get procs p ≡ Some proc → (n : ℕ)
      → IsIn (slice_index rows p) n ↔ ((n ≡ p) ⊎ ((callee : ℕ) × (callee < p) × BlockHelps (code_of proc.code).block callee × IsIn (slice_index rows callee) n))

pub rows_start : (procs : List Proc) (rows : List ℕ) → rows ≡ [] → RowsTo procs 0 rows
rows_start procs rows e = record { count = ap length e; reached = λ p proc h at n. absurd (omega arith) }

index_past : (rows : List ℕ) (p : ℕ) → length rows ≤ p → slice_index rows p ≡ 0
index_past [] p h = refl
index_past (r ∷ rows) zero h = absurd (omega arith)
index_past (r ∷ rows) (suc p) h = index_past rows p (omega (arith, h))

index_before : (rows : List ℕ) (row p : ℕ) → p < length rows → slice_index (rows ++ row ∷ []) p ≡ slice_index rows p
index_before [] row p h = absurd (omega arith)
index_before (r ∷ rows) row zero h = refl
index_before (r ∷ rows) row (suc p) h = index_before rows row p (omega (arith, h))

index_last : (rows : List ℕ) (row p : ℕ) → p ≡ length rows → slice_index (rows ++ row ∷ []) p ≡ row
index_last [] row p e = ap (slice_index (row ∷ [])) e
index_last (r ∷ rows) row zero e = absurd (omega arith)
index_last (r ∷ rows) row (suc p) e = index_last rows row p (omega (arith, e))

abbrev Through : Proc → List ℕ → ℕ → ℕ → Type 0
Through proc rows p n = (n ≡ p) ⊎ ((callee : ℕ) × (callee < p) × BlockHelps (code_of proc.code).block callee × IsIn (slice_index rows callee) n)

-- rows that agree up to a place
through_same : (proc : Proc) (rows more : List ℕ) (p n : ℕ) → ((callee : ℕ) → callee < p → slice_index more callee ≡ slice_index rows callee) → Through proc rows p n ↔ Through proc more p n
through_same proc rows more p n same = (
  λ h. ⊎_elim (λ (e : n ≡ p). inl e)
      (λ (g : (callee : ℕ) × (callee < p) × BlockHelps (code_of proc.code).block callee × IsIn (slice_index rows callee) n). inr (g.0, g.1, g.2, subst (λ s. IsIn s n) (sym (same g.0 g.1)) g.3)) h,
  λ h. ⊎_elim (λ (e : n ≡ p). inl e)
      (λ (g : (callee : ℕ) × (callee < p) × BlockHelps (code_of proc.code).block callee × IsIn (slice_index more callee) n). inr (g.0, g.1, g.2, subst (λ s. IsIn s n) (same g.0 g.1) g.3)) h,
)

one_place : (p n : ℕ) → (n ≡ p) ⊎ (n ≡ p → ⊥) → IsIn (2 ^ p) n → n ≡ p
one_place p n (inl e) h = e
one_place p n (inr other) h = let z = bit_at-pow_other p n other in absurd (omega arith)

same_or_not : (b : Bool) (n p : ℕ) → eqb n p ≡ b → (n ≡ p) ⊎ (n ≡ p → ⊥)
same_or_not true n p e = inl (eqb-true n p e)
same_or_not false n p e = inr (λ h. let t = eq-eqb n p h in cc)

only_itself : (p n : ℕ) → IsIn (2 ^ p) n ↔ (n ≡ p)
only_itself p n = (λ h. one_place p n (same_or_not (eqb n p) n p refl) h, λ e. subst (IsIn (2 ^ p)) (sym e) (bit_at-pow_same p))

in_or_past : (rows : List ℕ) (p c n : ℕ) → length rows ≡ p → IsIn (slice_index rows c) n → (c < p) ⊎ (p ≤ c) → c < p
in_or_past rows p c n count there (inl h) = h
in_or_past rows p c n count there (inr h) =
    let zero_row : slice_index rows c ≡ 0 = index_past rows c (omega arith) in
    absurd (none_in n (subst (λ s. IsIn s n) zero_row there))

below_or_past : (b : Bool) (c p : ℕ) → nat_lt c p ≡ b → (c < p) ⊎ (p ≤ c)
below_or_past true c p e = inl (grind (arith, nat_tests))
below_or_past false c p e = inr (grind (arith, nat_tests))

last_or_before : (p i : ℕ) → p < i + 1 → (p ≡ i) ⊎ (p < i)
last_or_before p i h = ⊎_elim (λ (g : p < i). inr g) (λ (g : i ≤ p). inl (omega arith)) (below_or_past (nat_lt p i) p i refl)

through_rows : (rows : List ℕ) (proc : Proc) (p n : ℕ) → length rows ≡ p → IsReached rows (BlockHelps (code_of proc.code).block) n →
    (callee : ℕ) × (callee < p) × BlockHelps (code_of proc.code).block callee × IsIn (slice_index rows callee) n
through_rows rows proc p n count (c, called, there) = (c, in_or_past rows p c n count there (below_or_past (nat_lt c p) c p refl), called, there)

chain : {A B C : Type 0} → A ↔ B → B ↔ C → A ↔ C
chain f g = (λ a. g.0 (f.0 a), λ c. f.1 (g.1 c))

some_same : {X : Type 0} {x y : X} → Some x ≡ Some y → x ≡ y
some_same e = cc

-- the row of one procedure more
new_row : (rows : List ℕ) (proc : Proc) (p callees : ℕ) → length rows ≡ p → ((n : ℕ) → IsIn callees n ↔ IsReached rows (BlockHelps (code_of proc.code).block) n) → (n : ℕ) →
    IsIn (bit_or (2 ^ p) callees) n ↔ Through proc rows p n
new_row rows proc p callees count marks n = (
  λ h. ⊎_elim (λ (g : IsIn (2 ^ p) n). inl ((only_itself p n).0 g)) (λ (g : IsIn callees n). inr (through_rows rows proc p n count ((marks n).0 g))) ((in_union (2 ^ p) callees n).0 h),
  λ h. (in_union (2 ^ p) callees n).1
      (⊎_elim (λ (e : n ≡ p). inl ((only_itself p n).1 e))
      (λ (g : (callee : ℕ) × (callee < p) × BlockHelps (code_of proc.code).block callee × IsIn (slice_index rows callee) n). inr ((marks n).1 (g.0, g.2, g.3))) h),
)

pub rows_more : (procs : List Proc) (i : ℕ) (rows more : List ℕ) (proc : Proc) (callees : ℕ) → i < length procs → proc ≡ get_or procs i proc → RowsTo procs i rows →
    ((n : ℕ) → IsIn callees n ↔ IsReached rows (BlockHelps (code_of proc.code).block) n) → more ≡ rows ++ bit_or (2 ^ i) callees ∷ [] → RowsTo procs (i + 1) more
rows_more procs i rows more proc callees h is old marks e =
    let long : length more ≡ length rows + 1 = ap length e ∙ length-append rows (bit_or (2 ^ i) callees ∷ []) in
    let count = old.count in
    let row : ℕ = bit_or (2 ^ i) callees in
    record {
      count = omega arith;
      reached = λ p other less at n.
          ⊎_elim
          (λ (here : p ≡ i).
          let same : proc ≡ other = some_same (sym (slice_get_read procs (length procs) i proc refl h is) ∙ (ap (slice_get procs) (sym here) ∙ at)) in
          let value : slice_index more p ≡ row = ap (λ (xs : List ℕ). slice_index xs p) e ∙ index_last rows row p (here ∙ sym count) in
          let new = new_row rows proc p callees (count ∙ sym here) marks n in
          let agree = through_same other rows more p n (λ c less. ap (λ (xs : List ℕ). slice_index xs c) e ∙ index_before rows row c (omega arith)) in
          chain (subst (λ s. IsIn s n ↔ Through other rows p n) (sym value)
          (subst (λ (x : Proc). IsIn row n ↔ Through x rows p n) same (subst (λ k. IsIn (bit_or (2 ^ k) callees) n ↔ Through proc rows p n) here new))) agree)
          (λ (other_place : p < i).
          let value : slice_index more p ≡ slice_index rows p = ap (λ (xs : List ℕ). slice_index xs p) e ∙ index_before rows row p (omega arith) in
          let agree = through_same other rows more p n (λ c less. ap (λ (xs : List ℕ). slice_index xs c) e ∙ index_before rows row c (omega arith)) in
          chain (subst (λ s. IsIn s n ↔ Through other rows p n) (sym value) (old.reached p other other_place at n)) agree)
          (last_or_before p i less);
    }

pub rows_end : (procs : List Proc) (i : ℕ) (rows : List ℕ) → i ≡ length procs → RowsTo procs i rows → AreRows procs rows
rows_end procs i rows e to = record {
  count = to.count ∙ e;
  reached = λ p proc at n. to.reached p proc (let w = slice_get_within procs p proc at in omega arith) at n;
}
