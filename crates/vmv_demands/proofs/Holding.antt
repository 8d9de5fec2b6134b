-- What variables hold, listed by slots; and what is forgotten of them.
use Rattle.std.proofs.Common.{◌≡◌, ◌≢◌, ◌⊎◌, inl, inr, ℕ, zero, suc, ◌+◌, ◌≤◌, ◌<◌, ◌==◌, Bool, true, false, ◌||◌, Some, None, List, [], ◌∷◌, ◌++◌, length, get_or, slice_get, set, drop, refl, sym, ap, ◌∙◌, arith, add-one, drop-cons, if◌then◌else◌}
use Rattle.std.proofs.lemmas.List.{drop_all}
use Rattle.std.proofs.lemmas.Bool.Decides.{nat_tests}
use Rattle.vmv_snapshot.specs.declared.code.Slot.{Slot}
use Rattle.vmv_snapshot.specs.declared.code.ProcId.{ProcId}
use Rattle.vmv_snapshot.specs.declared.code.CodeOperand.{CodeOperand}
use Rattle.vmv_snapshot.specs.declared.code.CodeTest.{CodeTest}
use Rattle.vmv_snapshot.specs.declared.code.Simple.{Simple}
use Rattle.vmv_snapshot.specs.declared.code.CodeStmt.{CodeStmt, Plain, Help, If, Repeat}
use Rattle.vmv_snapshot.specs.declared.code.CodeRepeat.{CodeRepeat}
use Rattle.vmv_snapshot.specs.Code.{Stmt, plain, help, branch, Block, [], ◌⨾◌}
use Rattle.vmv_snapshot.specs.View.{stmt_of, block_of}
use Rattle.vmv_back.specs.Assigned.{simple_assigns, assigns, block_assigns}
use Rattle.vmv_demands.specs.declared.source.Source.{Source}
use Rattle.vmv_demands.specs.declared.source.Source.TheVariants.{Unknown, Start}
use Rattle.vmv_demands.specs.Sources.{held_or, held}
use Rattle.vmv_demands.proofs.Sizes.{from_item, is_plain, is_help, is_if, is_repeat, loop_of}

-- one more at the end
pushed : (xs : List Source) (y : Source) (n : ℕ) → (slice_get (xs ++ y ∷ []) n ≡ slice_get xs n) ⊎ ((n ≡ length xs) × ((slice_get (xs ++ y ∷ []) n ≡ Some y) × (slice_get xs n ≡ None)))
pushed [] y zero = inr (refl, (refl, refl))
pushed [] y (suc n) = inl refl
pushed (x ∷ xs) y zero = inl refl
pushed (x ∷ xs) y (suc n) = by (pushed xs y n)
  where
    by : (slice_get (xs ++ y ∷ []) n ≡ slice_get xs n) ⊎ ((n ≡ length xs) × ((slice_get (xs ++ y ∷ []) n ≡ Some y) × (slice_get xs n ≡ None))) →
        (slice_get ((x ∷ xs) ++ y ∷ []) (suc n) ≡ slice_get (x ∷ xs) (suc n)) ⊎ ((suc n ≡ length (x ∷ xs)) × ((slice_get ((x ∷ xs) ++ y ∷ []) (suc n) ≡ Some y) × (slice_get (x ∷ xs) (suc n) ≡ None)))
    by (inl e) = inl e
    by (inr h) = inr (ap suc h.0, (h.1.0, h.1.1))

start_pushed : (sources more : List Source) (k : ℕ) (x : Slot) → length sources ≡ k → more ≡ sources ++ Start (record { 0 = k }) ∷ [] → held more x ≡ held sources x
start_pushed sources more k x long e = ap (λ (xs : List Source). held xs x) e ∙ by (pushed sources (Start (record { 0 = k })) x.0)
  where
    by : (slice_get (sources ++ Start (record { 0 = k }) ∷ []) x.0 ≡ slice_get sources x.0) ⊎ ((x.0 ≡ length sources) × ((slice_get (sources ++ Start (record { 0 = k }) ∷ []) x.0 ≡ Some (Start (record { 0 = k }))) × (slice_get sources x.0 ≡ None))) →
        held (sources ++ Start (record { 0 = k }) ∷ []) x ≡ held sources x
    by (inl f) = λ i. held_or (f i) x
    by (inr h) =
        let same : k ≡ x.0 = sym (h.0 ∙ long) in
        (λ i. held_or (h.1.0 i) x) ∙ (λ i. Start (record { 0 = same i })) ∙ sym (λ i. held_or (h.1.1 i) x)

pub one_start_more : (sources more old : List Source) (k : ℕ) → (length sources ≡ k) × ((x : Slot) → held sources x ≡ held old x) → more ≡ sources ++ Start (record { 0 = k }) ∷ [] → length more ≡ k + 1 →
    (length more ≡ k + 1) × ((x : Slot) → held more x ≡ held old x)
one_start_more sources more old k h e long = (long, λ x. start_pushed sources more k x h.0 e ∙ h.1 x)

-- one that is set
pick_true : {A : Type 0} (b : Bool) (x y : A) → b ≡ true → (if b then x else y) ≡ x
pick_true true x y e = refl
pick_true false x y e = absurd (cc)

pick_false : {A : Type 0} (b : Bool) (x y : A) → b ≡ false → (if b then x else y) ≡ y
pick_false true x y e = absurd (cc)
pick_false false x y e = refl

get_same : (xs : List Source) (i : ℕ) (y : Source) → i < length xs → slice_get (set xs i y) i ≡ Some y
get_same [] i y h = absurd (omega arith)
get_same (x ∷ xs) zero y h = refl
get_same (x ∷ xs) (suc i) y h = get_same xs i y (omega (arith, h))

get_other : (xs : List Source) (i j : ℕ) (y : Source) → j ≢ i → slice_get (set xs i y) j ≡ slice_get xs j
get_other [] i j y h = refl
get_other (x ∷ xs) zero zero y h = absurd (h refl)
get_other (x ∷ xs) zero (suc j) y h = refl
get_other (x ∷ xs) (suc i) zero y h = refl
get_other (x ∷ xs) (suc i) (suc j) y h = get_other xs i j y (λ e. h (ap suc e))

equal : (a b : ℕ) → (a == b) ≡ true → b ≡ a
equal a b e = grind (arith, nat_tests)

unequal : (a b : ℕ) → (a == b) ≡ false → b ≢ a
unequal a b e = λ h. grind (arith, nat_tests)

-- this variable holds this, the others what they held
abbrev pub Puts : List Source → Slot → Source → List Source → Type 0
Puts old to source new = (x : Slot) → held new x ≡ (if to.0 == x.0 then source else held old x)

pub set_puts : (old grown new : List Source) (to : Slot) (source : Source) → ((x : Slot) → held grown x ≡ held old x) → to.0 < length grown → new ≡ set grown to.0 source → Puts old to source new
set_puts old grown new to source same h e = λ x. by x (to.0 == x.0) refl
  where
    by : (x : Slot) (b : Bool) → (to.0 == x.0) ≡ b → held new x ≡ (if to.0 == x.0 then source else held old x)
    by x true f =
        ap (λ (xs : List Source). held xs x) e ∙ ap (λ (n : ℕ). held_or (slice_get (set grown to.0 source) n) x) (equal to.0 x.0 f) ∙ ap (λ o. held_or o x) (get_same grown to.0 source h)
        ∙ sym (pick_true (to.0 == x.0) source (held old x) f)
    by x false f =
        ap (λ (xs : List Source). held xs x) e ∙ ap (λ o. held_or o x) (get_other grown to.0 x.0 source (unequal to.0 x.0 f)) ∙ same x
        ∙ sym (pick_false (to.0 == x.0) source (held old x) f)

-- what is held of these is forgotten
abbrev pub Loses : List Source → (ℕ → Bool) → List Source → Type 0
Loses old out new = (x : Slot) → held new x ≡ (if out x.0 then Unknown else held old x)

twice : (b c : Bool) (a : Source) → (if c then Unknown else (if b then Unknown else a)) ≡ (if b || c then Unknown else a)
twice true true a = refl
twice true false a = refl
twice false c a = refl

lost_twice : (old mid new : List Source) (one two : ℕ → Bool) → Loses old one mid → Loses mid two new → Loses old (λ x. one x || two x) new
lost_twice old mid new one two f g = λ x. g x ∙ ap (λ (a : Source). if two x.0 then Unknown else a) (f x) ∙ twice (one x.0) (two x.0) (held old x)

lost_as : (old new : List Source) (one two : ℕ → Bool) → ((x : ℕ) → one x ≡ two x) → Loses old one new → Loses old two new
lost_as old new one two same f = λ x. f x ∙ ap (λ (b : Bool). if b then Unknown else held old x) (same x.0)

pub assigns-plain : (x : ℕ) (simple : Simple) → assigns x (plain simple) ≡ simple_assigns x simple
unfolding assigns
assigns-plain x simple = refl

pub assigns-help : (x : ℕ) (to : Slot) (callee : ProcId) (args : List CodeOperand) → assigns x (help to callee args) ≡ (to.0 == x)
unfolding assigns
assigns-help x to callee args = refl

assigns-branch : (x : ℕ) (test : CodeTest) (first second : Block) → assigns x (branch test first second) ≡ (block_assigns x first || block_assigns x second)
unfolding assigns
assigns-branch x test first second = refl

pub assigns-loop : (x : ℕ) (r : CodeRepeat) → assigns x (loop_of r) ≡ ((r.index.0 == x) || block_assigns x (block_of r.body))
unfolding assigns
assigns-loop x r = refl

block_assigns-row : (x : ℕ) (s : Stmt) (rest : Block) → block_assigns x (s ⨾ rest) ≡ (assigns x s || block_assigns x rest)
unfolding assigns
block_assigns-row x s rest = refl

block_assigns-none : (x : ℕ) → block_assigns x [] ≡ false
unfolding assigns
block_assigns-none x = refl

module _ (old mid new : List Source) (s : CodeStmt) where
  pub lost_plain : (simple : Simple) → s ≡ Plain simple → Loses old (λ x. simple_assigns x simple) new → Loses old (λ x. assigns x (stmt_of s)) new
  lost_plain simple is f = lost_as old new (λ x. simple_assigns x simple) (λ x. assigns x (stmt_of s)) (λ x. sym (ap (assigns x) (is_plain s simple is) ∙ assigns-plain x simple)) f

  pub lost_help : (to : Slot) (callee : ProcId) (args : List CodeOperand) → s ≡ Help to callee args → Puts old to Unknown new → Loses old (λ x. assigns x (stmt_of s)) new
  lost_help to callee args is f = lost_as old new (λ x. to.0 == x) (λ x. assigns x (stmt_of s)) (λ x. sym (ap (assigns x) (is_help s to callee args is) ∙ assigns-help x to callee args)) f

  pub lost_if : (test : CodeTest) (first second one two : List CodeStmt) → s ≡ If test first second → one ≡ first → two ≡ second → Loses old (λ x. block_assigns x (block_of one)) mid →
      Loses mid (λ x. block_assigns x (block_of two)) new → Loses old (λ x. assigns x (stmt_of s)) new
  lost_if test first second one two is a b f g =
      lost_as old new (λ x. block_assigns x (block_of one) || block_assigns x (block_of two)) (λ x. assigns x (stmt_of s))
      (λ x. (λ i. block_assigns x (block_of (a i)) || block_assigns x (block_of (b i))) ∙ sym (ap (assigns x) (is_if s test first second is) ∙ assigns-branch x test (block_of first) (block_of second)))
      (lost_twice old mid new (λ x. block_assigns x (block_of one)) (λ x. block_assigns x (block_of two)) f g)

  pub lost_repeat : (repeat : CodeRepeat) (body : List CodeStmt) → s ≡ Repeat repeat → body ≡ repeat.body → Puts old repeat.index Unknown mid → Loses mid (λ x. block_assigns x (block_of body)) new →
      Loses old (λ x. assigns x (stmt_of s)) new
  lost_repeat repeat body is a f g =
      lost_as old new (λ x. (repeat.index.0 == x) || block_assigns x (block_of body)) (λ x. assigns x (stmt_of s))
      (λ x. ap (λ b. (repeat.index.0 == x) || block_assigns x (block_of b)) a ∙ sym (ap (assigns x) (is_repeat s repeat is) ∙ assigns-loop x repeat))
      (lost_twice old mid new (λ x. repeat.index.0 == x) (λ x. block_assigns x (block_of body)) f g)

-- what the rest forgets behind the front is what the whole forgets
abbrev pub Rests : List Source → List Source → List CodeStmt → List CodeStmt → Type 0
Rests now start rest block = (x : Slot) → (if block_assigns x.0 (block_of rest) then Unknown else held now x) ≡ (if block_assigns x.0 (block_of block) then Unknown else held start x)

pub rests_next : (start now more : List Source) (block : List CodeStmt) (i : ℕ) (s : CodeStmt) → i < length block → s ≡ get_or block i s → Rests now start (drop i block) block →
    Loses now (λ x. assigns x (stmt_of s)) more → Rests more start (drop (i + 1) block) block
rests_next start now more block i s h is inv f = λ x.
    ap (λ (a : Source). if block_assigns x.0 (block_of (drop (i + 1) block)) then Unknown else a) (f x)
    ∙ twice (assigns x.0 (stmt_of s)) (block_assigns x.0 (block_of (drop (i + 1) block))) (held now x)
    ∙ ap (λ (b : Bool). if b then Unknown else held now x) (sym (block_assigns-row x.0 (stmt_of s) (block_of (drop (i + 1) block))))
    ∙ ap (λ (b : Block). if block_assigns x.0 b then Unknown else held now x) (sym (from_item block i s h is))
    ∙ inv x

pub rests_end : (start now : List Source) (block : List CodeStmt) (i : ℕ) → length block ≤ i → Rests now start (drop i block) block → Loses start (λ x. block_assigns x (block_of block)) now
rests_end start now block i h inv = λ x.
    sym (pick_false (block_assigns x.0 (block_of (drop i block))) Unknown (held now x) (ap (λ b. block_assigns x.0 (block_of b)) (drop_all i block h) ∙ block_assigns-none x.0)) ∙ inv x
