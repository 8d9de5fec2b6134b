-- Sets of slots as arrays, and the slots that statements leave in them.
use Rattle.std.proofs.Common.{◌≡◌, ◌≢◌, ◌⊎◌, inl, inr, ℕ, zero, suc, ◌+◌, ◌≤◌, ◌<◌, nat_lt, nat_le, ◌==◌, Bool, true, false, not, ◌&&◌, ◌||◌, List, [], ◌∷◌, length, get_or, set, drop, replicate, refl, sym, ap, ◌∙◌, arith, add-one, drop-cons}
use Rattle.std.proofs.lemmas.List.{get_or-set_same, get_or-set_other, drop_all}
use Rattle.std.proofs.lemmas.Bool.Decides.{nat_tests}
use Rattle.vmv_snapshot.specs.declared.code.Simple.{Simple}
use Rattle.vmv_snapshot.specs.declared.code.Slot.{Slot}
use Rattle.vmv_snapshot.specs.declared.code.ProcId.{ProcId}
use Rattle.vmv_snapshot.specs.declared.code.CodeOperand.{CodeOperand}
use Rattle.vmv_snapshot.specs.declared.code.CodeTest.{CodeTest}
use Rattle.vmv_snapshot.specs.declared.code.CodeRepeat.{CodeRepeat}
use Rattle.vmv_snapshot.specs.declared.code.CodeStmt as declared
use Rattle.vmv_snapshot.specs.declared.code.CodeStmt.{Plain, Help, If, Repeat}
use Rattle.vmv_snapshot.specs.Code.{Stmt, plain, help, branch, loop, Block, [], ◌⨾◌}
use Rattle.vmv_snapshot.specs.View.{stmt_of, block_of, stmt_of-plain, stmt_of-help, stmt_of-if, stmt_of-repeat}
use Rattle.vmv_back.specs.Assigned.{simple_assigns, assigns, block_assigns}
use Rattle.vmv_back.specs.Facts.{slots_of}

-- the flags with those at which the test is true taken out
abbrev pub Leaves : List Bool → (ℕ → Bool) → List Bool → Type 0
Leaves old out new = (x : ℕ) → slots_of new x ≡ (slots_of old x && not (out x))

leaves_all : (a b : Bool) → b ≡ false → a ≡ (a && not b)
leaves_all true b e = ap not (sym e)
leaves_all false b e = refl

twice : (a b c : Bool) → ((a && not b) && not c) ≡ (a && not (b || c))
twice true true c = refl
twice true false c = refl
twice false b c = refl

pub out_twice : (old mid new : List Bool) (one two : ℕ → Bool) → Leaves old one mid → Leaves mid two new → Leaves old (λ x. one x || two x) new
out_twice old mid new one two f g = λ x. g x ∙ ap (λ (a : Bool). a && not (two x)) (f x) ∙ twice (slots_of old x) (one x) (two x)

out_as : (old new : List Bool) (one two : ℕ → Bool) → ((x : ℕ) → one x ≡ two x) → Leaves old one new → Leaves old two new
out_as old new one two same f = λ x. f x ∙ ap (λ (a : Bool). slots_of old x && not a) (same x)

assigns-plain : (x : ℕ) (simple : Simple) → assigns x (plain simple) ≡ simple_assigns x simple
unfolding assigns
assigns-plain x simple = refl

assigns-help : (x : ℕ) (to : Slot) (callee : ProcId) (args : List CodeOperand) → assigns x (help to callee args) ≡ (to.0 == x)
unfolding assigns
assigns-help x to callee args = refl

assigns-branch : (x : ℕ) (test : CodeTest) (first second : Block) → assigns x (branch test first second) ≡ (block_assigns x first || block_assigns x second)
unfolding assigns
assigns-branch x test first second = refl

assigns-loop : (x : ℕ) (index slot : Slot) (bound : CodeOperand) (most : _) (site : ℕ) (body : Block) → assigns x (loop index slot bound most site body) ≡ ((index.0 == x) || block_assigns x body)
unfolding assigns
assigns-loop x index slot bound most site body = refl

block_assigns-row : (x : ℕ) (s : Stmt) (rest : Block) → block_assigns x (s ⨾ rest) ≡ (assigns x s || block_assigns x rest)
unfolding assigns
block_assigns-row x s rest = refl

block_assigns-none : (x : ℕ) → block_assigns x [] ≡ false
unfolding assigns
block_assigns-none x = refl

pub out_of_plain : (old new : List Bool) (s : declared.CodeStmt) (simple : Simple) → s ≡ Plain simple → Leaves old (λ x. simple_assigns x simple) new → Leaves old (λ x. assigns x (stmt_of s)) new
out_of_plain old new s simple is f =
    out_as old new (λ x. simple_assigns x simple) (λ x. assigns x (stmt_of s)) (λ x. sym (ap (λ t. assigns x (stmt_of t)) is ∙ ap (assigns x) (stmt_of-plain simple) ∙ assigns-plain x simple)) f

pub out_of_help : (old new : List Bool) (s : declared.CodeStmt) (to : Slot) (callee : ProcId) (args : List CodeOperand) → s ≡ Help to callee args → Leaves old (λ x. to.0 == x) new → Leaves old (λ x. assigns x (stmt_of s)) new
out_of_help old new s to callee args is f =
    out_as old new (λ x. to.0 == x) (λ x. assigns x (stmt_of s)) (λ x. sym (ap (λ t. assigns x (stmt_of t)) is ∙ ap (assigns x) (stmt_of-help to callee args) ∙ assigns-help x to callee args)) f

pub out_of_if : (old mid new : List Bool) (s : declared.CodeStmt) (test : CodeTest) (first second one two : List declared.CodeStmt) → s ≡ If test first second → one ≡ first → two ≡ second →
    Leaves old (λ x. block_assigns x (block_of one)) mid → Leaves mid (λ x. block_assigns x (block_of two)) new → Leaves old (λ x. assigns x (stmt_of s)) new
out_of_if old mid new s test first second one two is a b f g =
    out_as old new (λ x. block_assigns x (block_of one) || block_assigns x (block_of two)) (λ x. assigns x (stmt_of s))
    (λ x. (λ i. block_assigns x (block_of (a i)) || block_assigns x (block_of (b i)))
    ∙ sym (ap (λ t. assigns x (stmt_of t)) is ∙ ap (assigns x) (stmt_of-if test first second) ∙ assigns-branch x test (block_of first) (block_of second)))
    (out_twice old mid new (λ x. block_assigns x (block_of one)) (λ x. block_assigns x (block_of two)) f g)

pub out_of_repeat : (old mid new : List Bool) (s : declared.CodeStmt) (repeat : CodeRepeat) (body : List declared.CodeStmt) → s ≡ Repeat repeat → body ≡ repeat.body →
    Leaves old (λ x. repeat.index.0 == x) mid → Leaves mid (λ x. block_assigns x (block_of body)) new → Leaves old (λ x. assigns x (stmt_of s)) new
out_of_repeat old mid new s repeat body is a f g =
    out_as old new (λ x. (repeat.index.0 == x) || block_assigns x (block_of body)) (λ x. assigns x (stmt_of s))
    (λ x. ap (λ b. (repeat.index.0 == x) || block_assigns x (block_of b)) a
    ∙ sym (ap (λ t. assigns x (stmt_of t)) is ∙ ap (assigns x) (stmt_of-repeat repeat.index repeat.slot repeat.bound repeat.cap repeat.site repeat.body)
    ∙ assigns-loop x repeat.index repeat.slot repeat.bound repeat.cap repeat.site (block_of repeat.body)))
    (out_twice old mid new (λ x. repeat.index.0 == x) (λ x. block_assigns x (block_of body)) f g)

-- what is left over a block: as much as over its front is left by the rest
pub out_at_start : (flags : List Bool) → Leaves flags (λ x. block_assigns x []) flags
out_at_start flags = λ x. leaves_all (slots_of flags x) (block_assigns x []) (block_assigns-none x)

-- from one statement to the next: what the rest takes out of what is left is what the whole takes out
abbrev pub Rests : List Bool → List Bool → List declared.CodeStmt → List declared.CodeStmt → Type 0
Rests flags start rest block = (x : ℕ) → (slots_of flags x && not (block_assigns x (block_of rest))) ≡ (slots_of start x && not (block_assigns x (block_of block)))

pub rests_next : (start flags more : List Bool) (block : List declared.CodeStmt) (i : ℕ) (s : declared.CodeStmt) → i < length block → s ≡ get_or block i s →
    Rests flags start (drop i block) block → Leaves flags (λ x. assigns x (stmt_of s)) more → Rests more start (drop (i + 1) block) block
rests_next start flags more block i s h is inv f = λ x.
    let tail : drop i block ≡ s ∷ drop (i + 1) block = rw (add-one, drop-cons block i s, ← is) refl in
    ap (λ (a : Bool). a && not (block_assigns x (block_of (drop (i + 1) block)))) (f x)
    ∙ twice (slots_of flags x) (assigns x (stmt_of s)) (block_assigns x (block_of (drop (i + 1) block)))
    ∙ ap (λ (a : Bool). slots_of flags x && not a) (sym (block_assigns-row x (stmt_of s) (block_of (drop (i + 1) block))))
    ∙ ap (λ b. slots_of flags x && not (block_assigns x (block_of b))) (sym tail)
    ∙ inv x

pub rests_end : (start flags : List Bool) (block : List declared.CodeStmt) (i : ℕ) → length block ≤ i → Rests flags start (drop i block) block → Leaves start (λ x. block_assigns x (block_of block)) flags
rests_end start flags block i h inv = λ x.
    leaves_all (slots_of flags x) (block_assigns x (block_of (drop i block))) (ap (λ b. block_assigns x (block_of b)) (drop_all i block h) ∙ block_assigns-none x) ∙ inv x

-- the first slots
none_below : (x : ℕ) → (nat_lt 0 x && nat_le x 0) ≡ false
none_below x = grind (arith, nat_tests)

all_false : (n x : ℕ) → slots_of (replicate n false) x ≡ false
all_false zero x = refl
all_false (suc n) zero = refl
all_false (suc n) (suc x) = all_false n x

pub no_slot : (n x : ℕ) → slots_of (replicate n false) x ≡ (nat_lt 0 x && nat_le x 0)
no_slot n x = all_false n x ∙ sym (none_below x)

one_slot_more_by : (flags : List Bool) (n x : ℕ) → n + 1 < length flags → slots_of flags x ≡ (nat_lt 0 x && nat_le x n) → (x ≡ n + 1) ⊎ (x ≢ n + 1) →
    slots_of (set flags (n + 1) true) x ≡ (nat_lt 0 x && nat_le x (n + 1))
one_slot_more_by flags n x h f (inl e) = rw e (get_or-set_same flags (n + 1) true false h ∙ sym (there n))
  where
    there : (n : ℕ) → (nat_lt 0 (n + 1) && nat_le (n + 1) (n + 1)) ≡ true
    there n = grind (arith, nat_tests)
one_slot_more_by flags n x h f (inr other) = get_or-set_other flags (n + 1) x true false other ∙ f ∙ same n x other
  where
    same : (n x : ℕ) → x ≢ n + 1 → (nat_lt 0 x && nat_le x n) ≡ (nat_lt 0 x && nat_le x (n + 1))
    same n x other = ap (λ (b : Bool). nat_lt 0 x && b) (grind (arith, nat_tests))

either : (x n : ℕ) → (x ≡ n) ⊎ (x ≢ n)
either x n = by (x == n) refl
  where
    by : (t : Bool) → (x == n) ≡ t → (x ≡ n) ⊎ (x ≢ n)
    by true e = inl (grind (arith, nat_tests))
    by false e = inr (λ h. grind (arith, nat_tests))

pub one_slot_more : (flags : List Bool) (n : ℕ) → n + 1 < length flags → ((x : ℕ) → slots_of flags x ≡ (nat_lt 0 x && nat_le x n)) →
    (x : ℕ) → slots_of (set flags (n + 1) true) x ≡ (nat_lt 0 x && nat_le x (n + 1))
one_slot_more flags n h f x = one_slot_more_by flags n x h (f x) (either x (n + 1))
