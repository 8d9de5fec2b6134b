-- In a valid program each name means something where it stands.
use Rattle.std.proofs.Common.{◌≡◌, ◌⊎◌, inl, inr, ⊎_elim, ℕ, zero, suc, ◌+◌, ◌<◌, Bool, true, false, Option, Some, None, List, [], ◌∷◌, ◌++◌, length, map, get_or, slice_get, refl, sym, ap, subst, arith, ◌∙◌}
use Rattle.std.specs.List.{All, Contains, list_any}
use Rattle.std.proofs.lemmas.List.Elements.{Contains-append_left, Contains-append_right}
use Rattle.vmv_tree.specs.declared.defect.Defect.{Defect}
use Rattle.vmv_tree.specs.declared.defect.Defect.TheVariants.{UnknownName}
use Rattle.vmv_tree.specs.declared.name.Name.{Name}
use Rattle.vmv_tree.specs.declared.tree.Operand.{Operand}
use Rattle.vmv_tree.specs.declared.tree.Operand.TheVariants.{Lit, Var}
use Rattle.vmv_tree.specs.declared.tree.Test.{Test}
use Rattle.vmv_tree.specs.Tree.{Stmt, copy, compute, call, assert, choose, repeat, Block, [], ◌⨾◌}
use Rattle.vmv_tree.specs.Mentions.{operand_mentions, test_mentions, mentions, block_mentions}
use Rattle.vmv_tree.specs.Limits.{indexes_of, block_indexes}
use Rattle.vmv_tree.specs.Valid.{Scope as Sight, Finds, Takes, InOperand, InTest, InArgs, InTarget, InCallee, InStmt, InBlock}
use Rattle.vmv_snapshot.specs.Resolves.{Scope}
use Rattle.vmv_snapshot.specs.Resolvable.{IsNamed, IsKnown, IsKnownTest, IsCallee, IsLoop, IsResolvable, AreResolvable}
use Rattle.vmv_snapshot.proofs.Named.{contains_or_not, place_or_not, first_or_further}

-- nothing is found
abbrev pub Clean : Finds → Type 0
Clean finds = (m : ℕ) (d : Defect) → finds m d → ⊥

-- how what a place sees is the scope of the procedure
pub record Fits (sight : Sight) (scope : Scope) : Type 0 where
  pub visible : (x : Name) → Contains sight.visible x → IsNamed scope x
  pub callees : (callee : Name) (n : ℕ) → Takes sight.above callee n → Contains scope.outsides callee ⊎ Contains scope.helpers (Some callee)

pub operand_known : (sight : Sight) (scope : Scope) (k : ℕ) (o : Operand) → Fits sight scope → Clean (InOperand sight k o) → IsKnown scope o
operand_known sight scope k (Lit word) fits clean = tt
operand_known sight scope k (Var name) fits clean =
    ⊎_elim (λ (h : Contains sight.visible name). fits.visible name h)
    (λ (h : Contains sight.visible name → ⊥). absurd (clean k UnknownName (refl, refl, h)))
    (contains_or_not sight.visible name)

test_known : (sight : Sight) (scope : Scope) (k : ℕ) (test : Test) → Fits sight scope → Clean (InTest sight k test) → IsKnownTest scope test
test_known sight scope k test fits clean = (
  operand_known sight scope k test.left fits (λ m d h. clean m d (inl h)),
  operand_known sight scope (k + operand_mentions test.left) test.right fits (λ m d h. clean m d (inr h)),
)

all_more : {X : Type 0} (P : X → Type 0) (x : X) (xs : List X) → P x → All P xs → All P (x ∷ xs)
all_more P x xs p all zero d h = p
all_more P x xs p all (suc k) d h = all k d (omega (arith, h))

args_known : (sight : Sight) (scope : Scope) (k : ℕ) (args : List Operand) → Fits sight scope → Clean (InArgs sight k args) → All (IsKnown scope) args
args_known sight scope k [] fits clean = λ n d h. absurd (omega arith)
args_known sight scope k (o ∷ args) fits clean =
    all_more (IsKnown scope) o args (operand_known sight scope k o fits (λ m d h. clean m d (inl h)))
    (args_known sight scope (k + operand_mentions o) args fits (λ m d h. clean m d (inr h)))

target_known : (sight : Sight) (scope : Scope) (k : ℕ) (to : Name) → Fits sight scope → Clean (InTarget sight k to) → IsNamed scope to
target_known sight scope k to fits clean =
    ⊎_elim (λ (h : Contains sight.visible to). fits.visible to h)
    (λ (h : Contains sight.visible to → ⊥). absurd (clean k UnknownName (inl (refl, refl, h))))
    (contains_or_not sight.visible to)

callee_known : (sight : Sight) (scope : Scope) (k : ℕ) (callee : Name) (count : ℕ) → Fits sight scope → Clean (InCallee sight k callee count) → IsCallee scope callee
callee_known sight scope k callee count fits clean =
    ⊎_elim (λ (h : Contains scope.outsides callee). inl h)
    (λ (no : Contains scope.outsides callee → ⊥). ⊎_elim (λ (h : Contains scope.helpers (Some callee)). inr h)
    (λ (nor : Contains scope.helpers (Some callee) → ⊥). absurd (clean k UnknownName (inl (refl, refl, λ n t. ⊎_elim no nor (fits.callees callee n t)))))
    (place_or_not scope.helpers callee))
    (contains_or_not scope.outsides callee)

abbrev Loops : Scope → List Name → Type 0
Loops scope indexes = (x : Name) → Contains indexes x → IsLoop scope x

mutual
  unfolding IsResolvable

  stmt_known : (sight : Sight) (scope : Scope) (k : ℕ) (s : Stmt) → Fits sight scope → Loops scope (indexes_of s) → Clean (InStmt sight k s) → IsResolvable scope s
  stmt_known sight scope k (copy to from) fits loops clean =
      (target_known sight scope k to fits (λ m d h. clean m d (inl h)), operand_known sight scope (k + 1) from fits (λ m d h. clean m d (inr h)))
  stmt_known sight scope k (compute to op left right) fits loops clean = (
    target_known sight scope k to fits (λ m d h. clean m d (inl h)),
    operand_known sight scope (k + 1) left fits (λ m d h. clean m d (inr (inl h))),
    operand_known sight scope (k + 1 + operand_mentions left) right fits (λ m d h. clean m d (inr (inr h))),
  )
  stmt_known sight scope k (call to callee args) fits loops clean = (
    target_known sight scope k to fits (λ m d h. clean m d (inl h)),
    callee_known sight scope (k + 1) callee (length args) fits (λ m d h. clean m d (inr (inl h))),
    args_known sight scope (k + 2) args fits (λ m d h. clean m d (inr (inr h))),
  )
  stmt_known sight scope k (assert test) fits loops clean = test_known sight scope k test fits clean
  stmt_known sight scope k (choose test first second) fits loops clean = (
    test_known sight scope k test fits (λ m d h. clean m d (inl h)),
    block_known sight scope (k + test_mentions test) first fits (λ x h. loops x (Contains-append_left (block_indexes first) (block_indexes second) x h)) (λ m d h. clean m d (inr (inl h))),
    block_known (record sight { declared = sight.declared ++ block_indexes first }) scope (k + test_mentions test + block_mentions first) second (record { visible = fits.visible; callees = fits.callees })
        (λ x h. loops x (Contains-append_right (block_indexes first) (block_indexes second) x h)) (λ m d h. clean m d (inr (inr h))),
  )
  stmt_known sight scope k (repeat index bound most body) fits loops clean =
      let here : IsLoop scope index = loops index (0, omega arith, refl) in (
        here,
        operand_known sight scope (k + 1) bound fits (λ m d h. clean m d (inr (inl h))),
        block_known (record sight { visible = index ∷ sight.visible; indexes = index ∷ sight.indexes; declared = sight.declared ++ index ∷ [] }) scope (k + 1 + operand_mentions bound) body
            (record {
              visible = λ x h. ⊎_elim (λ (e : index ≡ x). subst (IsNamed scope) e here.0) (λ (g : Contains sight.visible x). fits.visible x g) (first_or_further index sight.visible x h);
              callees = fits.callees;
            })
            (λ x h. loops x (Contains-append_right (index ∷ []) (block_indexes body) x h)) (λ m d h. clean m d (inr (inr h))),
      )

  pub block_known : (sight : Sight) (scope : Scope) (k : ℕ) (b : Block) → Fits sight scope → Loops scope (block_indexes b) → Clean (InBlock sight k b) → AreResolvable scope b
  block_known sight scope k [] fits loops clean = tt
  block_known sight scope k (s ⨾ rest) fits loops clean = (
    stmt_known sight scope k s fits (λ x h. loops x (Contains-append_left (indexes_of s) (block_indexes rest) x h)) (λ m d h. clean m d (inl h)),
    block_known (record sight { declared = sight.declared ++ indexes_of s }) scope (k + mentions s) rest (record { visible = fits.visible; callees = fits.callees })
        (λ x h. loops x (Contains-append_right (indexes_of s) (block_indexes rest) x h)) (λ m d h. clean m d (inr h)),
  )
