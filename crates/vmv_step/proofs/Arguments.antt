-- The arguments of a call, one by one.
use Rattle.std.proofs.Common.{◌∙◌, ◌≡◌, ℕ, zero, suc, ◌+◌, ◌<◌, List, [], ◌∷◌, ◌++◌, length, take, get_or, pos, refl, sym, ap, subst, arith, add-one}
use Rattle.std.proofs.Math.ListN.{set}
use Rattle.std.proofs.Math.Seq.{take-suc, take-suc-set}
use Rattle.std.proofs.lemmas.List.{map-append, length-map}
use Rattle.vmv_snapshot.specs.declared.code.CodeOperand.{CodeOperand}
use Rattle.vmv_snapshot.specs.declared.code.CodeOperand.TheVariants.{Lit}
use Rattle.vmv_zone.specs.declared.zone.Zone.{Zone}
use Rattle.vmv_zone.specs.declared.operand.ZoneOperand.{ZoneOperand}
use Rattle.vmv_zone.specs.declared.operand.ZoneOperand.TheVariants.{Lit}
use Rattle.vmv_tree.specs.declared.tree.Operand.{Operand}
use Rattle.vmv_snapshot.specs.Resolves.{Scope, ResolvesArgs}
use Rattle.vmv_zone.specs.Zone.{IsBelow, IsNormal}
use Rattle.vmv_zone.specs.Operand.{IsOperand}
use Rattle.vmv_zone.proofs.MoreLaws.{args_mono}
use Rattle.vmv_zone.proofs.WordOrder.{args_normal}
use Rattle.vmv_step.specs.Agree.{AreSlots}
use Rattle.vmv_step.proofs.Places.{operand_inside}
use Rattle.vmv_zone.specs.Args.{argument_at, AreOperands, IsArgsOf}
use Rattle.vmv_step.specs.Zones.{zone_operand, zone_args, AreInside}

-- one more argument
pub one_more : (args : List CodeOperand) (operands : List ZoneOperand) (i : ℕ) (x : ZoneOperand) (d : CodeOperand) → i < length args → i < length operands → take i operands ≡ zone_args (take i args) →
    x ≡ zone_operand (get_or args i d) → take (i + 1) (set operands i x) ≡ zone_args (take (i + 1) args)
one_more args operands i x d within room done is =
    let left : take (suc i) (set operands i x) ≡ take i operands ++ (x ∷ []) = take-suc-set operands i x room in
    let right : take (suc i) args ≡ take i args ++ (get_or args i d ∷ []) = take-suc args i d within in
    let mapped : zone_args (take i args ++ (get_or args i d ∷ [])) ≡ zone_args (take i args) ++ (zone_operand (get_or args i d) ∷ []) = map-append zone_operand (take i args) (get_or args i d ∷ []) in
    let same : take i operands ++ (x ∷ []) ≡ zone_args (take i args) ++ (zone_operand (get_or args i d) ∷ []) = (λ j. done j ++ (is j ∷ [])) in
    rw add-one (left ∙ (same ∙ (sym mapped ∙ sym (ap zone_args right))))

arg_inside : (vars : ℕ) (args : List CodeOperand) (k : ℕ) → AreInside vars args → IsOperand vars (get_or (zone_args args) k (Lit (pos 0)))
arg_inside vars [] k inside = tt
arg_inside vars (a ∷ args) zero inside = inside 0 a (omega arith)
arg_inside vars (a ∷ args) (suc k) inside = arg_inside vars args k (λ j d h. inside (suc j) d (omega arith))

by_argument : (P : ℕ → Type 0) → P 0 → ((k : ℕ) → P (suc k)) → (i : ℕ) → P i
by_argument P z s zero = z
by_argument P z s (suc k) = s k

pub all_inside : (vars : ℕ) (args : List CodeOperand) (operands : List ZoneOperand) → operands ≡ zone_args args → AreInside vars args → AreOperands vars operands
all_inside vars args operands e inside =
    let P : List ZoneOperand → Type 0 = λ xs. AreOperands vars xs in
    subst P (sym e) (λ i hi. by_argument (λ i. IsOperand vars (argument_at (zone_args args) i)) tt (λ k. arg_inside vars args k inside) i)

pub passed : (z r : Zone) (args : List CodeOperand) (operands : List ZoneOperand) → operands ≡ zone_args args → IsArgsOf z operands r → IsArgsOf z (zone_args args) r
passed z r args operands e is = let P : List ZoneOperand → Type 0 = λ xs. IsArgsOf z xs r in subst P e is

take_whole : {X : Type 0} (xs : List X) → take (length xs) xs ≡ xs
take_whole [] = refl
take_whole (x ∷ xs) = ap (λ t. x ∷ t) (take_whole xs)

-- all of them
pub all_done : (args : List CodeOperand) (operands : List ZoneOperand) (i : ℕ) → i ≡ length args → take i operands ≡ zone_args (take i args) → take (length args) operands ≡ zone_args args
all_done args operands i e done = let P : ℕ → Type 0 = λ k. take k operands ≡ zone_args (take k args) in subst P e done ∙ ap zone_args (take_whole args)

pub args_inside : (vars : ℕ) (scope : Scope) (args : List Operand) (codes : List CodeOperand) → AreSlots vars scope.slots → ResolvesArgs scope args codes → AreInside vars codes
args_inside vars scope [] [] are res k d h = absurd (omega arith)
args_inside vars scope [] (c ∷ codes) are res k d h = absurd res
args_inside vars scope (o ∷ args) [] are res k d h = absurd res
args_inside vars scope (o ∷ args) (c ∷ codes) are res zero d h = operand_inside vars scope o c are res.0
args_inside vars scope (o ∷ args) (c ∷ codes) are res (suc k) d h = args_inside vars scope args codes are res.1 k d (omega (arith, h))

pub pass_mono : (codes : List CodeOperand) (a b r s : Zone) → a.vars ≡ b.vars → AreInside b.vars codes → IsArgsOf a (zone_args codes) r → IsArgsOf b (zone_args codes) s → IsBelow a b → IsBelow r s
pass_mono codes a b r s same inside one two below = args_mono a b r s (zone_args codes) same (all_inside b.vars codes (zone_args codes) refl inside) one two below

pub pass_normal : (codes : List CodeOperand) (z r : Zone) → AreInside z.vars codes → IsArgsOf z (zone_args codes) r → IsNormal r × (r.vars ≡ length codes)
pass_normal codes z r inside is = (args_normal z r (zone_args codes) (all_inside z.vars codes (zone_args codes) refl inside) is, is.vars ∙ length-map codes zone_operand)
