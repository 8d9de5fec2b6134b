-- Two valuations: that of a surface run, and that of the lowered program, which has temporaries beside.
use Rattle.std.proofs.Common.{◌≡◌, ℕ, ◌+◌, ◌<◌, ◌≤◌, ℤ, Bool, true, false, refl, sym, ap, arith, ◌∙◌}
use Rattle.std.specs.Prelude.{if◌then◌else◌}
use Rattle.std.specs.Str.{bytes_eq}
use Rattle.std.proofs.lemmas.Slice.Eq.{bytes_eq-Decides}
use Rattle.vmv_tree.specs.declared.name.Name.{Name}
use Rattle.vmv_tree.specs.Run.{Valuation, assign, value}
use Rattle.vmv_surface.specs.Surface.{Expr, literal, variable, operate, minus, ask, IsPlain, HasPlainNames}
use Rattle.vmv_surface.specs.Temporaries.{temporary}
use Rattle.vmv_surface.specs.Lower.{behind, operand}
use Rattle.vmv_surface_laws.proofs.Names.{temporary_once, plain_other}

-- they agree on the names of programs
abbrev pub Agree : Valuation → Valuation → Type 0
Agree v w = (x : Name) → IsPlain x → v x ≡ w x

not_true : (b : Bool) → (b ≡ true → ⊥) → b ≡ false
not_true true h = absurd (h refl)
not_true false h = refl

pub assign_here : (w : Valuation) (to : Name) (word : ℤ) → assign w to word to ≡ word
assign_here w to word = ap (λ b. if b then word else w to) {x = bytes_eq to to} {y = true} ((bytes_eq-Decides to to).1 refl)

pub assign_past : (w : Valuation) (to : Name) (word : ℤ) (x : Name) → (x ≡ to → ⊥) → assign w to word x ≡ w x
assign_past w to word x other =
    ap (λ b. if b then word else w x) {x = bytes_eq x to} {y = false} (not_true (bytes_eq x to) (λ h. other ((bytes_eq-Decides x to).0 h)))

-- a name is no temporary above d
abbrev pub IsBelow : ℕ → Name → Type 0
IsBelow d x = (j : ℕ) → d < j → x ≡ temporary j → ⊥

pub plain_below : (d : ℕ) (x : Name) → IsPlain x → IsBelow d x
plain_below d x plain j less = plain_other x j plain

pub temporary_below : (d j : ℕ) → j ≤ d → IsBelow d (temporary j)
temporary_below d j most i less e = omega (arith, most, less, temporary_once j i e)

-- nothing is set but this name and temporaries above d
abbrev pub Keeps : ℕ → Name → Valuation → Valuation → Type 0
Keeps d to w u = (x : Name) → (x ≡ to → ⊥) → IsBelow d x → u x ≡ w x

-- the value of an expression: its own, or what the name has that it sets
abbrev pub Worth : Name → Expr → Valuation → ℤ → Valuation → Type 0
Worth to (literal z) v word u = word ≡ z
Worth to (variable x) v word u = word ≡ v x
Worth to (operate op left right) v word u = u to ≡ word
Worth to (minus inner) v word u = u to ≡ word
Worth to (ask callee args) v word u = u to ≡ word

-- what stands once an expression is computed at depth d
pub record Computes (d : ℕ) (to : Name) (e : Expr) (v w : Valuation) (word : ℤ) (u : Valuation) : Type 0 where
  pub kept : Keeps d to w u
  pub worth : Worth to e v word u

below_ne : (d : ℕ) (x : Name) → IsBelow d x → x ≡ temporary (d + 1) → ⊥
below_ne d x below = below (d + 1) (omega arith)

module _ (d : ℕ) (e : Expr) (v w : Valuation) (word : ℤ) (u : Valuation) (plain : HasPlainNames e) (agree : Agree v w)
    (c : Computes d (temporary (d + 1)) e v w word u) where
  -- a name that is no temporary above d has its word still
  pub still : (x : Name) → IsBelow d x → u x ≡ w x
  still x below = c.kept x (below_ne d x below) below

  pub agree_still : Agree v u
  agree_still x p = agree x p ∙ sym (still x (plain_below d x p))

pub operand_worth : (d : ℕ) (e : Expr) (v w : Valuation) (word : ℤ) (u : Valuation) → HasPlainNames e → Agree v w → Computes d (temporary (d + 1)) e v w word u → value u (operand d e) ≡ word
operand_worth d (literal z) v w word u plain agree c = sym c.worth
operand_worth d (variable x) v w word u plain agree c = sym (agree_still d (variable x) v w word u plain agree c x plain) ∙ sym c.worth
operand_worth d (operate op left right) v w word u plain agree c = c.worth
operand_worth d (minus inner) v w word u plain agree c = c.worth
operand_worth d (ask callee args) v w word u plain agree c = c.worth

-- what an operand has stays where no name is set but temporaries behind it
pub operand_still : (d : ℕ) (e : Expr) (u z : Valuation) → HasPlainNames e → ((x : Name) → IsBelow (behind d e) x → z x ≡ u x) → value z (operand d e) ≡ value u (operand d e)
operand_still d (literal word) u z plain h = refl
operand_still d (variable x) u z plain h = h x (plain_below d x plain)
operand_still d (operate op left right) u z plain h = h (temporary (d + 1)) (temporary_below (d + 1) (d + 1) (omega arith))
operand_still d (minus inner) u z plain h = h (temporary (d + 1)) (temporary_below (d + 1) (d + 1) (omega arith))
operand_still d (ask callee args) u z plain h = h (temporary (d + 1)) (temporary_below (d + 1) (d + 1) (omega arith))

-- no depth falls
pub behind_above : (d : ℕ) (e : Expr) → d ≤ behind d e
behind_above d (literal word) = omega arith
behind_above d (variable x) = omega arith
behind_above d (operate op left right) = omega arith
behind_above d (minus inner) = omega arith
behind_above d (ask callee args) = omega arith

pub below_above : (d j : ℕ) (x : Name) → d ≤ j → IsBelow d x → IsBelow j x
below_above d j x most below i less = below i (omega (arith, most, less))
