-- The steps of an expression do what lowering it says.
use Rattle.std.proofs.Common.{◌≡◌, ℕ, ◌+◌, pos, Bool, true, Option, Some, None, List, [], ◌∷◌, ◌++◌, length, reverse, take, drop, refl, sym, ◌∙◌, ap, arith, append_assoc, length-append}
use Rattle.std.specs.Prelude.{nat_le, if◌then◌else◌}
use Rattle.std.proofs.lemmas.Bool.{le-leb}
use Rattle.std.proofs.lemmas.List.{reverse-append, reverse-reverse, length-reverse, append-nil}
use Rattle.std.proofs.Math.Seq.{take-append_seam, drop-append_seam}
use Rattle.vmv_tree.specs.declared.name.Name.{Name}
use Rattle.vmv_tree.specs.declared.tree.Op.TheVariants.{Sub}
use Rattle.vmv_tree.specs.declared.tree.Operand.TheVariants as operand
use Rattle.vmv_tree.specs.Tree as core
use Rattle.vmv_tree.specs.Tree.{[], ◌⨾◌}
use Rattle.vmv_surface.specs.Surface.{Expr, literal, variable, operate, minus, ask, Args, no_args, arg}
use Rattle.vmv_surface.specs.Temporaries.{temporary}
use Rattle.vmv_surface.specs.Lower.{◌⧺◌, behind, operand, operands, all_computed, lowered}
use Rattle.vmv_lower.specs.declared.step.Step.{Step}
use Rattle.vmv_lower.specs.declared.step.Step.TheVariants as step
use Rattle.vmv_lower.specs.declared.machine.Held.{Held}
use Rattle.vmv_lower.specs.Steps.{steps_of, args_steps, count}
use Rattle.vmv_lower.specs.Machine.{State, target, produced, first_depth, operands_of, asked_of, asked, and_then, run}

pub blocks-nil : (b : core.Block) → b ⧺ [] ≡ b
blocks-nil [] = refl
blocks-nil (s ⨾ b) = ap (λ c. s ⨾ c) (blocks-nil b)

pub blocks-assoc : (a b c : core.Block) → (a ⧺ b) ⧺ c ≡ a ⧺ (b ⧺ c)
blocks-assoc [] b c = refl
blocks-assoc (s ⨾ a) b c = ap (λ x. s ⨾ x) (blocks-assoc a b c)

-- an expression that was lowered at this depth, held
abbrev pub held_of : ℕ → Expr → Held
held_of d e = record { operand = operand d e; depth = d }

-- behind the steps of an expression, or of arguments

abbrev pub after : Expr → State → State
after e s = record { block = s.block ⧺ lowered s.depth e; depth = behind s.depth e; held = held_of s.depth e ∷ s.held }

abbrev pub after_args : Args → State → State
after_args no_args s = s
after_args (arg first rest) s = after_args rest (after first s)

-- the arguments that are held, in order
abbrev pub helds : ℕ → Args → List Held
helds d no_args = []
helds d (arg first rest) = held_of d first ∷ helds (behind d first) rest

args-held : (args : Args) (s : State) → (after_args args s).held ≡ reverse (helds s.depth args) ++ s.held
args-held no_args s = refl
args-held (arg first rest) s =
    let d = s.depth in
    args-held rest (after first s)
    ∙ (sym (append_assoc (reverse (helds (behind d first) rest)) (held_of d first ∷ []) s.held)
    ∙ ap (λ hs. hs ++ s.held) (sym (reverse-append (held_of d first ∷ []) (helds (behind d first) rest))))

pub args-block : (args : Args) (s : State) → (after_args args s).block ≡ s.block ⧺ all_computed s.depth args
args-block no_args s = sym (blocks-nil s.block)
args-block (arg first rest) s =
    args-block rest (after first s) ∙ blocks-assoc s.block (lowered s.depth first) (all_computed (behind s.depth first) rest)

helds-length : (d : ℕ) (args : Args) → length (helds d args) ≡ count args
helds-length d no_args = refl
helds-length d (arg first rest) = omega (arith, helds-length (behind d first) rest)

helds-operands : (d : ℕ) (args : Args) → operands_of (helds d args) ≡ operands d args
helds-operands d no_args = refl
helds-operands d (arg first rest) = ap (λ os. operand d first ∷ os) (helds-operands (behind d first) rest)

helds-first : (args : Args) (s : State) → first_depth (after_args args s).depth (helds s.depth args) ≡ s.depth
helds-first no_args s = refl
helds-first (arg first rest) s = refl

-- a call takes its arguments

pub asked_for : (to : Option Name) (callee : Name) (args : Args) (s : State) → asked to callee (count args) (after_args args s) ≡ Some (produced (core.call (target to s.depth) callee (operands s.depth args)) s.depth s.held (after_args args s))
asked_for to callee args s =
    let t = after_args args s in
    let hs = helds s.depth args in
    let n = count args in
    let size : length (reverse hs) ≡ n = length-reverse hs ∙ helds-length s.depth args in
    let stack = args-held args s in
    let enough : nat_le n (length t.held) ≡ true = le-leb n (length t.held) (omega (arith, size, ap length stack, length-append (reverse hs) s.held)) in
    let front : take n t.held ≡ reverse hs = ap (take n) stack ∙ (ap (λ (k : ℕ). take k (reverse hs ++ s.held)) (sym size) ∙ take-append_seam (reverse hs) s.held) in
    let back : drop n t.held ≡ s.held = ap (drop n) stack ∙ (ap (λ (k : ℕ). drop k (reverse hs ++ s.held)) (sym size) ∙ drop-append_seam (reverse hs) s.held) in
    let given : reverse (take n t.held) ≡ hs = ap reverse front ∙ reverse-reverse hs in
    ap (λ (b : Bool). if b then Some (asked_of to callee (reverse (take n t.held)) (drop n t.held) t) else None) enough
    ∙ ap Some
    (ap (λ (xs : List Held). asked_of to callee xs (drop n t.held) t) given
    ∙ (ap (λ (xs : List Held). asked_of to callee hs xs t) back
    ∙ (λ i. produced (core.call (target to (helds-first args s i)) callee (helds-operands s.depth args i)) (helds-first args s i) s.held t)))

-- the statement behind both sides
sides-block : (b left right last : core.Block) → ((b ⧺ left) ⧺ right) ⧺ last ≡ b ⧺ (left ⧺ (right ⧺ last))
sides-block b left right last = blocks-assoc (b ⧺ left) right last ∙ blocks-assoc b left (right ⧺ last)

spread : (left right more : List Step) (last : Step) → ((left ++ right) ++ last ∷ []) ++ more ≡ left ++ (right ++ (last ∷ more))
spread left right more last = append_assoc (left ++ right) (last ∷ []) more ∙ append_assoc left right (last ∷ more)

with_block : (s : State) (b : core.Block) → s.block ≡ b → s ≡ record s { block = b }
with_block s b e i = record { block = e i; depth = s.depth; held = s.held }

mutual
  pub runs : (e : Expr) (more : List Step) (s : State) → run (steps_of e ++ more) s ≡ run more (after e s)
  runs (literal word) more s =
      ap (λ (b : core.Block). run more (record { block = b; depth = s.depth; held = held_of s.depth (literal word) ∷ s.held })) (sym (blocks-nil s.block))
  runs (variable name) more s =
      ap (λ (b : core.Block). run more (record { block = b; depth = s.depth; held = held_of s.depth (variable name) ∷ s.held })) (sym (blocks-nil s.block))
  runs (operate op left right) more s =
      let d = s.depth in
      let e = operate op left right in
      let stmt = core.compute (temporary (d + 1)) op (operand d left) (operand (behind d left) right) in
      ap (λ (steps : List Step). run steps s) (spread (steps_of left) (steps_of right) more (step.Operate op))
      ∙ (runs left (steps_of right ++ (step.Operate op ∷ more)) s
      ∙ (runs right (step.Operate op ∷ more) (after left s)
      ∙ ap (λ (b : core.Block). run more (record { block = b; depth = d + 1; held = held_of d e ∷ s.held })) (sides-block s.block (lowered d left) (lowered (behind d left) right) (stmt ⨾ []))))
  runs (minus inner) more s =
      let d = s.depth in
      let stmt = core.compute (temporary (d + 1)) Sub (operand.Lit (pos 0)) (operand d inner) in
      ap (λ (steps : List Step). run steps s) (append_assoc (steps_of inner) (step.Negate ∷ []) more)
      ∙ (runs inner (step.Negate ∷ more) s
      ∙ ap (λ (b : core.Block). run more (record { block = b; depth = d + 1; held = held_of d (minus inner) ∷ s.held })) (blocks-assoc s.block (lowered d inner) (stmt ⨾ [])))
  runs (ask callee args) more s =
      let d = s.depth in
      let stmt = core.call (temporary (d + 1)) callee (operands d args) in
      ap (λ (steps : List Step). run steps s) (append_assoc (args_steps args) (step.Ask callee (count args) ∷ []) more)
      ∙ (args_run args (step.Ask callee (count args) ∷ more) s
      ∙ (ap (and_then (run more)) (asked_for None callee args s)
      ∙ ap (λ (b : core.Block). run more (record { block = b; depth = d + 1; held = held_of d (ask callee args) ∷ s.held })) (ap (λ (b : core.Block). b ⧺ (stmt ⨾ [])) (args-block args s) ∙ blocks-assoc s.block (all_computed d args) (stmt ⨾ []))))

  pub args_run : (args : Args) (more : List Step) (s : State) → run (args_steps args ++ more) s ≡ run more (after_args args s)
  args_run no_args more s = refl
  args_run (arg first rest) more s =
      ap (λ (steps : List Step). run steps s) (append_assoc (steps_of first) (args_steps rest) more)
      ∙ (runs first (args_steps rest ++ more) s ∙ args_run rest more (after first s))

pub run_whole : (e : Expr) (s : State) → run (steps_of e) s ≡ Some (after e s)
run_whole e s = ap (λ (steps : List Step). run steps s) (sym (append-nil (steps_of e))) ∙ runs e [] s
