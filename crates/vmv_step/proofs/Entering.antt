-- What the call that enters a procedure is given.
use Rattle.std.proofs.Common.{◌≡◌, ℕ, ◌+◌, ◌<◌, ◌≤◌, Option, Some, List, length, slice_get, sym, ap, subst, arith}
use Rattle.vmv_tree.specs.declared.tree.Item.{Item as CodeItem}
use Rattle.vmv_tree.specs.Tree.{Item}
use Rattle.vmv_tree.specs.View.{items_of}
use Rattle.vmv_snapshot.specs.declared.code.Code.{Code}
use Rattle.vmv_snapshot.specs.View.{code_of}
use Rattle.vmv_snapshot.specs.Procs.{procs, params_of}
use Rattle.vmv_snapshot.specs.Resolves.{IsCode}
use Rattle.vmv_snapshot.specs.Resolution.{Resolution, tree_of, procs_of, IsResolution}
use Rattle.vmv_zone.specs.declared.zone.Zone.{Zone}
use Rattle.vmv_step.specs.Enter.{declared_count, IsEntered}
use Rattle.vmv_step.proofs.Procedures.{has_room, item_at}

-- what the number of declared names is, and what that of the input's variables is
pub record IsCounted (s : Resolution) (n : ℕ) (declared vars : ℕ) : Type 0 where
  pub declared_is : (item : Item) → slice_get (procs_of s) n ≡ Some item → declared ≡ declared_count item
  pub vars_is : (item : Item) → slice_get (procs_of s) n ≡ Some item → vars ≡ length (params_of item)

pub counted : (s : Resolution) (n : ℕ) (items : List CodeItem) (declared vars : ℕ) → items ≡ s.program.items → ((item : Item) → slice_get (procs (items_of items)) n ≡ Some item → declared ≡ declared_count item) →
    ((item : Item) → slice_get (procs_of s) n ≡ Some item → vars ≡ length (params_of item)) → IsCounted s n declared vars
counted s n items declared vars e d v = record {
  declared_is = λ item at. d item (subst (λ (xs : List CodeItem). slice_get (procs (items_of xs)) n ≡ Some item) (sym e) at);
  vars_is = v;
}

pub enough : (s : Resolution) (n : ℕ) (code : Code) (declared vars : ℕ) → IsResolution s → IsCode (tree_of s) n (code_of code) → n < length (procs_of s) → IsCounted s n declared vars → (code.vars ≤ 16) × (vars + declared ≤ code.vars)
enough s n code declared vars is resolved within count =
    let at = item_at (procs_of s) n within in
    let room = has_room (tree_of s) n (code_of code) at.0 is.valid resolved at.1 in
    let d = count.declared_is at.0 at.1 in
    let v = count.vars_is at.0 at.1 in
    let r = room.room in
    (room.few, omega arith)

one_of : {X : Type 0} {x y : X} (o : Option X) → o ≡ Some x → o ≡ Some y → x ≡ y
one_of o e e' = cc

pub entered_is : (s : Resolution) (n : ℕ) (code other : Code) (item : Item) (declared vars : ℕ) (input r : Zone) → IsCounted s n declared vars → slice_get s.codes n ≡ Some code → slice_get (procs_of s) n ≡ Some item → slice_get s.codes n ≡ Some other →
    IsEntered input vars declared code.vars r → IsEntered input (length (params_of item)) (declared_count item) other.vars r
entered_is s n code other item declared vars input r count kept at there is =
    let same : code.vars ≡ other.vars = ap (λ (x : Code). x.vars) (one_of (slice_get s.codes n) kept there) in
    rw (sym (count.declared_is item at), sym (count.vars_is item at), sym same) is
