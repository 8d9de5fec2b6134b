-- What is told of the procedure of a number.
use Rattle.std.proofs.Common.{◌≡◌, ℕ, zero, suc, ◌<◌, length, Bool, true, false, Option, Some, List, [], ◌∷◌, map, slice_get, refl, sym, ap, ◌∙◌, ◌↔◌, IsTrue, arith}
use Rattle.std.proofs.lemmas.Bool.{false≢true}
use Rattle.std.specs.Option.{option_map}
use Rattle.std.proofs.lemmas.Option.{slice_get-map}
use Rattle.vmv_tree.specs.declared.name.Name.{Name}
use Rattle.vmv_tree.specs.declared.tree.Param.{Param}
use Rattle.vmv_tree.specs.Tree.{Item, outside, helper, entry}
use Rattle.vmv_tree.specs.Run.{name_of}
use Rattle.vmv_snapshot.specs.Procs.{procs, is_entry, params_of}
use Rattle.vmv_snapshot.proofs.Links.{map_at}
use Rattle.vmv_witness.specs.Fit.{IsEntry, HasEntry}

-- what a table has for the item of a number
pub told : {A : Type 0} (f : Item → A) (xs : List Item) (n : ℕ) (item : Item) → slice_get xs n ≡ Some item → slice_get (map f xs) n ≡ Some (f item)
told f xs n item e = slice_get-map f xs n ∙ ap (option_map f) e

-- there it has nothing else
pub told_same : {A : Type 0} (f : Item → A) (xs : List Item) (n : ℕ) (item : Item) (y : A) → slice_get xs n ≡ Some item → slice_get (map f xs) n ≡ Some y → y ≡ f item
told_same {A = A} f xs n item y e h = let s : ◌≡◌ {A = Option A} (Some y) (Some (f item)) = sym h ∙ told f xs n item e in cc

entry_of : (program : List Item) (n : ℕ) (name : Name) (item : Item) → slice_get (procs program) n ≡ Some item → is_entry item ≡ true → name_of item ≡ name → HasEntry program name n
entry_of program n name (outside f arity) e h s = absurd (cc)
entry_of program n name (helper f params body) e h s = absurd (cc)
entry_of program n name (entry f params body) e h s = (params, (body, e ∙ ap (λ x. Some (entry x params body)) s))

-- an entry of this name, as the tables tell it
pub entry_known : (program : List Item) (n : ℕ) (name : Name) → slice_get (map is_entry (procs program)) n ≡ Some true → slice_get (map name_of (procs program)) n ≡ Some name → HasEntry program name n
entry_known program n name h s =
    let at = map_at is_entry (procs program) n true h in
    entry_of program n name at.0 at.1 at.2 (sym (told_same name_of (procs program) n at.0 name at.1 s))

-- what the tables tell of an entry of this name
pub entry_flag : (program : List Item) (n : ℕ) (name : Name) (b : Bool) → HasEntry program name n → slice_get (map is_entry (procs program)) n ≡ Some b → b ≡ true
entry_flag program n name b (params, (body, e)) h = told_same is_entry (procs program) n (entry name params body) b e h

pub entry_name : (program : List Item) (n : ℕ) (name x : Name) → HasEntry program name n → slice_get (map name_of (procs program)) n ≡ Some x → x ≡ name
entry_name program n name x (params, (body, e)) h = told_same name_of (procs program) n (entry name params body) x e h

-- a procedure that is an entry has this name exactly where the program has it as such
pub entry_if : (program : List Item) (n : ℕ) (name x : Name) (b same : Bool) → slice_get (map is_entry (procs program)) n ≡ Some b → b ≡ true → slice_get (map name_of (procs program)) n ≡ Some x → IsTrue same ↔ (x ≡ name) → IsTrue same ↔ HasEntry program name n
entry_if program n name x b same h e s q =
    (λ t. entry_known program n name (h ∙ ap (λ (v : Bool). Some v) e) (s ∙ ap (λ (v : Name). Some v) (q.0 t)), λ entry. q.1 (entry_name program n name x entry s))

-- one that isn't is none
pub entry_else : (program : List Item) (n : ℕ) (name : Name) (b : Bool) → slice_get (map is_entry (procs program)) n ≡ Some b → b ≡ false → IsTrue b ↔ HasEntry program name n
entry_else program n name b h e = (λ t. absurd (false≢true (sym e ∙ t)), λ entry. entry_flag program n name b entry h)

-- the parameters that the tables tell are those of the entry
pub entry_params : (program : List Item) (n : ℕ) (name : Name) (params : List Param) → HasEntry program name n → slice_get (map params_of (procs program)) n ≡ Some params → IsEntry program name n params
entry_params program n name params (own, (body, e)) h =
    let same = told_same params_of (procs program) n (entry name own body) params e h in
    (body, e ∙ ap (λ x. Some (entry name x body)) (sym same))

pub item_at : (xs : List Item) (n : ℕ) → n < length xs → (item : Item) × (slice_get xs n ≡ Some item)
item_at [] n h = absurd (omega arith)
item_at (x ∷ xs) zero h = (x, refl)
item_at (x ∷ xs) (suc n) h = item_at xs n (omega arith)
