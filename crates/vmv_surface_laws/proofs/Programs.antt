-- A surface program has the runs of the program that it is lowered to.
use Rattle.std.proofs.Common.{◌≡◌, inl, inr, ℕ, zero, suc, ◌+◌, ℤ, pos, Bool, true, false, MatchBool, List, [], ◌∷◌, ◌++◌, map, reverse, refl, sym, ap, subst, ◌∙◌}
use Rattle.std.specs.Bool.{⊤}
use Rattle.std.specs.Prelude.{int_lt}
use Rattle.std.specs.Str.{bytes_eq}
use Rattle.std.proofs.lemmas.List.{reverse-append}
use Rattle.vmv_tree.specs.declared.name.Name.{Name}
use Rattle.vmv_tree.specs.Tree as core
use Rattle.vmv_tree.specs.Tree.{Stmt, copy, compute, call, assert, choose, repeat, Block, [], ◌⨾◌}
use Rattle.vmv_tree.specs.Run.{Valuation, Answers, End, End.fail as stopped, Ends, holds, value, turns_of, Outcome, Does, InARow, Turns, Calls, Runs, RunsAll, RunsBody, RunsItem, RunsAbove, Run, assign, sites, block_sites}
use Rattle.vmv_surface.specs.Surface.{Item, outside, helper, entry, BodyHasPlainNames, ProgramHasPlainNames}
use Rattle.vmv_surface.specs.Runs.{SRunsItem, SRunsAbove, SRun, name_of}
use Rattle.vmv_surface.specs.Lower.{lower_body, lower_item, Lower}
use Rattle.vmv_surface_laws.proofs.Bodies.{body_to, body_from}

-- what calls of the one may do, calls of the other may
abbrev Within : Calls → Calls → Type 0
Within one other = (name : Name) (words : List ℤ) (a : Answers) (o : Outcome) → one name words a o → other name words a o

both_parts : (b : Bool) (P Q R S : Type 0) → (P → R) → (Q → S) → MatchBool b P Q → MatchBool b R S
both_parts true P Q R S f g h = f h
both_parts false P Q R S f g h = g h

rows_within : (one two first second : Does) (v : Valuation) → ((w : Valuation) (a : Answers) (e : End) → one w a e → first w a e) → ((w : Valuation) (a : Answers) (e : End) → two w a e → second w a e)
    → (a : Answers) (e : End) → InARow one two v a e → InARow first second v a e
rows_within one two first second v f g a e (inl (h, n)) = inl (f v a e h, n)
rows_within one two first second v f g a e (inr (w, u, m, h, k, is)) = inr (w, u, m, f v u _ h, g w m e k, is)

turns_within : (index : Name) (one other : Does) (n i : ℕ) → ((w : Valuation) (a : Answers) (e : End) → one w a e → other w a e) → (v : Valuation) (a : Answers) (e : End) → Turns index one n i v a e → Turns index other n i v a e
turns_within index one other zero i f v a e h = h
turns_within index one other (suc n) i f v a e h =
    rows_within (λ w. one (assign w index (pos i))) (Turns index one n (i + 1)) (λ w. other (assign w index (pos i))) (Turns index other n (i + 1)) v
    (λ w. f (assign w index (pos i))) (turns_within index one other n (i + 1) f) a e h

module _ (one other : Calls) (within : Within one other) (proc : Name) where
  mutual
    runs_within : (k : ℕ) (s : Stmt) (v : Valuation) (a : Answers) (e : End) → Runs one proc k s v a e → Runs other proc k s v a e
    runs_within k (copy to from) v a e h = h
    runs_within k (compute to op left right) v a e h = h
    runs_within k (call to callee args) v a e (o, h, is) = (o, within callee _ a o h, is)
    runs_within k (assert test) v a e h = h
    runs_within k (choose test first second) v a e h =
        both_parts (holds v test) (RunsAll one proc k first v a e) (RunsAll one proc (k + block_sites first) second v a e) (RunsAll other proc k first v a e) (RunsAll other proc (k + block_sites first) second v a e)
        (all_within k first v a e) (all_within (k + block_sites first) second v a e) h
    runs_within k (repeat index bound most body) v a e h =
        let n : ℕ = turns_of (value v bound) in
        let too_many = Ends a e (stopped (record { proc = proc; number = k + 1 })) in
        both_parts (int_lt most (value v bound)) too_many (Turns index (RunsAll one proc (k + 1) body) n 0 v a e) too_many (Turns index (RunsAll other proc (k + 1) body) n 0 v a e)
        (λ x. x) (turns_within index (RunsAll one proc (k + 1) body) (RunsAll other proc (k + 1) body) n 0 (all_within (k + 1) body) v a e) h

    all_within : (k : ℕ) (b : Block) (v : Valuation) (a : Answers) (e : End) → RunsAll one proc k b v a e → RunsAll other proc k b v a e
    all_within k [] v a e h = h
    all_within k (s ⨾ rest) v a e h =
        rows_within (Runs one proc k s) (RunsAll one proc (k + sites s) rest) (Runs other proc k s) (RunsAll other proc (k + sites s) rest) v (runs_within k s) (all_within (k + sites s) rest) a e h

  body_within : (params : List Name) (body : core.Body) (words : List ℤ) (a : Answers) (o : Outcome) → RunsBody one proc params body words a o → RunsBody other proc params body words a o
  body_within params body words a o (e, h, is) = (e, all_within 0 body.block _ a e h, is)

-- the item has plain names
abbrev ItemHasPlainNames : Item → Type 0
ItemHasPlainNames (outside name arity) = ⊤
ItemHasPlainNames (helper name params body) = BodyHasPlainNames body
ItemHasPlainNames (entry name params body) = BodyHasPlainNames body

abbrev AllPlain : List Item → Type 0
AllPlain [] = ⊤
AllPlain (item ∷ items) = ItemHasPlainNames item × AllPlain items

item_to : (calls lowered : Calls) → Within calls lowered → (item : Item) → ItemHasPlainNames item → (words : List ℤ) (a : Answers) (o : Outcome) → SRunsItem calls item words a o → RunsItem lowered (lower_item item) words a o
item_to calls lowered f (outside name arity) plain words a o h = h
item_to calls lowered f (helper name params body) plain words a o h = body_within calls lowered f name params (lower_body body) words a o (body_to calls name params body words plain a o h)
item_to calls lowered f (entry name params body) plain words a o h = body_within calls lowered f name _ (lower_body body) words a o (body_to calls name _ body words plain a o h)

item_from : (calls lowered : Calls) → Within lowered calls → (item : Item) → ItemHasPlainNames item → (words : List ℤ) (a : Answers) (o : Outcome) → RunsItem lowered (lower_item item) words a o → SRunsItem calls item words a o
item_from calls lowered f (outside name arity) plain words a o h = h
item_from calls lowered f (helper name params body) plain words a o h = body_from calls name params body words plain a o (body_within lowered calls f name params (lower_body body) words a o h)
item_from calls lowered f (entry name params body) plain words a o h = body_from calls name _ body words plain a o (body_within lowered calls f name _ (lower_body body) words a o h)

same_name : (item : Item) → Rattle.vmv_tree.specs.Run.name_of (lower_item item) ≡ name_of item
same_name (outside name arity) = refl
same_name (helper name params body) = refl
same_name (entry name params body) = refl

above_to : (items : List Item) → AllPlain items → Within (SRunsAbove items) (RunsAbove (map lower_item items))
above_to [] plain name words a o h = h
above_to (item ∷ items) plain name words a o h =
    let calls = SRunsAbove items in
    let lowered = RunsAbove (map lower_item items) in
    subst (λ x. MatchBool (bytes_eq x name) (RunsItem lowered (lower_item item) words a o) (lowered name words a o)) (sym (same_name item))
    (both_parts (bytes_eq (name_of item) name) (SRunsItem calls item words a o) (calls name words a o) (RunsItem lowered (lower_item item) words a o) (lowered name words a o)
    (item_to calls lowered (above_to items plain.1) item plain.0 words a o) (above_to items plain.1 name words a o) h)

above_from : (items : List Item) → AllPlain items → Within (RunsAbove (map lower_item items)) (SRunsAbove items)
above_from [] plain name words a o h = h
above_from (item ∷ items) plain name words a o h =
    let calls = SRunsAbove items in
    let lowered = RunsAbove (map lower_item items) in
    both_parts (bytes_eq (name_of item) name) (RunsItem lowered (lower_item item) words a o) (lowered name words a o) (SRunsItem calls item words a o) (calls name words a o)
    (item_from calls lowered (above_from items plain.1) item plain.0 words a o) (above_from items plain.1 name words a o)
    (subst (λ x. MatchBool (bytes_eq x name) (RunsItem lowered (lower_item item) words a o) (lowered name words a o)) (same_name item) h)

each_plain : (items : List Item) → ProgramHasPlainNames items → AllPlain items
each_plain [] h = tt
each_plain (outside name arity ∷ items) h = (tt, each_plain items h)
each_plain (helper name params body ∷ items) h = (h.0, each_plain items h.1)
each_plain (entry name params body ∷ items) h = (h.0, each_plain items h.1)

joined_plain : (items more : List Item) → AllPlain items → AllPlain more → AllPlain (items ++ more)
joined_plain [] more h k = k
joined_plain (item ∷ items) more h k = (h.0, joined_plain items more h.1 k)

reverse_next : (item : Item) (items : List Item) → reverse (item ∷ items) ≡ reverse items ++ item ∷ []
reverse_next item items = reverse-append (item ∷ []) items

reversed_plain : (items : List Item) → AllPlain items → AllPlain (reverse items)
reversed_plain [] h = tt
reversed_plain (item ∷ items) h = subst AllPlain (sym (reverse_next item items)) (joined_plain (reverse items) (item ∷ []) (reversed_plain items h.1) (h.0, tt))

map_joined : (items more : List Item) → map lower_item (items ++ more) ≡ map lower_item items ++ map lower_item more
map_joined [] more = refl
map_joined (item ∷ items) more = ap (λ rest. lower_item item ∷ rest) (map_joined items more)

core_next : (item : core.Item) (items : List core.Item) → reverse (item ∷ items) ≡ reverse items ++ item ∷ []
core_next item items = reverse-append (item ∷ []) items

map_reversed : (items : List Item) → map lower_item (reverse items) ≡ reverse (map lower_item items)
map_reversed [] = refl
map_reversed (item ∷ items) =
    ap (map lower_item) (reverse_next item items) ∙ (map_joined (reverse items) (item ∷ []) ∙ (ap (λ rest. rest ++ lower_item item ∷ []) (map_reversed items) ∙ sym (core_next (lower_item item) (map lower_item items))))

pub run_to : (program : List Item) (proc : Name) (words : List ℤ) (a : Answers) (o : Outcome) → ProgramHasPlainNames program → SRun program proc words a o → Run (Lower program) proc words a o
run_to program proc words a o plain h =
    subst (λ items. RunsAbove items proc words a o) (map_reversed program) (above_to (reverse program) (reversed_plain program (each_plain program plain)) proc words a o h)

pub run_from : (program : List Item) (proc : Name) (words : List ℤ) (a : Answers) (o : Outcome) → ProgramHasPlainNames program → Run (Lower program) proc words a o → SRun program proc words a o
run_from program proc words a o plain h =
    above_from (reverse program) (reversed_plain program (each_plain program plain)) proc words a o (subst (λ items. RunsAbove items proc words a o) (sym (map_reversed program)) h)
