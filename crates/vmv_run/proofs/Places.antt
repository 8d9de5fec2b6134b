-- What is known of a procedure of a valid program and its code, so that it can be walked over.
use Rattle.std.proofs.Common.{◌≡◌, ◌⊎◌, inl, inr, ℕ, zero, suc, ◌+◌, ◌*◌, ◌<◌, ◌≤◌, ℤ, pos, Bool, true, false, MatchBool, Some, List, [], ◌∷◌, ◌++◌, length, map, reverse, take, drop, slice_get, refl, sym, ap, subst, arith, ◌∙◌, append_assoc, append-nil, length-append}
use Rattle.std.specs.Bool.{⊤}
use Rattle.std.specs.List.{Contains}
use Rattle.std.specs.Str.{bytes_eq}
use Rattle.std.specs.Option.{option_map}
use Rattle.std.proofs.lemmas.Option.{slice_get-map}
use Rattle.std.proofs.lemmas.List.{length-map}
use Rattle.std.proofs.lemmas.Slice.Eq.{bytes_eq-Decides}
use Rattle.vmv_tree.specs.declared.name.Name.{Name}
use Rattle.vmv_tree.specs.declared.tree.Param.{Param}
use Rattle.vmv_tree.specs.Words.{IsWord}
use Rattle.vmv_tree.specs.Tree.{Stmt, copy, compute, call, assert, choose, repeat, Block, [], ◌⨾◌, Body, Item, outside, helper, entry}
use Rattle.vmv_tree.specs.Run.{Valuation, Answers, End, next, Outcome, done, Does, Ends, InARow, Turns, Calls, Runs, RunsAll, RunsBody, RunsItem, RunsAbove, Run, value, assign, holds, sites, block_sites, turns_of, start, name_of}
use Rattle.vmv_tree.specs.Limits.{variables, block_indexes}
use Rattle.vmv_tree.specs.Mentions.{item_mentions}
use Rattle.vmv_tree.specs.Valid.{InBody, Valid}
use Rattle.vmv_snapshot.specs.Code.{Body as CodeBody}
use Rattle.vmv_snapshot.specs.Procs.{procs, outsides, helper_name, params_of, any_word}
use Rattle.vmv_snapshot.specs.Resolves.{slot_names, loop_names, scope_of, ResolvesBody, ResolvesItem, IsCode}
use Rattle.vmv_snapshot.proofs.Named.{named, named-append, named-some, named-loops}
use Rattle.vmv_snapshot.proofs.Lookups.{contains_at}
use Rattle.vmv_snapshot.proofs.Distinct.{AreFresh, fresh_row, names_fresh, params_fresh, block_fresh, AreOnePlace, fresh_one_place}
use Rattle.vmv_snapshot.proofs.Build.{procs-append}
use Rattle.vmv_snapshot.proofs.Ready.{behind}
use Rattle.vmv_snapshot.proofs.Links.{map_at}
use Rattle.vmv_run.specs.Replay.{IsProcName}
use Rattle.vmv_run.specs.Walk.{CanRun, Place}
use Rattle.vmv_run.proofs.Callees.{Callees, BlockCallees, ItemCallees, Declares}
use Rattle.vmv_run.proofs.RunExists.{some_run}
use Rattle.vmv_run.proofs.OneRun.{around}
use Rattle.vmv_run.proofs.Resolved.{onto, onto-append, onto-reverse, IsAmong, Clean, Above, Split, split, item_resolved, item_alone, none_below}

-- the names of the slots, in a row
slots_named : (params : List Name) (body : Body) → named (slot_names params body) ≡ (params ++ body.vars) ++ block_indexes body.block
slots_named params body =
    named-append (map (λ x. Some x) (params ++ body.vars)) (loop_names (block_indexes body.block))
    ∙ (λ i. named-some (params ++ body.vars) i ++ named-loops (block_indexes body.block) i)

-- no two slots have one name
pub slots_once : (above : List Item) (k : ℕ) (params : List Name) (body : Body) → AreFresh [] params → Clean (InBody above k params body) → AreOnePlace (slot_names params body)
slots_once above k params body fresh clean =
    let seen : List Name = params ++ body.vars in
    let vars_fresh : AreFresh params body.vars = names_fresh k params body.vars (λ m d h. clean m d (inl h)) in
    let names_once : AreFresh [] seen = fresh_row [] params body.vars fresh vars_fresh in
    let block_once : AreFresh seen (block_indexes body.block) =
    block_fresh (record { above = above; visible = seen; indexes = []; declared = seen }) (k + length body.vars) body.block (λ m d h. clean m d (inr (inl h))) in
    fresh_one_place [] (slot_names params body) (rw (slots_named params body) (fresh_row [] seen (block_indexes body.block) names_once block_once))

length-loops : (indexes : List Name) → length (loop_names indexes) ≡ 2 * length indexes
length-loops [] = refl
length-loops (x ∷ xs) = let h = length-loops xs in omega arith

pub slots_few : (params : List Name) (body : Body) → variables params body ≤ 16 → length (slot_names params body) ≤ 17
slots_few params body few =
    let a = length-append (map (λ (x : Name). Some x) (params ++ body.vars)) (loop_names (block_indexes body.block)) in
    let b : length (map (λ (x : Name). Some x) (params ++ body.vars)) ≡ length (params ++ body.vars) = length-map (params ++ body.vars) (λ (x : Name). Some x) in
    let c = length-append params body.vars in
    let d = length-loops (block_indexes body.block) in
    omega arith

few_of : (n m : ℕ) → (m < n → ⊥) → n ≤ m
few_of n m h = grind arith

put_in : (b : Bool) (P Q : Type 0) → b ≡ true → P → MatchBool b P Q
put_in true P Q e p = p
put_in false P Q e p = absurd (cc)

put_past : (b : Bool) (P Q : Type 0) → b ≡ false → Q → MatchBool b P Q
put_past true P Q e q = absurd (cc)
put_past false P Q e q = q

taken_past : (b : Bool) (P Q : Type 0) → b ≡ false → MatchBool b P Q → Q
taken_past true P Q e h = absurd (cc)
taken_past false P Q e h = h

not_same : (x y : Name) → (x ≡ y → ⊥) → bytes_eq x y ≡ false
not_same x y other = no (bytes_eq x y) (λ h. other ((bytes_eq-Decides x y).0 h))
  where
    no : (b : Bool) → (b ≡ true → ⊥) → b ≡ false
    no true h = absurd (h refl)
    no false h = refl

-- past items of other names, a name means the same
past_others : (back stack : List Item) (name : Name) (words : List ℤ) (a : Answers) (d : Outcome) → (IsAmong back name → ⊥) → RunsAbove stack name words a d → RunsAbove (onto back stack) name words a d
past_others [] stack name words a d none run = run
past_others (item ∷ back) stack name words a d none run =
    past_others back (item ∷ stack) name words a d (λ h. none (inr h))
    (put_past (bytes_eq (name_of item) name) (RunsItem (RunsAbove stack) item words a d) (RunsAbove stack name words a d) (not_same (name_of item) name (λ e. none (inl e))) run)

back_past_others : (back stack : List Item) (name : Name) (words : List ℤ) (a : Answers) (d : Outcome) → (IsAmong back name → ⊥) → RunsAbove (onto back stack) name words a d → RunsAbove stack name words a d
back_past_others [] stack name words a d none run = run
back_past_others (item ∷ back) stack name words a d none run =
    taken_past (bytes_eq (name_of item) name) (RunsItem (RunsAbove stack) item words a d) (RunsAbove stack name words a d) (not_same (name_of item) name (λ e. none (inl e)))
    (back_past_others back (item ∷ stack) name words a d (λ h. none (inr h)) run)

stack_is : (program front : List Item) (item : Item) (back : List Item) → program ≡ front ++ item ∷ back → reverse program ≡ onto back (item ∷ onto front [])
stack_is program front item back is =
    ap reverse is ∙ (sym (append-nil (reverse (front ++ item ∷ back))) ∙ (sym (onto-reverse (front ++ item ∷ back) []) ∙ onto-append front (item ∷ back) []))

-- what the name of an item of a valid program means
record Meaning (program front : List Item) (item : Item) : Type 0 where
  own : (words : List ℤ) (a : Answers) (d : Outcome) → RunsItem (RunsAbove (onto front [])) item words a d → Run program (name_of item) words a d
  above : (f : Name) (words : List ℤ) (a : Answers) (d : Outcome) → IsAmong (onto front []) f → Run program f words a d → RunsAbove (onto front []) f words a d
  callees : ItemCallees (Declares (onto front [])) item
  can : CanRun program (name_of item)

zero_fits : (f : Name) → IsWord (pos 0)
zero_fits f = refl

meaning : (program front : List Item) (item : Item) (back : List Item) → Valid program → program ≡ front ++ item ∷ back → Meaning program front item
meaning program front item back valid is =
    let s = split program front item back valid is in
    let above : List Item = onto front [] in
    let stack = stack_is program front item back is in
    let callees : ItemCallees (Declares above) item = item_resolved program above s.place item s.above.distinct s.clean in
    let alone : IsAmong above (name_of item) → ⊥ = item_alone program above s.place item s.clean in
    let up : Above program (item ∷ above) = record { resolved = (callees, s.above.resolved); distinct = (alone, s.above.distinct) } in
    let none_behind = λ (f : Name) (h : IsAmong (item ∷ above) f). none_below program (item ∷ above) (s.place + item_mentions item) back f up s.rest h in
    let to_own = λ (words : List ℤ) (a : Answers) (d : Outcome) (run : RunsItem (RunsAbove above) item words a d).
    subst (λ (items : List Item). RunsAbove items (name_of item) words a d) (sym stack) (past_others back (item ∷ above) (name_of item) words a d (none_behind (name_of item) (inl refl))
    (put_in (bytes_eq (name_of item) (name_of item)) (RunsItem (RunsAbove above) item words a d) (RunsAbove above (name_of item) words a d) ((bytes_eq-Decides (name_of item) (name_of item)).1 refl) run)) in
    record {
      own = to_own;
      above = λ f words a d h run. taken_past (bytes_eq (name_of item) f) (RunsItem (RunsAbove above) item words a d) (RunsAbove above f words a d)
          (not_same (name_of item) f (λ e. alone (subst (IsAmong above) (sym e) h)))
          (back_past_others back (item ∷ above) f words a d (none_behind f (inr h)) (subst (λ (items : List Item). RunsAbove items f words a d) stack run));
      callees = callees;
      can = λ words.
          let r = some_run (λ f. pos 0) zero_fits item above callees s.above.resolved words in
          (r.0, r.1, to_own words r.0 r.1 r.2, r.3);
    }

here_or_above : (b : Bool) (g f : Name) (above : List Item) (P : Type 0) → bytes_eq g f ≡ b → (Declares above f → IsAmong above f) → MatchBool b P (Declares above f) → (g ≡ f) ⊎ IsAmong above f
here_or_above true g f above P e further h = inl ((bytes_eq-Decides g f).0 e)
here_or_above false g f above P e further h = inr (further h)

declared_among : (above : List Item) (f : Name) → Declares above f → IsAmong above f
declared_among [] f d = absurd d
declared_among (outside g arity ∷ above) f d = here_or_above (bytes_eq g f) g f above ⊤ refl (declared_among above f) d
declared_among (helper g params body ∷ above) f d = here_or_above (bytes_eq g f) g f above ⊤ refl (declared_among above f) d
declared_among (entry g params body ∷ above) f d = here_or_above (bytes_eq g f) g f above ⊥ refl (declared_among above f) d

-- what calls of one meaning may do, those of another may
abbrev Within : Does → Does → Type 0
Within does other = (v : Valuation) (a : Answers) (e : End) → does v a e → other v a e

row_within : (first second one other : Does) → Within first one → Within second other → Within (InARow first second) (InARow one other)
row_within first second one other f g v a e (inl h) = inl (f v a e h.0, h.1)
row_within first second one other f g v a e (inr (mid, used, more, h, k, p)) = inr (mid, used, more, f v used (next mid) h, g mid more e k, p)

turns_within : (index : Name) (body other : Does) (n i : ℕ) → Within body other → Within (Turns index body n i) (Turns index other n i)
turns_within index body other zero i f v a e h = h
turns_within index body other (suc n) i f v a e h =
    row_within (λ w. body (assign w index (pos i))) (Turns index body n (i + 1)) (λ w. other (assign w index (pos i))) (Turns index other n (i + 1)) (λ w. f (assign w index (pos i))) (turns_within index body other n (i + 1) f) v a e h

either_within : (b : Bool) (P Q R S : Type 0) → (P → R) → (Q → S) → MatchBool b P Q → MatchBool b R S
either_within true P Q R S f g h = f h
either_within false P Q R S f g h = g h

module _ (calls other : Calls) (proc : Name) (ok : Name → Type 0) (same : (f : Name) (words : List ℤ) (a : Answers) (d : Outcome) → ok f → calls f words a d → other f words a d) where
  mutual
    stmt_within : (k : ℕ) (s : Stmt) → Callees ok s → Within (Runs calls proc k s) (Runs other proc k s)
    stmt_within k (copy to from) c v a e h = h
    stmt_within k (compute to op left right) c v a e h = h
    stmt_within k (call to callee args) c v a e h = (h.0, same callee (map (value v) args) a h.0 c h.1, h.2)
    stmt_within k (assert test) c v a e h = h
    stmt_within k (choose test first second) c v a e h =
        either_within (holds v test) (RunsAll calls proc k first v a e) (RunsAll calls proc (k + block_sites first) second v a e) (RunsAll other proc k first v a e)
        (RunsAll other proc (k + block_sites first) second v a e) (block_within k first c.0 v a e) (block_within (k + block_sites first) second c.1 v a e) h
    stmt_within k (repeat index bound most body) c v a e h =
        either_within _ (Ends a e _) (Turns index (RunsAll calls proc (k + 1) body) (turns_of (value v bound)) 0 v a e) (Ends a e _) (Turns index (RunsAll other proc (k + 1) body) (turns_of (value v bound)) 0 v a e)
        (λ p. p) (turns_within index (RunsAll calls proc (k + 1) body) (RunsAll other proc (k + 1) body) (turns_of (value v bound)) 0 (block_within (k + 1) body c) v a e) h

    block_within : (k : ℕ) (b : Block) → BlockCallees ok b → Within (RunsAll calls proc k b) (RunsAll other proc k b)
    block_within k [] c v a e h = h
    block_within k (s ⨾ rest) c v a e h =
        row_within (Runs calls proc k s) (RunsAll calls proc (k + sites s) rest) (Runs other proc k s) (RunsAll other proc (k + sites s) rest) (stmt_within k s c.0) (block_within (k + sites s) rest c.1) v a e h

-- a procedure of a program, with what its code is resolved in
pub record Known (program : List Item) (proc : ℕ) (code : CodeBody) : Type 0 where
  pub place : Place program proc
  pub params : List Name
  pub body : Body
  pub slots : place.scope.slots ≡ slot_names params body
  pub resolves : ResolvesBody place.scope body code
  pub count : (ps : List Param) → slice_get (map params_of (procs program)) proc ≡ Some ps → length ps ≡ length params
  pub runs : (words : List ℤ) (a : Answers) (d : Outcome) → RunsBody (Run program) place.name params body words a d → Run program place.name words a d

some_same : {X : Type 0} {x y : X} → Some x ≡ Some y → x ≡ y
some_same e = cc

before_more : {X : Type 0} (xs ys : List X) (n : ℕ) (x : X) → slice_get xs n ≡ Some x → slice_get (xs ++ ys) n ≡ Some x
before_more [] ys n x e = absurd (cc)
before_more (y ∷ xs) ys zero x e = e
before_more (y ∷ xs) ys (suc n) x e = before_more xs ys n x e

-- a list of items around an outside item of this name
outside_at : (items : List Item) (i : ℕ) (f : Name) → slice_get (outsides items) i ≡ Some f → (front : List Item) × (arity : ℤ) × (back : List Item) × (items ≡ front ++ outside f arity ∷ back)
outside_at [] i f e = absurd (cc)
outside_at (outside g arity ∷ items) zero f e = ([], arity, items, ap (λ x. outside x arity ∷ items) (some_same e))
outside_at (outside g arity ∷ items) (suc i) f e = let t = outside_at items i f e in (outside g arity ∷ t.0, t.1, t.2, ap (λ x. outside g arity ∷ x) t.3)
outside_at (helper g params body ∷ items) i f e = let t = outside_at items i f e in (helper g params body ∷ t.0, t.1, t.2, ap (λ x. helper g params body ∷ x) t.3)
outside_at (entry g params body ∷ items) i f e = let t = outside_at items i f e in (entry g params body ∷ t.0, t.1, t.2, ap (λ x. entry g params body ∷ x) t.3)

-- around a procedure
proc_at : (items : List Item) (i : ℕ) (item : Item) → slice_get (procs items) i ≡ Some item → (front : List Item) × (back : List Item) × (items ≡ front ++ item ∷ back)
proc_at [] i item e = absurd (cc)
proc_at (outside g arity ∷ items) i item e = let t = proc_at items i item e in (outside g arity ∷ t.0, t.1, ap (λ x. outside g arity ∷ x) t.2)
proc_at (helper g params body ∷ items) zero item e = ([], items, ap (λ x. x ∷ items) (some_same e))
proc_at (helper g params body ∷ items) (suc i) item e = let t = proc_at items i item e in (helper g params body ∷ t.0, t.1, ap (λ x. helper g params body ∷ x) t.2)
proc_at (entry g params body ∷ items) zero item e = ([], items, ap (λ x. x ∷ items) (some_same e))
proc_at (entry g params body ∷ items) (suc i) item e = let t = proc_at items i item e in (entry g params body ∷ t.0, t.1, ap (λ x. entry g params body ∷ x) t.2)

named_helper : (item : Item) (name : Name) → helper_name item ≡ Some name → name_of item ≡ name
named_helper (outside f arity) name e = absurd (cc)
named_helper (helper f params body) name e = cc
named_helper (entry f params body) name e = absurd (cc)

-- an outside name may answer any word
asks_of : (program before : List Item) (item : Item) (after : List Item) → Valid program → program ≡ before ++ item ∷ after → (f : Name) → Contains (outsides before) f → (words : List ℤ) (w : ℤ) → IsWord w →
    Run program f words ((f, w) ∷ []) (done w)
asks_of program before item after valid parts f there words w fits =
    let at = contains_at (outsides before) f there in
    let t = outside_at before at.0 f at.1 in
    let is : program ≡ t.0 ++ outside f t.1 ∷ (t.2 ++ item ∷ after) = parts ∙ (ap (λ (x : List Item). x ++ item ∷ after) t.3 ∙ append_assoc t.0 (outside f t.1 ∷ t.2) (item ∷ after)) in
    (meaning program t.0 (outside f t.1) (t.2 ++ item ∷ after) valid is).own words ((f, w) ∷ []) (done w) (w, fits, refl, refl)

-- a helper before has its name in the program, and can be run
helps_of : (program before : List Item) (item : Item) (after : List Item) → Valid program → program ≡ before ++ item ∷ after → (f : Name) (n : ℕ) → slice_get (map helper_name (procs before)) n ≡ Some (Some f) →
    IsProcName program n f × CanRun program f
helps_of program before item after valid parts f n there =
    let at = map_at helper_name (procs before) n (Some f) there in
    let own : name_of at.0 ≡ f = named_helper at.0 f at.2 in
    let all : procs program ≡ procs before ++ procs (item ∷ after) = ap procs parts ∙ procs-append before (item ∷ after) in
    let here : slice_get (procs program) n ≡ Some at.0 = ap (λ (xs : List Item). slice_get xs n) all ∙ before_more (procs before) (procs (item ∷ after)) n at.0 at.1 in
    let t = proc_at program n at.0 here in (
      slice_get-map name_of (procs program) n ∙ (ap (option_map name_of) here ∙ ap (λ (x : Name). Some x) own),
      subst (CanRun program) own (meaning program t.0 at.0 t.1 valid t.2).can,
    )

known_of : (program before : List Item) (item : Item) (after : List Item) (proc : ℕ) (code : CodeBody) (params : List Name) (body : Body) → Valid program → program ≡ before ++ item ∷ after →
    length (procs before) ≡ proc → procs (item ∷ after) ≡ item ∷ procs after → AreFresh [] params → variables params body ≤ 16 → (k : ℕ) → Clean (InBody (onto before []) k params body) →
    BlockCallees (Declares (onto before [])) body.block → length (params_of item) ≡ length params →
    ((words : List ℤ) (a : Answers) (d : Outcome) → RunsBody (RunsAbove (onto before [])) (name_of item) params body words a d → RunsItem (RunsAbove (onto before [])) item words a d) →
    ResolvesBody (scope_of before params body) body code → Known program proc code
known_of program before item after proc code params body valid parts place is_proc fresh few k clean callees count as_item resolves =
    let m = meaning program before item after valid parts in
    let all : procs program ≡ procs before ++ item ∷ procs after = ap procs parts ∙ (procs-append before (item ∷ after) ∙ ap (λ (xs : List Item). procs before ++ xs) is_proc) in
    let here : slice_get (procs program) proc ≡ Some item = ap (λ (xs : List Item). slice_get xs proc) all ∙ behind (procs before) (item ∷ procs after) 0 proc (omega arith) in
    record {
      place = record {
        name = name_of item;
        scope = scope_of before params body;
        few = slots_few params body few;
        valid = valid;
        own = slice_get-map name_of (procs program) proc ∙ ap (option_map name_of) here;
        once = slots_once (onto before []) k params body fresh clean;
        helps = λ f n h. helps_of program before item after valid parts f n.0 h;
        asks = asks_of program before item after valid parts;
      };
      params = params;
      body = body;
      slots = refl;
      resolves = resolves;
      count = λ ps at. ap length (some_same (sym at ∙ (slice_get-map params_of (procs program) proc ∙ ap (option_map params_of) here))) ∙ count;
      runs = λ words a d run. m.own words a d (as_item words a d (
        run.0,
        block_within (Run program) (RunsAbove (onto before [])) (name_of item) (Declares (onto before []))
            (λ f ws b o declared h. m.above f ws b o (declared_among (onto before []) f declared) h) 0 body.block callees (start params words) a run.0 run.1,
        run.2,
      ));
    }

known_item : (program before : List Item) (item : Item) (after : List Item) (proc : ℕ) (code : CodeBody) → Valid program → program ≡ before ++ item ∷ after → length (procs before) ≡ proc →
    ResolvesItem before item code → Known program proc code
known_item program before (outside f arity) after proc code valid parts place r = absurd r
known_item program before (helper f params body) after proc code valid parts place r =
    let s = split program before (helper f params body) after valid parts in
    let k : ℕ = s.place in
    known_of program before (helper f params body) after proc code params body valid parts place refl (names_fresh (k + 1) [] params (λ m d h. s.clean m d (inr (inr (inr (inr (inl h)))))))
    (few_of (variables params body) 16 (λ h. s.clean k _ (inr (inr (inl (inl (refl, refl, h))))))) (k + 1 + length params) (λ m d h. s.clean m d (inr (inr (inr (inr (inr h))))))
    (item_resolved program (onto before []) k (helper f params body) s.above.distinct s.clean) (length-map params any_word) (λ words a d h. h) r
known_item program before (entry f params body) after proc code valid parts place r =
    let s = split program before (entry f params body) after valid parts in
    let k : ℕ = s.place in
    known_of program before (entry f params body) after proc code (map (λ p. p.name) params) body valid parts place refl (params_fresh (k + 1) [] params (λ m d h. s.clean m d (inr (inr (inr (inr (inl h)))))))
    (few_of (variables (map (λ p. p.name) params) body) 16 (λ h. s.clean k _ (inr (inr (inl (inl (refl, refl, h))))))) (k + 1 + length params) (λ m d h. s.clean m d (inr (inr (inr (inr (inr h))))))
    (item_resolved program (onto before []) k (entry f params body) s.above.distinct s.clean) (sym (length-map params (λ (p : Param). p.name))) (λ words a d h. h) r

pub known : (program : List Item) (proc : ℕ) (code : CodeBody) → Valid program → IsCode program proc code → Known program proc code
known program proc code valid is = known_item program is.before is.item is.after proc code valid is.parts is.place is.resolves

slots_at : (program front : List Item) (item : Item) (back : List Item) (params : List Name) (body : Body) → Valid program → program ≡ front ++ item ∷ back →
    ((s : Split program front item back) → AreFresh [] params × ((k : ℕ) × Clean (InBody (onto front []) k params body))) → AreOnePlace (slot_names params body)
slots_at program front item back params body valid is facts =
    let f = facts (split program front item back valid is) in
    slots_once (onto front []) f.1.0 params body f.0 f.1.1

-- no two slots of a procedure have one name
pub helper_slots : (program : List Item) (name : Name) (params : List Name) (body : Body) → Valid program → Contains program (helper name params body) → AreOnePlace (slot_names params body)
helper_slots program name params body valid (k, within, is) =
    slots_at program (take k program) (helper name params body) (drop (k + 1) program) params body valid (around program k (helper name params body) within is)
    (λ s. (names_fresh (s.place + 1) [] params (λ m d h. s.clean m d (inr (inr (inr (inr (inl h)))))), (s.place + 1 + length params, λ m d h. s.clean m d (inr (inr (inr (inr (inr h))))))))

pub entry_slots : (program : List Item) (name : Name) (params : List Param) (body : Body) → Valid program → Contains program (entry name params body) →
    AreOnePlace (slot_names (map (λ p. p.name) params) body)
entry_slots program name params body valid (k, within, is) =
    slots_at program (take k program) (entry name params body) (drop (k + 1) program) (map (λ p. p.name) params) body valid (around program k (entry name params body) within is)
    (λ s. (params_fresh (s.place + 1) [] params (λ m d h. s.clean m d (inr (inr (inr (inr (inl h)))))), (s.place + 1 + length params, λ m d h. s.clean m d (inr (inr (inr (inr (inr h))))))))
