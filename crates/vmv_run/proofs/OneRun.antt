-- In a valid program an entry has exactly one run with constant answers, and each of its runs is short.
use Rattle.std.proofs.Common.{◌≡◌, inl, inr, ℕ, ◌+◌, ◌<◌, ◌≤◌, ℤ, Bool, true, false, MatchBool, List, [], ◌∷◌, ◌++◌, length, map, reverse, take, drop, refl, sym, ap, subst, arith, ◌∙◌, append-nil, get_or, add-one, drop-cons}
use Rattle.std.specs.List.{Contains}
use Rattle.std.specs.Str.{bytes_eq}
use Rattle.std.proofs.lemmas.List.{take-append-drop}
use Rattle.std.proofs.lemmas.Slice.Eq.{bytes_eq-Decides}
use Rattle.vmv_tree.specs.declared.name.Name.{Name}
use Rattle.vmv_tree.specs.declared.tree.Param.{Param}
use Rattle.vmv_tree.specs.Words.{IsWord}
use Rattle.vmv_tree.specs.Tree.{Body, Item, entry}
use Rattle.vmv_tree.specs.Run.{Answers, Outcome, RunsBody, RunsItem, RunsAbove, Run, name_of}
use Rattle.vmv_tree.specs.Limits.{unrolled_calls, unrolled_steps}
use Rattle.vmv_tree.specs.Mentions.{item_mentions}
use Rattle.vmv_tree.specs.Valid.{Valid}
use Rattle.vmv_run.proofs.Callees.{BlockCallees, Declares, IsResolved}
use Rattle.vmv_run.specs.Constant.{OneRun}
use Rattle.vmv_run.specs.Steps.{item_run_steps, steps_above, of_part, steps_of_run}
use Rattle.vmv_run.proofs.RunFixed.{Alike, RunsAbove-fixed}
use Rattle.vmv_run.proofs.RunExists.{some_run, AreFrom-Alike}
use Rattle.vmv_run.proofs.Counted.{entry_answers, entry_steps}
use Rattle.vmv_run.proofs.Resolved.{onto, onto-append, onto-reverse, IsAmong, Above, Split, split, Clean, item_resolved, none_below}

not_true : (b : Bool) → (b ≡ true → ⊥) → b ≡ false
not_true true h = absurd (h refl)
not_true false h = refl

put_in : (b : Bool) (P Q : Type 0) → b ≡ true → P → MatchBool b P Q
put_in true P Q e p = p
put_in false P Q e p = absurd (cc)

taken_out : (b : Bool) (P Q : Type 0) → b ≡ true → MatchBool b P Q → P
taken_out true P Q e h = h
taken_out false P Q e h = absurd (cc)

put_past : (b : Bool) (P Q : Type 0) → b ≡ false → Q → MatchBool b P Q
put_past true P Q e q = absurd (cc)
put_past false P Q e q = q

taken_past : (b : Bool) (P Q : Type 0) → b ≡ false → MatchBool b P Q → Q
taken_past true P Q e h = absurd (cc)
taken_past false P Q e h = h

part_here : (b : Bool) (P Q : Type 0) (f : P → ℕ) (g : Q → ℕ) (n : ℕ) → b ≡ true → ((h : P) → f h ≤ n) → (h : MatchBool b P Q) → of_part b P Q f g h ≤ n
part_here true P Q f g n e most h = most h
part_here false P Q f g n e most h = absurd (cc)

part_past : (b : Bool) (P Q : Type 0) (f : P → ℕ) (g : Q → ℕ) (n : ℕ) → b ≡ false → ((h : Q) → g h ≤ n) → (h : MatchBool b P Q) → of_part b P Q f g h ≤ n
part_past true P Q f g n e most h = absurd (cc)
part_past false P Q f g n e most h = most h

-- over these items the name means this entry over those above it
record Reaches (stack : List Item) (above : List Item) (name : Name) (params : List Param) (body : Body) (words : List ℤ) : Type 0 where
  to : (a : Answers) (d : Outcome) → RunsBody (RunsAbove above) name (map (λ p. p.name) params) body words a d → RunsAbove stack name words a d
  from : (a : Answers) (d : Outcome) → RunsAbove stack name words a d → RunsBody (RunsAbove above) name (map (λ p. p.name) params) body words a d
  steps : (a : Answers) (d : Outcome) (h : RunsAbove stack name words a d) → steps_above stack name words a d h ≤ unrolled_steps above body

reaches_here : (above : List Item) (name : Name) (params : List Param) (body : Body) (words : List ℤ) → IsResolved above → BlockCallees (Declares above) body.block →
    Reaches (entry name params body ∷ above) above name params body words
reaches_here above name params body words resolved callees =
    let same : bytes_eq name name ≡ true = (bytes_eq-Decides name name).1 refl in
    record {
      to = λ a d h. put_in (bytes_eq name name) _ (RunsAbove above name words a d) same h;
      from = λ a d h. taken_out (bytes_eq name name) _ (RunsAbove above name words a d) same h;
      steps = λ a d h. part_here (bytes_eq name name) (RunsItem (RunsAbove above) (entry name params body) words a d) (RunsAbove above name words a d)
          (item_run_steps (RunsAbove above) (steps_above above) (entry name params body) words a d) (steps_above above name words a d) (unrolled_steps above body) same
          (λ run. entry_steps above resolved name (map (λ p. p.name) params) body words a d callees run) h;
    }

reaches_past : (item : Item) (stack above : List Item) (name : Name) (params : List Param) (body : Body) (words : List ℤ) → (name_of item ≡ name → ⊥) →
    Reaches stack above name params body words → Reaches (item ∷ stack) above name params body words
reaches_past item stack above name params body words other r =
    let past : bytes_eq (name_of item) name ≡ false = not_true (bytes_eq (name_of item) name) (λ h. other ((bytes_eq-Decides (name_of item) name).0 h)) in
    record {
      to = λ a d h. put_past (bytes_eq (name_of item) name) (RunsItem (RunsAbove stack) item words a d) (RunsAbove stack name words a d) past (r.to a d h);
      from = λ a d h. r.from a d (taken_past (bytes_eq (name_of item) name) (RunsItem (RunsAbove stack) item words a d) (RunsAbove stack name words a d) past h);
      steps = λ a d h. part_past (bytes_eq (name_of item) name) (RunsItem (RunsAbove stack) item words a d) (RunsAbove stack name words a d)
          (item_run_steps (RunsAbove stack) (steps_above stack) item words a d) (steps_above stack name words a d) (unrolled_steps above body) past (r.steps a d) h;
    }

reaches_onto : (back stack above : List Item) (name : Name) (params : List Param) (body : Body) (words : List ℤ) → (IsAmong back name → ⊥) →
    Reaches stack above name params body words → Reaches (onto back stack) above name params body words
reaches_onto [] stack above name params body words none r = r
reaches_onto (item ∷ back) stack above name params body words none r =
    reaches_onto back (item ∷ stack) above name params body words (λ h. none (inr h)) (reaches_past item stack above name params body words (λ e. none (inl e)) r)

few : (n m : ℕ) → (m < n → ⊥) → n ≤ m
few n m h = grind arith

-- what is known of an entry of a valid program
record Entry (program above : List Item) (name : Name) (params : List Param) (body : Body) (words : List ℤ) : Type 0 where
  resolved : IsResolved above
  callees : BlockCallees (Declares above) body.block
  reaches : Reaches (reverse program) above name params body words
  calls : unrolled_calls above body ≤ 10000
  steps : unrolled_steps above body ≤ 100000

entry_of : (program front : List Item) (name : Name) (params : List Param) (body : Body) (back : List Item) (words : List ℤ) → Valid program →
    program ≡ front ++ entry name params body ∷ back → Entry program (onto front []) name params body words
entry_of program front name params body back words valid is =
    let s = split program front (entry name params body) back valid is in
    let above : List Item = onto front [] in
    let callees : BlockCallees (Declares above) body.block = item_resolved program above s.place (entry name params body) s.above.distinct s.clean in
    let up : Above program (entry name params body ∷ above) = record {
      resolved = (callees, s.above.resolved);
      distinct = (Rattle.vmv_run.proofs.Resolved.item_alone program above s.place (entry name params body) s.clean, s.above.distinct);
    } in
    let none : IsAmong back name → ⊥ = none_below program (entry name params body ∷ above) (s.place + item_mentions (entry name params body)) back name up s.rest (inl refl) in
    let stack : reverse program ≡ onto back (entry name params body ∷ above) =
    ap reverse is ∙ (sym (append-nil (reverse (front ++ entry name params body ∷ back))) ∙ (sym (onto-reverse (front ++ entry name params body ∷ back) []) ∙ onto-append front (entry name params body ∷ back) [])) in
    let r = reaches_onto back (entry name params body ∷ above) above name params body words none (reaches_here above name params body words s.above.resolved callees) in
    record {
      resolved = s.above.resolved;
      callees = callees;
      reaches = subst (λ (items : List Item). Reaches items above name params body words) (sym stack) r;
      calls = few (unrolled_calls above body) 10000 (λ h. s.clean s.place _ (inr (inr (inr (inl (inr (inr (inr (refl, refl, h)))))))));
      steps = few (unrolled_steps above body) 100000 (λ h. s.clean s.place _ (inr (inr (inr (inl (inr (inr (inl (refl, refl, h)))))))));
    }

one_of : (program above : List Item) (name : Name) (params : List Param) (body : Body) (words : List ℤ) (c : Name → ℤ) → ((f : Name) → IsWord (c f)) →
    Entry program above name params body words → OneRun program name words c
one_of program above name params body words c fits e =
    let run = some_run c fits (entry name params body) above e.callees e.resolved words in
    let here : RunsAbove (reverse program) name words run.0 run.1 = e.reaches.to run.0 run.1 run.2 in
    record {
      answers = run.0;
      outcome = run.1;
      run = here;
      constant = run.3;
      few_answers = omega (arith, entry_answers above e.resolved name (map (λ p. p.name) params) body words run.0 run.1 e.callees run.2, e.calls);
      few_steps = omega (arith, e.reaches.steps run.0 run.1 here, e.steps);
      only = λ other end h k. (RunsAbove-fixed (reverse program)).same name words run.0 other run.1 end [] [] (rw (append-nil, append-nil) (AreFrom-Alike c run.0 other run.3 k)) here h;
    }

-- a list around one of its items
pub around : {X : Type 0} (xs : List X) (k : ℕ) (x : X) → k < length xs → get_or xs k x ≡ x → xs ≡ take k xs ++ x ∷ drop (k + 1) xs
around xs k x h e =
    let tail : drop k xs ≡ x ∷ drop (k + 1) xs = rw (add-one, drop-cons xs k x, e) refl in
    sym (take-append-drop k xs) ∙ ap (λ t. take k xs ++ t) tail

entry_at : (program : List Item) (name : Name) (params : List Param) (body : Body) (words : List ℤ) → Valid program →
    (at : Contains program (entry name params body)) → Entry program (onto (take at.0 program) []) name params body words
entry_at program name params body words valid (k, within, is) =
    entry_of program (take k program) name params body (drop (k + 1) program) words valid (around program k (entry name params body) within is)

pub one_run : (program : List Item) (name : Name) (params : List Param) (body : Body) (words : List ℤ) (c : Name → ℤ) → Valid program →
    Contains program (entry name params body) → ((f : Name) → IsWord (c f)) → OneRun program name words c
one_run program name params body words c valid at fits =
    one_of program (onto (take at.0 program) []) name params body words c fits (entry_at program name params body words valid at)

pub short_run : (program : List Item) (name : Name) (params : List Param) (body : Body) (words : List ℤ) (answers : Answers) (outcome : Outcome) → Valid program →
    Contains program (entry name params body) → (run : Run program name words answers outcome) →
    (length answers ≤ 10000) × (steps_of_run program name words answers outcome run ≤ 100000)
short_run program name params body words answers outcome valid at run =
    let e = entry_at program name params body words valid at in (
      omega (arith, entry_answers (onto (take at.0 program) []) e.resolved name (map (λ p. p.name) params) body words answers outcome e.callees (e.reaches.from answers outcome run), e.calls),
      omega (arith, e.reaches.steps answers outcome run, e.steps),
    )

alike_itself : (a : Answers) → Alike a a
alike_itself [] = tt
alike_itself (p ∷ a) = λ e. (refl, alike_itself a)

no_more : (a more : Answers) → a ≡ a ++ more → more ≡ []
no_more [] more e = sym e
no_more (p ∷ a) more e = no_more a more (cc)

pub determined : (program : List Item) (proc : Name) (words : List ℤ) (answers more : Answers) (outcome end : Outcome) → Run program proc words answers outcome →
    Run program proc words (answers ++ more) end → (more ≡ []) × (outcome ≡ end)
determined program proc words answers more outcome end run other =
    let alike : Alike (answers ++ more) ((answers ++ more) ++ []) = rw append-nil (alike_itself (answers ++ more)) in
    let same = (RunsAbove-fixed (reverse program)).same proc words answers (answers ++ more) outcome end more [] alike run other in
    (no_more answers more same.0, same.1)
