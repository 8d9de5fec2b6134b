-- Environments that have words for further names.
use Rattle.std.proofs.Common.{◌≡◌, ◌≢◌, ◌⊎◌, inl, inr, ⊎_elim, ℕ, zero, suc, ℤ, pos, Bool, true, false, cond, List, [], ◌∷◌, ◌++◌, refl, sym, ap, subst, ◌∙◌, arith}
use Rattle.std.specs.Str.{bytes_eq}
use Rattle.std.specs.List.{All, Contains}
use Rattle.std.proofs.lemmas.List.Elements.{All-nil, All-cons}
use Rattle.std.proofs.lemmas.Slice.Eq.{bytes_eq-Decides}
use Rattle.vmv_tree.specs.declared.name.Name.{Name}
use Rattle.vmv_tree.specs.Words.{IsWord}
use Rattle.vmv_tree.specs.Tree.{Item, outside, helper, entry}
use Rattle.vmv_tree.specs.Safe.{Environment, words_of, Covers, Safe, RelCorrect}
use Rattle.vmv_snapshot.specs.Procs.{outsides}
use Rattle.vmv_run.specs.Asked.{IsOutside}
use Rattle.vmv_run.proofs.Asked.{safe_for_both}

-- members of a list

pub here : {X : Type 0} (x : X) (xs : List X) → Contains (x ∷ xs) x
here x xs = (0, omega arith, refl)

pub later : {X : Type 0} (y : X) (xs : List X) (x : X) → Contains xs x → Contains (y ∷ xs) x
later y xs x c = let less = c.1 in (suc c.0, omega (arith, less), c.2)

pub parted : {X : Type 0} (y : X) (xs : List X) (x : X) → Contains (y ∷ xs) x → (y ≡ x) ⊎ Contains xs x
parted y xs x (zero, less, is) = let same : y ≡ x = cc is in inl same
parted y xs x (suc k, less, is) = inr (k, omega (arith, less), is)

pub none_in : {X : Type 0} (x : X) → Contains [] x → ⊥
none_in x (k, less, is) = omega (arith, less)

-- an outside item's name is among the outside names
pub out_in : (items : List Item) (name : Name) (arity : ℤ) → Contains items (outside name arity) → Contains (outsides items) name
out_in [] name arity h = absurd (none_in (outside name arity) h)
out_in (outside f n ∷ items) name arity h =
    ⊎_elim (λ (e : outside f n ≡ outside name arity). let same : f ≡ name = cc e in subst (λ x. Contains (f ∷ outsides items) x) same (here f (outsides items)))
    (λ (c : Contains items (outside name arity)). later f (outsides items) name (out_in items name arity c)) (parted (outside f n) items (outside name arity) h)
out_in (helper f params body ∷ items) name arity h =
    ⊎_elim (λ (e : helper f params body ≡ outside name arity). absurd (cc e)) (λ (c : Contains items (outside name arity)). out_in items name arity c)
    (parted (helper f params body) items (outside name arity) h)
out_in (entry f params body ∷ items) name arity h =
    ⊎_elim (λ (e : entry f params body ≡ outside name arity). absurd (cc e)) (λ (c : Contains items (outside name arity)). out_in items name arity c)
    (parted (entry f params body) items (outside name arity) h)

pub bytes_same : (a b : Name) → bytes_eq a b ≡ true → a ≡ b
bytes_same a b e = (bytes_eq-Decides a b).0 e

pub bytes_differ : (a b : Name) → bytes_eq a b ≡ false → a ≡ b → ⊥
bytes_differ a b e same = let t = (bytes_eq-Decides a b).1 same in cc (t, e)

-- the words of some names, and one word for each of some others
abbrev copied : Environment → List Name → Environment → Environment
copied env [] rest = rest
copied env (name ∷ names) rest = (name, words_of env name) ∷ copied env names rest

abbrev padded : List Name → Environment
padded [] = []
padded (name ∷ names) = (name, pos 0 ∷ []) ∷ padded names

copied_at : (env : Environment) (n : Name) (words later : List ℤ) (name : Name) (b : Bool) → bytes_eq n name ≡ b → words ≡ words_of env n → later ≡ words_of env name
    → cond b words later ≡ words_of env name
copied_at env n words later name true e is rest = is ∙ ap (words_of env) (bytes_same n name e)
copied_at env n words later name false e is rest = rest

copied_same : (env : Environment) (names : List Name) (rest : Environment) (name : Name) → Contains names name → words_of (copied env names rest) name ≡ words_of env name
copied_same env [] rest name h = absurd (none_in name h)
copied_same env (n ∷ names) rest name h =
    ⊎_elim
    (λ (same : n ≡ name).
    let yes : bytes_eq n name ≡ true = (bytes_eq-Decides n name).1 same in
    ap (λ b. cond b (words_of env n) (words_of (copied env names rest) name)) yes ∙ ap (words_of env) same)
    (λ (c : Contains names name).
    copied_at env n (words_of env n) (words_of (copied env names rest) name) name (bytes_eq n name) refl refl (copied_same env names rest name c))
    (parted n names name h)

abbrev pub has_words : List ℤ → Type 0
has_words words = (words ≢ []) × All IsWord words

zero_word : has_words (pos 0 ∷ [])
zero_word = ((λ e. cc e), All-cons IsWord (pos 0) [] refl (All-nil IsWord))

padded_at : (n name : Name) (words later : List ℤ) (b : Bool) → bytes_eq n name ≡ b → has_words words → (b ≡ false → has_words later) → has_words (cond b words later)
padded_at n name words later true e h k = h
padded_at n name words later false e h k = k refl

padded_has : (names : List Name) (name : Name) → Contains names name → has_words (words_of (padded names) name)
padded_has [] name h = absurd (none_in name h)
padded_has (n ∷ names) name h =
    padded_at n name (pos 0 ∷ []) (words_of (padded names) name) (bytes_eq n name) refl zero_word
    (λ differ. ⊎_elim (λ (same : n ≡ name). absurd (bytes_differ n name differ same)) (λ (c : Contains names name). padded_has names name c) (parted n names name h))

-- where copied names have words, so has each further name behind them
further_has : (env : Environment) (names : List Name) (rest : Environment) (name : Name) → ((n : Name) → Contains names n → has_words (words_of env n))
    → has_words (words_of rest name) → has_words (words_of (copied env names rest) name)
further_has env [] rest name all h = h
further_has env (n ∷ names) rest name all h =
    padded_at n name (words_of env n) (words_of (copied env names rest) name) (bytes_eq n name) refl (all n (here n names))
    (λ differ. further_has env names rest name (λ m c. all m (later n names m c)) h)

in_front : {X : Type 0} (xs ys : List X) (x : X) → Contains xs x → Contains (xs ++ ys) x
in_front [] ys x h = absurd (none_in x h)
in_front (y ∷ xs) ys x h =
    ⊎_elim (λ (same : y ≡ x). subst (λ z. Contains (y ∷ (xs ++ ys)) z) same (here y (xs ++ ys))) (λ (c : Contains xs x). later y (xs ++ ys) x (in_front xs ys x c)) (parted y xs x h)

in_back : {X : Type 0} (xs ys : List X) (x : X) → Contains ys x → Contains (xs ++ ys) x
in_back [] ys x h = h
in_back (y ∷ xs) ys x h = later y (xs ++ ys) x (in_back xs ys x h)

one_of : {X : Type 0} (xs ys : List X) (x : X) → Contains (xs ++ ys) x → Contains xs x ⊎ Contains ys x
one_of [] ys x h = inr h
one_of (y ∷ xs) ys x h =
    ⊎_elim (λ (same : y ≡ x). inl (subst (λ z. Contains (y ∷ xs) z) same (here y xs)))
    (λ (c : Contains (xs ++ ys) x). ⊎_elim (λ (a : Contains xs x). inl (later y xs x a)) (λ (b : Contains ys x). inr b) (one_of xs ys x c)) (parted y (xs ++ ys) x h)

outside_of : (items : List Item) (name : Name) → Contains (outsides items) name → IsOutside items name
outside_of [] name h = absurd (none_in name h)
outside_of (outside f n ∷ items) name h =
    ⊎_elim (λ (same : f ≡ name). (n, subst (λ x. Contains (outside f n ∷ items) (outside x n)) same (here (outside f n) items)))
    (λ (c : Contains (outsides items) name). let more = outside_of items name c in (more.0, later (outside f n) items (outside name more.0) more.1)) (parted f (outsides items) name h)
outside_of (helper f params body ∷ items) name h = let more = outside_of items name h in (more.0, later (helper f params body) items (outside name more.0) more.1)
outside_of (entry f params body ∷ items) name h = let more = outside_of items name h in (more.0, later (entry f params body) items (outside name more.0) more.1)

-- what is relatively correct to something relatively correct is so too
pub correct_on : (first second third : List Item) → RelCorrect first second → RelCorrect second third → RelCorrect first third
correct_on first second third one two env covers_first covers_third safe =
    let names = outsides first ++ outsides third in
    let env' = copied env names (padded (outsides second)) in
    let has : (n : Name) → Contains names n → has_words (words_of env n) = λ n c.
    ⊎_elim (λ (a : Contains (outsides first) n). let item = outside_of first n a in covers_first n item.0 item.1)
    (λ (b : Contains (outsides third) n). let item = outside_of third n b in covers_third n item.0 item.1) (one_of (outsides first) (outsides third) n c) in
    let same_first : (n : Name) → IsOutside first n → words_of env n ≡ words_of env' n = λ n item.
    sym (copied_same env names (padded (outsides second)) n (in_front (outsides first) (outsides third) n (out_in first n item.0 item.1))) in
    let same_third : (n : Name) → IsOutside third n → words_of env' n ≡ words_of env n = λ n item.
    copied_same env names (padded (outsides second)) n (in_back (outsides first) (outsides third) n (out_in third n item.0 item.1)) in
    let covers : (program : List Item) → ((n : Name) → Contains (outsides program) n → has_words (words_of env' n)) → Covers env' program = λ program all n arity there.
    all n (out_in program n arity there) in
    let from_env : (n : Name) → Contains names n → has_words (words_of env' n) = λ n c.
    subst has_words (sym (copied_same env names (padded (outsides second)) n c)) (has n c) in
    let first' : Covers env' first = covers first (λ n c. from_env n (in_front (outsides first) (outsides third) n c)) in
    let third' : Covers env' third = covers third (λ n c. from_env n (in_back (outsides first) (outsides third) n c)) in
    let second' : Covers env' second = covers second (λ n c. further_has env names (padded (outsides second)) n has (padded_has (outsides second) n c)) in
    safe_for_both third env' env same_third (two env' second' third' (one env' first' second' (safe_for_both first env env' same_first safe)))
