-- Environments in which each name has one word.
use Rattle.std.proofs.Common.{◌≡◌, ◌≢◌, ◌⊎◌, inl, inr, ⊎_elim, ℕ, zero, suc, ℤ, Bool, true, false, if◌then◌else◌, Some, List, [], ◌∷◌, slice_get, refl, sym, ap, subst, arith, ◌∙◌}
use Rattle.std.specs.List.{All, Contains}
use Rattle.std.specs.Str.{bytes_eq}
use Rattle.vmv_tree.specs.declared.name.Name.{Name}
use Rattle.vmv_tree.specs.Words.{IsWord}
use Rattle.vmv_tree.specs.Tree.{Item, outside, helper, entry}
use Rattle.vmv_tree.specs.Run.{Answers}
use Rattle.vmv_tree.specs.Safe.{Environment, words_of, Covers, AreIn}
use Rattle.vmv_cond.specs.Cond.{Holds}
use Rattle.vmv_snapshot.specs.Procs.{procs, outsides}
use Rattle.vmv_assumption.specs.Assumed.{Assumed}
use Rattle.vmv_assumption.specs.Within.{IsWithin}
use Rattle.vmv_assumption.proofs.Names.{same_bytes, bytes_same}
use Rattle.vmv_run.specs.Asked.{AreOutside}
use Rattle.vmv_run.specs.Constant.{AreFrom}
use Rattle.vmv_check.proofs.Lists.{all_of}

none_in : {X : Type 0} (x : X) → Contains [] x → ⊥
none_in x (k, within, is) = absurd (omega (arith, within))

first_in : {X : Type 0} (x : X) (xs : List X) → Contains (x ∷ xs) x
first_in x xs = (0, omega arith, refl)

first_or_further : {X : Type 0} (y : X) (xs : List X) (x : X) → Contains (y ∷ xs) x → (y ≡ x) ⊎ Contains xs x
first_or_further y xs x (zero, within, is) = inl is
first_or_further y xs x (suc k, within, is) = inr (k, omega (arith, within), is)

further : {X : Type 0} (y : X) (xs : List X) (x : X) → Contains xs x → Contains (y ∷ xs) x
further y xs x (k, within, is) = (suc k, omega (arith, within), is)

-- the name of an outside item is an outside name
pub outside_in : (items : List Item) (name : Name) (arity : ℤ) → Contains items (outside name arity) → Contains (outsides items) name
outside_in [] name arity there = absurd (none_in (outside name arity) there)
outside_in (outside f a ∷ items) name arity there = ⊎_elim
    (λ (e : outside f a ≡ outside name arity). let s : f ≡ name = cc in subst (λ (x : Name). Contains (f ∷ outsides items) x) s (first_in f (outsides items)))
    (λ (c : Contains items (outside name arity)). further f (outsides items) name (outside_in items name arity c))
    (first_or_further (outside f a) items (outside name arity) there)
outside_in (helper f ps body ∷ items) name arity there = ⊎_elim
    (λ (e : helper f ps body ≡ outside name arity). absurd (cc))
    (λ (c : Contains items (outside name arity)). outside_in items name arity c)
    (first_or_further (helper f ps body) items (outside name arity) there)
outside_in (entry f ps body ∷ items) name arity there = ⊎_elim
    (λ (e : entry f ps body ≡ outside name arity). absurd (cc))
    (λ (c : Contains items (outside name arity)). outside_in items name arity c)
    (first_or_further (entry f ps body) items (outside name arity) there)

-- a procedure of a program is one of its items
pub proc_in : (items : List Item) (n : ℕ) (item : Item) → slice_get (procs items) n ≡ Some item → Contains items item
proc_in [] n item e = absurd (cc)
proc_in (outside f a ∷ items) n item e = further (outside f a) items item (proc_in items n item e)
proc_in (helper f ps body ∷ items) zero item e = let s : helper f ps body ≡ item = cc in (0, omega arith, s)
proc_in (helper f ps body ∷ items) (suc n) item e = further (helper f ps body) items item (proc_in items n item e)
proc_in (entry f ps body ∷ items) zero item e = let s : entry f ps body ≡ item = cc in (0, omega arith, s)
proc_in (entry f ps body ∷ items) (suc n) item e = further (entry f ps body) items item (proc_in items n item e)

-- each answer is of an outside name, and is what that name always answers
pub each_answer : (program : List Item) (c : Name → ℤ) (answers : Answers) (p : Name × ℤ) → AreOutside program answers → AreFrom c answers → Contains answers p → Contains (outsides program) p.0 × (p.1 ≡ c p.0)
each_answer program c [] p outs from there = absurd (none_in p there)
each_answer program c (q ∷ answers) p outs from there = ⊎_elim
    (λ (e : q ≡ p).
    let P : Name × ℤ → Type 0 = λ x. Contains (outsides program) x.0 × (x.1 ≡ c x.0) in
    let o = outs.0 in
    subst P e (outside_in program q.0 o.0 o.1, from.0))
    (λ (later : Contains answers p). each_answer program c answers p outs.1 from.1 later)
    (first_or_further q answers p there)

module _ (g : Name → ℤ) where
  -- each of these names with its one word
  pub singles : List Name → Environment
  singles [] = []
  singles (name ∷ names) = (name, g name ∷ []) ∷ singles names

  pub singles_words : (names : List Name) (name : Name) → (Contains names name × (words_of (singles names) name ≡ g name ∷ [])) ⊎ ((Contains names name → ⊥) × (words_of (singles names) name ≡ []))
  unfolding singles
  singles_words [] name = inr ((λ there. none_in name there), refl)
  singles_words (m ∷ names) name = by (bytes_eq m name) refl (singles_words names name)
    where
      picked : (b : Bool) (x y : List ℤ) → b ≡ true → (if b then x else y) ≡ x
      picked true x y e = refl
      picked false x y e = absurd (cc)

      passed : (b : Bool) (x y : List ℤ) → b ≡ false → (if b then x else y) ≡ y
      passed true x y e = absurd (cc)
      passed false x y e = refl

      by : (b : Bool) → bytes_eq m name ≡ b → (Contains names name × (words_of (singles names) name ≡ g name ∷ [])) ⊎ ((Contains names name → ⊥) × (words_of (singles names) name ≡ [])) →
          (Contains (m ∷ names) name × (words_of (singles (m ∷ names)) name ≡ g name ∷ [])) ⊎ ((Contains (m ∷ names) name → ⊥) × (words_of (singles (m ∷ names)) name ≡ []))
      by true e rest =
          let s = same_bytes m name e in
          inl ((0, omega arith, s), picked (bytes_eq m name) (g m ∷ []) (words_of (singles names) name) e ∙ ap (λ (x : Name). g x ∷ []) s)
      by false e rest = ⊎_elim
          (λ (yes : Contains names name × (words_of (singles names) name ≡ g name ∷ [])). inl (further m names name yes.0, passed (bytes_eq m name) (g m ∷ []) (words_of (singles names) name) e ∙ yes.1))
          (λ (off : (Contains names name → ⊥) × (words_of (singles names) name ≡ [])).
          inr (
            (λ there. ⊎_elim (λ (s : m ≡ name). let t = bytes_same m name s in absurd (cc)) (λ (c : Contains names name). off.0 c) (first_or_further m names name there)),
            passed (bytes_eq m name) (g m ∷ []) (words_of (singles names) name) e ∙ off.1,
          ))
          rest

  module _ (names : List Name) where
    -- the word of a name that has one
    pub its_word : (name : Name) → Contains names name → words_of (singles names) name ≡ g name ∷ []
    its_word name there = ⊎_elim
        (λ (yes : Contains names name × (words_of (singles names) name ≡ g name ∷ [])). yes.1)
        (λ (off : (Contains names name → ⊥) × (words_of (singles names) name ≡ [])). absurd (off.0 there))
        (singles_words names name)

    one_in : (x w : ℤ) → Contains (x ∷ []) w → x ≡ w
    one_in x w there = ⊎_elim (λ (e : x ≡ w). e) (λ (c : Contains [] w). absurd (none_in w c)) (first_or_further x [] w there)

    -- where each word meets what is assumed, the environment is within it
    pub singles_within : (assumed : Assumed) → ((name : Name) → Contains names name → Holds (assumed name) (g name)) → IsWithin (singles names) assumed
    singles_within assumed held name word fits there = ⊎_elim
        (λ (yes : Contains names name × (words_of (singles names) name ≡ g name ∷ [])).
        subst (Holds (assumed name)) (one_in (g name) word (subst (λ (ws : List ℤ). Contains ws word) yes.1 there)) (held name yes.0))
        (λ (off : (Contains names name → ⊥) × (words_of (singles names) name ≡ [])). absurd (none_in word (subst (λ (ws : List ℤ). Contains ws word) off.1 there)))
        (singles_words names name)

    -- and it covers a program with these outside names
    pub singles_cover : (items : List Item) → ((name : Name) → Contains (outsides items) name → Contains names name) → ((name : Name) → Contains names name → IsWord (g name)) → Covers (singles names) items
    singles_cover items among words name arity there =
        let c = among name (outside_in items name arity there) in
        let e = its_word name c in
        let P : List ℤ → Type 0 = λ ws. (ws ≢ []) × All IsWord ws in
        subst P (sym e) ((λ (x : g name ∷ [] ≡ []). absurd (cc)), all_of IsWord (g name ∷ []) (λ w at. subst IsWord (one_in (g name) w at) (words name c)))

    -- answers of these names by the words are in it
    pub singles_drawn : (answers : Answers) → ((p : Name × ℤ) → Contains answers p → Contains names p.0 × (p.1 ≡ g p.0)) → AreIn answers (singles names)
    singles_drawn answers each =
        all_of (λ (p : Name × ℤ). Contains (words_of (singles names) p.0) p.1) answers
        (λ p there.
        let h = each p there in
        subst (λ (ws : List ℤ). Contains ws p.1) (sym (its_word p.0 h.0)) (subst (λ (w : ℤ). Contains (g p.0 ∷ []) w) (sym h.1) (first_in (g p.0) [])))
