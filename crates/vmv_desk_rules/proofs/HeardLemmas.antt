-- Answers that one judge gave, whichever they are, are those of one meaning.
use Rattle.std.proofs.Common.{◌≡◌, ◌&&◌, ℕ, Bool, true, false, cond, List, [], ◌∷◌, ◌++◌, codes, nat_eq, IsTrue, IsUtf8, refl, sym, subst, ap, Result, Ok, Err, IfOk, Option, Some, None}
use Rattle.std.specs.List.{AllByRecursion}
use borrow.Author.Tests.{eq-eqb}
use Rattle.std.specs.Cmp.Lexicographic.{pointwise, same_text}
use Rattle.vmv_keeper.specs.declared.judge.Inspected.{Inspected}
use Rattle.vmv_keeper.specs.declared.judge.Inspected.TheVariants.{Refused}
use Rattle.vmv_keeper.specs.declared.judge.Compared.{Compared}
use Rattle.vmv_keeper.specs.declared.judge.Compared.TheVariants.{Judged}
use Rattle.vmv_keeper.specs.Judging.{parses, HasVerdict}
use Rattle.vmv_keeper.specs.Tables.{Tables}
use Rattle.vmv_keeper.specs.Outside.{OfTold}
use Rattle.vmv_keeper.proofs.ListChanges.{All-weaken}
use Rattle.vmv_desk_rules.specs.Causes.{Meaning, says}
use Rattle.vmv_desk_rules.specs.Keeping.{ReadsUtf8}
use Rattle.vmv_desk_rules.specs.Heard.{Heard, AreSaid, Follows, BySaid}
use Rattle.vmv_desk_rules.proofs.RootLemmas.{all_both}

-- lists one behind the other

All-join : {A : Type 0} (P : A → Type 0) (xs ys : List A) → AllByRecursion P xs → AllByRecursion P ys → AllByRecursion P (xs ++ ys)
All-join P [] ys h k = k
All-join P (x ∷ xs) ys h k = (h.0, All-join P xs ys h.1 k)

All-parts : {A : Type 0} (P : A → Type 0) (xs ys : List A) → AllByRecursion P (xs ++ ys) → AllByRecursion P xs × AllByRecursion P ys
All-parts P [] ys h = (tt, h)
All-parts P (x ∷ xs) ys h = let more = All-parts P xs ys h.1 in ((h.0, more.0), more.1)

abbrev pub both : Heard → Heard → Heard
both a b = record { inspected = a.inspected ++ b.inspected; compared = a.compared ++ b.compared }

abbrev pub nothing : Heard
nothing = record { inspected = []; compared = [] }

follows_first : (J : Meaning) (a b : Heard) → Follows J (both a b) → Follows J a
follows_first J a b h =
    record {
      utf8 = h.utf8;
      inspected = (All-parts (λ (q : List ℕ × Inspected). J.inspected q.0 ≡ q.1) a.inspected b.inspected h.inspected).0;
      compared = (All-parts (λ (q : (List ℕ × List ℕ) × Compared). J.compared q.0.0 q.0.1 ≡ q.1) a.compared b.compared h.compared).0;
    }

follows_second : (J : Meaning) (a b : Heard) → Follows J (both a b) → Follows J b
follows_second J a b h =
    record {
      utf8 = h.utf8;
      inspected = (All-parts (λ (q : List ℕ × Inspected). J.inspected q.0 ≡ q.1) a.inspected b.inspected h.inspected).1;
      compared = (All-parts (λ (q : (List ℕ × List ℕ) × Compared). J.compared q.0.0 q.0.1 ≡ q.1) a.compared b.compared h.compared).1;
    }

-- what is said of texts, by a list of answers

abbrev inspected_in : List (List ℕ × Inspected) → List ℕ → Inspected
inspected_in [] text = Refused 2 1 1
inspected_in (h ∷ rest) text = cond (pointwise nat_eq h.0 text) h.1 (inspected_in rest text)

abbrev compared_in : List ((List ℕ × List ℕ) × Compared) → List ℕ → List ℕ → Compared
compared_in [] base revision = Judged 2 (codes "{}")
compared_in (h ∷ rest) base revision = cond (pointwise nat_eq h.0.0 base && pointwise nat_eq h.0.1 revision) h.1 (compared_in rest base revision)

abbrev meaning_of : Heard → Meaning
meaning_of heard = says (inspected_in heard.inspected) (compared_in heard.compared)

all_true : (a b : Bool) → a ≡ true → b ≡ true → (a && b) ≡ true
all_true true true d e = refl
all_true true false d e = absurd (cc e)
all_true false b d e = absurd (cc d)

same_self : (text : List ℕ) → pointwise nat_eq text text ≡ true
same_self [] = refl
same_self (x ∷ xs) = all_true (nat_eq x x) (pointwise nat_eq xs xs) (eq-eqb x x refl) (same_self xs)

pair_self : (base revision : List ℕ) → (pointwise nat_eq base base && pointwise nat_eq revision revision) ≡ true
pair_self base revision = all_true (pointwise nat_eq base base) (pointwise nat_eq revision revision) (same_self base) (same_self revision)

two_not_one : (json : List ℕ) → HasVerdict 1 (Judged 2 json) → ⊥
two_not_one json h = cc h.1

module _ (I : List ℕ → Inspected → Type 0) (C : List ℕ → List ℕ → Compared → Type 0) where
  -- what is heard holds of nothing, and of what holds of two things
  pub by_any : (P : Meaning → Type 0) → ((J : Meaning) → P J) → BySaid I C P
  by_any P h = (nothing, (tt, tt), λ J follows. h J)

  pub by_map : (P Q : Meaning → Type 0) → ((J : Meaning) → P J → Q J) → BySaid I C P → BySaid I C Q
  by_map P Q h by = (by.0, by.1, λ J follows. h J (by.2 J follows))

  pub by_two : (P Q R : Meaning → Type 0) → ((J : Meaning) → ReadsUtf8 J → P J → Q J → R J) → BySaid I C P → BySaid I C Q → BySaid I C R
  by_two P Q R h one other = (
    both one.0 other.0,
    (
      All-join (λ (q : List ℕ × Inspected). I q.0 q.1) one.0.inspected other.0.inspected one.1.0 other.1.0,
      All-join (λ (q : (List ℕ × List ℕ) × Compared). C q.0.0 q.0.1 q.1) one.0.compared other.0.compared one.1.1 other.1.1,
    ),
    λ J follows. h J follows.utf8 (one.2 J (follows_first J one.0 other.0 follows)) (other.2 J (follows_second J one.0 other.0 follows)),
  )

  pub by_ok : {E A : Type 0} (result : Result A E) (P Q : Meaning → A → Type 0) → ((J : Meaning) (x : A) → P J x → Q J x)
      → IfOk result (λ x. BySaid I C (λ J. P J x)) → IfOk result (λ x. BySaid I C (λ J. Q J x))
  by_ok (Ok x) P Q h by = by_map (λ J. P J x) (λ J. Q J x) (λ J. h J x) by
  by_ok (Err e) P Q h by = tt

  pub by_inspecting : (P : Meaning → Type 0) (text : List ℕ) (said : Inspected) → I text said → ((J : Meaning) → J.inspected text ≡ said → P J) → BySaid I C P
  by_inspecting P text said given h = (record { inspected = (text, said) ∷ []; compared = [] }, ((given, tt), tt), λ J follows. h J follows.inspected.0)

  pub by_comparing : (P : Meaning → Type 0) (base revision : List ℕ) (said : Compared) → C base revision said → ((J : Meaning) → J.compared base revision ≡ said → P J) → BySaid I C P
  by_comparing P base revision said given h =
      (record { inspected = []; compared = ((base, revision), said) ∷ [] }, (tt, (given, tt)), λ J follows. h J follows.compared.0)

  module _ (one_inspected : (text : List ℕ) (a b : Inspected) → I text a → I text b → a ≡ b)
      (one_compared : (base revision : List ℕ) (a b : Compared) → C base revision a → C base revision b → a ≡ b)
      (utf8 : (text : List ℕ) (said : Inspected) → I text said → IsTrue (parses said) → IsUtf8 text) where
    inspected_later : (h : List ℕ × Inspected) (rest : Inspected) (text : List ℕ) (said : Inspected) (b : Bool) → pointwise nat_eq h.0 text ≡ b
        → I h.0 h.1 → I text said → rest ≡ said → cond b h.1 rest ≡ said
    inspected_later h rest text said true e here there later = one_inspected text h.1 said (subst (λ t. I t h.1) (same_text h.0 text (sym e)) here) there
    inspected_later h rest text said false e here there later = later

    inspected_hits : (rows : List (List ℕ × Inspected)) → AllByRecursion (λ q. I q.0 q.1) rows → AllByRecursion (λ q. inspected_in rows q.0 ≡ q.1) rows
    inspected_hits [] h = tt
    inspected_hits (a ∷ rest) h = (
      ap (λ b. cond b a.1 (inspected_in rest a.0)) (same_self a.0),
      All-weaken (λ (q : List ℕ × Inspected). I q.0 q.1 × (inspected_in rest q.0 ≡ q.1)) (λ (q : List ℕ × Inspected). inspected_in (a ∷ rest) q.0 ≡ q.1)
          (λ q k. inspected_later a (inspected_in rest q.0) q.0 q.1 (pointwise nat_eq a.0 q.0) refl h.0 k.0 k.1) rest
          (all_both (λ (q : List ℕ × Inspected). I q.0 q.1) (λ (q : List ℕ × Inspected). inspected_in rest q.0 ≡ q.1) rest h.1 (inspected_hits rest h.1)),
    )

    compared_later : (h : (List ℕ × List ℕ) × Compared) (rest : Compared) (base revision : List ℕ) (said : Compared) (b c : Bool) → pointwise nat_eq h.0.0 base ≡ b
        → pointwise nat_eq h.0.1 revision ≡ c → C h.0.0 h.0.1 h.1 → C base revision said → rest ≡ said → cond (b && c) h.1 rest ≡ said
    compared_later h rest base revision said true true d e here there later =
        one_compared base revision h.1 said
        (subst (λ t. C base t h.1) (same_text h.0.1 revision (sym e)) (subst (λ t. C t h.0.1 h.1) (same_text h.0.0 base (sym d)) here)) there
    compared_later h rest base revision said true false d e here there later = later
    compared_later h rest base revision said false c d e here there later = later

    compared_hits : (rows : List ((List ℕ × List ℕ) × Compared)) → AllByRecursion (λ q. C q.0.0 q.0.1 q.1) rows
        → AllByRecursion (λ q. compared_in rows q.0.0 q.0.1 ≡ q.1) rows
    compared_hits [] h = tt
    compared_hits (a ∷ rest) h = (
      ap (λ b. cond b a.1 (compared_in rest a.0.0 a.0.1)) (pair_self a.0.0 a.0.1),
      All-weaken (λ (q : (List ℕ × List ℕ) × Compared). C q.0.0 q.0.1 q.1 × (compared_in rest q.0.0 q.0.1 ≡ q.1))
          (λ (q : (List ℕ × List ℕ) × Compared). compared_in (a ∷ rest) q.0.0 q.0.1 ≡ q.1)
          (λ q k. compared_later a (compared_in rest q.0.0 q.0.1) q.0.0 q.0.1 q.1 (pointwise nat_eq a.0.0 q.0.0) (pointwise nat_eq a.0.1 q.0.1) refl refl h.0 k.0 k.1) rest
          (all_both (λ (q : (List ℕ × List ℕ) × Compared). C q.0.0 q.0.1 q.1) (λ (q : (List ℕ × List ℕ) × Compared). compared_in rest q.0.0 q.0.1 ≡ q.1) rest h.1
          (compared_hits rest h.1)),
    )

    -- a text that parses by the answers was inspected

    inspected_at : (h : List ℕ × Inspected) (rest : Inspected) (text : List ℕ) (b : Bool) → pointwise nat_eq h.0 text ≡ b → I h.0 h.1
        → (IsTrue (parses rest) → I text rest) → IsTrue (parses (cond b h.1 rest)) → I text (cond b h.1 rest)
    inspected_at h rest text true e here later good = subst (λ t. I t h.1) (same_text h.0 text (sym e)) here
    inspected_at h rest text false e here later good = later good

    inspected_said : (rows : List (List ℕ × Inspected)) → AllByRecursion (λ q. I q.0 q.1) rows → (text : List ℕ) → IsTrue (parses (inspected_in rows text))
        → I text (inspected_in rows text)
    inspected_said [] h text good = absurd (cc good)
    inspected_said (a ∷ rest) h text good =
        inspected_at a (inspected_in rest text) text (pointwise nat_eq a.0 text) refl h.0 (inspected_said rest h.1 text) good

    -- a pair with verdict 1 by the answers was compared

    compared_at : (h : (List ℕ × List ℕ) × Compared) (rest : Compared) (base revision : List ℕ) (b c : Bool) → pointwise nat_eq h.0.0 base ≡ b
        → pointwise nat_eq h.0.1 revision ≡ c → C h.0.0 h.0.1 h.1 → (HasVerdict 1 rest → C base revision rest)
        → HasVerdict 1 (cond (b && c) h.1 rest) → C base revision (cond (b && c) h.1 rest)
    compared_at h rest base revision true true d e here later good =
        subst (λ t. C base t h.1) (same_text h.0.1 revision (sym e)) (subst (λ t. C t h.0.1 h.1) (same_text h.0.0 base (sym d)) here)
    compared_at h rest base revision true false d e here later good = later good
    compared_at h rest base revision false c d e here later good = later good

    compared_said : (rows : List ((List ℕ × List ℕ) × Compared)) → AllByRecursion (λ q. C q.0.0 q.0.1 q.1) rows → (base revision : List ℕ)
        → HasVerdict 1 (compared_in rows base revision) → C base revision (compared_in rows base revision)
    compared_said [] h base revision good = absurd (two_not_one (codes "{}") good)
    compared_said (a ∷ rest) h base revision good =
        compared_at a (compared_in rest base revision) base revision (pointwise nat_eq a.0.0 base) (pointwise nat_eq a.0.1 revision) refl refl h.0
        (compared_said rest h.1 base revision) good

    -- a meaning in which what parses, and what has verdict 1, was said
    pub record IsMeant (J : Meaning) : Type 0 where
      pub utf8_read : ReadsUtf8 J
      pub inspected : (text : List ℕ) → IsTrue (parses (J.inspected text)) → I text (J.inspected text)
      pub compared : (base revision : List ℕ) → HasVerdict 1 (J.compared base revision) → C base revision (J.compared base revision)

    -- what holds by answers that were given holds of a meaning
    pub meant : (P : Meaning → Type 0) → BySaid I C P → (J : Meaning) × IsMeant J × P J
    meant P by =
        let J = meaning_of by.0 in
        let said = inspected_said by.0.inspected by.1.0 in
        let reads : ReadsUtf8 J = λ text good. utf8 text (inspected_in by.0.inspected text) (said text good) good in (
          J,
          record { utf8_read = reads; inspected = said; compared = compared_said by.0.compared by.1.1 },
          by.2 J (record { utf8 = reads; inspected = inspected_hits by.0.inspected by.1.0; compared = compared_hits by.0.compared by.1.1 }),
        )

    -- what doesn't depend on a judge holds
    pub by_out : {X : Type 0} → BySaid I C (λ J. X) → X
    by_out {X} by = (meant (λ J. X) by).2
