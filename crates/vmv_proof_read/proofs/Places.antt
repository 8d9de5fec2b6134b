-- The place in a text at which nothing goes on.
use Rattle.std.proofs.Common.{◌≡◌, ◌⊎◌, inl, inr, ℕ, ◌+◌, true, List, [], ◌∷◌, ◌++◌, length, refl, sym, ap, subst, ◌∙◌, arith, append_assoc}
use Rattle.std.specs.List.{AllZip}
use Rattle.std.proofs.lemmas.List.{append-nil}
use Rattle.vmv_witness.specs.Text.{text_of}
use Rattle.vmv_witness.specs.Reading.{lacks}
use Rattle.vmv_witness.proofs.Bytes.{same_split}
use Rattle.vmv_proof.specs.declared.proof.Proof.{Proof}
use Rattle.vmv_proof_text.specs.Parts.{Part, parts_of_proof}
use Rattle.vmv_proof_text.specs.Lines.{IsLine}
use Rattle.vmv_proof_text.specs.Loose.{IsLoosely}
use Rattle.vmv_proof_text.specs.Faults.{Line, Start, StartLoosely, IsProofText, Departs, SyntaxAt, RangeAt}
use Rattle.vmv_proof_read.specs.Reading.{Tells, Stops, IsShut, IsLarge, Any}
use Rattle.vmv_proof_read.proofs.Starts.{start_front, start_more, told_starts, told_long, loosely_starts, loosely_long, start_loosely}
use Rattle.vmv_proof_read.proofs.Along.{Decides}
use Rattle.vmv_proof_read.proofs.Singles.{AreClean}

abbrev pub AreLoose : Type 0
AreLoose = (p : Part) (line : Line) → IsLine p line → IsLoosely p line

-- no LF is in the lines
abbrev pub Clean : List Line → Type 0
Clean [] = Unit {0}
Clean (line ∷ lines) = (lacks 10 line ≡ true) × Clean lines

pub start_clean : AreLoose → AreClean → (ps : List Part) (lines : List Line) → Start ps lines → Clean lines
start_clean loose clean ps [] h = tt
start_clean loose clean [] (x ∷ lines) h = absurd h
start_clean loose clean (p ∷ ps) (x ∷ lines) h = (clean p x (loose p x h.0), start_clean loose clean ps lines h.1)

-- the ones begin the others, and so much more stands behind them
pub record Fronts (xs ys : List Line) (r s : List ℕ) : Type 0 where
  pub more : List Line
  pub lines : ys ≡ xs ++ more
  pub rest : r ≡ text_of more ++ s

pub fronts : (xs ys : List Line) (r s : List ℕ) → Clean xs → Clean ys → text_of xs ++ r ≡ text_of ys ++ s → Fronts xs ys r s ⊎ Fronts ys xs s r
fronts [] ys r s h k e = inl (record { more = ys; lines = refl; rest = e })
fronts (x ∷ xs) [] r s h k e = inr (record { more = x ∷ xs; lines = refl; rest = sym e })
fronts (x ∷ xs) (y ∷ ys) r s h k e =
    let split = same_split 10 x (text_of xs ++ r) y (text_of ys ++ s) h.0 k.0 (sym (append_assoc x (10 ∷ text_of xs) r) ∙ (e ∙ append_assoc y (10 ∷ text_of ys) s)) in
    grown (fronts xs ys r s h.1 k.1 split.1) split.0
  where
    grown : Fronts xs ys r s ⊎ Fronts ys xs s r → x ≡ y → Fronts (x ∷ xs) (y ∷ ys) r s ⊎ Fronts (y ∷ ys) (x ∷ xs) s r
    grown (inl f) q = inl (record { more = f.more; lines = λ i. sym q i ∷ f.lines i; rest = f.rest })
    grown (inr f) q = inr (record { more = f.more; lines = λ i. q i ∷ f.lines i; rest = f.rest })

-- no proof goes on behind these lines with a line that stands first in the rest
abbrev pub Stuck : List Line → List ℕ → Type 0
Stuck before rest = (line : Line) (more : List ℕ) (p : Proof) → rest ≡ line ++ 10 ∷ more → Start (parts_of_proof p) (before ++ line ∷ []) → ⊥

go_on : (xs ys more : List Line) (r s : List ℕ) → Stuck xs r → (p : Proof) → Start (parts_of_proof p) ys → ys ≡ xs ++ more → r ≡ text_of more ++ s → more ≡ []
go_on xs ys [] r s h p b e f = refl
go_on xs ys (line ∷ more) r s h p b e f =
    let all = subst (Start (parts_of_proof p)) (e ∙ sym (append_assoc xs (line ∷ []) more)) b in
    absurd
    (h line (text_of more ++ s) p (f ∙ append_assoc line (10 ∷ text_of more) s) (start_front (parts_of_proof p) (xs ++ line ∷ []) more all))

-- the lines before and the rest are the same
record SamePlace (xs ys : List Line) (r s : List ℕ) : Type 0 where
  lines : xs ≡ ys
  rest : r ≡ s

same_front : (xs ys : List Line) (r s : List ℕ) → Stuck xs r → (p : Proof) → Start (parts_of_proof p) ys → Fronts xs ys r s → SamePlace xs ys r s
same_front xs ys r s h p b f =
    let none = go_on xs ys f.more r s h p b f.lines f.rest in
    record {
      lines = sym (f.lines ∙ (ap (λ m. xs ++ m) none ∙ append-nil xs));
      rest = f.rest ∙ ap (λ m. text_of m ++ s) none;
    }

no_rest : (line : Line) (more rest : List ℕ) → [] ≡ (line ++ 10 ∷ more) ++ rest → ⊥
no_rest [] more rest e = cc
no_rest (b ∷ line) more rest e = cc

-- all of a text are the lines of a proof
ends : (xs more : List Line) (r s : List ℕ) → [] ≡ text_of more ++ r → (more ≡ []) × (r ≡ [])
ends xs [] r s e = (refl, sym e)
ends xs (line ∷ more) r s e = absurd (no_rest line (text_of more) r e)

-- no proof has the text, where none goes on behind the lines before the rest, and none ends there
pub none_there : AreLoose → AreClean → (text : List ℕ) (before : List Line) (rest : List ℕ) → text ≡ text_of before ++ rest → Clean before → Stuck before rest
    → ((p : Proof) → AllZip IsLine (parts_of_proof p) before → rest ≡ [] → ⊥) → (p : Proof) → IsProofText text p → ⊥
none_there loose clean text before rest place h stuck cut p t =
    either
    (fronts before t.lines rest [] h (start_clean loose clean (parts_of_proof p) t.lines started) (sym place ∙ (t.same ∙ sym (append-nil (text_of t.lines)))))
  where
    started : Start (parts_of_proof p) t.lines
    started = told_starts (parts_of_proof p) t.lines t.told

    either : Fronts before t.lines rest [] ⊎ Fronts t.lines before [] rest → ⊥
    either (inl f) =
        let none = go_on before t.lines f.more rest [] stuck p started f.lines f.rest in
        let same = f.lines ∙ (ap (λ m. before ++ m) none ∙ append-nil before) in
        cut p (subst (AllZip IsLine (parts_of_proof p)) same t.told) (f.rest ∙ ap (λ m. text_of m ++ []) none)
    either (inr f) =
        let none = ends before f.more rest [] f.rest in
        let same = f.lines ∙ (ap (λ m. t.lines ++ m) none.0 ∙ append-nil t.lines) in
        cut p (subst (AllZip IsLine (parts_of_proof p)) (sym same) t.told) none.1

last_clean : (before : List Line) (line : Line) → Clean (before ++ line ∷ []) → lacks 10 line ≡ true
last_clean [] line h = h.0
last_clean (x ∷ before) line h = last_clean before line h.1

loosely_clean : AreClean → (ps : List Part) (before : List Line) (line : Line) → StartLoosely ps before line → lacks 10 line ≡ true
loosely_clean clean [] before line h = absurd h
loosely_clean clean (p ∷ ps) [] line h = clean p line h
loosely_clean clean (p ∷ ps) (x ∷ before) line h = loosely_clean clean ps before line h.1

-- nothing is read: why, and where

stuck_shut : AreLoose → (before : List Line) (rest : List ℕ) → ((line : Line) (more : List ℕ) (p : Proof) → rest ≡ line ++ 10 ∷ more → StartLoosely (parts_of_proof p) before line → ⊥) → Stuck before rest
stuck_shut loose before rest never line more p e s = never line more p e (start_loosely loose (parts_of_proof p) before line s)

stuck_large : AreLoose → AreClean → (before : List Line) (line : Line) (rest back : List ℕ) → rest ≡ line ++ 10 ∷ back → lacks 10 line ≡ true → ((p : Proof) → Start (parts_of_proof p) (before ++ line ∷ []) → ⊥) → Stuck before rest
stuck_large loose clean before line rest back e h out other more p f s =
    let other_clean = last_clean before other (start_clean loose clean (parts_of_proof p) (before ++ other ∷ []) s) in
    let same = same_split 10 line back other more h other_clean (sym e ∙ f) in
    out p (subst (λ z. Start (parts_of_proof p) (before ++ z ∷ [])) (sym same.0) s)

pub begun_clean : AreLoose → AreClean → (text new : List ℕ) (before : List Line) → Stops {A = Proof} Any parts_of_proof text new before → Clean before
begun_clean loose clean text new before s = start_clean loose clean (parts_of_proof s.begun.0) before s.begun.2

departs : AreLoose → AreClean → (text new : List ℕ) (before : List Line) → Stops {A = Proof} Any parts_of_proof text new before → Stuck before new → Departs text (length before + 1) before new
departs loose clean text new before s stuck =
    record {
      place = s.place;
      number = refl;
      begun = (s.begun.0, s.begun.2);
      none =
          none_there loose clean text before new s.place (begun_clean loose clean text new before s) stuck
          (λ p t e.
          let few = s.short p [] tt (start_more (parts_of_proof p) [] before (told_starts (parts_of_proof p) before t)) in
          omega (arith, told_long (parts_of_proof p) before t));
    }

pub syntax_there : AreLoose → AreClean → (text new : List ℕ) (before : List Line) → Stops {A = Proof} Any parts_of_proof text new before → IsShut {A = Proof} Any parts_of_proof new before → SyntaxAt text (length before + 1)
syntax_there loose clean text new before s i =
    let never : (line : Line) (more : List ℕ) (p : Proof) → new ≡ line ++ 10 ∷ more → StartLoosely (parts_of_proof p) before line → ⊥ = λ line more p e l. i.never line more p tt e l in
    record { before = before; rest = new; departs = departs loose clean text new before s (stuck_shut loose before new never); shut = never }

pub range_there : AreLoose → AreClean → (text new : List ℕ) (before : List Line) → Stops {A = Proof} Any parts_of_proof text new before → IsLarge {A = Proof} Any parts_of_proof new before → RangeAt text (length before + 1)
range_there loose clean text new before s i =
    let out : (p : Proof) → Start (parts_of_proof p) (before ++ i.line ∷ []) → ⊥ = λ p st. i.out p tt st in
    let stuck = stuck_large loose clean before i.line new i.back i.place (loosely_clean clean (parts_of_proof i.loosely.0) before i.line i.loosely.2) out in
    record {
      before = before;
      line = i.line;
      more = i.back;
      departs = subst (λ r. Departs text (length before + 1) before r) i.place (departs loose clean text new before s stuck);
      loosely = (i.loosely.0, i.loosely.2);
      out = out;
    }

-- a proof is read, and something stands behind it

same_proof : Decides {B = Proof} Any parts_of_proof → (p q : Proof) (lines : List Line) → AllZip IsLine (parts_of_proof p) lines → Start (parts_of_proof q) lines → p ≡ q
same_proof d p q lines t s = d.once p q lines [] tt tt t (start_more (parts_of_proof q) [] lines s)

pub syntax_behind : AreLoose → AreClean → Decides {B = Proof} Any parts_of_proof → (text new : List ℕ) (p : Proof) (t : Tells (parts_of_proof p) text new) → (new ≡ [] → ⊥) → SyntaxAt text (length t.lines + 1)
syntax_behind loose clean d text new p t some =
    let never : (line : Line) (more : List ℕ) (q : Proof) → new ≡ line ++ 10 ∷ more → StartLoosely (parts_of_proof q) t.lines line → ⊥ =
    λ line more q e l.
    let same = same_proof d p q t.lines t.told (loosely_starts (parts_of_proof q) t.lines line l) in
    let long = loosely_long (parts_of_proof p) t.lines line (subst (λ v. StartLoosely (parts_of_proof v) t.lines line) (sym same) l) in
    omega (arith, told_long (parts_of_proof p) t.lines t.told) in
    record {
      before = t.lines;
      rest = new;
      departs =
          record {
            place = t.place;
            number = refl;
            begun = (p, told_starts (parts_of_proof p) t.lines t.told);
            none =
                none_there loose clean text t.lines new t.place
                (start_clean loose clean (parts_of_proof p) t.lines (told_starts (parts_of_proof p) t.lines t.told))
                (stuck_shut loose t.lines new never) (λ q u e. some e);
          };
      shut = never;
    }

-- a text departs once

stuck_syntax : AreLoose → (text : List ℕ) (n : ℕ) (a : SyntaxAt text n) → Stuck a.before a.rest
stuck_syntax loose text n a = stuck_shut loose a.before a.rest a.shut

stuck_range : AreLoose → AreClean → (text : List ℕ) (n : ℕ) (a : RangeAt text n) → Stuck a.before (a.line ++ 10 ∷ a.more)
stuck_range loose clean text n a =
    stuck_large loose clean a.before a.line (a.line ++ 10 ∷ a.more) a.more refl (loosely_clean clean (parts_of_proof a.loosely.0) a.before a.line a.loosely.1) a.out

same_place : AreLoose → AreClean → (text : List ℕ) (m n : ℕ) (xs ys : List Line) (r s : List ℕ) → Departs text m xs r → Departs text n ys s → Stuck xs r → Stuck ys s → SamePlace xs ys r s
same_place loose clean text m n xs ys r s a b h k =
    either
    (fronts xs ys r s (start_clean loose clean (parts_of_proof a.begun.0) xs a.begun.1) (start_clean loose clean (parts_of_proof b.begun.0) ys b.begun.1) (sym a.place ∙ b.place))
  where
    either : Fronts xs ys r s ⊎ Fronts ys xs s r → SamePlace xs ys r s
    either (inl f) = same_front xs ys r s h b.begun.0 b.begun.1 f
    either (inr f) = let p = same_front ys xs s r k a.begun.0 a.begun.1 f in record { lines = sym p.lines; rest = sym p.rest }

same_number : (text : List ℕ) (m n : ℕ) (xs ys : List Line) (r s : List ℕ) → Departs text m xs r → Departs text n ys s → xs ≡ ys → m ≡ n
same_number text m n xs ys r s a b e = a.number ∙ (ap (λ t. length t + 1) e ∙ sym b.number)

pub one_syntax : AreLoose → AreClean → (text : List ℕ) (m n : ℕ) → SyntaxAt text m → SyntaxAt text n → m ≡ n
one_syntax loose clean text m n a b =
    let p = same_place loose clean text m n a.before b.before a.rest b.rest a.departs b.departs (stuck_syntax loose text m a) (stuck_syntax loose text n b) in
    same_number text m n a.before b.before a.rest b.rest a.departs b.departs p.lines

pub one_range : AreLoose → AreClean → (text : List ℕ) (m n : ℕ) → RangeAt text m → RangeAt text n → m ≡ n
one_range loose clean text m n a b =
    let p = same_place loose clean text m n a.before b.before (a.line ++ 10 ∷ a.more) (b.line ++ 10 ∷ b.more) a.departs b.departs (stuck_range loose clean text m a) (stuck_range loose clean text n b) in
    same_number text m n a.before b.before (a.line ++ 10 ∷ a.more) (b.line ++ 10 ∷ b.more) a.departs b.departs p.lines

pub syntax_no_range : AreLoose → AreClean → (text : List ℕ) (m n : ℕ) → SyntaxAt text m → RangeAt text n → ⊥
syntax_no_range loose clean text m n a b =
    let p = same_place loose clean text m n a.before b.before a.rest (b.line ++ 10 ∷ b.more) a.departs b.departs (stuck_syntax loose text m a) (stuck_range loose clean text n b) in
    a.shut b.line b.more b.loosely.0 p.rest (subst (λ t. StartLoosely (parts_of_proof b.loosely.0) t b.line) (sym p.lines) b.loosely.1)

-- a text is of one proof
pub one_proof : AreLoose → AreClean → Decides {B = Proof} Any parts_of_proof → (text : List ℕ) (p q : Proof) → IsProofText text p → IsProofText text q → p ≡ q
one_proof loose clean d text p q a b =
    either (fronts a.lines b.lines [] [] first second (append-nil (text_of a.lines) ∙ (sym a.same ∙ (b.same ∙ sym (append-nil (text_of b.lines))))))
  where
    first : Clean a.lines
    first = start_clean loose clean (parts_of_proof p) a.lines (told_starts (parts_of_proof p) a.lines a.told)

    second : Clean b.lines
    second = start_clean loose clean (parts_of_proof q) b.lines (told_starts (parts_of_proof q) b.lines b.told)

    either : Fronts a.lines b.lines [] [] ⊎ Fronts b.lines a.lines [] [] → p ≡ q
    either (inl f) = same_proof d p q a.lines a.told (start_front (parts_of_proof q) a.lines f.more (subst (Start (parts_of_proof q)) f.lines (told_starts (parts_of_proof q) b.lines b.told)))
    either (inr f) = sym (same_proof d q p b.lines b.told (start_front (parts_of_proof p) b.lines f.more (subst (Start (parts_of_proof p)) f.lines (told_starts (parts_of_proof p) a.lines a.told))))
