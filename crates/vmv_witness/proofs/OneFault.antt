-- A text departs once.
use Rattle.std.proofs.Common.{◌≡◌, ◌⊎◌, inl, inr, ℕ, ◌+◌, true, List, [], ◌∷◌, ◌++◌, length, refl, sym, ap, subst, ◌∙◌, append_assoc}
use Rattle.std.proofs.lemmas.List.{append-nil}
use Rattle.vmv_witness.specs.Text.{lines_of, text_of}
use Rattle.vmv_witness.specs.Faults.{Begins, BeginsLoosely, Departs, SyntaxAt, RangeAt}
use Rattle.vmv_witness.specs.Reading.{lacks}
use Rattle.vmv_witness.proofs.Bytes.{same_split}
use Rattle.vmv_witness.proofs.Clean.{Clean, next_clean}
use Rattle.vmv_witness.proofs.Places.{begins_loosely, begun_clean, line_clean}

-- the ones begin the others, and so much more stands behind them
record Fronts (xs ys : List (List ℕ)) (r s : List ℕ) : Type 0 where
  more : List (List ℕ)
  lines : ys ≡ xs ++ more
  rest : r ≡ text_of more ++ s

fronts : (xs ys : List (List ℕ)) (r s : List ℕ) → Clean xs → Clean ys → text_of xs ++ r ≡ text_of ys ++ s → Fronts xs ys r s ⊎ Fronts ys xs s r
fronts [] ys r s h k e = inl (record { more = ys; lines = refl; rest = e })
fronts (x ∷ xs) [] r s h k e = inr (record { more = x ∷ xs; lines = refl; rest = sym e })
fronts (x ∷ xs) (y ∷ ys) r s h k e =
    let split = same_split 10 x (text_of xs ++ r) y (text_of ys ++ s) h.0 k.0 (sym (append_assoc x (10 ∷ text_of xs) r) ∙ (e ∙ append_assoc y (10 ∷ text_of ys) s)) in
    grown (fronts xs ys r s h.1 k.1 split.1) split.0
  where
    grown : Fronts xs ys r s ⊎ Fronts ys xs s r → x ≡ y → Fronts (x ∷ xs) (y ∷ ys) r s ⊎ Fronts (y ∷ ys) (x ∷ xs) s r
    grown (inl f) q = inl (record { more = f.more; lines = λ i. sym q i ∷ f.lines i; rest = f.rest })
    grown (inr f) q = inr (record { more = f.more; lines = λ i. q i ∷ f.lines i; rest = f.rest })

-- nothing begun goes on with what stands there
abbrev Stuck : List (List ℕ) → List ℕ → Type 0
Stuck before rest = (line more : List ℕ) → rest ≡ line ++ 10 ∷ more → lacks 10 line ≡ true → Begins (before ++ line ∷ []) → ⊥

stuck_syntax : (text : List ℕ) (n : ℕ) (a : SyntaxAt text n) → Stuck a.before a.rest
stuck_syntax text n a line more e l b = a.shut line more e (begins_loosely (a.before ++ line ∷ []) b)

stuck_range : (text : List ℕ) (n : ℕ) (a : RangeAt text n) → Stuck a.before (a.line ++ 10 ∷ a.more)
stuck_range text n a line more e l b =
    let same = same_split 10 a.line a.more line more (line_clean a.before a.line a.loosely) l e in
    a.out (subst (λ z. Begins (a.before ++ z ∷ [])) (sym same.0) b)

go_on : (xs ys more : List (List ℕ)) (r s : List ℕ) → Stuck xs r → Begins ys → ys ≡ xs ++ more → r ≡ text_of more ++ s → more ≡ []
go_on xs ys [] r s h b e f = refl
go_on xs ys (line ∷ more) r s h (w, tail, spelled, q) e f =
    let all : lines_of w ≡ xs ++ line ∷ (more ++ tail) = q ∙ (ap (λ t. t ++ tail) e ∙ append_assoc xs (line ∷ more) tail) in
    absurd
    (h line (text_of more ++ s) (f ∙ append_assoc line (10 ∷ text_of more) s)
    (next_clean xs line more (subst Clean e (begun_clean ys (begins_loosely ys (w, tail, spelled, q)))))
    (w, more ++ tail, spelled, all ∙ sym (append_assoc xs (line ∷ []) (more ++ tail))))

-- the lines before and the rest are the same
record SamePlace (xs ys : List (List ℕ)) (r s : List ℕ) : Type 0 where
  lines : xs ≡ ys
  rest : r ≡ s

same_front : (xs ys : List (List ℕ)) (r s : List ℕ) → Stuck xs r → Begins ys → Fronts xs ys r s → SamePlace xs ys r s
same_front xs ys r s h b f =
    let none = go_on xs ys f.more r s h b f.lines f.rest in
    record {
      lines = sym (f.lines ∙ (ap (λ m. xs ++ m) none ∙ append-nil xs));
      rest = f.rest ∙ ap (λ m. text_of m ++ s) none;
    }

same_place : (text : List ℕ) (m n : ℕ) (xs ys : List (List ℕ)) (r s : List ℕ) → Departs text m xs r → Departs text n ys s → Stuck xs r → Stuck ys s → SamePlace xs ys r s
same_place text m n xs ys r s a b h k =
    either
    (fronts xs ys r s (begun_clean xs (begins_loosely xs a.begun)) (begun_clean ys (begins_loosely ys b.begun)) (sym a.place ∙ b.place))
  where
    either : Fronts xs ys r s ⊎ Fronts ys xs s r → SamePlace xs ys r s
    either (inl f) = same_front xs ys r s h b.begun f
    either (inr f) = let p = same_front ys xs s r k a.begun f in record { lines = sym p.lines; rest = sym p.rest }

same_number : (text : List ℕ) (m n : ℕ) (xs ys : List (List ℕ)) (r s : List ℕ) → Departs text m xs r → Departs text n ys s → xs ≡ ys → m ≡ n
same_number text m n xs ys r s a b e = a.number ∙ (ap (λ t. length t + 1) e ∙ sym b.number)

pub one_syntax : (text : List ℕ) (m n : ℕ) → SyntaxAt text m → SyntaxAt text n → m ≡ n
one_syntax text m n a b =
    let p = same_place text m n a.before b.before a.rest b.rest a.departs b.departs (stuck_syntax text m a) (stuck_syntax text n b) in
    same_number text m n a.before b.before a.rest b.rest a.departs b.departs p.lines

pub one_range : (text : List ℕ) (m n : ℕ) → RangeAt text m → RangeAt text n → m ≡ n
one_range text m n a b =
    let p = same_place text m n a.before b.before (a.line ++ 10 ∷ a.more) (b.line ++ 10 ∷ b.more) a.departs b.departs (stuck_range text m a) (stuck_range text n b) in
    same_number text m n a.before b.before (a.line ++ 10 ∷ a.more) (b.line ++ 10 ∷ b.more) a.departs b.departs p.lines

pub syntax_no_range : (text : List ℕ) (m n : ℕ) → SyntaxAt text m → RangeAt text n → ⊥
syntax_no_range text m n a b =
    let p = same_place text m n a.before b.before a.rest (b.line ++ 10 ∷ b.more) a.departs b.departs (stuck_syntax text m a) (stuck_range text n b) in
    a.shut b.line b.more p.rest (subst (λ t. BeginsLoosely (t ++ b.line ∷ [])) (sym p.lines) b.loosely)
