-- The head of an exclusion.
use Rattle.std.proofs.Common.{◌≡◌, inl, inr, ◌↔◌, ℕ, Bool, true, false, List, [], ◌∷◌, ◌++◌, get_or, drop, refl, sym, ap, ◌∙◌, subst, IsTrue, arith}
use Rattle.std.specs.Prelude.{codes}
use Rattle.std.specs.Bool.{OnTrue, OnFalse}
use Rattle.std.specs.Fmt.{decimal, signed_decimal}
use Rattle.std.proofs.lemmas.List.{append-nil}
use Rattle.std.proofs.lemmas.List.Concat.{flat_map-append}
use Rattle.vmv_tree.specs.Names.{is_name}
use Rattle.vmv_tree.specs.declared.name.Name.{Name}
use Rattle.vmv_cond.specs.declared.cond.Piece.{Piece}
use Rattle.vmv_cond.specs.declared.cond.Piece.TheVariants.{Below, Above, Zero}
use Rattle.vmv_witness.specs.Numbers.{IsNumber}
use Rattle.vmv_witness.specs.Reading.{lacks}
use Rattle.vmv_proof_words.specs.Words.{Word, words_of}
use Rattle.vmv_proof_words.specs.Taking.{IsNameWord, IsNaturalWord, IsOneNumber}
use Rattle.vmv_proof_words.proofs.Splitting.{Clean, spaced_words, words_of_line, line_of_words}
use Rattle.vmv_proof_words.proofs.Digits.{end_number}
use Rattle.vmv_proof_text.specs.Parts.{exclude_part}
use Rattle.vmv_proof_text.specs.Text.{spaced, piece_text}
use Rattle.vmv_proof_text.specs.Lines.{IsLine, IsPiece}
use Rattle.vmv_proof_text.specs.Loose.{IsPieceLoosely}
use Rattle.vmv_proof_line.specs.Shapes.{piece_words, IsPieceWords, TakesPieceLoosely, IsExcludeLoosely}
use Rattle.vmv_proof_line.proofs.Fields.{number_clean, name_clean, count_clean, tails, behind}

clean-append : (xs ys : List Word) → Clean xs → Clean ys → Clean (xs ++ ys)
clean-append [] ys h k = k
clean-append (x ∷ xs) ys h k = (h.0, clean-append xs ys h.1 k)

end_clean : (piece : Piece) → IsPiece piece → Clean (piece_words piece)
end_clean (Below end) h = (refl, (number_clean (signed_decimal end) (end_number end (signed_decimal end) (h, refl)), tt))
end_clean (Above end) h = (refl, (number_clean (signed_decimal end) (end_number end (signed_decimal end) (h, refl)), tt))
end_clean Zero h = (refl, tt)

piece_spaced : (piece : Piece) → piece_text piece ≡ spaced_words (piece_words piece)
piece_spaced (Below end) = ap (λ t. codes " below " ++ t) (sym (append-nil (signed_decimal end)))
piece_spaced (Above end) = ap (λ t. codes " above " ++ t) (sym (append-nil (signed_decimal end)))
piece_spaced Zero = refl

-- the words of a line of its fields
abbrev pub fields : List ℕ → List ℕ → List Word → Word → List Word
fields entry name words under = entry ∷ name ∷ (words ++ codes "under" ∷ under ∷ [])

spaced_fields : (entry name : List ℕ) (words : List Word) (under : Word) → spaced_words (fields entry name words under) ≡ spaced entry ++ (spaced name ++ (spaced_words words ++ (codes " under " ++ under)))
spaced_fields entry name words under =
    ap (λ t. spaced entry ++ (spaced name ++ t))
    (flat_map-append (λ word. 32 ∷ word) words (codes "under" ∷ under ∷ []) ∙ ap (λ t. spaced_words words ++ (codes " under " ++ t)) (append-nil under))

pub to_fields : (line entry name : List ℕ) (words : List Word) (under : Word) → IsTrue (is_name entry) → IsTrue (is_name name) → Clean words → IsTrue (lacks 32 under)
    → line ≡ codes "exclude" ++ (spaced entry ++ (spaced name ++ (spaced_words words ++ (codes " under " ++ under)))) → words_of line ≡ codes "exclude" ∷ fields entry name words under
to_fields line entry name words under h k l m e =
    ap words_of (e ∙ ap (λ t. codes "exclude" ++ t) (sym (spaced_fields entry name words under)))
    ∙ words_of_line (codes "exclude") (fields entry name words under) refl
    (name_clean entry h, (name_clean name k, clean-append words (codes "under" ∷ under ∷ []) l (refl, (m, tt))))

pub from_fields : (line entry name : List ℕ) (words : List Word) (under : Word) → words_of line ≡ codes "exclude" ∷ fields entry name words under
    → line ≡ codes "exclude" ++ (spaced entry ++ (spaced name ++ (spaced_words words ++ (codes " under " ++ under))))
from_fields line entry name words under e = line_of_words line (codes "exclude") (fields entry name words under) e ∙ ap (λ t. codes "exclude" ++ t) (spaced_fields entry name words under)

pub head_words : (line : List ℕ) (entry name : Name) (piece : Piece) (n : ℕ) → IsLine (exclude_part entry name piece n) line → words_of line ≡ codes "exclude" ∷ fields entry name (piece_words piece) (decimal n)
head_words line entry name piece n h =
    to_fields line entry name (piece_words piece) (decimal n) h.0 h.1 (end_clean piece h.2) (count_clean n h.3)
    (h.4 ∙ ap (λ p. codes "exclude" ++ (spaced entry ++ (spaced name ++ (p ++ (codes " under " ++ decimal n))))) (piece_spaced piece))

-- the words that are left behind the names
pub behind_names : (line : List ℕ) (words more rest : List Word) (v w entry name : Word) (others : List Word) → words_of line ≡ codes "exclude" ∷ words → words ≡ v ∷ more → more ≡ w ∷ rest
    → words_of line ≡ codes "exclude" ∷ entry ∷ name ∷ others → rest ≡ others
behind_names line words more rest v w entry name others e f g k =
    tails w name rest others (sym g ∙ tails v entry more (name ∷ others) (sym f ∙ behind line (codes "exclude") words (entry ∷ name ∷ others) e k))

pub behind_entry : (line : List ℕ) (words more : List Word) (v entry name : Word) (others : List Word) → words_of line ≡ codes "exclude" ∷ words → words ≡ v ∷ more
    → words_of line ≡ codes "exclude" ∷ entry ∷ name ∷ others → more ≡ name ∷ others
behind_entry line words more v entry name others e f k = tails v entry more (name ∷ others) (sym f ∙ behind line (codes "exclude") words (entry ∷ name ∷ others) e k)

other_first : (v w : Word) (vs ws : List Word) → v ∷ vs ≡ w ∷ ws → (get_or v 0 0 ≡ get_or w 0 0 → ⊥) → ⊥
other_first v w vs ws e h = h (ap (λ l. get_or (get_or l 0 []) 0 0) e)

-- what is behind a piece is so in one way
pub behind_loosely : (xs ys new rest : List Word) → IsPieceWords xs → IsPieceWords ys → xs ++ new ≡ ys ++ rest → new ≡ rest
behind_loosely xs ys new rest h k e = by h k
  where
    whole : (us vs : List Word) → xs ≡ us → ys ≡ vs → us ++ new ≡ vs ++ rest
    whole us vs f g = ap (λ a. a ++ new) (sym f) ∙ (e ∙ ap (λ b. b ++ rest) g)

    by : IsPieceWords xs → IsPieceWords ys → new ≡ rest
    by (inl (a, n, f)) (inl (b, m, g)) = ap (λ l. drop 2 l) (whole _ _ f g)
    by (inl (a, n, f)) (inr (inl (b, m, g))) = absurd (other_first _ _ _ _ (whole _ _ f g) (λ s. omega arith))
    by (inl (a, n, f)) (inr (inr g)) = absurd (other_first _ _ _ _ (whole _ _ f g) (λ s. omega arith))
    by (inr (inl (a, n, f))) (inl (b, m, g)) = absurd (other_first _ _ _ _ (whole _ _ f g) (λ s. omega arith))
    by (inr (inl (a, n, f))) (inr (inl (b, m, g))) = ap (λ l. drop 2 l) (whole _ _ f g)
    by (inr (inl (a, n, f))) (inr (inr g)) = absurd (other_first _ _ _ _ (whole _ _ f g) (λ s. omega arith))
    by (inr (inr f)) (inl (b, m, g)) = absurd (other_first _ _ _ _ (whole _ _ f g) (λ s. omega arith))
    by (inr (inr f)) (inr (inl (b, m, g))) = absurd (other_first _ _ _ _ (whole _ _ f g) (λ s. omega arith))
    by (inr (inr f)) (inr (inr g)) = tails _ _ new rest (whole _ _ f g)

pub piece_loose : (piece : Piece) → IsPiece piece → IsPieceWords (piece_words piece)
piece_loose (Below end) h = inl (signed_decimal end, end_number end (signed_decimal end) (h, refl), refl)
piece_loose (Above end) h = inr (inl (signed_decimal end, end_number end (signed_decimal end) (h, refl), refl))
piece_loose Zero h = inr (inr refl)

loose_clean : (words : List Word) → IsPieceWords words → Clean words
loose_clean words (inl (end, h, e)) = subst Clean (sym e) (refl, (number_clean end h, tt))
loose_clean words (inr (inl (end, h, e))) = subst Clean (sym e) (refl, (number_clean end h, tt))
loose_clean words (inr (inr e)) = subst Clean (sym e) (refl, tt)

-- a piece with an end of any size, by its words and by its bytes
pub loose_bytes : (words : List Word) → IsPieceWords words → IsPieceLoosely (spaced_words words)
loose_bytes words (inl (end, h, e)) = inl (end, h, ap spaced_words e ∙ ap (λ t. codes " below " ++ t) (append-nil end))
loose_bytes words (inr (inl (end, h, e))) = inr (inl (end, h, ap spaced_words e ∙ ap (λ t. codes " above " ++ t) (append-nil end)))
loose_bytes words (inr (inr e)) = inr (inr (ap spaced_words e))

pub bytes_loose : (bytes : List ℕ) → IsPieceLoosely bytes → (words : List Word) × IsPieceWords words × (bytes ≡ spaced_words words)
bytes_loose bytes (inl (end, h, e)) = (codes "below" ∷ end ∷ [], inl (end, h, refl), e ∙ ap (λ t. codes " below " ++ t) (sym (append-nil end)))
bytes_loose bytes (inr (inl (end, h, e))) = (codes "above" ∷ end ∷ [], inr (inl (end, h, refl)), e ∙ ap (λ t. codes " above " ++ t) (sym (append-nil end)))
bytes_loose bytes (inr (inr e)) = (codes "zero" ∷ [], inr (inr refl), e)

-- the words of a line that would tell a head
pub record LooseHead (line : List ℕ) : Type 0 where
  pub entry : Word
  pub name : Word
  pub piece : List Word
  pub under : Word
  pub entry_name : IsTrue (is_name entry)
  pub name_name : IsTrue (is_name name)
  pub pieced : IsPieceWords piece
  pub numbered : IsNumber under
  pub words : words_of line ≡ codes "exclude" ∷ fields entry name piece under

pub loose_head : (line : List ℕ) → IsExcludeLoosely line → LooseHead line
loose_head line (entry, name, bytes, under, h, k, p, n, e) =
    let q = bytes_loose bytes p in
    record {
      entry = entry;
      name = name;
      piece = q.0;
      under = under;
      entry_name = h;
      name_name = k;
      pieced = q.1;
      numbered = n;
      words =
          to_fields line entry name q.0 under h k (loose_clean q.0 q.1) (number_clean under n)
          (e ∙ ap (λ b. codes "exclude" ++ (spaced entry ++ (spaced name ++ (b ++ (codes " under " ++ under))))) q.2);
    }

pub head_loose : (line : List ℕ) → LooseHead line → IsExcludeLoosely line
head_loose line h = (h.entry, h.name, spaced_words h.piece, h.under, h.entry_name, h.name_name, loose_bytes h.piece h.pieced, h.numbered, from_fields line h.entry h.name h.piece h.under h.words)

-- what stands behind a piece that was taken
pub under_words : (line : List ℕ) (words more rest new : List Word) (v w : Word) (p : Piece) → words_of line ≡ codes "exclude" ∷ words → words ≡ v ∷ more → more ≡ w ∷ rest → IsPiece p → rest ≡ piece_words p ++ new
    → (entry name : Name) (piece : Piece) (n : ℕ) → IsLine (exclude_part entry name piece n) line → new ≡ codes "under" ∷ decimal n ∷ []
under_words line words more rest new v w p e f g k l entry name piece n h =
    behind_loosely (piece_words p) (piece_words piece) new (codes "under" ∷ decimal n ∷ []) (piece_loose p k) (piece_loose piece h.2)
    (sym l ∙ behind_names line words more rest v w entry name (piece_words piece ++ codes "under" ∷ decimal n ∷ []) e f g (head_words line entry name piece n h))

pub under_loosely : (line : List ℕ) (words more rest new : List Word) (v w : Word) (ps : List Word) → words_of line ≡ codes "exclude" ∷ words → words ≡ v ∷ more → more ≡ w ∷ rest → IsPieceWords ps → rest ≡ ps ++ new
    → (h : LooseHead line) → new ≡ codes "under" ∷ h.under ∷ []
under_loosely line words more rest new v w ps e f g k l h =
    behind_loosely ps h.piece new (codes "under" ∷ h.under ∷ []) k h.pieced
    (sym l ∙ behind_names line words more rest v w h.entry h.name (h.piece ++ codes "under" ∷ h.under ∷ []) e f g h.words)

joined_fields : (line : List ℕ) (words more rest new last ps : List Word) (v w u : Word) → words_of line ≡ codes "exclude" ∷ words → words ≡ v ∷ more → more ≡ w ∷ rest → rest ≡ ps ++ new → new ≡ codes "under" ∷ last → last ≡ u ∷ []
    → words_of line ≡ codes "exclude" ∷ fields v w ps u
joined_fields line words more rest new last ps v w u e f g l m n =
    e ∙ ap (λ t. codes "exclude" ∷ t) (f ∙ ap (λ t. v ∷ t) (g ∙ ap (λ t. w ∷ t) (l ∙ ap (λ t. ps ++ t) (m ∙ ap (λ t. codes "under" ∷ t) n))))

-- all fields are told
pub head_told : (line : List ℕ) (words more rest new last : List Word) (v w u : Word) (entry name : Name) (p : Piece) (n : ℕ) → words_of line ≡ codes "exclude" ∷ words → IsNameWord entry v → words ≡ v ∷ more → IsNameWord name w → more ≡ w ∷ rest
    → IsPiece p → rest ≡ piece_words p ++ new → new ≡ codes "under" ∷ last → IsNaturalWord 32 n u → last ≡ u ∷ [] → IsLine (exclude_part entry name p n) line
head_told line words more rest new last v w u entry name p n e a f b g k l m c q =
    let whole = joined_fields line words more rest new last (piece_words p) v w u e f g l m q in
    let named : words_of line ≡ codes "exclude" ∷ fields entry name (piece_words p) (decimal n) =
    whole ∙ (λ i. codes "exclude" ∷ fields (a.1 i) (b.1 i) (piece_words p) (c.1 i)) in (
      a.0,
      b.0,
      k,
      c.0,
      from_fields line entry name (piece_words p) (decimal n) named
          ∙ ap (λ t. codes "exclude" ++ (spaced entry ++ (spaced name ++ (t ++ (codes " under " ++ decimal n))))) (sym (piece_spaced p)),
    )

pub head_loosely : (line : List ℕ) (words more rest new last ps : List Word) (v w : Word) (entry name : Name) (b : Bool) → words_of line ≡ codes "exclude" ∷ words → IsNameWord entry v → words ≡ v ∷ more → IsNameWord name w → more ≡ w ∷ rest
    → IsPieceWords ps → rest ≡ ps ++ new → new ≡ codes "under" ∷ last → (IsTrue b ↔ IsOneNumber last) → IsTrue b ↔ IsExcludeLoosely line
head_loosely line words more rest new last ps v w entry name b e a f c g k l m d = (to, from)
  where
    to : IsTrue b → IsExcludeLoosely line
    to t =
        let one = d.0 t in
        head_loose line (record {
          entry = v;
          name = w;
          piece = ps;
          under = one.0;
          entry_name = subst (λ x. IsTrue (is_name x)) (sym a.1) a.0;
          name_name = subst (λ x. IsTrue (is_name x)) (sym c.1) c.0;
          pieced = k;
          numbered = one.1;
          words = joined_fields line words more rest new last ps v w one.0 e f g l m one.2;
        })

    from : IsExcludeLoosely line → IsTrue b
    from h =
        let r = loose_head line h in
        d.1 (r.under, r.numbered, tails (codes "under") (codes "under") last (r.under ∷ []) (sym m ∙ under_loosely line words more rest new v w ps e f g k l r))

pub below_taken : (old mid new : List Word) (word : Word) (b : Bool) → old ≡ word ∷ mid → word ≡ codes "below" → OnTrue b ((w : Word) × IsNumber w × (mid ≡ w ∷ new))
    → OnFalse b ((w : Word) (rest : List Word) → IsNumber w → mid ≡ w ∷ rest → ⊥) → TakesPieceLoosely old new b
below_taken old mid new word true e f (w, n, g) none = (codes "below" ∷ w ∷ [], inl (w, n, refl), e ∙ (λ i. f i ∷ g i))
below_taken old mid new word false e f taken none = by
  where
    start : (ws rest us : List Word) → old ≡ ws ++ rest → ws ≡ us → codes "below" ∷ mid ≡ us ++ rest
    start ws rest us k g = ap (λ x. x ∷ mid) (sym f) ∙ (sym e ∙ (k ∙ ap (λ u. u ++ rest) g))

    by : (ws rest : List Word) → IsPieceWords ws → old ≡ ws ++ rest → ⊥
    by ws rest (inl (w, n, g)) k = none w rest n (tails _ _ mid (w ∷ rest) (start ws rest _ k g))
    by ws rest (inr (inl (w, n, g))) k = other_first _ _ _ _ (start ws rest _ k g) (λ s. omega arith)
    by ws rest (inr (inr g)) k = other_first _ _ _ _ (start ws rest _ k g) (λ s. omega arith)

pub above_taken : (old mid new : List Word) (word : Word) (b : Bool) → old ≡ word ∷ mid → word ≡ codes "above" → OnTrue b ((w : Word) × IsNumber w × (mid ≡ w ∷ new))
    → OnFalse b ((w : Word) (rest : List Word) → IsNumber w → mid ≡ w ∷ rest → ⊥) → TakesPieceLoosely old new b
above_taken old mid new word true e f (w, n, g) none = (codes "above" ∷ w ∷ [], inr (inl (w, n, refl)), e ∙ (λ i. f i ∷ g i))
above_taken old mid new word false e f taken none = by
  where
    start : (ws rest us : List Word) → old ≡ ws ++ rest → ws ≡ us → codes "above" ∷ mid ≡ us ++ rest
    start ws rest us k g = ap (λ x. x ∷ mid) (sym f) ∙ (sym e ∙ (k ∙ ap (λ u. u ++ rest) g))

    by : (ws rest : List Word) → IsPieceWords ws → old ≡ ws ++ rest → ⊥
    by ws rest (inl (w, n, g)) k = other_first _ _ _ _ (start ws rest _ k g) (λ s. omega arith)
    by ws rest (inr (inl (w, n, g))) k = none w rest n (tails _ _ mid (w ∷ rest) (start ws rest _ k g))
    by ws rest (inr (inr g)) k = other_first _ _ _ _ (start ws rest _ k g) (λ s. omega arith)
