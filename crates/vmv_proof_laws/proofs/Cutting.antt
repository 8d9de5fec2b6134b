-- What recorded exclusions leave of the whole conditions, word by word.
use Rattle.std.proofs.Common.{◌≡◌, ◌↔◌, ⊎_elim, ℕ, zero, suc, ℤ, List, [], ◌∷◌, take, refl, sym, subst, ◌∙◌, arith}
use Rattle.std.specs.List.{AllZip, Contains}
use Rattle.std.proofs.lemmas.Int.{ints}
use Rattle.vmv_tree.specs.declared.ends.NameEnds.{NameEnds}
use Rattle.vmv_tree.specs.declared.name.Name.{Name}
use Rattle.vmv_tree.specs.Words.{IsWord}
use Rattle.vmv_cond.specs.declared.cond.Piece.{Piece}
use Rattle.vmv_cond.specs.Cond.{Holds}
use Rattle.vmv_cond.specs.Piece.{InPiece}
use Rattle.vmv_snapshot.specs.Resolution.{Resolution}
use Rattle.vmv_assumption.specs.Whole.{whole}
use Rattle.vmv_assumption.specs.Assumed.{Assumed}
use Rattle.vmv_assumption.specs.Change.{IsCut}
use Rattle.vmv_assumption.proofs.Names.{by_name}
use Rattle.vmv_need.specs.declared.cut.Cut.{Cut}
use Rattle.vmv_need.proofs.Kept.{moved}
use Rattle.vmv_need.proofs.Lists.{none_in, first_in, later_in, first_or_later}
use Rattle.vmv_need.proofs.Lower.{words_whole}
use Rattle.vmv_proof.specs.declared.proof.Exclusion.{Exclusion}
use Rattle.vmv_proving.specs.Exclusions.{IsCutBy, IsExclusionOf}
use Rattle.vmv_proof_check.specs.Cuts.{IsSpared, IsCutBy as IsCutWords}

whole_words : (w : ℤ) → Holds whole w → IsWord w
whole_words w h = let above = h.above in let below = h.below in grind (arith, ints)

-- what a cut leaves of a name's condition
one_cut : (a b : Assumed) (f : Name) (piece : Piece) → IsCut a f piece b → (name : Name) (word : ℤ) → Holds (b name) word ↔ (Holds (a name) word × (f ≡ name → ¬ InPiece piece word))
one_cut a b f piece is name word =
    by_name {P = λ n. Holds (b n) word ↔ (Holds (a n) word × (f ≡ n → ¬ InPiece piece word))} f
    ((λ h. (((is.there word).0 h).0, λ e. ((is.there word).0 h).1)), (λ g. (is.there word).1 (g.0, g.1 refl)))
    (λ n other. ((λ h. (moved (b n) (a n) (is.elsewhere n other) word h, λ e. absurd (other (sym e)))), (λ g. moved (a n) (b n) (sym (is.elsewhere n other)) word g.0)))
    name

module _ (base : Resolution) (ends : List NameEnds) (all : List Cut) where
  abbrev Tell : List Cut → List Exclusion → Type 0
  Tell cuts xs = AllZip (IsExclusionOf base ends all) cuts xs

  words_left : (cuts : List Cut) (xs : List Exclusion) (first last : Assumed) → Tell cuts xs → IsCutBy cuts first last → (name : Name) (word : ℤ) → Holds (last name) word ↔ (Holds (first name) word × IsSpared xs name word)
  words_left [] [] first last told led name word = (
    (λ h. (subst (λ (a : Assumed). Holds (a name) word) led h, λ x there. absurd (none_in x there))),
    (λ g. subst (λ (a : Assumed). Holds (a name) word) (sym led) g.0),
  )
  words_left [] (x ∷ xs) first last told led name word = absurd told
  words_left (c ∷ cuts) [] first last told led name word = absurd told
  words_left (c ∷ cuts) (x ∷ xs) first last told (next, is, led) name word =
      let one = one_cut first next c.name c.piece is name word in
      let rest = words_left cuts xs next last told.1 led name word in
      let named : x.name ≡ c.name = (told.0).name in
      let pieces : x.piece ≡ c.piece = (told.0).piece in (
        (λ h.
            let r = rest.0 h in
            let o = one.0 r.0 in (
              o.0,
              λ y there e in'. ⊎_elim
                  (λ (same : x ≡ y). o.1 (sym named ∙ ((λ i. (same i).name) ∙ e)) (subst (λ (p : Piece). InPiece p word) pieces (subst (λ (z : Exclusion). InPiece z.piece word) (sym same) in')))
                  (λ (later : Contains xs y). r.1 y later e in')
                  (first_or_later x xs y there),
            )),
        (λ g. rest.1 (one.1 (g.0, λ e in'. g.1 x (first_in x xs) (named ∙ e) (subst (λ (p : Piece). InPiece p word) (sym pieces) in')), λ y there. g.1 y (later_in x xs y there))),
      )

  -- the whole conditions, cut by exclusions in order, hold the words that these spare
  pub cut_words : (cuts : List Cut) (xs : List Exclusion) (last : Assumed) → Tell cuts xs → IsCutBy cuts (λ name. whole) last → IsCutWords xs last
  cut_words cuts xs last told led name word =
      let left = words_left cuts xs (λ name. whole) last told led name word in
      ((λ h. let g = left.0 h in (whole_words word g.0, g.1)), (λ g. left.1 (words_whole word g.0, g.1)))

  pub tell_take : (n : ℕ) (cuts : List Cut) (xs : List Exclusion) → Tell cuts xs → Tell (take n cuts) (take n xs)
  tell_take zero cuts xs told = tt
  tell_take (suc n) [] [] told = tt
  tell_take (suc n) [] (x ∷ xs) told = absurd told
  tell_take (suc n) (c ∷ cuts) [] told = absurd told
  tell_take (suc n) (c ∷ cuts) (x ∷ xs) told = (told.0, tell_take n cuts xs told.1)
