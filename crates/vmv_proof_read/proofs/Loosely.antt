-- What a line may tell it would tell but for the size of its numbers.
use Rattle.std.proofs.Common.{◌≡◌, inl, inr, ℕ, suc, ℤ, List, [], ◌∷◌, ◌++◌, length, refl, ap, arith}
use Rattle.std.specs.Fmt.{decimal, signed_decimal}
use Rattle.std.specs.List.{All, flat_map}
use Rattle.std.proofs.lemmas.List.Elements.{All-cons}
use Rattle.vmv_tree.specs.Words.{IsWord}
use Rattle.vmv_tree.specs.declared.site.NamedSite.{NamedSite}
use Rattle.vmv_cond.specs.declared.cond.Piece.{Piece}
use Rattle.vmv_cond.specs.declared.cond.Piece.TheVariants.{Below, Above, Zero}
use Rattle.vmv_witness.specs.Numbers.{IsNumber}
use Rattle.vmv_witness.proofs.Digits.{value_is_number, site_is_number}
use Rattle.vmv_proof_text.specs.Text.{piece_text, range_words, site_word}
use Rattle.vmv_proof_text.specs.Lines.{IsCount, IsPiece, IsRange, IsSite, IsName}
use Rattle.vmv_proof_text.specs.Loose.{Digits, IsPieceLoosely, IsCountLoosely, SpelledSite, spelled_site, spelled_range}

pub count_number : (n : ℕ) → IsCount n → IsNumber (decimal n)
count_number n small = site_is_number (decimal n) (n, small, refl)

pub end_number : (z : ℤ) → IsWord z → IsNumber (signed_decimal z)
end_number z h = value_is_number (signed_decimal z) (z, h, refl)

pub count_loosely : (word line : List ℕ) (n : ℕ) → IsCount n → line ≡ word ++ decimal n → IsCountLoosely word line
count_loosely word line n small e = (decimal n, count_number n small, e)

pub piece_loosely : (p : Piece) → IsPiece p → IsPieceLoosely (piece_text p)
piece_loosely (Below z) h = inl (signed_decimal z, end_number z h, refl)
piece_loosely (Above z) h = inr (inl (signed_decimal z, end_number z h, refl))
piece_loosely Zero h = inr (inr refl)

spelled_ends : ℤ × ℤ → Digits × Digits
spelled_ends r = (signed_decimal r.0, signed_decimal r.1)

-- ranges, spelled
pub record Spelled {A : Type 0} (P : A → Type 0) (word : A → List ℕ) (n : ℕ) (bytes : List ℕ) : Type 0 where
  pub list : List A
  pub each : All P list
  pub count : length list ≡ n
  pub same : bytes ≡ flat_map word list

none_of : {A : Type 0} (P : A → Type 0) → All P []
none_of P k d few = absurd (omega arith)

more_of : {A : Type 0} (P : A → Type 0) (x : A) (xs : List A) → P x → All P xs → All P (x ∷ xs)
more_of P x xs h t = All-cons P x xs h t

pub ranges_spelled : (rs : List (ℤ × ℤ)) → All IsRange rs → Spelled {A = Digits × Digits} (λ r. IsNumber r.0 × IsNumber r.1) spelled_range (length rs) (flat_map range_words rs)
ranges_spelled [] h = record { list = []; each = none_of (λ r. IsNumber r.0 × IsNumber r.1); count = refl; same = refl }
ranges_spelled (r ∷ rs) h =
    let rest = ranges_spelled rs (λ k d few. h (suc k) d (omega arith)) in
    let here = h 0 r (omega arith) in
    record {
      list = (signed_decimal r.0, signed_decimal r.1) ∷ rest.list;
      each = more_of (λ r. IsNumber r.0 × IsNumber r.1) (signed_decimal r.0, signed_decimal r.1) rest.list (end_number r.0 here.low, end_number r.1 here.high) rest.each;
      count = omega (arith, rest.count);
      same = ap (λ t. range_words r ++ t) rest.same;
    }

pub sites_spelled : (ss : List NamedSite) → All IsSite ss → Spelled {A = SpelledSite} (λ s. IsName s.0 × IsNumber s.1) spelled_site (length ss) (flat_map site_word ss)
sites_spelled [] h = record { list = []; each = none_of (λ s. IsName s.0 × IsNumber s.1); count = refl; same = refl }
sites_spelled (s ∷ ss) h =
    let rest = sites_spelled ss (λ k d few. h (suc k) d (omega arith)) in
    let here = h 0 s (omega arith) in
    record {
      list = (s.proc, decimal s.index) ∷ rest.list;
      each = more_of (λ s. IsName s.0 × IsNumber s.1) (s.proc, decimal s.index) rest.list (here.named, count_number s.index here.small) rest.each;
      count = omega (arith, rest.count);
      same = ap (λ t. site_word s ++ t) rest.same;
    }
