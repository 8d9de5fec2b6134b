-- Frames, and what they say of names.
use Rattle.std.proofs.Common.{◌≡◌, ℕ, zero, suc, ◌+◌, ◌-◌, ◌<◌, ℤ, pos, Bool, true, false, Option, Some, None, List, [], ◌∷◌, ◌++◌, length, map, take, get_or, set, replicate, slice_get, if◌then◌else◌, min, refl, sym, ap, subst, arith, ◌∙◌, append_assoc, length-append, length-take}
use Rattle.std.specs.Str.{bytes_eq}
use Rattle.std.proofs.Math.Seq.{set-append_seam}
use Rattle.std.proofs.lemmas.List.{get_or_default, length-map, map-append, take-map}
use Rattle.vmv_snapshot.specs.declared.code.CodeOperand.{CodeOperand}
use Rattle.std.proofs.lemmas.Slice.Eq.{bytes_eq-Decides}
use Rattle.vmv_tree.specs.declared.name.Name.{Name}
use Rattle.vmv_tree.specs.Run.{Valuation, assign, start}
use Rattle.vmv_snapshot.proofs.Zips.{take_one_more}
use Rattle.vmv_run.specs.Walk.{word_in, frame_of, start_frame, valuation}

zeros_more : (n m : ℕ) → n ≡ suc m → replicate n (pos 0) ≡ pos 0 ∷ replicate m (pos 0)
zeros_more n m e = ap (λ k. replicate k (pos 0)) e

-- one word more
pub frame_more : (own : List ℤ) (n : ℕ) (w : ℤ) → length own ≡ n → n < 255 → set (frame_of own) (n + 1) w ≡ frame_of (own ++ w ∷ [])
unfolding frame_of
frame_more own n w long h =
    let m : ℕ = 254 - n in
    let tail : replicate (255 - length own) (pos 0) ≡ pos 0 ∷ replicate m (pos 0) = zeros_more (255 - length own) m (omega arith) in
    let at : n + 1 ≡ length (pos 0 ∷ own) = omega arith in
    let more = length-append own (w ∷ []) in
    let left : m ≡ 255 - length (own ++ w ∷ []) = omega arith in
    ap (λ t. set (pos 0 ∷ own ++ t) (n + 1) w) tail ∙ (ap (λ k. set (pos 0 ∷ own ++ pos 0 ∷ replicate m (pos 0)) k w) at
    ∙ (set-append_seam (pos 0 ∷ own) (pos 0) (replicate m (pos 0)) w
    ∙ ap (λ t. pos 0 ∷ t) (sym (append_assoc own (w ∷ []) (replicate m (pos 0))) ∙ ap (λ k. (own ++ w ∷ []) ++ replicate k (pos 0)) left)))

pub no_args_yet : (frame : List ℤ) (args : List CodeOperand) → replicate 256 (pos 0) ≡ frame_of (map (word_in frame) (take 0 args))
unfolding frame_of
no_args_yet frame args = refl

pub no_words_yet : (words : List ℤ) → replicate 256 (pos 0) ≡ frame_of (take 0 words)
unfolding frame_of
no_words_yet words = refl

-- one parameter more has its word
pub entry_more : (words frame : List ℤ) (i : ℕ) (w : ℤ) → i < length words → i < 255 → w ≡ get_or words i (pos 0) → frame ≡ frame_of (take i words) →
    set frame (i + 1) w ≡ frame_of (take (i + 1) words)
entry_more words frame i w h k is e =
    let own : w ≡ get_or words i w = is ∙ get_or_default words i (pos 0) w h in
    ap (λ f. set f (i + 1) w) e ∙ (frame_more (take i words) i w (omega (arith, length-take i words)) k ∙ ap frame_of (sym (take_one_more words i w h own)))

-- one argument more
pub called_more : (frame : List ℤ) (args : List CodeOperand) (own : List ℤ) (i : ℕ) (d : CodeOperand) (w : ℤ) → i < length args → i < 255 → w ≡ word_in frame (get_or args i d) →
    own ≡ frame_of (map (word_in frame) (take i args)) → set own (i + 1) w ≡ frame_of (map (word_in frame) (take (i + 1) args))
called_more frame args own i d w h k is e =
    let arg : CodeOperand = get_or args i d in
    let at : arg ≡ get_or args i arg = get_or_default args i d arg h in
    let long = length-take i args in
    let mapped : length (map (word_in frame) (take i args)) ≡ length (take i args) = length-map (take i args) (word_in frame) in
    ap (λ f. set f (i + 1) w) e ∙ (frame_more (map (word_in frame) (take i args)) i w (omega arith) k
    ∙ (ap (λ u. frame_of (map (word_in frame) (take i args) ++ u ∷ [])) is
    ∙ ap frame_of (sym (ap (map (word_in frame)) (take_one_more args i arg h at) ∙ map-append (word_in frame) (take i args) (arg ∷ [])))))

take_least : (xs : List ℤ) (n i : ℕ) → i ≡ min (length xs) n → take i xs ≡ take n xs
take_least xs zero i e = let z : i ≡ 0 = omega arith in ap (λ k. take k xs) z
take_least [] (suc n) i e = let z : i ≡ 0 = omega arith in ap (λ k. take k []) z
take_least (x ∷ xs) (suc n) zero e = absurd (omega arith)
take_least (x ∷ xs) (suc n) (suc i) e = ap (λ ys. x ∷ ys) (take_least xs n i (omega arith))

pub called_end : (frame : List ℤ) (args : List CodeOperand) (own : List ℤ) (i params : ℕ) → i ≡ min (length args) (min params 255) →
    own ≡ frame_of (map (word_in frame) (take i args)) → own ≡ start_frame params (map (word_in frame) args)
called_end frame args own i params e h =
    h ∙ ap frame_of (sym (take-map (word_in frame) i args) ∙ take_least (map (word_in frame) args) (min params 255) i (e ∙ ap (λ n. min n (min params 255)) (sym (length-map args (word_in frame)))))

not_same : (x y : Name) → (x ≡ y → ⊥) → bytes_eq x y ≡ false
not_same x y other = no (bytes_eq x y) (λ h. other ((bytes_eq-Decides x y).0 h))
  where
    no : (b : Bool) → (b ≡ true → ⊥) → b ≡ false
    no true h = absurd (h refl)
    no false h = refl

chosen_same : (b : Bool) (w u : ℤ) → (if b then w else (if b then u else w)) ≡ w
chosen_same true w u = refl
chosen_same false w u = refl

-- two names that differ are assigned in either order
either_order : (v : Valuation) (x y : Name) (w u : ℤ) → (x ≡ y → ⊥) → assign (assign v y u) x w ≡ assign (assign v x w) y u
either_order v x y w u other i z = swapped (bytes_eq z x) (bytes_eq z y) refl refl i
  where
    swapped : (a b : Bool) → bytes_eq z x ≡ a → bytes_eq z y ≡ b → (if a then w else (if b then u else v z)) ≡ (if b then u else (if a then w else v z))
    swapped true true p q = absurd (other (sym ((bytes_eq-Decides z x).0 p) ∙ (bytes_eq-Decides z y).0 q))
    swapped true false p q = refl
    swapped false b p q = refl

-- the later assignment of a name counts
assigned_again : (v : Valuation) (x : Name) (w u : ℤ) → assign (assign v x u) x w ≡ assign v x w
assigned_again v x w u i z = again (bytes_eq z x) i
  where
    again : (b : Bool) → (if b then w else (if b then u else v z)) ≡ (if b then w else v z)
    again true = refl
    again false = refl

abbrev pub AreOnce : List (Option Name) → Type 0
AreOnce slots = (m n : ℕ) (x : Name) → slice_get slots m ≡ Some (Some x) → slice_get slots n ≡ Some (Some x) → m ≡ n

once_rest : (slot : Option Name) (slots : List (Option Name)) → AreOnce (slot ∷ slots) → AreOnce slots
once_rest slot slots once m n x p q = let e : suc m ≡ suc n = once (suc m) (suc n) x p q in omega arith

-- a word is put into the slot of a name
pub valuation-set : (slots : List (Option Name)) (frame : List ℤ) (n : ℕ) (x : Name) (w : ℤ) → AreOnce slots → slice_get slots n ≡ Some (Some x) → n < length frame →
    valuation slots (set frame n w) ≡ assign (valuation slots frame) x w
unfolding valuation
valuation-set [] frame n x w once at h = absurd (cc)
valuation-set (slot ∷ slots) [] n x w once at h = absurd (omega arith)
valuation-set (None ∷ slots) (u ∷ frame) zero x w once at h = absurd (cc)
valuation-set (None ∷ slots) (u ∷ frame) (suc n) x w once at h = valuation-set slots frame n x w (once_rest None slots once) at (omega arith)
valuation-set (Some y ∷ slots) (u ∷ frame) zero x w once at h =
    let same : y ≡ x = cc in
    subst (λ z. assign (valuation slots frame) z w ≡ assign (assign (valuation slots frame) z u) x w) (sym same) (sym (assigned_again (valuation slots frame) x w u))
valuation-set (Some y ∷ slots) (u ∷ frame) (suc n) x w once at h =
    let other : x ≡ y → ⊥ = λ e. absurd (let z : zero ≡ suc n = once zero (suc n) x (ap (λ q. Some (Some q)) (sym e)) at in cc) in
    ap (λ v. assign v y u) (valuation-set slots frame n x w (once_rest (Some y) slots once) at (omega arith)) ∙ either_order (valuation slots frame) y x u w (λ e. other (sym e))

assign_here : (v : Valuation) (x : Name) (w : ℤ) → assign v x w x ≡ w
assign_here v x w = here (bytes_eq x x) ((bytes_eq-Decides x x).1 refl)
  where
    here : (b : Bool) → b ≡ true → (if b then w else v x) ≡ w
    here true e = refl
    here false e = absurd (cc)

assign_other : (v : Valuation) (x y : Name) (w : ℤ) → (x ≡ y → ⊥) → assign v y w x ≡ v x
assign_other v x y w other = ap (λ b. if b then w else v x) (not_same x y other)

-- the word in the slot of a name
pub valuation-get : (slots : List (Option Name)) (frame : List ℤ) (n : ℕ) (x : Name) (d : ℤ) → AreOnce slots → slice_get slots n ≡ Some (Some x) → n < length frame →
    valuation slots frame x ≡ get_or frame n d
unfolding valuation
valuation-get [] frame n x d once at h = absurd (cc)
valuation-get (slot ∷ slots) [] n x d once at h = absurd (omega arith)
valuation-get (None ∷ slots) (u ∷ frame) zero x d once at h = absurd (cc)
valuation-get (None ∷ slots) (u ∷ frame) (suc n) x d once at h = valuation-get slots frame n x d (once_rest None slots once) at (omega arith)
valuation-get (Some y ∷ slots) (u ∷ frame) zero x d once at h =
    let same : y ≡ x = cc in
    subst (λ z. assign (valuation slots frame) z u x ≡ u) (sym same) (assign_here (valuation slots frame) x u)
valuation-get (Some y ∷ slots) (u ∷ frame) (suc n) x d once at h =
    let other : x ≡ y → ⊥ = λ e. absurd (let z : zero ≡ suc n = once zero (suc n) x (ap (λ q. Some (Some q)) (sym e)) at in cc) in
    assign_other (valuation slots frame) x y u other ∙ valuation-get slots frame n x d (once_rest (Some y) slots once) at (omega arith)

-- a frame of zeros
pub valuation-zeros : (slots : List (Option Name)) (n : ℕ) → valuation slots (replicate n (pos 0)) ≡ (λ x. pos 0)
unfolding valuation
valuation-zeros [] n = refl
valuation-zeros (None ∷ slots) zero = refl
valuation-zeros (Some y ∷ slots) zero = refl
valuation-zeros (None ∷ slots) (suc n) = valuation-zeros slots n
valuation-zeros (Some y ∷ slots) (suc n) =
    ap (λ v. assign v y (pos 0)) (valuation-zeros slots n) ∙ (λ i z. zero_either (bytes_eq z y) i)
  where
    zero_either : (b : Bool) → (if b then pos 0 else pos 0) ≡ pos 0
    zero_either true = refl
    zero_either false = refl

-- parameters, and behind them slots whose words are 0
pub valuation-start : (names : List Name) (rest : List (Option Name)) (words : List ℤ) (n : ℕ) →
    valuation (map (λ name. Some name) names ++ rest) (take (length names) words ++ replicate n (pos 0)) ≡ start names words
unfolding valuation
valuation-start [] rest words n = valuation-zeros rest n
valuation-start (name ∷ names) rest [] n = valuation-zeros (Some name ∷ map (λ name. Some name) names ++ rest) n
valuation-start (name ∷ names) rest (word ∷ words) n = ap (λ v. assign v name word) (valuation-start names rest words n)
