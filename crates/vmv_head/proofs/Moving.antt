-- How much of a head is still to come, byte by byte, and where it begins.
use Rattle.std.proofs.Common.{◌≡◌, ℕ, suc, ◌+◌, ◌<◌, ◌==◌, ◌++◌, Bool, true, false, List, [], ◌∷◌, Option, Some, None, length, get_or, drop, refl, sym, ap, subst, ◌∙◌, arith, zero-add}
use Rattle.std.specs.Prelude.{nat_lt, if◌then◌else◌}
use Rattle.std.specs.Option.{option_map}
use Rattle.std.proofs.Math.Seq.{drop-cons, drop-length}
use Rattle.std.proofs.lemmas.List.{drop-drop}
use Rattle.std.proofs.lemmas.Bool.{lt-ltb}
use Rattle.vmv_head.specs.declared.scan.Place.{Place}
use Rattle.vmv_head.specs.declared.scan.Place.TheVariants.{Blank, BlankReturn, Line, LineEnd, LineEndReturn}
use Rattle.vmv_head.specs.Heads.{begins_with_feed, empty_line, blank_length, head_length, front_length}
use Rattle.vmv_head.specs.Places.{rest_length, moved}

-- what is still to come behind one more byte
abbrev pub on_move : Option Place → List ℕ → Option ℕ
on_move None more = Some 1
on_move (Some next) more = option_map suc (rest_length next more)

added_suc : (k : ℕ) (x : Option ℕ) → option_map (λ n. suc k + n) x ≡ option_map suc (option_map (λ n. k + n) x)
added_suc k None = refl
added_suc k (Some n) = let e : suc k + n ≡ suc (k + n) = omega arith in ap Some e

added_none : (x : Option ℕ) → option_map (λ n. 0 + n) x ≡ x
added_none None = refl
added_none (Some n) = ap Some (zero-add n)

added_next : (k : ℕ) (x : Option ℕ) → option_map (λ n. k + n) (option_map suc x) ≡ option_map (λ n. (k + 1) + n) x
added_next k None = refl
added_next k (Some n) = let e : k + suc n ≡ (k + 1) + n = omega arith in ap Some e

-- a line feed in front is an empty line
blank_feed : (b : ℕ) (more : List ℕ) → (b == 10) ≡ true → blank_length (b ∷ more) ≡ suc (blank_length more)
blank_feed b [] e = rw e refl
blank_feed b (c ∷ rest) e = rw e refl

-- a byte in front that begins no empty line begins the head
front_other : (b : ℕ) (more : List ℕ) → (b == 10) ≡ false → blank_length (b ∷ more) ≡ 0 → front_length (b ∷ more) ≡ option_map suc (head_length more)
front_other b more e k = rw k (rw e (added_none (option_map suc (head_length more))))

front_feed : (b : ℕ) (more : List ℕ) → (b == 10) ≡ true → front_length (b ∷ more) ≡ option_map suc (front_length more)
front_feed b more e = rw (blank_feed b more e) (added_suc (blank_length more) (head_length (drop (blank_length more) more)))

blank_plain : (b : ℕ) (more : List ℕ) → (b == 10) ≡ false → (b == 13) ≡ false → blank_length (b ∷ more) ≡ 0
blank_plain b [] e g = rw e refl
blank_plain b (c ∷ rest) e g = rw (e, g) refl

blank_return : (b c : ℕ) (rest : List ℕ) → (b == 10) ≡ false → (b == 13) ≡ true → (c == 10) ≡ true → blank_length (b ∷ c ∷ rest) ≡ suc (suc (blank_length rest))
blank_return b c rest e g f = rw (e, g, f) refl

blank_lone : (b c : ℕ) (rest : List ℕ) → (b == 10) ≡ false → (b == 13) ≡ true → (c == 10) ≡ false → blank_length (b ∷ c ∷ rest) ≡ 0
blank_lone b c rest e g f = rw (e, g, f) refl

front_return_by : (b c : ℕ) (rest : List ℕ) (f : Bool) → (b == 10) ≡ false → (b == 13) ≡ true → (c == 10) ≡ f
    → front_length (b ∷ c ∷ rest) ≡ option_map suc (if f then option_map suc (front_length rest) else head_length (c ∷ rest))
front_return_by b c rest true e g f =
    rw (blank_return b c rest e g f)
    (added_suc (suc (blank_length rest)) (head_length (drop (blank_length rest) rest))
    ∙ ap (option_map suc) (added_suc (blank_length rest) (head_length (drop (blank_length rest) rest))))
front_return_by b c rest false e g f = front_other b (c ∷ rest) e (blank_lone b c rest e g f)

front_return : (b : ℕ) (more : List ℕ) → (b == 10) ≡ false → (b == 13) ≡ true → front_length (b ∷ more) ≡ option_map suc (rest_length BlankReturn more)
front_return b [] e g = front_other b [] e (rw e refl)
front_return b (c ∷ rest) e g = front_return_by b c rest (c == 10) e g refl

blank_move : (b : ℕ) (more : List ℕ) (f r : Bool) → (b == 10) ≡ f → (b == 13) ≡ r → front_length (b ∷ more) ≡ on_move (moved Blank b) more
blank_move b more true r e g = front_feed b more e ∙ rw e refl
blank_move b more false true e g = front_return b more e g ∙ rw (e, g) refl
blank_move b more false false e g = front_other b more e (blank_plain b more e g) ∙ rw (e, g) refl

head_other : (b : ℕ) (more : List ℕ) → (b == 10) ≡ false → head_length (b ∷ more) ≡ option_map suc (head_length more)
head_other b more e = rw e refl

return_move : (b : ℕ) (more : List ℕ) (f : Bool) → (b == 10) ≡ f → rest_length BlankReturn (b ∷ more) ≡ on_move (moved BlankReturn b) more
return_move b more true e = rw e refl
return_move b more false e = rw e refl

line_by : (b : ℕ) (more : List ℕ) (f : Bool) → (b == 10) ≡ true → nat_lt 0 (empty_line more) ≡ f → head_length (b ∷ more) ≡ option_map suc (rest_length LineEnd more)
line_by b more true e g = rw (e, g) refl
line_by b more false e g = rw (e, g) refl

line_move : (b : ℕ) (more : List ℕ) (f : Bool) → (b == 10) ≡ f → head_length (b ∷ more) ≡ on_move (moved Line b) more
line_move b more true e = line_by b more (nat_lt 0 (empty_line more)) e refl ∙ rw e refl
line_move b more false e = rw e refl

end_return_by : (b : ℕ) (more : List ℕ) (f : Bool) → (b == 10) ≡ false → (b == 13) ≡ true → begins_with_feed more ≡ f
    → rest_length LineEnd (b ∷ more) ≡ option_map suc (rest_length LineEndReturn more)
end_return_by b more true e g f = rw (e, g, f) refl
end_return_by b more false e g f = rw (e, g, f) refl

end_move : (b : ℕ) (more : List ℕ) (f r : Bool) → (b == 10) ≡ f → (b == 13) ≡ r → rest_length LineEnd (b ∷ more) ≡ on_move (moved LineEnd b) more
end_move b more true r e g = rw e refl
end_move b more false true e g = end_return_by b more (begins_with_feed more) e g refl ∙ rw (e, g) refl
end_move b more false false e g = rw (e, g) refl

last_move : (b : ℕ) (more : List ℕ) (f : Bool) → (b == 10) ≡ f → rest_length LineEndReturn (b ∷ more) ≡ on_move (moved LineEndReturn b) more
last_move b more true e = rw e refl
last_move b more false e = rw e refl

-- one byte on
pub step_length : (place : Place) (b : ℕ) (more : List ℕ) → rest_length place (b ∷ more) ≡ on_move (moved place b) more
step_length Blank b more = blank_move b more (b == 10) (b == 13) refl refl
step_length BlankReturn b more = return_move b more (b == 10) refl
step_length Line b more = line_move b more (b == 10) refl
step_length LineEnd b more = end_move b more (b == 10) (b == 13) refl refl
step_length LineEndReturn b more = last_move b more (b == 10) refl

-- no head is whole in no bytes
pub nothing_whole : (place : Place) → rest_length place [] ≡ None
nothing_whole Blank = refl
nothing_whole BlankReturn = refl
nothing_whole Line = refl
nothing_whole LineEnd = refl
nothing_whole LineEndReturn = refl

-- how far a head goes from a place on, where i of the bytes have led to another place
abbrev pub HasFed : Place → List ℕ → ℕ → Place → Type 0
HasFed start bytes i place =
    (more : List ℕ) → rest_length start (bytes ++ more) ≡ option_map (λ n. i + n) (rest_length place (drop i bytes ++ more))

pub none_fed : (start : Place) (bytes : List ℕ) → HasFed start bytes 0 start
none_fed start bytes more = sym (added_none (rest_length start (bytes ++ more)))

fed_by : (start place : Place) (bytes : List ℕ) (i : ℕ) (went : Option Place) → i < length bytes → went ≡ moved place (get_or bytes i 0) → HasFed start bytes i place
    → (more : List ℕ) → rest_length start (bytes ++ more) ≡ option_map (λ n. i + n) (on_move went (drop (suc i) bytes ++ more))
fed_by start place bytes i went h e fed more =
    let rest = ap (λ l. option_map (λ n. i + n) (rest_length place (l ++ more))) (drop-cons bytes i 0 h) in
    let step = ap (option_map (λ n. i + n)) (step_length place (get_or bytes i 0) (drop (suc i) bytes ++ more)) in
    let go = ap (λ w. option_map (λ n. i + n) (on_move w (drop (suc i) bytes ++ more))) (sym e) in
    fed more ∙ rest ∙ step ∙ go

-- one byte more
pub one_fed : (start place next : Place) (bytes : List ℕ) (i : ℕ) → i < length bytes → Some next ≡ moved place (get_or bytes i 0) → HasFed start bytes i place
    → HasFed start bytes (i + 1) next
one_fed start place next bytes i h e fed more =
    let P : ℕ → Type 0 = λ k. rest_length start (bytes ++ more) ≡ option_map (λ n. (i + 1) + n) (rest_length next (drop k bytes ++ more)) in
    let one : suc i ≡ i + 1 = omega arith in
    subst P one (fed_by start place bytes i (Some next) h e fed more ∙ added_next i (rest_length next (drop (suc i) bytes ++ more)))

-- the head is whole with one byte more
pub whole_fed : (start place : Place) (bytes : List ℕ) (i : ℕ) → i < length bytes → None ≡ moved place (get_or bytes i 0) → HasFed start bytes i place
    → (more : List ℕ) → rest_length start (bytes ++ more) ≡ Some (i + 1)
whole_fed start place bytes i h e fed more = fed_by start place bytes i None h e fed more

-- all bytes
pub all_fed : (start place : Place) (bytes : List ℕ) (i : ℕ) → i ≡ length bytes → HasFed start bytes i place
    → (more : List ℕ) → rest_length start (bytes ++ more) ≡ option_map (λ n. length bytes + n) (rest_length place more)
all_fed start place bytes i e fed more =
    let P : ℕ → Type 0 = λ k. rest_length start (bytes ++ more) ≡ option_map (λ n. k + n) (rest_length place (drop k bytes ++ more)) in
    subst P e (fed more) ∙ ap (λ l. option_map (λ n. length bytes + n) (rest_length place (l ++ more))) (drop-length bytes)

-- the empty lines in front

blank_one : (b : ℕ) (f r : Bool) → (b == 10) ≡ f → (b == 13) ≡ r
    → blank_length (b ∷ []) ≡ (if nat_lt 0 (empty_line (b ∷ [])) then empty_line (b ∷ []) + blank_length (drop (empty_line (b ∷ [])) (b ∷ [])) else 0)
blank_one b true r e g = rw e refl
blank_one b false true e g = rw (e, g) refl
blank_one b false false e g = rw (e, g) refl

blank_two : (b c : ℕ) (rest : List ℕ) (f r s : Bool) → (b == 10) ≡ f → (b == 13) ≡ r → (c == 10) ≡ s
    → blank_length (b ∷ c ∷ rest) ≡ (if nat_lt 0 (empty_line (b ∷ c ∷ rest)) then empty_line (b ∷ c ∷ rest) + blank_length (drop (empty_line (b ∷ c ∷ rest)) (b ∷ c ∷ rest)) else 0)
blank_two b c rest true r s e g h = rw e (omega arith)
blank_two b c rest false true true e g h = rw (e, g, h) (omega arith)
blank_two b c rest false true false e g h = rw (e, g, h) refl
blank_two b c rest false false s e g h = rw (e, g) refl

blank_step : (xs : List ℕ) → blank_length xs ≡ (if nat_lt 0 (empty_line xs) then empty_line xs + blank_length (drop (empty_line xs) xs) else 0)
blank_step [] = refl
blank_step (b ∷ []) = blank_one b (b == 10) (b == 13) refl refl
blank_step (b ∷ c ∷ rest) = blank_two b c rest (b == 10) (b == 13) (c == 10) refl refl refl

some_if : (n a : ℕ) → 0 < n → (if nat_lt 0 n then a else 0) ≡ a
some_if n a h = rw (lt-ltb 0 n h) refl

-- an empty line more
pub blank_more : (xs : List ℕ) (at n : ℕ) → blank_length xs ≡ at + blank_length (drop at xs) → n ≡ empty_line (drop at xs) → 0 < n
    → blank_length xs ≡ (at + n) + blank_length (drop (at + n) xs)
blank_more xs at n h e some =
    let P : ℕ → Type 0 = λ k. blank_length (drop at xs) ≡ (if nat_lt 0 k then k + blank_length (drop k (drop at xs)) else 0) in
    let step = subst P (sym e) (blank_step (drop at xs)) ∙ some_if n (n + blank_length (drop n (drop at xs))) some in
    let there = ap blank_length (drop-drop n at xs) in
    omega (arith, h, step, there)

pub blank_done : (xs : List ℕ) (at n : ℕ) → blank_length xs ≡ at + blank_length (drop at xs) → n ≡ empty_line (drop at xs) → n ≡ 0 → at ≡ blank_length xs
blank_done xs at n h e none =
    let P : ℕ → Type 0 = λ k. blank_length (drop at xs) ≡ (if nat_lt 0 k then k + blank_length (drop k (drop at xs)) else 0) in
    let step = subst P (sym e ∙ none) (blank_step (drop at xs)) in
    omega (arith, h, step)
