-- What was read, piece behind piece.
use Rattle.std.proofs.Common.{◌≡◌, ℕ, ◌+◌, ◌-◌, ◌≤◌, ◌<◌, List, [], ◌++◌, length, take, drop, Option, Some, None, Result, Err, refl, sym, ap, subst, ◌∙◌, arith, append_assoc, zero-add, length-append, length-take, length-drop, take_all}
use Rattle.std.specs.Prelude.{slice_range, IfSome}
use Rattle.std.proofs.lemmas.List.{append-nil, take-append-le, drop-append-le}
use Rattle.std.proofs.Math.Seq.{take-append-add, take-append_seam, drop-append_seam}
use borrow.Rule.Slice.PartMut.{put_mid, post_of}
use Rattle.std.specs.Option.{option_map}
use Rattle.vmv_edge.specs.Outside.{WasRead, IsAtEnd}
use Rattle.vmv_head.specs.declared.scan.Place.{Place}
use Rattle.vmv_head.specs.declared.scan.Place.TheVariants.{Blank}
use Rattle.vmv_head.specs.Heads.{front_length, without_blank, head_in}
use Rattle.vmv_head.specs.Places.{rest_length}
use Rattle.vmv_head.proofs.Moving.{nothing_whole}
use Rattle.vmv_request_reading.specs.Inputs.{OfInput, OfInputs, WereRead, IsFilled}
use Rattle.vmv_request_reading.specs.Places.{HasLed}
use Rattle.vmv_request_reading.specs.Fronts.{IsOverlong, IsHeadless, IsFront, IsFoundFront}
use Rattle.vmv_request_reading.specs.declared.front.Front.{Front}
use Rattle.vmv_request_reading.specs.declared.scanning.Found.{Found}
use Rattle.vmv_request_reading.specs.declared.stop.Stop.{Stop}
use Rattle.vmv_request_reading.specs.declared.stop.Stop.TheVariants.{Ended, ReadFailed, Memory}

added_none : (x : Option ℕ) → option_map (λ n. 0 + n) x ≡ x
added_none None = refl
added_none (Some n) = ap Some (zero-add n)

added_twice : (a b : ℕ) (x : Option ℕ) → option_map (λ n. a + n) (option_map (λ n. b + n) x) ≡ option_map (λ n. (a + b) + n) x
added_twice a b None = refl
added_twice a b (Some n) = let e : a + (b + n) ≡ (a + b) + n = omega arith in ap Some e

-- nothing was read
pub none_read : (input : Option (List ℕ)) → WasRead input [] input
none_read None = tt
none_read (Some input) = refl

-- another piece was read
pub read_on : (start mid now : Option (List ℕ)) (a b : List ℕ) → WasRead start a mid → WasRead mid b now → WasRead start (a ++ b) now
read_on None mid now a b h k = tt
read_on (Some s) None now a b h k = absurd h
read_on (Some s) (Some m) None a b h k = absurd k
read_on (Some s) (Some m) (Some n) a b h k = h ∙ ap (λ l. a ++ l) k ∙ sym (append_assoc a b n)

-- what was read is all of an input that is at its end
pub read_all : (start mid : Option (List ℕ)) (a : List ℕ) → WasRead start a mid → IsAtEnd mid → OfInput start (λ input. input ≡ a)
read_all None mid a h e = tt
read_all (Some s) None a h e = absurd h
read_all (Some s) (Some m) a h e = h ∙ ap (λ l. a ++ l) e ∙ append-nil a

-- what holds of all that was read holds of the input
pub of_all : (start : Option (List ℕ)) (a : List ℕ) (P : List ℕ → Type 0) → OfInput start (λ input. input ≡ a) → P a → OfInput start P
of_all None a P h p = tt
of_all (Some s) a P h p = subst P (sym h) p

-- the first bytes with a piece behind them
pub take_on : (have n : ℕ) (xs ys : List ℕ) → have ≤ length xs → take (have + n) (take have xs ++ ys) ≡ take have xs ++ take n ys
take_on have n xs ys h =
    let P : ℕ → Type 0 = λ k. take (k + n) (take have xs ++ ys) ≡ take have xs ++ take n ys in
    let e : length (take have xs) ≡ have = omega (arith, length-take have xs) in
    subst P e (take-append-add (take have xs) ys n)

pub take_put_on : (have n k : ℕ) (xs ys : List ℕ) → have ≤ length xs → n ≤ length ys → take (have + n) (put_mid have k xs ys) ≡ take have xs ++ take n ys
take_put_on have n k xs ys h few = take_on have n xs (ys ++ post_of have k xs) h ∙ ap (λ l. take have xs ++ l) (take-append-le n ys (post_of have k xs) few)

-- the piece that was put behind them
pub put_on : (have n k : ℕ) (xs ys : List ℕ) → have ≤ length xs → n ≤ length ys → slice_range (put_mid have k xs ys) have (have + n) ≡ take n ys
put_on have n k xs ys h few =
    let P : ℕ → Type 0 = λ m. drop m (put_mid have k xs ys) ≡ ys ++ post_of have k xs in
    let e : length (take have xs) ≡ have = omega (arith, length-take have xs) in
    let behind = subst P e (drop-append_seam (take have xs) (ys ++ post_of have k xs)) in
    let m : (have + n) - have ≡ n = omega arith in
    ap (λ l. take ((have + n) - have) l) behind ∙ ap (λ j. take j (ys ++ post_of have k xs)) m ∙ take-append-le n ys (post_of have k xs) few

-- at the end of the input
pub ended_within : (start mid : Option (List ℕ)) (have most : ℕ) (room : List ℕ) → WasRead start (take have room) mid → IsAtEnd mid → have ≤ length room → have < most
    → OfInput start (λ input. length input < most)
ended_within start mid have most room h e within few =
    of_all start (take have room) (λ input. length input < most) (read_all start mid (take have room) h e) (omega (arith, length-take have room))

pub read_within : (start now : Option (List ℕ)) (have most : ℕ) (room : List ℕ) → WasRead start (take have room) now → have ≤ most → WereRead most start now
read_within start now have most room h few = (take have room, omega (arith, length-take have room), h)

pub none_led : (xs : List ℕ) → HasLed (take 0 xs) 0 Blank
none_led xs more = sym (added_none (front_length more))

-- a piece that has led to another place
pub led_on : (read piece : List ℕ) (from have : ℕ) (place next : Place) → from + length piece ≡ have
    → ((more : List ℕ) → rest_length place (piece ++ more) ≡ option_map (λ n. length piece + n) (rest_length next more))
    → HasLed read from place → HasLed (read ++ piece) have next
led_on read piece from have place next e fed led more =
    ap front_length (append_assoc read piece more) ∙ led (piece ++ more) ∙ ap (option_map (λ n. from + n)) (fed more)
    ∙ added_twice from (length piece) (rest_length next more) ∙ ap (λ k. option_map (λ n. k + n) (rest_length next more)) e

-- a piece in which the head ends
pub led_whole : (read piece : List ℕ) (have end : ℕ) (place : Place) → ((more : List ℕ) → rest_length place (piece ++ more) ≡ Some end)
    → HasLed read have place → (more : List ℕ) → front_length ((read ++ piece) ++ more) ≡ Some (have + end)
led_whole read piece have end place fed led more =
    ap front_length (append_assoc read piece more) ∙ led (piece ++ more) ∙ ap (option_map (λ n. have + n)) (fed more)

-- no head is whole
pub led_nowhere : (read : List ℕ) (have : ℕ) (place : Place) → HasLed read have place → front_length read ≡ None
led_nowhere read have place led =
    ap front_length (sym (append-nil read)) ∙ led [] ∙ ap (option_map (λ n. have + n)) (nothing_whole place)

-- what holds of an input, however it goes on behind what was read, holds of it
pub of_read : (start now : Option (List ℕ)) (a : List ℕ) (P : List ℕ → Type 0) → WasRead start a now → ((rest : List ℕ) → P (a ++ rest)) → OfInput start P
of_read None now a P h f = tt
of_read (Some s) None a P h f = absurd h
of_read (Some s) (Some n) a P h f = subst P (sym h) (f n)

pub ofs_read : (start now : Option (List ℕ)) (a : List ℕ) (P : List ℕ → List ℕ → Type 0) → WasRead start a now → ((rest : List ℕ) → P (a ++ rest) rest)
    → OfInputs start now P
ofs_read None now a P h f = tt
ofs_read (Some s) None a P h f = absurd h
ofs_read (Some s) (Some n) a P h f = let Q : List ℕ → Type 0 = λ l. P l n in subst Q (sym h) (f n)

pub of_map : (start : Option (List ℕ)) (P Q : List ℕ → Type 0) → OfInput start P → ((input : List ℕ) → P input → Q input) → OfInput start Q
of_map None P Q h f = tt
of_map (Some s) P Q h f = f s h

-- no more bytes than the room's are seen
pub front_none : (most : ℕ) (room rest : List ℕ) → length room ≡ most → front_length room ≡ None → front_length (take most (room ++ rest)) ≡ None
front_none most room rest e h =
    let P : ℕ → Type 0 = λ k. front_length (take k (room ++ rest)) ≡ None in
    subst P e (ap front_length (take-append_seam room rest) ∙ h)

pub front_whole : (most len : ℕ) (read rest : List ℕ) → length read ≤ most → ((more : List ℕ) → front_length (read ++ more) ≡ Some len)
    → front_length (take most (read ++ rest)) ≡ Some len
front_whole most len read rest few h =
    let P : ℕ → Type 0 = λ k. front_length (take k (read ++ rest)) ≡ Some len in
    let e : length read + (most - length read) ≡ most = omega arith in
    subst P e (ap front_length (take-append-add read rest (most - length read)) ∙ h (take (most - length read) rest))

pub front_short : (most : ℕ) (input : List ℕ) → length input < most → front_length input ≡ None → front_length (take most input) ≡ None
front_short most input few h = ap front_length (take_all most input (omega arith)) ∙ h

-- the place of a head that was found in bytes that were joined
pub whole_at : (have now len : ℕ) (room joined : List ℕ) → have ≡ now → take now room ≡ joined → ((more : List ℕ) → front_length (joined ++ more) ≡ Some len)
    → (more : List ℕ) → front_length (take have room ++ more) ≡ Some len
whole_at have now len room joined e b h more =
    ap (λ k. front_length (take k room ++ more)) e ∙ ap (λ l. front_length (l ++ more)) b ∙ h more

pub piece_end : (from have : ℕ) (room : List ℕ) → from ≤ have → have ≤ length room → from + length (slice_range room from have) ≡ have
piece_end from have room h few = omega (arith, length-take (have - from) (drop from room), length-drop from room)

-- a read that gave nothing was the input's end
pub ended_only : (stop : Stop) → (stop ≡ ReadFailed → ⊥) → (stop ≡ Memory → ⊥) → stop ≡ Ended
ended_only Ended a b = refl
ended_only ReadFailed a b = absurd (a refl)
ended_only Memory a b = absurd (b refl)

pub read_no_more : (start mid now : Option (List ℕ)) (a : List ℕ) → WasRead start a mid → WasRead mid [] now → WasRead start a now
read_no_more start mid now a h k = let P : List ℕ → Type 0 = λ l. WasRead start l now in subst P (append-nil a) (read_on start mid now a [] h k)

abbrev pub stopped : {A : Type 0} → Stop → Result A Stop
stopped s = Err s

pub stop_is : {A : Type 0} (s t : Stop) → stopped {A = A} s ≡ stopped {A = A} t → s ≡ t
stop_is s t e = cc e

-- the room behind some bytes is filled piece by piece

abbrev pub FilledTo : Option (List ℕ) → Option (List ℕ) → (front : List ℕ) → ℕ → (room : List ℕ) → Type 0
FilledTo start now front at room = IsFilled start now front (take at room)

pub none_filled : (start : Option (List ℕ)) (room : List ℕ) (have : ℕ) → FilledTo start start (take have room) have room
none_filled start room have = ([], sym (append-nil (take have room)), none_read start)

pub filled_on : (start mid now : Option (List ℕ)) (front piece room after : List ℕ) (at then : ℕ) → FilledTo start mid front at room
    → take then after ≡ take at room ++ piece → WasRead mid piece now → FilledTo start now front then after
filled_on start mid now front piece room after at then h e k =
    (h.0 ++ piece, e ∙ ap (λ l. l ++ piece) h.1 ∙ append_assoc front h.0 piece, read_on start mid now h.0 piece h.2 k)

pub filled_all : (start now : Option (List ℕ)) (front room : List ℕ) (at : ℕ) → FilledTo start now front at room → length room ≤ at → IsFilled start now front room
filled_all start now front room at h all =
    let P : List ℕ → Type 0 = λ l. IsFilled start now front l in subst P (take_all at room all) h

pub filled_short : (start mid : Option (List ℕ)) (front room : List ℕ) (have at most : ℕ) → FilledTo start mid front at room → IsAtEnd mid → length front ≡ have
    → at ≤ length room → at < most → OfInput start (λ input. have + length input < most)
filled_short start mid front room have at most h end e within few =
    let size = ap length h.1 in
    of_all start h.0 (λ input. have + length input < most) (read_all start mid h.0 h.2 end)
    (omega (arith, e, size, length-append front h.0, length-take at room))

pub filled_within : (start mid now : Option (List ℕ)) (front room : List ℕ) (have at most : ℕ) → FilledTo start mid front at room → WasRead mid [] now
    → length front ≡ have → at ≤ most → WereRead (most - have) start now
filled_within start mid now front room have at most h k e few =
    let size = ap length h.1 in
    (h.0, omega (arith, e, size, length-append front h.0, length-take at room), read_no_more start mid now h.0 h.2 k)

-- a body that was filled is the front of what was read and is to come

pub body_filled : (start now : Option (List ℕ)) (begun room : List ℕ) (len : ℕ) → IsFilled start now begun room → length room ≡ len
    → OfInputs start now (λ rest _. (len ≤ length (begun ++ rest)) × (room ≡ take len (begun ++ rest)))
body_filled start now begun room len h e =
    ofs_read start now h.0 (λ rest _. (len ≤ length (begun ++ rest)) × (room ≡ take len (begun ++ rest))) h.2
    (λ rest.
    let joined : begun ++ (h.0 ++ rest) ≡ room ++ rest = sym (append_assoc begun h.0 rest) ∙ ap (λ l. l ++ rest) (sym h.1) in
    let P : List ℕ → Type 0 = λ l. (len ≤ length l) × (room ≡ take len l) in
    let Q : ℕ → Type 0 = λ k. room ≡ take k (room ++ rest) in
    subst P (sym joined) (omega (arith, e, length-append room rest), subst Q e (sym (take-append_seam room rest))))

pub body_begun : (told : Option (List ℕ)) (begun : List ℕ) (len : ℕ) → len ≤ length begun
    → OfInputs told told (λ rest _. (len ≤ length (begun ++ rest)) × (take len begun ≡ take len (begun ++ rest)))
body_begun None begun len h = tt
body_begun (Some rest) begun len h = (omega (arith, length-append begun rest), sym (take-append-le len begun rest h))

pub short_body : (start : Option (List ℕ)) (begun : List ℕ) (len most : ℕ) → most ≡ len → OfInput start (λ rest. length begun + length rest < most)
    → OfInput start (λ rest. length (begun ++ rest) < len)
short_body None begun len most e h = tt
short_body (Some rest) begun len most e h = omega (arith, e, h, length-append begun rest)

pub most_is : (a b : ℕ) (start now : Option (List ℕ)) → a ≡ b → WereRead a start now → WereRead b start now
most_is a b start now e h = let P : ℕ → Type 0 = λ k. WereRead k start now in subst P e h

pub none_were_read : (most : ℕ) (told : Option (List ℕ)) → WereRead most told told
none_were_read most told = ([], omega arith, none_read told)

-- the head of an input, from what was found in its room

pub found_front : (start now : Option (List ℕ)) (room : List ℕ) (f : Found) (x : Front) → length room ≤ 8192 → f.len ≤ f.have → f.have ≤ length room
    → WasRead start (take f.have room) now → ((more : List ℕ) → front_length (take f.have room ++ more) ≡ Some f.len)
    → x.head ≡ head_in (take f.have room) f.len → x.behind ≡ drop f.len (take f.have room) → OfInputs start now (IsFront x)
found_front start now room f x few short within was whole head behind =
    let read = take f.have room in
    let size : length read ≡ f.have = omega (arith, length-take f.have room) in
    let long : length read ≤ 8192 = omega arith in
    let held : f.len ≤ length read = omega arith in
    ofs_read start now read (IsFront x) was
    (λ rest. (
      f.len,
      front_whole 8192 f.len read rest long whole,
      head ∙ ap without_blank (sym (take-append-le f.len read rest held)),
      drop-append-le f.len read rest held ∙ ap (λ l. l ++ rest) (sym behind),
    ))

abbrev pub AreWithin : List ℕ → Option Found → Type 0
AreWithin room found = IfSome found (λ f. (f.len ≤ f.have) × (f.have ≤ length room))

pub front_by : (start now : Option (List ℕ)) (room : List ℕ) (found : Option Found) (front : Option Front) → length room ≤ 8192 → AreWithin room found
    → IfSome found (λ f. WasRead start (take f.have room) now)
    → IfSome found (λ f. (more : List ℕ) → front_length (take f.have room ++ more) ≡ Some f.len)
    → (found ≡ None → front ≡ None) → IfSome found (λ f. IsFoundFront (take f.have room) f.len front)
    → IfSome front (λ x. OfInputs start now (IsFront x))
front_by start now room None front few within was whole none some =
    let P : Option Front → Type 0 = λ y. IfSome y (λ x. OfInputs start now (IsFront x)) in subst P (sym (none refl)) tt
front_by start now room (Some f) None few within was whole none some = tt
front_by start now room (Some f) (Some x) few within was whole none some =
    found_front start now room f x few within.0 within.1 was whole some.0 some.1

pub overlong_by : (start now : Option (List ℕ)) (room : List ℕ) (found : Option Found) → length room ≡ 8192
    → (found ≡ None → (front_length room ≡ None) × WasRead start room now) → IfSome found (λ f. IsFoundFront (take f.have room) f.len None)
    → OfInput start IsOverlong
overlong_by start now room (Some f) size none some = absurd some
overlong_by start now room None size none some =
    of_read start now room IsOverlong (none refl).1
    (λ rest. (omega (arith, size, length-append room rest), front_none 8192 room rest size (none refl).0))

pub headless_by : (start : Option (List ℕ)) (most : ℕ) → most ≡ 8192 → OfInput start (λ input. (length input < most) × (front_length input ≡ None))
    → OfInput start IsHeadless
headless_by start most e h =
    of_map start (λ input. (length input < most) × (front_length input ≡ None)) IsHeadless h
    (λ input k. let few : length input < 8192 = omega (arith, e, k.0) in (few, front_short 8192 input few k.1))
