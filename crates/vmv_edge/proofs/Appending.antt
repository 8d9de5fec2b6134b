-- Pieces that are appended one after another.
use Rattle.std.proofs.Common.{◌≡◌, ℕ, ◌+◌, ◌-◌, ◌≤◌, List, ◌++◌, length, take, drop, Option, Some, None, ap, sym, subst, ◌∙◌, arith, length-drop, length-take, take_all}
use Rattle.std.proofs.lemmas.List.{append_assoc}
use Rattle.std.proofs.Math.Seq.{take-add}
use Rattle.vmv_edge.specs.Outside.{Appended, AppendedFront}

-- the rest of a piece, as a slice of it
abbrev pub rest_of : List ℕ → ℕ → List ℕ
rest_of piece i = take (length piece - i) (drop i piece)

rest_of-drop : (piece : List ℕ) (i : ℕ) → rest_of piece i ≡ drop i piece
rest_of-drop piece i = take_all (length piece - i) (drop i piece) (omega (arith, length-drop i piece))

added :
    (a b c : Option (List ℕ)) (piece : List ℕ) (i n : ℕ)
    → Appended a (take i piece) b → Appended b (take n (drop i piece)) c → Appended a (take (i + n) piece) c
added a b None piece i n h k = tt
added a None (Some z) piece i n h k = absurd k
added None (Some y) (Some z) piece i n h k = absurd h
added (Some x) (Some y) (Some z) piece i n h k =
    k ∙ ap (λ l. l ++ take n (drop i piece)) h ∙ append_assoc x (take i piece) (take n (drop i piece))
    ∙ ap (λ l. x ++ l) (sym (take-add i n piece))

-- the first i bytes of a piece, and then n bytes of its rest, are its first i + n
pub Appended-add :
    (a b c : Option (List ℕ)) (piece : List ℕ) (i n : ℕ)
    → Appended a (take i piece) b → Appended b (take n (rest_of piece i)) c → Appended a (take (i + n) piece) c
Appended-add a b c piece i n h k =
    let P : List ℕ → Type 0 = λ l. Appended b (take n l) c in
    added a b c piece i n h (subst P (rest_of-drop piece i) k)

-- the first i bytes of a piece, and then a front of its rest, are a front of it
pub AppendedFront-add :
    (a b c : Option (List ℕ)) (piece : List ℕ) (i : ℕ)
    → Appended a (take i piece) b → AppendedFront b (rest_of piece i) c → AppendedFront a piece c
AppendedFront-add a b c piece i h k = (i + k.0, Appended-add a b c piece i k.0 h k.1)

-- n bytes of the rest end within the piece
pub within-rest_of : (piece : List ℕ) (i n : ℕ) → i ≤ length piece → n ≤ length (rest_of piece i) → i + n ≤ length piece
within-rest_of piece i n h k =
    omega (arith, length-take (length piece - i) (drop i piece), length-drop i piece)
