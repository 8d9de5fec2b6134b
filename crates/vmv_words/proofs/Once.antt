-- Words ask for one thing.
use Rattle.std.proofs.Common.{refl, true, false, List, Option, Some, None, [], ◌∷◌, ◌≡◌, ◌∙◌, sym, subst, ℕ}
use Rattle.std.specs.Str.{bytes_eq}
use Rattle.std.proofs.lemmas.Slice.Eq.{bytes_eq-Decides}
use Rattle.std.proofs.lemmas.Bool.{false≢true}
use Rattle.clap.specs.Simple.{matches_of}
use Rattle.vmv_words.specs.Words.{Word, Given, Gives, Request, review, baseline, recheck, replay, sample, IsNumber, IsWorkers, IsFor, Asks}
use Rattle.vmv_words.specs.Clap.{app}
use Rattle.vmv_words.proofs.Parsed.{parsed}
use Rattle.vmv_words.proofs.Counts.{spelled, given_once}

-- words give one thing
pub gives_once : (words : List Word) (g h : Given) → Gives words g → Gives words h → g ≡ h
gives_once words g h a b =
    let s = spelled words g a in
    let t = spelled words h b in
    given_once (matches_of app words) words g h s t (parsed words s.raw_is s.gives).answers (parsed words t.raw_is t.gives).answers

-- the words of commands differ
differ : (a b : Word) → bytes_eq a b ≡ false → a ≡ b → ⊥
differ a b off e = let on : bytes_eq a b ≡ true = (bytes_eq-Decides a b).1 e in false≢true (sym off ∙ on)

pub no_command : (command a b : Word) → bytes_eq a b ≡ false → command ≡ a → command ≡ b → ⊥
no_command command a b off e f = differ a b off (sym e ∙ f)

pub workers_once : (o : Option ℕ) (n m : ℕ) → IsWorkers o n → IsWorkers o m → n ≡ m
workers_once None n m a b = a ∙ sym b
workers_once (Some k) n m a b = a ∙ sym b

number_once : (word : Word) (n m : ℕ) → IsNumber word n → IsNumber word m → n ≡ m
number_once word n m a b = sym a.value ∙ b.value

pub for_once : (command : Word) (g : Given) (one other : Request) → IsFor command g one → IsFor command g other → one ≡ other
for_once command g (review base revision count proved) (review base' revision' count' proved') a b =
    let names : base ∷ revision ∷ [] ≡ base' ∷ revision' ∷ [] = sym a.1 ∙ b.1 in
    let base_is : base ≡ base' = cc in
    let revision_is : revision ≡ revision' = cc in
    rw (base_is, revision_is, workers_once g.workers count count' a.2 b.2, sym a.3 ∙ b.3) refl
for_once command g (review base revision count proved) (baseline base' count') a b = absurd (no_command command _ _ refl a.0 b.0)
for_once command g (review base revision count proved) (recheck base' revision' proof') a b = absurd (no_command command _ _ refl a.0 b.0)
for_once command g (review base revision count proved) (replay revision' witness') a b = absurd (no_command command _ _ refl a.0 b.0)
for_once command g (review base revision count proved) (sample number' count') a b = absurd (no_command command _ _ refl a.0 b.1)
for_once command g (baseline base count) (review base' revision' count' proved') a b = absurd (no_command command _ _ refl a.0 b.0)
for_once command g (baseline base count) (baseline base' count') a b =
    let names : base ∷ [] ≡ base' ∷ [] = sym a.1 ∙ b.1 in
    let base_is : base ≡ base' = cc in
    rw (base_is, workers_once g.workers count count' a.2 b.2) refl
for_once command g (baseline base count) (recheck base' revision' proof') a b = absurd (no_command command _ _ refl a.0 b.0)
for_once command g (baseline base count) (replay revision' witness') a b = absurd (no_command command _ _ refl a.0 b.0)
for_once command g (baseline base count) (sample number' count') a b = absurd (no_command command _ _ refl a.0 b.1)
for_once command g (recheck base revision proof) (review base' revision' count' proved') a b = absurd (no_command command _ _ refl a.0 b.0)
for_once command g (recheck base revision proof) (baseline base' count') a b = absurd (no_command command _ _ refl a.0 b.0)
for_once command g (recheck base revision proof) (recheck base' revision' proof') a b =
    let names : base ∷ revision ∷ proof ∷ [] ≡ base' ∷ revision' ∷ proof' ∷ [] = sym a.1 ∙ b.1 in
    let base_is : base ≡ base' = cc in
    let revision_is : revision ≡ revision' = cc in
    let proof_is : proof ≡ proof' = cc in
    rw (base_is, revision_is, proof_is) refl
for_once command g (recheck base revision proof) (replay revision' witness') a b = absurd (no_command command _ _ refl a.0 b.0)
for_once command g (recheck base revision proof) (sample number' count') a b = absurd (no_command command _ _ refl a.0 b.1)
for_once command g (replay revision witness) (review base' revision' count' proved') a b = absurd (no_command command _ _ refl a.0 b.0)
for_once command g (replay revision witness) (baseline base' count') a b = absurd (no_command command _ _ refl a.0 b.0)
for_once command g (replay revision witness) (recheck base' revision' proof') a b = absurd (no_command command _ _ refl a.0 b.0)
for_once command g (replay revision witness) (replay revision' witness') a b =
    let names : revision ∷ witness ∷ [] ≡ revision' ∷ witness' ∷ [] = sym a.1 ∙ b.1 in
    let revision_is : revision ≡ revision' = cc in
    let witness_is : witness ≡ witness' = cc in
    rw (revision_is, witness_is) refl
for_once command g (replay revision witness) (sample number' count') a b = absurd (no_command command _ _ refl a.0 b.1)
for_once command g (sample number count) (review base' revision' count' proved') a b = absurd (no_command command _ _ refl a.1 b.0)
for_once command g (sample number count) (baseline base' count') a b = absurd (no_command command _ _ refl a.1 b.0)
for_once command g (sample number count) (recheck base' revision' proof') a b = absurd (no_command command _ _ refl a.1 b.0)
for_once command g (sample number count) (replay revision' witness') a b = absurd (no_command command _ _ refl a.1 b.0)
for_once command g (sample number count) (sample number' count') a b =
    let names : a.0 ∷ [] ≡ b.0 ∷ [] = sym a.2 ∙ b.2 in
    let word_is : b.0 ≡ a.0 = cc in
    rw (number_once a.0 number number' a.3 (subst (λ (w : Word). IsNumber w number') word_is b.3), workers_once g.workers count count' a.4 b.4) refl

pub asks_once : (words : List Word) (one other : Request) → Asks words one → Asks words other → one ≡ other
asks_once words one other (command, rest, g, are, gives, is_for) (command', rest', g', are', gives', is_for') =
    let same : command ∷ rest ≡ command' ∷ rest' = sym are ∙ are' in
    let command_is : command' ≡ command = cc in
    let rest_is : rest' ≡ rest = cc in
    let given_is : g' ≡ g = gives_once rest g' g (subst (λ (r : List Word). Gives r g') rest_is gives') gives in
    for_once command g one other is_for (subst (λ (c : Word). IsFor c g other) command_is (subst (λ (x : Given). IsFor command' x other) given_is is_for'))
