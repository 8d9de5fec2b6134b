-- Words that ask for the same, and shelves that tell what is asked for.
use Rattle.std.specs.Prelude.{◌≡◌, ℕ, Option, Some, List, ⊤, ◌∷◌, ◌++◌, codes}
use Rattle.std.specs.List.{Contains}
use Rattle.vmv_words.specs.Words.{Word, IsCount, Request, review, baseline, recheck, replay, sample, Asks}

-- the shelf tells the text under this name
abbrev pub IsTold : (Word → Option (List ℕ)) → Word → Type 0
IsTold told name = (text : List ℕ) × (told name ≡ Some text)

-- the shelf tells the texts of what is asked for; a sample asks for none
abbrev pub TellsTexts : (Word → Option (List ℕ)) → Request → Type 0
TellsTexts told (review base revision count proved) = IsTold told base × IsTold told revision
TellsTexts told (baseline base count) = IsTold told base
TellsTexts told (recheck base revision proof) = IsTold told base × IsTold told revision × IsTold told proof
TellsTexts told (replay revision witness) = IsTold told revision × IsTold told witness
TellsTexts told (sample number count) = ⊤

-- the shelf tells the texts of what the words ask for
abbrev pub TellsAsked : (Word → Option (List ℕ)) → List Word → Type 0
TellsAsked told words = (request : Request) → Asks words request → TellsTexts told request

-- the same by so many workers; a check and a replay are done by none
abbrev pub by_workers : ℕ → Request → Request
by_workers n (review base revision count proved) = review base revision n proved
by_workers n (baseline base count) = baseline base n
by_workers n (recheck base revision proof) = recheck base revision proof
by_workers n (replay revision witness) = replay revision witness
by_workers n (sample number count) = sample number n

-- whatever the words ask for, the others ask for it by some number of workers
abbrev pub AskForIt : (words others : List Word) → Type 0
AskForIt words others = (request : Request) → Asks words request → (n : ℕ) × Asks others (by_workers n request)

-- both ask for the same but for the number of workers
abbrev pub AskAlike : (words others : List Word) → Type 0
AskAlike words others = AskForIt words others × AskForIt others words

-- the words of a command with `--workers` and a number behind it, where options haven't ended
pub record NameNumber (words : List Word) (command : Word) (before after : List Word) : Type 0 where
  pub number : Word
  pub count : ℕ
  pub is_count : IsCount number count
  pub unended : Contains before (codes "--") → ⊥
  pub are : words ≡ command ∷ (before ++ codes "--workers" ∷ number ∷ after)

-- the same words but for that number
pub record NameAnotherNumber (words others : List Word) : Type 0 where
  pub command : Word
  pub before : List Word
  pub after : List Word
  pub one : NameNumber words command before after
  pub other : NameNumber others command before after
