-- The output of a command: what is printed, and its status.
use Rattle.std.specs.Prelude.{◌≡◌, ◌≢◌, ◌⊎◌, ℕ, nat_lt, MatchBool, Option, Some, List, ◌++◌, length, codes, Bool, IsTrue, nat_eq}
use Rattle.std.specs.List.{starts_with}
use Rattle.vmv_tree.specs.Tree.{Item}
use Rattle.vmv_tree.specs.Safe.{RelCorrect}
use Rattle.vmv_text.specs.Grammar.{IsText}
use Rattle.vmv_edge.specs.Outside.{IsAsTold}
use Rattle.vmv_words.specs.Words.{Word, Request, review, baseline, recheck, replay, sample, Asks, AsksNothing}
use Rattle.vmv_report.specs.Texts.{line}
use Rattle.vmv_command.specs.Lines.{IsLine, SaysTooLong}
use Rattle.vmv_command.specs.Reviews.{ReviewsPrograms}
use Rattle.vmv_command.specs.Baselines.{BaselinesProgram}
use Rattle.vmv_command.specs.Faults.{OnProgram}
use Rattle.vmv_command.specs.Replays.{ReplaysTexts}
use Rattle.vmv_command.specs.Rechecks.{RechecksTexts}
use Rattle.vmv_command.specs.Samples.{Samples}

-- the most bytes that a text may have, if it isn't a proof's
abbrev pub text_most : ℕ
text_most = 1048576

-- the most bytes that the text of a proof may have
abbrev pub proof_most : ℕ
proof_most = 67108864

abbrev pub usage : List ℕ
usage = codes "usage: vmv review BASE REV [--workers N] [--proof] | baseline BASE [--workers N] | recheck BASE REV PROOF | replay REV WITNESS | sample NUMBER [--workers N] | serve ADDRESS STORE COUNT [--workers N]"

-- The text that is told under a name, and called so: what is done with it, or the line of one that is longer than it may be. It is
-- some text where none is told.
abbrev pub OnFile : (Word → Option (List ℕ)) → Word → (called : List ℕ) (most : ℕ) → (List ℕ → List ℕ → ℕ → Type 0) → List ℕ → ℕ → Type 0
OnFile told name called most Next printed status =
    (text : List ℕ) × IsAsTold (told name) text
    × MatchBool (nat_lt most (length text)) (SaysTooLong called most printed status) (Next text printed status)

-- the review of two texts: the line of the first fault of the base, or else of the revision, or else the review of their programs
abbrev pub ReviewsTexts : Bool → (base revision : List ℕ) → List ℕ → ℕ → Type 0
ReviewsTexts proved base revision printed status =
    OnProgram (codes "base") base (λ B. OnProgram (codes "revision") revision (ReviewsPrograms proved B)) printed status

-- what is asked for, over what a shelf tells; all texts are read before any is looked at
abbrev pub Does : (Word → Option (List ℕ)) → Request → List ℕ → ℕ → Type 0
Does told (review base revision count proved) printed status =
    OnFile told base (codes "base") text_most (λ b. OnFile told revision (codes "revision") text_most (ReviewsTexts proved b)) printed status
Does told (baseline base count) printed status = OnFile told base (codes "base") text_most (λ b. OnProgram (codes "base") b BaselinesProgram) printed status
Does told (recheck base revision proof) printed status =
    OnFile told base (codes "base") text_most (λ b. OnFile told revision (codes "revision") text_most (λ r. OnFile told proof (codes "proof") proof_most (RechecksTexts b r)))
    printed status
Does told (replay revision witness) printed status =
    OnFile told revision (codes "revision") text_most (λ r. OnFile told witness (codes "witness") text_most (ReplaysTexts r)) printed status
Does told (sample number count) printed status = Samples number printed status

-- the output of the words over what a shelf tells: the usage line, or that of what they ask for
abbrev pub Outputs : List Word → (Word → Option (List ℕ)) → List ℕ → ℕ → Type 0
Outputs words told printed status = (AsksNothing words × IsLine usage 9 printed status) ⊎ ((request : Request) × Asks words request × Does told request printed status)

-- the words ask for a review of two texts under these names
abbrev pub IsReview : List Word → (base_name revision_name : Word) → Type 0
IsReview words base_name revision_name = (count : ℕ) × (proved : Bool) × Asks words (review base_name revision_name count proved)

abbrev pub SaysRelativelyCorrect : List ℕ → Type 0
SaysRelativelyCorrect printed = IsTrue (starts_with nat_eq printed (line (codes "verdict relatively correct")))

-- Where the words are a review, the shelf tells both texts, they are texts of the programs B and R, and what is printed
-- begins with the line `verdict relatively correct`: every environment that is safe for B is safe for R.
abbrev pub VerdictHolds : List (List ℕ) → (List ℕ → Option (List ℕ)) → (before after : Option (List ℕ)) → Type 0
VerdictHolds words told before after =
    (base_name revision_name base revision old printed : List ℕ) (B R : List Item) →
    IsReview words base_name revision_name → told base_name ≡ Some base → told revision_name ≡ Some revision → IsText base B → IsText revision R →
    before ≡ Some old → after ≡ Some (old ++ printed) → SaysRelativelyCorrect printed → RelCorrect B R

-- the words ask for the check of a proof for two texts under these names
abbrev pub IsRecheck : List Word → (base_name revision_name : Word) → Type 0
IsRecheck words base_name revision_name = (proof_name : Word) × Asks words (recheck base_name revision_name proof_name)

-- Where the words ask for the check of a proof, the shelf tells the texts of base and revision, they are texts of the programs B and R,
-- and the status is 0: every environment that is safe for B is safe for R.
abbrev pub ProofHolds : List (List ℕ) → (List ℕ → Option (List ℕ)) → ℕ → Type 0
ProofHolds words told status =
    (base_name revision_name base revision : List ℕ) (B R : List Item) →
    IsRecheck words base_name revision_name → told base_name ≡ Some base → told revision_name ≡ Some revision → IsText base B → IsText revision R →
    status ≡ 0 → RelCorrect B R

-- a status that says that the output was printed whole
abbrev pub IsWhole : ℕ → Type 0
IsWhole status = (status ≢ 6) × (status ≢ 7) × (status ≢ 8)
