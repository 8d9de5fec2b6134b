-- What a walk over resolved statements finds.
use Rattle.std.specs.Prelude.{◌≡◌, ℕ, zero, suc, ◌+◌, ◌-◌, ◌*◌, ℤ, pos, Bool, Option, Some, None, List, [], ◌∷◌, ◌++◌, length, map, ◌≤◌, min, take, replicate, slice_get, slice_index_or, nat_le, if◌then◌else◌}
use Rattle.std.specs.List.{Contains}
use Rattle.vmv_tree.specs.declared.name.Name.{Name}
use Rattle.vmv_tree.specs.declared.tree.Param.{Param}
use Rattle.vmv_tree.specs.Words.{IsWord, compare}
use Rattle.vmv_tree.specs.Tree.{Item, Stmt, Block}
use Rattle.vmv_tree.specs.Run.{Valuation, Answers, End, next, fail, Outcome, done, Does, assign, Runs, RunsAll, Run}
use Rattle.vmv_tree.specs.Valid.{Valid}
use Rattle.vmv_snapshot.specs.declared.code.Code.{Code}
use Rattle.vmv_snapshot.specs.declared.code.ProcId.{ProcId}
use Rattle.vmv_snapshot.specs.declared.code.CodeOperand.{CodeOperand}
use Rattle.vmv_snapshot.specs.declared.code.CodeOperand.TheVariants.{Lit, Var}
use Rattle.vmv_snapshot.specs.declared.code.CodeTest.{CodeTest}
use Rattle.vmv_snapshot.specs.Code.{Stmt as CodeStmt, plain, help, branch, loop, Block as CodeBlock, [], ◌⨾◌}
use Rattle.vmv_snapshot.specs.View.{block_of}
use Rattle.vmv_snapshot.specs.Procs.{procs, params_of}
use Rattle.vmv_snapshot.specs.Resolves.{Scope, IsHelper, Resolves, ResolvesAll}
use Rattle.vmv_run.specs.declared.source.Source.{Source}
use Rattle.vmv_run.specs.declared.walked.Walked.{Walked}
use Rattle.vmv_run.specs.declared.walked.Walked.TheVariants.{Next, Fail, Stopped}
use Rattle.vmv_run.specs.declared.walked.Ended.{Ended}
use Rattle.vmv_run.specs.declared.walked.Ended.TheVariants.{Done, Fail as Failed, Stopped as Left}
use Rattle.vmv_run.specs.declared.outcome.Outcome.{Outcome as Found}
use Rattle.vmv_run.specs.declared.outcome.Outcome.TheVariants as found
use Rattle.vmv_run.specs.Constant.{AreFrom}
use Rattle.vmv_run.specs.Replay.{IsProcName}
use Rattle.vmv_run.specs.Source.{Went, Stops}

-- what is in the slot, or the literal
abbrev pub word_in : List ℤ → CodeOperand → ℤ
word_in frame (Lit word) = word
word_in frame (Var slot) = slice_index_or frame slot.0 (pos 0)

abbrev pub holds_in : List ℤ → CodeTest → Bool
holds_in frame test = compare test.rel (word_in frame test.left) (word_in frame test.right)

-- 256 words: 0, then these, then 0
unfoldable pub frame_of : List ℤ → List ℤ
frame_of own = pos 0 ∷ own ++ replicate (255 - length own) (pos 0)

-- the frame of a procedure with so many parameters at its start
abbrev pub start_frame : ℕ → List ℤ → List ℤ
start_frame count words = frame_of (take (min count 255) words)

-- what a frame says of names: a name has what is in its slot, and 0 where it has none
unfoldable pub valuation : List (Option Name) → List ℤ → Valuation
valuation [] frame = λ x. pos 0
valuation (slot ∷ slots) [] = λ x. pos 0
valuation (None ∷ slots) (word ∷ frame) = valuation slots frame
valuation (Some name ∷ slots) (word ∷ frame) = assign (valuation slots frame) name word

-- a call of this name has a run, on any words
abbrev pub CanRun : List Item → Name → Type 0
CanRun program f = (words : List ℤ) → (a : Answers) × (d : Outcome) × Run program f words a d × AreFrom (λ x. pos 0) a

-- a procedure, where its statements are walked over
pub record Place (program : List Item) (proc : ℕ) : Type 0 where
  pub name : Name
  pub scope : Scope
  pub few : length scope.slots ≤ 17
  pub valid : Valid program
  pub own : IsProcName program proc name
  pub once : (m n : ℕ) (x : Name) → slice_get scope.slots m ≡ Some (Some x) → slice_get scope.slots n ≡ Some (Some x) → m ≡ n
  pub helps : (f : Name) (n : ProcId) → IsHelper scope f n → IsProcName program n.0 f × CanRun program f
  pub asks : (f : Name) → Contains scope.outsides f → (words : List ℤ) (word : ℤ) → IsWord word → Run program f words ((f, word) ∷ []) (done word)

-- it may go on by these answers to a call of this name
abbrev pub Asks : (Answers → Type 0) → Answers → Name → Type 0
Asks can used name = (word : ℤ) × (more : Answers) × can (used ++ (name, word) ∷ more)

-- what was found is what may happen from the one valuation to the other
unfoldable pub Finds : List Item → Does → Valuation → Valuation → Source → Source → Walked → Type 0
Finds program does v w old new Next = (used : Answers) × Went old new used × does v used (next w)
Finds program does v w old new (Fail site) =
    (used : Answers) × (name : Name) × Went old new used × IsProcName program site.proc.0 name × does v used (fail (record { proc = name; number = site.index }))
Finds program does v w old new Stopped =
    (used : Answers) × (name : Name) × Went old new used × Stops new name × Asks (λ answers. (end : End) × does v answers end) used name

-- the same of a procedure's run
unfoldable pub FindsRun : List Item → (Answers → Outcome → Type 0) → Source → Source → Ended → Type 0
FindsRun program runs old new (Done word) = (used : Answers) × Went old new used × runs used (done word)
FindsRun program runs old new (Failed site) =
    (used : Answers) × (name : Name) × Went old new used × IsProcName program site.proc.0 name × runs used (fail (record { proc = name; number = site.index }))
FindsRun program runs old new Left =
    (used : Answers) × (name : Name) × Went old new used × Stops new name × Asks (λ answers. (end : Outcome) × runs answers end) used name

-- of a statement, whose frame is changed so
unfoldable pub Walks : List Item → ℕ → CodeStmt → List ℤ → List ℤ → Source → Source → Walked → Type 0
Walks program proc code before after old new walked =
    (x : Place program proc) (k : ℕ) (s : Stmt) → Resolves x.scope k s code →
    Finds program (Runs (Run program) x.name k s) (valuation x.scope.slots before) (valuation x.scope.slots after) old new walked

-- of statements in a row
unfoldable pub WalksAll : List Item → ℕ → CodeBlock → List ℤ → List ℤ → Source → Source → Walked → Type 0
WalksAll program proc codes before after old new walked =
    (x : Place program proc) (k : ℕ) (b : Block) → ResolvesAll x.scope k b codes →
    Finds program (RunsAll (Run program) x.name k b) (valuation x.scope.slots before) (valuation x.scope.slots after) old new walked

-- of a procedure, which starts with this frame
unfoldable pub WalksProc : List Item → ℕ → List ℤ → Source → Source → Ended → Type 0
WalksProc program proc frame old new ended =
    (name : Name) (params : List Param) (words : List ℤ) → Valid program → IsProcName program proc name → slice_get (map params_of (procs program)) proc ≡ Some params →
    frame ≡ start_frame (length params) words → FindsRun program (Run program name words) old new ended

-- how large statements are
abbrev mutual
  pub size : CodeStmt → ℕ
  size (plain simple) = 1
  size (help to callee args) = 1
  size (branch test first second) = 1 + block_size first + block_size second
  size (loop index slot bound most site body) = 1 + block_size body

  pub block_size : CodeBlock → ℕ
  block_size [] = 0
  block_size (s ⨾ rest) = size s + block_size rest

-- a bound on a walk over the first procedures
abbrev pub budget : List Code → ℕ → ℕ
budget [] n = 0
budget (code ∷ codes) zero = 0
budget (code ∷ codes) (suc n) = 3 * block_size (block_of code.block) + 2 + budget codes n

-- what is found where a walk ended so with so many of the answers
abbrev pub found_of : Ended → ℕ → ℕ → Found
found_of (Done word) used count = if nat_le count used then found.Done word else found.Extra used
found_of (Failed site) used count = if nat_le count used then found.Fail site else found.Extra used
found_of Left used count = if nat_le count used then found.Short used else found.Stranger used

-- how a run ended that a walk came to the end of
abbrev pub over_of : Ended → Option Found
over_of (Done word) = Some (found.Done word)
over_of (Failed site) = Some (found.Fail site)
over_of Left = None
