-- What is read from a single line.
use Rattle.std.proofs.Common.{◌≡◌, ℕ, true, IsTrue, List, [], ◌∷◌, ◌++◌, refl, sym, subst, ◌∙◌, arith, append_assoc}
use Rattle.std.specs.Prelude.{Ok, Err}
use Rattle.std.specs.List.{AllZip}
use Rattle.vmv_witness.specs.Reading.{lacks, SplitsAt}
use Rattle.vmv_witness.proofs.Bytes.{same_split, lacks_none}
use Rattle.vmv_proof_text.specs.Parts.{Part}
use Rattle.vmv_proof_text.specs.Lines.{IsLine}
use Rattle.vmv_proof_text.specs.Loose.{IsLoosely}
use Rattle.vmv_proof_text.specs.Faults.{Line, Start}
use Rattle.vmv_proof_line.specs.declared.fault.LineFault.{LineFault}
use Rattle.vmv_proof_line.specs.declared.fault.LineFault.TheVariants.{Form, Size, Memory}
use Rattle.vmv_proof_line.specs.Reading.{ReadsLine}
use Rattle.vmv_proof_read.specs.Reading.{Stops, Reads, Any, only}
use Rattle.vmv_proof_read.proofs.Along.{Decides}

-- no line that would tell a part but for the size of its numbers has LF in it
abbrev pub AreClean : Type 0
AreClean = (p : Part) (line : Line) → IsLoosely p line → lacks 10 line ≡ true

module _ {A : Type 0} (k : A → Part) where
  stops_here : (old : List ℕ) → A → Stops {A = A} Any (only k) old old []
  stops_here old a = record { place = refl; begun = (a, tt, tt); short = λ x more has s. omega arith }

  -- the line is read
  pub line_read : (old new : List ℕ) (line : Line) (x : A) → SplitsAt 10 old line new → ReadsLine {A = A} k line (Ok x) → Reads {A = A} Any (only k) old new (Ok x)
  line_read old new line x split h =
      (tt, record { lines = line ∷ []; told = (h, tt); place = split.1 ∙ sym (append_assoc line (10 ∷ []) new) })

  -- the line isn't read, and stands where it stood
  pub line_ill : AreClean → (old new : List ℕ) (line : Line) (fault : LineFault) → A → SplitsAt 10 old line new → ReadsLine {A = A} k line (Err fault) → Reads {A = A} Any (only k) old old (Err fault)
  line_ill clean old new line Form a split h = (
    [],
    stops_here old a,
    record {
      never =
          λ other back x has e l.
          let s = same_split 10 line new other back split.0 (clean (k x) other l) (sym split.1 ∙ e) in
          h x (subst (IsLoosely (k x)) (sym s.0) l);
    },
  )
  line_ill clean old new line Size a split h = (
    [],
    stops_here old a,
    record {
      line = line;
      back = new;
      place = split.1;
      loosely = (h.0.0, tt, h.0.1);
      out = λ x has s. h.1 x s.0;
    },
  )
  line_ill clean old new line Memory a split h = tt

  -- no line with its LF is there
  pub no_line : (old : List ℕ) → A → IsTrue (lacks 10 old) → Reads {A = A} Any (only k) old old (Err Form)
  no_line old a h = (
    [],
    stops_here old a,
    record { never = λ line back x has e l. lacks_none 10 line back (subst (λ t. lacks 10 t ≡ true) e h) },
  )

  -- a line tells one value only
  pub decides_line : ((x y : A) (line : Line) → IsLine (k x) line → IsLine (k y) line → x ≡ y) → Decides {B = A} Any (only k)
  decides_line same = record { once = λ x y lines more h l t s. first x y lines more t s }
    where
      first : (x y : A) (lines : List Line) (more : List Part) → AllZip IsLine (only k x) lines → Start (only k y ++ more) lines → x ≡ y
      first x y [] more t s = absurd t
      first x y (line ∷ lines) more t s = same x y line t.0 s.0

  -- there is no line
  pub unread : (old : List ℕ) (fault : LineFault) → A → (fault ≡ Form) × IsTrue (lacks 10 old) → Reads {A = A} Any (only k) old old (Err fault)
  unread old fault a (e, h) = subst (λ f. Reads {A = A} Any (only k) old old (Err f)) (sym e) (no_line old a h)
