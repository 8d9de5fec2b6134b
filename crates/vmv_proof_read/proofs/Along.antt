-- How far something has been read, and what the reader of what comes next says of it.
use Rattle.std.proofs.Common.{◌≡◌, ℕ, ◌<◌, List, [], ◌∷◌, ◌++◌, length, refl, sym, ap, subst, ◌∙◌, arith, append_assoc, length-append}
use Rattle.std.specs.Prelude.{Ok, Err}
use Rattle.std.specs.List.{AllZip}
use Rattle.std.proofs.lemmas.List.{append-nil}
use Rattle.vmv_witness.specs.Text.{text_of}
use Rattle.vmv_witness.proofs.Writing.{text_of-append}
use Rattle.vmv_proof_text.specs.Parts.{Part}
use Rattle.vmv_proof_text.specs.Lines.{IsLine}
use Rattle.vmv_proof_text.specs.Faults.{Line, Start, StartLoosely}
use Rattle.vmv_proof_line.specs.declared.fault.LineFault.{LineFault}
use Rattle.vmv_proof_line.specs.declared.fault.LineFault.TheVariants.{Form, Size, Memory}
use Rattle.vmv_proof_read.specs.Reading.{Stops, IsShut, IsLarge, Reads}
use Rattle.vmv_proof_read.proofs.Starts.{start_front, start_more, start_less, start_told, start_behind, told_long, told_both, loosely_starts, loosely_more, loosely_less, loosely_told, loosely_behind}

-- after these lines, what may still be read, each with the parts that are left of it
pub record Along {A : Type 0} (Has : A → Type 0) (parts : A → List Part) (lines : List Line) (Fits : A → List Part → Type 0) : Type 0 where
  pub forth : (x : A) (rest : List Part) → Fits x rest → Has x × ((front : List Part) × (parts x ≡ front ++ rest) × AllZip IsLine front lines)
  pub back : (x : A) (more : List Part) → Has x → Start (parts x ++ more) lines → (rest : List Part) × Fits x rest

-- what comes next: one of the values of B, each with its parts
pub record Follows {A B : Type 0} (Own : B → Type 0) (next : B → List Part) (Fits : A → List Part → Type 0) (Then : B → A → List Part → Type 0) : Type 0 where
  pub splits : (x : A) (rest : List Part) → Fits x rest → (b : B) × Own b × ((more : List Part) × (rest ≡ next b ++ more) × Then b x more)
  pub joins : (b : B) (x : A) (more : List Part) → Own b → Then b x more → Fits x (next b ++ more)
  pub some : (b : B) → Own b → (x : A) × ((more : List Part) × Then b x more)

-- lines tell one value only
pub record Decides {B : Type 0} (Own : B → Type 0) (next : B → List Part) : Type 0 where
  pub once : (b c : B) (lines : List Line) (more : List Part) → Own b → Own c → AllZip IsLine (next b) lines → Start (next c ++ more) lines → b ≡ c

-- the lines that were read stand first in the text, and behind them the old one
pub record Went {A : Type 0} (Has : A → Type 0) (parts : A → List Part) (Fits : A → List Part → Type 0) (text old : List ℕ) : Type 0 where
  pub lines : List Line
  pub place : text ≡ text_of lines ++ old
  pub along : Along Has parts lines Fits

text_more : (text : List ℕ) (xs ys : List Line) (old new : List ℕ) → text ≡ text_of xs ++ old → old ≡ text_of ys ++ new → text ≡ text_of (xs ++ ys) ++ new
text_more text xs ys old new e f =
    e ∙ (ap (λ t. text_of xs ++ t) f ∙ (sym (append_assoc (text_of xs) (text_of ys) new) ∙ ap (λ t. t ++ new) (sym (text_of-append xs ys))))

section : {A : Type 0} (parts : A → List Part) (x : A) (front rest more : List Part) → parts x ≡ front ++ rest → parts x ++ more ≡ front ++ (rest ++ more)
section parts x front rest more e = ap (λ p. p ++ more) e ∙ append_assoc front rest more

-- what is told behind the lines that were read
pub record Behind {A B : Type 0} (Has : A → Type 0) (parts : A → List Part) (Own : B → Type 0) (next : B → List Part) (Then : B → A → List Part → Type 0) (x : A) (xs : List Line) : Type 0 where
  pub value : B
  pub own : Own value
  pub front : List Part
  pub more : List Part
  pub same : parts x ≡ front ++ (next value ++ more)
  pub told : AllZip IsLine front xs
  pub then : Then value x more

module _ {A B : Type 0} (Has : A → Type 0) (parts : A → List Part) (Fits : A → List Part → Type 0) (Own : B → Type 0) (next : B → List Part) (Then : B → A → List Part → Type 0) where
  behind : (xs : List Line) (x : A) (more : List Part) → Along Has parts xs Fits → Follows Own next Fits Then → Has x → Start (parts x ++ more) xs → Behind Has parts Own next Then x xs
  behind xs x more a f has s =
      let r = a.back x more has s in
      let p = f.splits x r.0 r.1 in
      let q = a.forth x r.0 r.1 in
      record {
        value = p.0;
        own = p.1;
        front = q.1.0;
        more = p.2.0;
        same = q.1.1 ∙ ap (λ t. q.1.0 ++ t) p.2.1;
        told = q.1.2;
        then = p.2.2;
      }

  -- lines that are told behind those that were read
  behind_starts : (xs before : List Line) (x : A) (more : List Part) (b : Behind Has parts Own next Then x xs) → Start (parts x ++ more) (xs ++ before) → Start (next b.value ++ (b.more ++ more)) before
  behind_starts xs before x more b s =
      let whole = subst (λ p. Start p (xs ++ before)) (section parts x b.front (next b.value ++ b.more) more b.same) s in
      subst (λ p. Start p before) (append_assoc (next b.value) b.more more) (start_behind b.front ((next b.value ++ b.more) ++ more) xs before b.told whole)

  -- one more value is read
  pub on_lines : (xs ys : List Line) (b : B) → Along Has parts xs Fits → Follows Own next Fits Then → Decides Own next → Own b → AllZip IsLine (next b) ys → Along Has parts (xs ++ ys) (Then b)
  on_lines xs ys b a f d own told =
      record {
        forth =
            λ x rest then.
            let q = a.forth x (next b ++ rest) (f.joins b x rest own then) in
            (q.0, (q.1.0 ++ next b, q.1.1 ∙ sym (append_assoc q.1.0 (next b) rest), told_both q.1.0 (next b) xs ys q.1.2 told));
        back =
            λ x more has s.
            let h = behind xs x more a f has (start_front (parts x ++ more) xs ys s) in
            let same = d.once b h.value ys (h.more ++ more) own h.own told (behind_starts xs ys x more h s) in
            (h.more, subst (λ c. Then c x h.more) (sym same) h.then);
      }

  pub on : (text old new : List ℕ) (b : B) → Went Has parts Fits text old → Follows Own next Fits Then → Decides Own next → Reads Own next old new (Ok b) → Went Has parts (Then b) text new
  on text old new b w f d (own, t) =
      record {
        lines = w.lines ++ t.lines;
        place = text_more text w.lines t.lines old new w.place t.place;
        along = on_lines w.lines t.lines b w.along f d own t.told;
      }

  -- some value of A goes on with the value of B
  record Goes (b : B) (xs : List Line) : Type 0 where
    x : A
    has : Has x
    front : List Part
    more : List Part
    same : parts x ≡ front ++ (next b ++ more)
    told : AllZip IsLine front xs

  goes : (xs : List Line) (b : B) → Along Has parts xs Fits → Follows Own next Fits Then → Own b → Goes b xs
  goes xs b a f own =
      let s = f.some b own in
      let q = a.forth s.0 (next b ++ s.1.0) (f.joins b s.0 s.1.0 own s.1.1) in
      record { x = s.0; has = q.0; front = q.1.0; more = s.1.0; same = q.1.1; told = q.1.2 }

  stops : (text old new : List ℕ) (before : List Line) (w : Went Has parts Fits text old) → Follows Own next Fits Then → Stops Own next old new before → Stops Has parts text new (w.lines ++ before)
  stops text old new before w f s =
      let g = goes w.lines s.begun.0 w.along f s.begun.1 in
      record {
        place = text_more text w.lines before old new w.place s.place;
        begun = (
          g.x,
          g.has,
          subst (λ p. Start p (w.lines ++ before)) (sym g.same)
              (start_told g.front (next s.begun.0 ++ g.more) w.lines before g.told (start_more (next s.begun.0) g.more before s.begun.2)),
        );
        short =
            λ x more has st.
            let h = behind w.lines x more w.along f has (start_front (parts x ++ more) w.lines before st) in
            let few = s.short h.value (h.more ++ more) h.own (behind_starts w.lines before x more h st) in
            omega (arith, told_long h.front w.lines h.told, ap length h.same, length-append w.lines before, length-append h.front (next h.value ++ h.more), length-append (next h.value) h.more);
      }

  behind_loosely : (xs before : List Line) (line : Line) (x : A) (b : Behind Has parts Own next Then x xs) → length before < length (next b.value) → StartLoosely (parts x) (xs ++ before) line → StartLoosely (next b.value) before line
  behind_loosely xs before line x b few s =
      loosely_less (next b.value) b.more before line few
      (loosely_behind b.front (next b.value ++ b.more) xs before line b.told (subst (λ p. StartLoosely p (xs ++ before) line) b.same s))

  shut : (text old new : List ℕ) (before : List Line) (w : Went Has parts Fits text old) → Follows Own next Fits Then → Stops Own next old new before → IsShut Own next new before → IsShut Has parts new (w.lines ++ before)
  shut text old new before w f s i =
      record {
        never =
            λ line back x has e l.
            let st = loosely_starts (parts x) (w.lines ++ before) line l in
            let whole = start_more (parts x) [] (w.lines ++ before) st in
            let h = behind w.lines x [] w.along f has (start_front (parts x ++ []) w.lines before whole) in
            let few = s.short h.value (h.more ++ []) h.own (behind_starts w.lines before x [] h whole) in
            i.never line back h.value h.own e (behind_loosely w.lines before line x h few l);
      }

  large : (text old new : List ℕ) (before : List Line) (w : Went Has parts Fits text old) → Follows Own next Fits Then → Stops Own next old new before → IsLarge Own next new before → IsLarge Has parts new (w.lines ++ before)
  large text old new before w f s i =
      let g = goes w.lines i.loosely.0 w.along f i.loosely.1 in
      record {
        line = i.line;
        back = i.back;
        place = i.place;
        loosely = (
          g.x,
          g.has,
          subst (λ p. StartLoosely p (w.lines ++ before) i.line) (sym g.same)
              (loosely_told g.front (next i.loosely.0 ++ g.more) w.lines before i.line g.told (loosely_more (next i.loosely.0) g.more before i.line i.loosely.2)),
        );
        out =
            λ x has st.
            let tail = before ++ i.line ∷ [] in
            let there = subst (λ z. Start (parts x) z) (append_assoc w.lines before (i.line ∷ [])) st in
            let whole = start_more (parts x) [] (w.lines ++ tail) there in
            let h = behind w.lines x [] w.along f has (start_front (parts x ++ []) w.lines tail whole) in
            let all = behind_starts w.lines tail x [] h whole in
            let few = s.short h.value (h.more ++ []) h.own (start_front (next h.value ++ (h.more ++ [])) before (i.line ∷ []) all) in
            i.out h.value h.own (start_less (next h.value) (h.more ++ []) tail (omega (arith, few, length-append before (i.line ∷ []))) all);
      }

  pub off : (text old new : List ℕ) (fault : LineFault) → Went Has parts Fits text old → Follows Own next Fits Then → Reads Own next old new (Err fault) → Reads Has parts text new (Err fault)
  off text old new Form w f (before, s, i) = (w.lines ++ before, stops text old new before w f s, shut text old new before w f s i)
  off text old new Size w f (before, s, i) = (w.lines ++ before, stops text old new before w f s, large text old new before w f s i)
  off text old new Memory w f h = tt

-- nothing is read yet
abbrev pub Whole : {A : Type 0} → (A → Type 0) → (A → List Part) → A → List Part → Type 0
Whole Has parts x rest = Has x × (rest ≡ parts x)

pub begin : {A : Type 0} (Has : A → Type 0) (parts : A → List Part) (text : List ℕ) → Went Has parts (Whole Has parts) text text
begin Has parts text =
    record {
      lines = [];
      place = refl;
      along = record { forth = λ x rest h. (h.0, ([], sym h.1, tt)); back = λ x more has s. (parts x, (has, refl)) };
    }

-- all is read
pub done : {A : Type 0} (Has : A → Type 0) (parts : A → List Part) (Fits : A → List Part → Type 0) (text old : List ℕ) (x : A) → Went Has parts Fits text old → Fits x [] → Reads Has parts text old (Ok x)
done Has parts Fits text old x w fits =
    let q = w.along.forth x [] fits in
    (q.0, record { lines = w.lines; told = subst (λ p. AllZip IsLine p w.lines) (sym (q.1.1 ∙ append-nil q.1.0)) q.1.2; place = w.place })
