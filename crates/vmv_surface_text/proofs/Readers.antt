-- The reader of expressions: from what it holds to what it holds behind one more token.
use Rattle.std.proofs.Common.{◌≡◌, ℕ, ℤ, ◌+◌, ◌<◌, length, Bool, true, false, List, [], ◌∷◌, ◌++◌, drop, reverse, Option, Some, None, refl, sym, ◌∙◌, ap, subst, arith, append_assoc, append-nil}
use Rattle.std.specs.Prelude.{if◌then◌else◌, OnOk, Result, Ok, Err}
use Rattle.std.proofs.lemmas.List.{reverse-append, reverse-reverse}
use Rattle.vmv_tree.specs.declared.name.Name.{Name}
use Rattle.vmv_tree.specs.declared.tree.Op.{Op}
use Rattle.vmv_text.specs.declared.token.Token.{Token}
use Rattle.vmv_text.specs.declared.token.Token.TheVariants.{Named, Minus, OpenParen, CloseParen, Comma}
use Rattle.vmv_text.specs.Tokens.{Placed, tokens_of}
use Rattle.vmv_text.specs.Grammar.{op_token}
use Rattle.vmv_text.specs.Reading.{Lacks, Ends, Stops, Tests, first_of}
use Rattle.vmv_surface.specs.Surface.{Expr, literal, variable, ask, Args, no_args, arg}
use Rattle.vmv_lower.specs.declared.step.Step.{Step}
use Rattle.vmv_lower.specs.declared.step.Step.TheVariants.{Lit, Var, Operate, Negate, Ask}
use Rattle.vmv_lower.specs.Steps.{steps_of, args_steps, count}
use Rattle.vmv_surface_text.specs.declared.reader.Bracket.{Bracket}
use Rattle.vmv_surface_text.specs.declared.reader.Bracket.TheVariants as kind
use Rattle.vmv_surface_text.specs.declared.reader.Open.{Open}
use Rattle.vmv_surface_text.specs.declared.reader.Waiting.{Waiting}
use Rattle.vmv_surface_text.specs.declared.reader.Reader.{Reader}
use Rattle.vmv_surface_text.specs.Grammar.{IsExprAt, binding}
use Rattle.vmv_surface_text.specs.Reading.{FitsAt, EndsLit}
use Rattle.vmv_surface_text.specs.Opening.{onto, Left, joined, Pending, nothing, with_sign, Around, group, call, Frame, BehindTerm, BehindFactor, BehindAtom, BehindIn, Behind, FromOperand, Leads, op_of, waiting_of, bracket_of, open_of, opens_of, left_steps, pending_steps, around_steps, open_steps, Asked, Given, Ended, EndedIn, with_step, without_sign, ended, without_product, without_sum, entered}
use Rattle.vmv_surface_text.proofs.Leading.{leads_start, leads_as, leads_on, leads_stops, leads_done}
use Rattle.vmv_surface_text.proofs.Outside.{surrounds, in_surrounds}
use Rattle.vmv_surface_text.proofs.Operands.{Within, from_within, to_within, signed, unsigned, sign_made, sign_only, lit_made, lit_taken, variable_made, variable_taken, none_made, none_taken, some_made, some_taken, group_made, group_taken, operand_open, Unlike, operand_shut}
use Rattle.vmv_surface_text.proofs.Operators.{with_product, product_made, product_taken, term_made, term_taken, with_sum, sum_made, sum_taken, whole_made, whole_taken, close_made, close_taken, close_shut, comma_made, comma_taken, last_made, last_taken, last_shut}

-- a token that was taken is the first one
pub took : (t : Token) (old new : List Placed) → Tests t true old new → (first_of old ≡ Some t) × (new ≡ drop 1 old)
took t old new k = (ap first_of k.1, sym (ap (λ (l : List Placed). drop 1 l) k.1))

-- the start

whole_within : (e : Expr) (us rest : List Token) → Within (Behind []) e us rest → IsExprAt 0 e us rest
unfolding Behind
whole_within e us rest w =
    subst (λ (y : Expr). IsExprAt 0 y us rest) (sym w.second.0) (subst (λ (t : List Token). IsExprAt 0 w.inner us t) w.second.1 w.first)

within_whole : (e : Expr) (us rest : List Token) → IsExprAt 0 e us rest → Within (Behind []) e us rest
unfolding Behind
within_whole e us rest k = record { inner = e; mid = rest; first = k; second = (refl, refl) }

pub asked_start : (start : List Placed) (r : Reader) → r.steps ≡ [] → r.waiting ≡ waiting_of nothing → r.opened ≡ [] → Asked [] start r start
asked_start start r s w o = record {
  frames = [];
  pending = nothing;
  steps = s;
  waiting = w;
  opened = o;
  leads = leads_as start (IsExprAt 0) (λ e us rest. FromOperand (Behind []) nothing e us rest) start (leads_start (IsExprAt 0) (FitsAt 0) start)
      (λ e us rest k. whole_within e us rest (to_within (Behind []) e us rest k))
      (λ e us rest m ok k. (e, from_within (Behind []) e us rest (within_whole e us rest k)));
}

-- a token of an operand is taken
pub asked_more : (front : List Token) (t : Token) (start : List Placed) (r : Reader) (now new : List Placed) → first_of now ≡ Some t → new ≡ drop 1 now → Asked front start r now → Asked (front ++ t ∷ []) start r new
asked_more front t start r now new first e a = record {
  frames = a.frames;
  pending = a.pending;
  steps = a.steps;
  waiting = a.waiting;
  opened = a.opened;
  leads = leads_as start (λ e us rest. FromOperand (Behind a.frames) a.pending e (front ++ t ∷ us) rest) (λ e us rest. FromOperand (Behind a.frames) a.pending e ((front ++ t ∷ []) ++ us) rest) new
      (leads_on t start (λ e us rest. FromOperand (Behind a.frames) a.pending e (front ++ us) rest) now new first e a.leads)
      (λ e us rest k. subst (λ (ts : List Token). FromOperand (Behind a.frames) a.pending e ts rest) (append_assoc front (t ∷ []) us) k)
      (λ e us rest m ok k. (e, subst (λ (ts : List Token). FromOperand (Behind a.frames) a.pending e ts rest) (sym (append_assoc front (t ∷ []) us)) k));
}

-- an atom was read

atom_steps : (b : Bool) (base steps : List Step) (a : Expr) → steps ≡ base ++ steps_of a → (if b then steps ++ Negate ∷ [] else steps) ≡ base ++ steps_of (with_sign b a)
atom_steps true base steps a e =
    ap (λ (s : List Step). s ++ Negate ∷ []) e ∙ append_assoc base (steps_of a) (Negate ∷ [])
atom_steps false base steps a e = e

behind_unsigned : (start : List Placed) (frames : List Frame) (p : Pending) (x : Expr) (now : List Placed) → Leads start (BehindFactor (Behind frames) p x) now → Leads start (BehindFactor (Behind frames) (unsigned p) x) now
unfolding BehindFactor
behind_unsigned start frames p x now l = l

pub given_atom : (start : List Placed) (frames : List Frame) (p : Pending) (a : Expr) (q r : Reader) (now : List Placed) → q.steps ≡ (open_steps frames ++ pending_steps p) ++ steps_of a → q.waiting ≡ waiting_of p → q.opened ≡ opens_of frames
    → r ≡ without_sign q → Leads start (BehindAtom (Behind frames) p a) now → Given start r now
given_atom start frames p a q r now s w o e l =
    let sign : q.waiting.signed ≡ p.signed = ap (λ (v : Waiting). v.signed) w in
    record {
      frames = frames;
      pending = unsigned p;
      factor = with_sign p.signed a;
      steps = ap (λ (t : Reader). t.steps) e ∙ (ap (λ (b : Bool). if b then q.steps ++ Negate ∷ [] else q.steps) sign ∙ atom_steps p.signed (open_steps frames ++ pending_steps p) q.steps a s);
      waiting = ap (λ (t : Reader). t.waiting) e ∙ (λ i. record { sum = (w i).sum; product = (w i).product; signed = false });
      unsigned = refl;
      opened = ap (λ (t : Reader). t.opened) e ∙ o;
      leads = behind_unsigned start frames p (with_sign p.signed a) now l;
    }

-- a literal was read
pub given_literal : (t : Token) (z : ℤ) (start : List Placed) (r q : Reader) (now new : List Placed) → first_of now ≡ Some t → new ≡ drop 1 now → EndsLit r.waiting.signed t z → Asked [] start r now
    → q.steps ≡ r.steps ++ Lit z ∷ [] → q.waiting ≡ record { sum = r.waiting.sum; product = r.waiting.product; signed = false } → q.opened ≡ r.opened → Given start q new
given_literal t z start r q now new first e is a s w o =
    let sign : r.waiting.signed ≡ a.pending.signed = ap (λ (v : Waiting). v.signed) a.waiting in
    let lit : EndsLit a.pending.signed t z = subst (λ (b : Bool). EndsLit b t z) sign is in
    record {
      frames = a.frames;
      pending = unsigned a.pending;
      factor = literal z;
      steps = s ∙ ap (λ (l : List Step). l ++ Lit z ∷ []) a.steps;
      waiting = w ∙ (λ i. record { sum = (a.waiting i).sum; product = (a.waiting i).product; signed = false });
      unsigned = refl;
      opened = o ∙ a.opened;
      leads = leads_as start (λ e us rest. FromOperand (Behind a.frames) a.pending e (t ∷ us) rest) (BehindFactor (Behind a.frames) (unsigned a.pending) (literal z)) new
          (leads_on t start (λ e us rest. FromOperand (Behind a.frames) a.pending e us rest) now new first e a.leads)
          (lit_made (Behind a.frames) a.pending t z lit) (λ e us rest m ok k. lit_taken (Behind a.frames) (surrounds a.frames) a.pending t z lit e us rest k);
    }

-- a sign was read
pub asked_sign : (start : List Placed) (r q : Reader) (now new : List Placed) → first_of now ≡ Some Minus → new ≡ drop 1 now → r.waiting.signed ≡ false → Asked [] start r now
    → q.steps ≡ r.steps → q.waiting ≡ record { sum = r.waiting.sum; product = r.waiting.product; signed = true } → q.opened ≡ r.opened → Asked [] start q new
asked_sign start r q now new first e none a s w o =
    let sign : a.pending.signed ≡ false = sym (ap (λ (v : Waiting). v.signed) a.waiting) ∙ none in
    record {
      frames = a.frames;
      pending = signed a.pending;
      steps = s ∙ a.steps;
      waiting = w ∙ (λ i. record { sum = (a.waiting i).sum; product = (a.waiting i).product; signed = true });
      opened = o ∙ a.opened;
      leads = leads_as start (λ e us rest. FromOperand (Behind a.frames) a.pending e (Minus ∷ us) rest) (λ e us rest. FromOperand (Behind a.frames) (signed a.pending) e us rest) new
          (leads_on Minus start (λ e us rest. FromOperand (Behind a.frames) a.pending e us rest) now new first e a.leads)
          (sign_made (Behind a.frames) a.pending sign) (λ e us rest m ok k. (e, sign_only (Behind a.frames) a.pending sign e us rest k));
    }

pushed : (r q : Reader) (frames : List Frame) (p : Pending) (a : Expr) (step : Step) → r.steps ≡ open_steps frames ++ pending_steps p → steps_of a ≡ step ∷ [] → (with_step step r).steps ≡ (open_steps frames ++ pending_steps p) ++ steps_of a
pushed r q frames p a step s e = (λ i. s i ++ sym e i)

-- a variable was read
pub given_variable : (x : Name) (start : List Placed) (r q : Reader) (now : List Placed) → Lacks OpenParen (tokens_of now) → Asked (Named x ∷ []) start r now → q ≡ without_sign (with_step (Var x) r) → Given start q now
given_variable x start r q now none a e =
    given_atom start a.frames a.pending (variable x) (with_step (Var x) r) q now (pushed r q a.frames a.pending (variable x) (Var x) a.steps refl) a.waiting a.opened e
    (leads_as start (λ e us rest. FromOperand (Behind a.frames) a.pending e (Named x ∷ us) rest) (BehindAtom (Behind a.frames) a.pending (variable x)) now a.leads
    (variable_made (Behind a.frames) a.pending x) (λ e us rest m ok k. variable_taken (Behind a.frames) (surrounds a.frames) a.pending x now none e us rest m k))

-- a call without arguments was read
pub given_none : (x : Name) (start : List Placed) (r q : Reader) (now : List Placed) → Asked (Named x ∷ OpenParen ∷ CloseParen ∷ []) start r now → q ≡ without_sign (with_step (Ask x 0) r) → Given start q now
given_none x start r q now a e =
    given_atom start a.frames a.pending (ask x no_args) (with_step (Ask x 0) r) q now (pushed r q a.frames a.pending (ask x no_args) (Ask x 0) a.steps refl) a.waiting a.opened e
    (leads_as start (λ e us rest. FromOperand (Behind a.frames) a.pending e (Named x ∷ OpenParen ∷ CloseParen ∷ us) rest) (BehindAtom (Behind a.frames) a.pending (ask x no_args)) now a.leads
    (none_made (Behind a.frames) a.pending x) (λ e us rest m ok k. none_taken (Behind a.frames) (surrounds a.frames) a.pending x e us rest ok k))

-- a parenthesis was opened

entered_steps : (base pending : List Step) (more : List Step) → (base ++ pending) ++ more ≡ ((base ++ pending) ++ more) ++ ([] ++ [])
entered_steps base pending more = sym (append-nil ((base ++ pending) ++ more))

in_frame : (start : List Placed) (f : Frame) (frames : List Frame) (now : List Placed) → Leads start (λ e us rest. FromOperand (BehindIn (Behind frames) f.pending f.around) nothing e us rest) now → Leads start (λ e us rest. FromOperand (Behind (f ∷ frames)) nothing e us rest) now
unfolding Behind
in_frame start f frames now l = l

pub entered_asked : (start : List Placed) (f : Frame) (frames : List Frame) (bracket : Bracket) (r q : Reader) (now : List Placed) → r.steps ≡ (open_steps frames ++ pending_steps f.pending) ++ around_steps f.around → r.waiting ≡ waiting_of f.pending → r.opened ≡ opens_of frames
    → bracket ≡ bracket_of f.around → q ≡ entered bracket r → Leads start (λ e us rest. FromOperand (BehindIn (Behind frames) f.pending f.around) nothing e us rest) now → Asked [] start q now
entered_asked start f frames bracket r q now s w o b e l = record {
  frames = f ∷ frames;
  pending = nothing;
  steps = ap (λ (t : Reader). t.steps) e ∙ (s ∙ entered_steps (open_steps frames) (pending_steps f.pending) (around_steps f.around));
  waiting = ap (λ (t : Reader). t.waiting) e;
  opened = ap (λ (t : Reader). t.opened) e ∙ (λ i. o i ++ record { waiting = w i; bracket = b i } ∷ []);
  leads = in_frame start f frames now l;
}

pub asked_group : (start : List Placed) (r q : Reader) (now : List Placed) → Asked (OpenParen ∷ []) start r now → q ≡ entered kind.Group r → Asked [] start q now
asked_group start r q now a e =
    entered_asked start (record { pending = a.pending; around = group }) a.frames kind.Group r q now (a.steps ∙ sym (append-nil (open_steps a.frames ++ pending_steps a.pending))) a.waiting a.opened refl e
    (leads_as start (λ e us rest. FromOperand (Behind a.frames) a.pending e (OpenParen ∷ us) rest) (λ e us rest. FromOperand (BehindIn (Behind a.frames) a.pending group) nothing e us rest) now a.leads
    (group_made (Behind a.frames) a.pending) (λ e us rest m ok k. (e, group_taken (Behind a.frames) a.pending e us rest k)))

pub asked_call : (x : Name) (start : List Placed) (r q : Reader) (now : List Placed) → Lacks CloseParen (tokens_of now) → Asked (Named x ∷ OpenParen ∷ []) start r now → q ≡ entered (kind.Call x 0) r → Asked [] start q now
asked_call x start r q now none a e =
    entered_asked start (record { pending = a.pending; around = call x no_args }) a.frames (kind.Call x 0) r q now (a.steps ∙ sym (append-nil (open_steps a.frames ++ pending_steps a.pending))) a.waiting a.opened refl e
    (leads_as start (λ e us rest. FromOperand (Behind a.frames) a.pending e (Named x ∷ OpenParen ∷ us) rest) (λ e us rest. FromOperand (BehindIn (Behind a.frames) a.pending (call x no_args)) nothing e us rest) now a.leads
    (some_made (Behind a.frames) a.pending x) (λ e us rest m ok k. some_taken (Behind a.frames) (surrounds a.frames) a.pending x now none e us rest m ok k))

-- no operand begins so
pub operand_stops : (start : List Placed) (r : Reader) (now : List Placed) → Asked [] start r now → Unlike r.waiting.signed now → Stops (IsExprAt 0) (FitsAt 0) start now
operand_stops start r now a u =
    let sign : r.waiting.signed ≡ a.pending.signed = ap (λ (v : Waiting). v.signed) a.waiting in
    leads_stops start (λ e us rest. FromOperand (Behind a.frames) a.pending e us rest) now a.leads (operand_open (Behind a.frames) (surrounds a.frames) a.pending)
    (λ e us rest m ok k. operand_shut (Behind a.frames) a.pending now (subst (λ (b : Bool). Unlike b now) sign u) e us rest m k)

-- an operator was read

join_steps : (l : Option Left) (base steps : List Step) (x : Expr) → steps ≡ (base ++ left_steps l) ++ steps_of x → ended (op_of l) steps ≡ base ++ steps_of (joined l x)
join_steps None base steps x e = e ∙ ap (λ (s : List Step). s ++ steps_of x) (append-nil base)
join_steps (Some l) base steps x e =
    ap (λ (s : List Step). s ++ Operate l.op ∷ []) e
    ∙ (ap (λ (s : List Step). s ++ Operate l.op ∷ []) (append_assoc base (steps_of l.left) (steps_of x)) ∙ append_assoc base (steps_of l.left ++ steps_of x) (Operate l.op ∷ []))

product_ended : (r q : Reader) (base : List Step) (p : Pending) (x : Expr) → r.steps ≡ (base ++ pending_steps p) ++ steps_of x → r.waiting ≡ waiting_of p → q ≡ without_product r → q.steps ≡ (base ++ left_steps p.sum) ++ steps_of (joined p.product x)
product_ended r q base p x s w e =
    ap (λ (t : Reader). t.steps) e
    ∙ (ap (λ (o : Option Op). ended o r.steps) (ap (λ (v : Waiting). v.product) w)
    ∙ join_steps p.product (base ++ left_steps p.sum) r.steps x (s ∙ ap (λ (t : List Step). t ++ steps_of x) (sym (append_assoc base (left_steps p.sum) (left_steps p.product)))))

product_waiting : (r q : Reader) (p : Pending) → r.waiting ≡ waiting_of p → q ≡ without_product r → q.waiting ≡ record { sum = op_of p.sum; product = None; signed = p.signed }
product_waiting r q p w e =
    ap (λ (t : Reader). t.waiting) e ∙ (λ i. record { sum = (w i).sum; product = None; signed = (w i).signed })

sum_ended : (r q : Reader) (base : List Step) (p : Pending) (x : Expr) → r.steps ≡ (base ++ left_steps p.sum) ++ steps_of x → r.waiting.sum ≡ op_of p.sum → q ≡ without_sum r → q.steps ≡ base ++ steps_of (joined p.sum x)
sum_ended r q base p x s w e =
    ap (λ (t : Reader). t.steps) e ∙ (ap (λ (o : Option Op). ended o r.steps) w ∙ join_steps p.sum base r.steps x s)

pub asked_product : (op : Op) → binding op ≡ 1 → (start : List Placed) (r q t : Reader) (now new : List Placed) → first_of now ≡ Some (op_token op) → new ≡ drop 1 now → Given start r now → q ≡ without_product r
    → t.steps ≡ q.steps → t.waiting ≡ record { sum = q.waiting.sum; product = Some op; signed = q.waiting.signed } → t.opened ≡ q.opened → Asked [] start t new
asked_product op is start r q t now new first e g before s w o =
    let waits = product_waiting r q g.pending g.waiting before in
    let base = open_steps g.frames in
    record {
      frames = g.frames;
      pending = with_product g.pending g.factor op;
      steps = s ∙ (product_ended r q base g.pending g.factor g.steps g.waiting before ∙ append_assoc base (left_steps g.pending.sum) (steps_of (joined g.pending.product g.factor)));
      waiting = w ∙ (λ i. record { sum = (waits i).sum; product = Some op; signed = (ap (λ (v : Waiting). v.signed) waits ∙ g.unsigned) i });
      opened = o ∙ (ap (λ (t : Reader). t.opened) before ∙ g.opened);
      leads = leads_as start (λ e us rest. BehindFactor (Behind g.frames) g.pending g.factor e (op_token op ∷ us) rest) (λ e us rest. FromOperand (Behind g.frames) (with_product g.pending g.factor op) e us rest) new
          (leads_on (op_token op) start (BehindFactor (Behind g.frames) g.pending g.factor) now new first e g.leads)
          (product_made (Behind g.frames) g.pending g.factor op is) (λ e us rest m ok k. product_taken (Behind g.frames) (surrounds g.frames) g.pending g.factor op is e us rest ok k);
    }

-- a whole term was read
term_leads : (start : List Placed) (r : Reader) (now : List Placed) → ((op : Op) → binding op ≡ 1 → first_of now ≡ Some (op_token op) → ⊥) → (g : Given start r now) → Leads start (BehindTerm (Behind g.frames) g.pending.sum (joined g.pending.product g.factor)) now
term_leads start r now none g =
    leads_as start (BehindFactor (Behind g.frames) g.pending g.factor) (BehindTerm (Behind g.frames) g.pending.sum (joined g.pending.product g.factor)) now g.leads (term_made (Behind g.frames) g.pending g.factor)
    (λ e us rest m ok k. term_taken (Behind g.frames) (surrounds g.frames) g.pending g.factor now none e us rest m k)

both_ended : (r q t : Reader) (base : List Step) (p : Pending) (x : Expr) → r.steps ≡ (base ++ pending_steps p) ++ steps_of x → r.waiting ≡ waiting_of p → q ≡ without_product r → t ≡ without_sum q → t.steps ≡ base ++ steps_of (joined p.sum (joined p.product x))
both_ended r q t base p x s w before behind =
    sum_ended q t base p (joined p.product x) (product_ended r q base p x s w before) (ap (λ (v : Waiting). v.sum) (product_waiting r q p w before)) behind

pub asked_sum : (op : Op) → binding op ≡ 0 → (start : List Placed) (r q t u : Reader) (now new : List Placed) → ((other : Op) → binding other ≡ 1 → first_of now ≡ Some (op_token other) → ⊥) → first_of now ≡ Some (op_token op) → new ≡ drop 1 now → Given start r now
    → q ≡ without_product r → t ≡ without_sum q → u.steps ≡ t.steps → u.waiting ≡ record { sum = Some op; product = t.waiting.product; signed = t.waiting.signed } → u.opened ≡ t.opened → Asked [] start u new
asked_sum op is start r q t u now new none first e g before behind s w o =
    let waits = product_waiting r q g.pending g.waiting before in
    let base = open_steps g.frames in
    let term = joined g.pending.product g.factor in
    record {
      frames = g.frames;
      pending = with_sum g.pending.sum term op;
      steps = s ∙ (both_ended r q t base g.pending g.factor g.steps g.waiting before behind ∙ ap (λ (x : List Step). base ++ x) (sym (append-nil (steps_of (joined g.pending.sum term)))));
      waiting = w
          ∙ (λ i. record { sum = Some op; product = (ap (λ (t : Reader). t.waiting.product) behind ∙ ap (λ (v : Waiting). v.product) waits) i; signed = (ap (λ (t : Reader). t.waiting.signed) behind ∙ (ap (λ (v : Waiting). v.signed) waits ∙ g.unsigned)) i });
      opened = o ∙ (ap (λ (t : Reader). t.opened) behind ∙ (ap (λ (t : Reader). t.opened) before ∙ g.opened));
      leads = leads_as start (λ e us rest. BehindTerm (Behind g.frames) g.pending.sum term e (op_token op ∷ us) rest) (λ e us rest. FromOperand (Behind g.frames) (with_sum g.pending.sum term op) e us rest) new
          (leads_on (op_token op) start (BehindTerm (Behind g.frames) g.pending.sum term) now new first e (term_leads start r now none g))
          (sum_made (Behind g.frames) g.pending.sum term op is) (λ e us rest m ok k. sum_taken (Behind g.frames) (surrounds g.frames) g.pending.sum term op is e us rest ok k);
    }

-- no operator follows
pub given_ended : (start : List Placed) (r q t : Reader) (now : List Placed) → ((op : Op) → binding op ≡ 1 → first_of now ≡ Some (op_token op) → ⊥) → ((op : Op) → binding op ≡ 0 → first_of now ≡ Some (op_token op) → ⊥) → Given start r now
    → q ≡ without_product r → t ≡ without_sum q → Ended start t now
given_ended start r q t now no_product no_sum g before behind =
    let term = joined g.pending.product g.factor in
    record {
      frames = g.frames;
      inner = joined g.pending.sum term;
      steps = both_ended r q t (open_steps g.frames) g.pending g.factor g.steps g.waiting before behind;
      opened = ap (λ (t : Reader). t.opened) behind ∙ (ap (λ (t : Reader). t.opened) before ∙ g.opened);
      leads = leads_as start (BehindTerm (Behind g.frames) g.pending.sum term) (Behind g.frames (joined g.pending.sum term)) now (term_leads start r now no_product g) (whole_made (Behind g.frames) g.pending.sum term)
          (λ e us rest m ok k. whole_taken (Behind g.frames) (surrounds g.frames) g.pending.sum term now no_sum e us rest m k);
    }

-- the end

snoc_none : (xs : List Open) (x : Open) → [] ≡ xs ++ x ∷ [] → ⊥
snoc_none [] x e = cc e
snoc_none (y ∷ xs) x e = cc e

none_open : (frames : List Frame) → [] ≡ opens_of frames → frames ≡ []
none_open [] e = refl
none_open (f ∷ frames) e = absurd (snoc_none (opens_of frames) (open_of f) e)

pub ended_done : (start : List Placed) (r q : Reader) (now : List Placed) → Ended start r now → r.opened ≡ [] → q.steps ≡ r.steps → (e : Expr) × (q.steps ≡ steps_of e) × Ends (IsExprAt 0) (FitsAt 0) e start now
unfolding Behind
ended_done start r q now d none s =
    let all = none_open d.frames (sym none ∙ d.opened) in (
      d.inner,
      s ∙ (d.steps ∙ ap (λ (f : List Frame). open_steps f ++ steps_of d.inner) all),
      leads_done start d.inner now (subst (λ (f : List Frame). Leads start (Behind f d.inner) now) all d.leads),
    )

-- the innermost parenthesis

snoc_parts : (xs ys : List Open) (x y : Open) → xs ++ x ∷ [] ≡ ys ++ y ∷ [] → (x ≡ y) × (xs ≡ ys)
snoc_parts xs ys x y e =
    let turned : x ∷ reverse xs ≡ y ∷ reverse ys = sym (reverse-append xs (x ∷ [])) ∙ (ap reverse e ∙ reverse-append ys (y ∷ [])) in
    let front : reverse xs ≡ reverse ys = cc turned in
    (cc turned, sym (reverse-reverse xs) ∙ (ap reverse front ∙ reverse-reverse ys))

pub ended_in : (start : List Placed) (r q : Reader) (o : Open) (now : List Placed) → Ended start r now → r.opened ≡ q.opened ++ o ∷ [] → q.steps ≡ r.steps → q.waiting ≡ o.waiting → EndedIn o.bracket start q now
unfolding Behind
ended_in start r q o now d last s w = by d.frames d.steps d.opened d.leads
  where
    by : (frames : List Frame) → r.steps ≡ open_steps frames ++ steps_of d.inner → r.opened ≡ opens_of frames → Leads start (Behind frames d.inner) now → EndedIn o.bracket start q now
    by [] e f l = absurd (snoc_none q.opened o (sym f ∙ last))
    by (f ∷ frames) e g l =
        let parts = snoc_parts q.opened (opens_of frames) o (open_of f) (sym last ∙ g) in
        record {
          frames = frames;
          pending = f.pending;
          around = f.around;
          inner = d.inner;
          is = ap (λ (x : Open). x.bracket) parts.0;
          steps = s ∙ e;
          waiting = w ∙ ap (λ (x : Open). x.waiting) parts.0;
          opened = parts.1;
          leads = l;
        }

-- a group ends

pub given_group : (start : List Placed) (r q : Reader) (now new : List Placed) → first_of now ≡ Some CloseParen → new ≡ drop 1 now → EndedIn kind.Group start r now → q ≡ without_sign r → Given start q new
given_group start r q now new first e d made = by d.around d.is d.steps d.leads
  where
    by : (around : Around) → kind.Group ≡ bracket_of around → r.steps ≡ ((open_steps d.frames ++ pending_steps d.pending) ++ around_steps around) ++ steps_of d.inner → Leads start (BehindIn (Behind d.frames) d.pending around d.inner) now → Given start q new
    by (call callee args) is s l = absurd (cc is)
    by group is s l =
        given_atom start d.frames d.pending d.inner r q new (s ∙ ap (λ (t : List Step). t ++ steps_of d.inner) (append-nil (open_steps d.frames ++ pending_steps d.pending))) d.waiting d.opened made
        (leads_as start (λ e us rest. BehindIn (Behind d.frames) d.pending group d.inner e (CloseParen ∷ us) rest) (BehindAtom (Behind d.frames) d.pending d.inner) new
        (leads_on CloseParen start (BehindIn (Behind d.frames) d.pending group d.inner) now new first e l)
        (close_made (Behind d.frames) d.pending d.inner) (λ e us rest m ok k. (e, close_taken (Behind d.frames) d.pending d.inner e us rest k)))

pub group_stops : (start : List Placed) (r : Reader) (now : List Placed) → Lacks CloseParen (tokens_of now) → EndedIn kind.Group start r now → Stops (IsExprAt 0) (FitsAt 0) start now
group_stops start r now none d = by d.around d.is d.leads
  where
    by : (around : Around) → kind.Group ≡ bracket_of around → Leads start (BehindIn (Behind d.frames) d.pending around d.inner) now → Stops (IsExprAt 0) (FitsAt 0) start now
    by (call callee args) is l = absurd (cc is)
    by group is l =
        leads_stops start (BehindIn (Behind d.frames) d.pending group d.inner) now l ((in_surrounds (Behind d.frames) (surrounds d.frames) d.pending group).opens d.inner)
        (λ e us rest m ok k. close_shut (Behind d.frames) d.pending d.inner now none e us rest m k)

-- an argument ends

onto-steps : (args : Args) (x : Expr) → args_steps (onto args (arg x no_args)) ≡ args_steps args ++ steps_of x
onto-steps no_args x = append-nil (steps_of x)
onto-steps (arg y args) x = ap (λ (s : List Step). steps_of y ++ s) (onto-steps args x) ∙ sym (append_assoc (steps_of y) (args_steps args) (steps_of x))

onto-count : (args : Args) (x : Expr) → count (onto args (arg x no_args)) ≡ count args + 1
onto-count no_args x = refl
onto-count (arg y args) x = omega (arith, onto-count args x)

all_steps : (base : List Step) (args : Args) (x : Expr) → (base ++ args_steps args) ++ steps_of x ≡ base ++ args_steps (onto args (arg x no_args))
all_steps base args x =
    append_assoc base (args_steps args) (steps_of x) ∙ ap (λ (s : List Step). base ++ s) (sym (onto-steps args x))

-- the call that it belongs to
pub record InCallOf (callee : Name) (before : ℕ) (start : List Placed) (r : Reader) (now : List Placed) : Type 0 where
  pub frames : List Frame
  pub pending : Pending
  pub args : Args
  pub inner : Expr
  pub before_is : before ≡ count args
  pub steps : r.steps ≡ ((open_steps frames ++ pending_steps pending) ++ args_steps args) ++ steps_of inner
  pub waiting : r.waiting ≡ waiting_of pending
  pub opened : r.opened ≡ opens_of frames
  pub leads : Leads start (BehindIn (Behind frames) pending (call callee args) inner) now

call_of : (callee : Name) (before : ℕ) (start : List Placed) (r : Reader) (now : List Placed) → EndedIn (kind.Call callee before) start r now → InCallOf callee before start r now
call_of callee before start r now d = by d.around d.is d.steps d.leads
  where
    by : (around : Around) → kind.Call callee before ≡ bracket_of around → r.steps ≡ ((open_steps d.frames ++ pending_steps d.pending) ++ around_steps around) ++ steps_of d.inner → Leads start (BehindIn (Behind d.frames) d.pending around d.inner) now → InCallOf callee before start r now
    by group is s l = absurd (cc is)
    by (call other args) is s l =
        let same : other ≡ callee = cc is in
        record {
          frames = d.frames;
          pending = d.pending;
          args = args;
          inner = d.inner;
          before_is = cc is;
          steps = s;
          waiting = d.waiting;
          opened = d.opened;
          leads = subst (λ (x : Name). Leads start (BehindIn (Behind d.frames) d.pending (call x args) d.inner) now) same l;
        }

pub asked_comma : (callee : Name) (before more : ℕ) (start : List Placed) (r q : Reader) (now new : List Placed) → first_of now ≡ Some Comma → new ≡ drop 1 now → EndedIn (kind.Call callee before) start r now → more ≡ before + 1
    → q ≡ entered (kind.Call callee more) r → Asked [] start q new
asked_comma callee before more start r q now new first e d number made =
    let c = call_of callee before start r now d in
    let args = onto c.args (arg c.inner no_args) in
    let number_is : more ≡ count args = number ∙ (ap (λ (n : ℕ). n + 1) c.before_is ∙ sym (onto-count c.args c.inner)) in
    entered_asked start (record { pending = c.pending; around = call callee args }) c.frames (kind.Call callee more) r q new
    (c.steps ∙ all_steps (open_steps c.frames ++ pending_steps c.pending) c.args c.inner) c.waiting c.opened (ap (λ (n : ℕ). kind.Call callee n) number_is) made
    (leads_as start (λ e us rest. BehindIn (Behind c.frames) c.pending (call callee c.args) c.inner e (Comma ∷ us) rest) (λ e us rest. FromOperand (BehindIn (Behind c.frames) c.pending (call callee args)) nothing e us rest) new
    (leads_on Comma start (BehindIn (Behind c.frames) c.pending (call callee c.args) c.inner) now new first e c.leads)
    (comma_made (Behind c.frames) c.pending callee c.args c.inner) (λ e us rest m ok k. (e, comma_taken (Behind c.frames) c.pending callee c.args c.inner e us rest k)))

pub given_call : (callee : Name) (before more : ℕ) (start : List Placed) (r q : Reader) (now new : List Placed) → first_of now ≡ Some CloseParen → new ≡ drop 1 now → EndedIn (kind.Call callee before) start r now → more ≡ before + 1
    → q ≡ without_sign (with_step (Ask callee more) r) → Given start q new
given_call callee before more start r q now new first e d number made =
    let c = call_of callee before start r now d in
    let args = onto c.args (arg c.inner no_args) in
    let base = open_steps c.frames ++ pending_steps c.pending in
    let number_is : more ≡ count args = number ∙ (ap (λ (n : ℕ). n + 1) c.before_is ∙ sym (onto-count c.args c.inner)) in
    given_atom start c.frames c.pending (ask callee args) (with_step (Ask callee more) r) q new
    ((λ i. (c.steps ∙ all_steps base c.args c.inner) i ++ Ask callee (number_is i) ∷ []) ∙ append_assoc base (args_steps args) (Ask callee (count args) ∷ []))
    c.waiting c.opened made
    (leads_as start (λ e us rest. BehindIn (Behind c.frames) c.pending (call callee c.args) c.inner e (CloseParen ∷ us) rest) (BehindAtom (Behind c.frames) c.pending (ask callee args)) new
    (leads_on CloseParen start (BehindIn (Behind c.frames) c.pending (call callee c.args) c.inner) now new first e c.leads)
    (last_made (Behind c.frames) c.pending callee c.args c.inner) (λ e us rest m ok k. (e, last_taken (Behind c.frames) c.pending callee c.args c.inner e us rest k)))

pub argument_stops : (callee : Name) (before : ℕ) (start : List Placed) (r : Reader) (now : List Placed) → Lacks Comma (tokens_of now) → Lacks CloseParen (tokens_of now) → EndedIn (kind.Call callee before) start r now → Stops (IsExprAt 0) (FitsAt 0) start now
argument_stops callee before start r now no_comma no_close d =
    let c = call_of callee before start r now d in
    leads_stops start (BehindIn (Behind c.frames) c.pending (call callee c.args) c.inner) now c.leads ((in_surrounds (Behind c.frames) (surrounds c.frames) c.pending (call callee c.args)).opens c.inner)
    (λ e us rest m ok k. last_shut (Behind c.frames) c.pending callee c.args c.inner now no_comma no_close e us rest m k)

-- fewer tokens are left

pub token_shorter : (t : Token) (now new : List Placed) → first_of now ≡ Some t → new ≡ drop 1 now → length new < length now
token_shorter t [] new h e = absurd (cc h)
token_shorter t (p ∷ now) new h e = omega (arith, ap length e)

pub on_ok : {T E : Type 0} (r : Result T E) (P Q : Type 0) → (P → Q) → OnOk r P → OnOk r Q
on_ok (Ok t) P Q f h = f h
on_ok (Err e) P Q f h = tt
