-- What surrounds a part of an expression: it goes on in the same way whatever the part is.
use Rattle.std.proofs.Common.{List, [], ◌∷◌, ◌++◌, Option, refl, sym, subst}
use Rattle.vmv_text.specs.declared.token.Token.{Token}
use Rattle.vmv_text.specs.declared.token.Token.TheVariants.{CloseParen}
use Rattle.vmv_text.proofs.Steps.{Open}
use Rattle.vmv_surface.specs.Surface.{Expr, ask, Args, no_args, arg}
use Rattle.vmv_surface_text.specs.Grammar.{AreMoreArgs}
use Rattle.vmv_surface_text.specs.Reading.{FitsAt}
use Rattle.vmv_surface_text.specs.Opening.{TailAt, grown, onto, Left, joined, Pending, with_sign, Around, group, call, Frame, Leaves, BehindTerm, BehindFactor, BehindIn, Behind}
use Rattle.vmv_surface_text.proofs.Chains.{fits_tail}
use Rattle.vmv_surface_text.proofs.Atoms.{fits_close, fits_comma}

pub record Surrounds (outer : Leaves) : Type 0 where
  -- whatever the part is
  pub other : (x y e : Expr) (us rest : List Token) → outer x e us rest → (whole : Expr) × outer y whole us rest
  -- an expression may end there
  pub fits : (x e : Expr) (us rest : List Token) → FitsAt 0 rest → outer x e us rest → FitsAt 0 us
  -- and there is some
  pub opens : (x : Expr) → Open (outer x)

pub term_other : (outer : Leaves) → Surrounds outer → (sum sum' : Option Left) (x y e : Expr) (us rest : List Token) → BehindTerm outer sum x e us rest → (whole : Expr) × BehindTerm outer sum' y whole us rest
unfolding BehindTerm
term_other outer s sum sum' x y e us rest k =
    let o = s.other (grown (joined sum x) k.0) (grown (joined sum' y) k.0) e k.1 rest k.3 in
    (o.0, (k.0, k.1, k.2, o.1))

pub factor_other : (outer : Leaves) → Surrounds outer → (p : Pending) (x y e : Expr) (us rest : List Token) → BehindFactor outer p x e us rest → (whole : Expr) × BehindFactor outer p y whole us rest
unfolding BehindFactor
factor_other outer s p x y e us rest k =
    let o = term_other outer s p.sum p.sum (grown (joined p.product x) k.0) (grown (joined p.product y) k.0) e k.1 rest k.3 in
    (o.0, (k.0, k.1, k.2, o.1))

pub term_fits : (outer : Leaves) → Surrounds outer → (sum : Option Left) (x e : Expr) (us rest : List Token) → FitsAt 0 rest → BehindTerm outer sum x e us rest → FitsAt 1 us
unfolding BehindTerm
term_fits outer s sum x e us rest ok k =
    fits_tail 0 k.0 us k.1 (s.fits (grown (joined sum x) k.0) e k.1 rest ok k.3) k.2

pub factor_fits : (outer : Leaves) → Surrounds outer → (p : Pending) (x e : Expr) (us rest : List Token) → FitsAt 0 rest → BehindFactor outer p x e us rest → FitsAt 2 us
unfolding BehindFactor
factor_fits outer s p x e us rest ok k =
    fits_tail 1 k.0 us k.1 (term_fits outer s p.sum (grown (joined p.product x) k.0) e k.1 rest ok k.3) k.2

pub term_open : (outer : Leaves) → Surrounds outer → (sum : Option Left) (x : Expr) → Open (BehindTerm outer sum x)
unfolding BehindTerm TailAt
term_open outer s sum x =
    let o = s.opens (joined sum x) in
    record { some = o.some; more = o.more; goes_on = λ rest. ([], o.more ++ rest, refl, o.goes_on rest) }

pub factor_open : (outer : Leaves) → Surrounds outer → (p : Pending) (x : Expr) → Open (BehindFactor outer p x)
unfolding BehindFactor TailAt
factor_open outer s p x =
    let o = term_open outer s p.sum (joined p.product x) in
    record { some = o.some; more = o.more; goes_on = λ rest. ([], o.more ++ rest, refl, o.goes_on rest) }

more_fits : (more : Args) (us rest : List Token) → AreMoreArgs more us (CloseParen ∷ rest) → FitsAt 0 us
unfolding AreMoreArgs
more_fits no_args us rest k = subst (FitsAt 0) (sym k) (fits_close rest)
more_fits (arg x more) us rest k = subst (FitsAt 0) (sym k.2) (fits_comma k.0)

in_other : (outer : Leaves) → Surrounds outer → (p : Pending) (around : Around) (x y e : Expr) (us rest : List Token) → BehindIn outer p around x e us rest → (whole : Expr) × BehindIn outer p around y whole us rest
unfolding BehindIn
in_other outer s p group x y e us rest k =
    let o = factor_other outer s p (with_sign p.signed x) (with_sign p.signed y) e k.0 rest k.2 in
    (o.0, (k.0, k.1, o.1))
in_other outer s p (call callee args) x y e us rest k =
    let o = factor_other outer s p (with_sign p.signed (ask callee (onto args (arg x k.0)))) (with_sign p.signed (ask callee (onto args (arg y k.0)))) e k.1 rest k.3 in
    (o.0, (k.0, k.1, k.2, o.1))

in_fits : (outer : Leaves) (p : Pending) (around : Around) (x e : Expr) (us rest : List Token) → BehindIn outer p around x e us rest → FitsAt 0 us
unfolding BehindIn
in_fits outer p group x e us rest k = subst (FitsAt 0) (sym k.1) (fits_close k.0)
in_fits outer p (call callee args) x e us rest k = more_fits k.0 us k.1 k.2

in_open : (outer : Leaves) → Surrounds outer → (p : Pending) (around : Around) (x : Expr) → Open (BehindIn outer p around x)
unfolding BehindIn AreMoreArgs
in_open outer s p group x =
    let o = factor_open outer s p (with_sign p.signed x) in
    record { some = o.some; more = CloseParen ∷ o.more; goes_on = λ rest. (o.more ++ rest, refl, o.goes_on rest) }
in_open outer s p (call callee args) x =
    let o = factor_open outer s p (with_sign p.signed (ask callee (onto args (arg x no_args)))) in
    record { some = o.some; more = CloseParen ∷ o.more; goes_on = λ rest. (no_args, o.more ++ rest, refl, o.goes_on rest) }

pub in_surrounds : (outer : Leaves) → Surrounds outer → (p : Pending) (around : Around) → Surrounds (BehindIn outer p around)
in_surrounds outer s p around = record {
  other = in_other outer s p around;
  fits = λ x e us rest ok k. in_fits outer p around x e us rest k;
  opens = in_open outer s p around;
}

pub surrounds : (frames : List Frame) → Surrounds (Behind frames)
unfolding Behind
surrounds [] = record {
  other = λ x y e us rest k. (y, (refl, k.1));
  fits = λ x e us rest ok k. subst (FitsAt 0) (sym k.1) ok;
  opens = λ x. record { some = x; more = []; goes_on = λ rest. (refl, refl) };
}
surrounds (f ∷ frames) = in_surrounds (Behind frames) (surrounds frames) f.pending f.around
