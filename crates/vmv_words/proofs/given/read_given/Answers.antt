use Rattle.std.proofs.Common.{◌≡◌, ◌∙◌, sym, ap, subst, map, codes, [], List, Option, Some, Global}
use Rattle.std.specs.Prelude.{option_map, unwrap_or}
use Rattle.std.specs.String.{string_bytes}
use Rattle.clap.specs.Words.{found_of, rows_of, matches_of}
use Rattle.clap.specs.Walk.{all_of, first_of, one_of, Text}
use Rattle.clap.proofs.WalkLemmas.{first_value-rows, one_text-rows, raw_values-rows}
use Rattle.vmv_words.specs.Clap.{app}
use Rattle.vmv_words.proofs.Counts.{Counts}
use Rattle.vmv_words.proofs.Just.{all_utf8, refused_gives, uncounted_gives, read_just}
use Rattle.vmv_words.proofs.given.read_given.Goals as goal
use Rattle.vmv_words.proofs.given.read_given.Goals.{in-Some-get_str+in-Some-count, in-None}

pub returns-in_default : goal.returns-in_default
returns-in_default c = refused_gives (map (string_bytes {Z = Global}) c.args.words.now) (rw c.in_default.is at c.in_ok-found.ensures)

pub returns-in_default-count : goal.returns-in_default-count
returns-in_default-count c =
    let words = map (string_bytes {Z = Global}) c.args.words.now in
    let taken = rw c.in-Some.is at c.in_ok-found.ensures in
    let read = rw c.in-Some-get_str.is at c.get_str.ensures in
    let there : first_of (codes "workers") (matches_of app words) ≡ Some c.in-Some-get_str.word.now =
    ap (first_of (codes "workers")) (sym taken.1) ∙ sym (first_value-rows (found_of c.in-Some.found) (codes "workers")) ∙ sym read in
    uncounted_gives words c.in-Some-get_str.word.now there c.in_default-count.ensures

pub returns : goal.returns
returns c =
    let words = map (string_bytes {Z = Global}) c.args.words.now in
    let taken = rw c.in-Some.is at c.in_ok-found.ensures in
    let rows_are : rows_of (found_of c.in-Some.found) ≡ matches_of app words = taken.1 in
    let names_are : map (λ name. name.now) c.in_ok-names.names.items ≡ unwrap_or (all_of (codes "name") (matches_of app words)) [] =
    c.in_ok-names.ensures ∙ ap (λ (o : Option (List Text)). unwrap_or o []) (raw_values-rows (found_of c.in-Some.found) (codes "name") ∙ ap (all_of (codes "name")) rows_are) in
    let first_is : option_map (λ s. s.now) c.get_str.result ≡ first_of (codes "workers") (matches_of app words) =
    c.get_str.ensures ∙ first_value-rows (found_of c.in-Some.found) (codes "workers") ∙ ap (first_of (codes "workers")) rows_are in
    let one_is = one_text-rows (found_of c.in-Some.found) (codes "proof") ∙ ap (one_of (codes "proof")) rows_are in
    let counts : Counts (option_map (λ s. s.now) c.get_str.result) c.match-get_str.workers = elim c.match-get_str.branch [
      | in-Some-get_str+in-Some-count w ↦ rw (w.in-Some-get_str.is, w.workers-is) w.in-Some-count.ensures
      | in-None w ↦ rw (w.in-None.is, w.workers-is) tt
    ] in
    read_just words (all_utf8 c.args.words.now) taken.0 _ names_are c.match-get_str.workers (subst (λ (o : Option Text). Counts o c.match-get_str.workers) first_is counts) c.get_flag-proof.result
    (λ e. c.get_flag-proof.ensures.value (one_is ∙ e)) (λ e. c.get_flag-proof.ensures.other (one_is ∙ e))
