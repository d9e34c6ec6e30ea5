use Rattle.std.proofs.Common.{◌≡◌, ℕ, true, false, List, length, drop, Some, sym, subst, ◌∙◌}
use Rattle.std.specs.Option.{option_map}
use Rattle.dp_conf.specs.Cut.{begins_with}
use Rattle.dp_files.specs.Wildcards.{matches}
use Rattle.dp_files.specs.steps.Wildcards.{star_now, first_fits}
use Rattle.dp_files.proofs.WildcardsLemmas.{IsUnderway, underway_star, underway_byte}
use Rattle.dp_files.proofs.wildcard.matches_wildcard.Goals as goal

-- at a `*`
pub loop-left-preserved-then-begins_with_star : goal.loop-left-preserved-then-begins_with_star
loop-left-preserved-then-begins_with_star c =
    let l = c.loop-left in
    let m = length c.args.pattern.now in
    let n = length c.args.text.now in
    let whole = matches c.args.pattern.now c.args.text.now in
    let starts : begins_with 42 l.left.now ≡ true = sym c.begins_with_star.ensures ∙ c.if-begins_with_star.true in
    subst (λ (after : List ℕ). IsUnderway m n whole (Some (after, l.name.now)) after l.name.now) (sym c.after_first-left.ensures)
    (underway_star m n whole (option_map star_now l.last) l.left.now l.name.now starts l.invariant)

-- at a byte that fits
pub loop-left-preserved-then-first_fits : goal.loop-left-preserved-then-first_fits
loop-left-preserved-then-first_fits c =
    let l = c.loop-left in
    let m = length c.args.pattern.now in
    let n = length c.args.text.now in
    let whole = matches c.args.pattern.now c.args.text.now in
    let star = option_map star_now l.last in
    let plain : begins_with 42 l.left.now ≡ false = sym c.begins_with_star.ensures ∙ c.if-begins_with_star.false in
    let fits : first_fits l.left.now l.name.now ≡ true = sym c.first_fits.ensures ∙ c.if-first_fits.true in
    subst (λ (p : List ℕ). IsUnderway m n whole star p c.after_first-name.result.now) (sym c.after_first-left-then-first_fits.ensures)
    (subst (λ (b : List ℕ). IsUnderway m n whole star (drop 1 l.left.now) b) (sym c.after_first-name.ensures)
    (underway_byte m n whole star l.left.now l.name.now plain fits l.invariant))
