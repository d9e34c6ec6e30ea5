use Rattle.std.proofs.Common.{◌≡◌, ℕ, Some, slice_get, ap, ◌∙◌, subst}
use Rattle.std.proofs.lemmas.Option.{MatchOption-at_none, MatchOption-at_some}
use Rattle.dp_pattern.specs.Name.{Meaning}
use Rattle.dp_pieces.specs.Met.{after_match}
use Rattle.dp_pieces.specs.Shown.{shown_all}
use Rattle.dp_plan.specs.declared.entry.Entry.{Entry}
use Rattle.dp_closed.specs.Found.{Hides, IsUnmatched}
use Rattle.dp_closed.proofs.FoundLemmas.{hidden-unfound, unmatched-unfound}
use Rattle.dp_closed.proofs.finding.found_shape.Goals as goal

pub returns-in_default : goal.returns-in_default
returns-in_default c = unmatched-unfound c.args.entries.now c.args.entry.now (shown_all c.args.exten.now) (subst (λ (name : Meaning). IsUnmatched (shown_all c.args.exten.now) name) c.name.ensures (MatchOption-at_none _ _ c.in_default.is c.in_ok-matching.ensures))

pub returns-then-is_hidden : goal.returns-then-is_hidden
returns-then-is_hidden c =
    let hidden : (k : ℕ) × (other : Entry) × (slice_get c.args.entries.now k ≡ Some other) × Hides (shown_all c.deref.result.now) c.args.entry.now other = c.is_hidden.ensures c.if-is_hidden.true in
    hidden-unfound c.args.entries.now c.args.entry.now hidden.1 hidden.0 (shown_all c.args.exten.now) (shown_all c.deref.result.now)
    (ap shown_all c.deref.ensures.value ∙ (MatchOption-at_some _ _ c.in-Some.met c.in-Some.is c.in_ok-matching.ensures ∙ ap (after_match (shown_all c.args.exten.now)) c.name.ensures)) hidden.2 hidden.3
