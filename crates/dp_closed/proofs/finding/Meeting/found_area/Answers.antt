use Rattle.std.proofs.Common.{◌≡◌, ℕ, Some, slice_get, ap, sym, ◌∙◌, subst}
use Rattle.std.proofs.lemmas.Option.{MatchOption-at_none, MatchOption-at_some}
use Rattle.dp_pattern.specs.Name.{Meaning}
use Rattle.dp_pieces.specs.Met.{after_match}
use Rattle.dp_pieces.specs.Shown.{shown_all}
use Rattle.dp_plan.specs.declared.entry.Entry.{Entry}
use Rattle.dp_reach.specs.Areas.{Area, area_matched}
use Rattle.dp_closed.specs.Found.{Hides, IsUnmatched}
use Rattle.dp_closed.proofs.FoundLemmas.{hidden-unfound, unmatched-unfound}
use Rattle.dp_closed.proofs.finding.Meeting.found_area.Goals as goal

pub returns-in_default : goal.returns-in_default
returns-in_default c = λ area met same.
    unmatched-unfound c.args.entries.now c.args.entry.now area.exten
    (subst (λ (name : Meaning). IsUnmatched area.exten name) (sym same) (MatchOption-at_none _ _ c.in_default.is met))

pub returns-then-is_hidden : goal.returns-then-is_hidden
returns-then-is_hidden c = λ area met same.
    let hidden : (k : ℕ) × (other : Entry) × (slice_get c.args.entries.now k ≡ Some other) × Hides (shown_all c.deref.result.now) c.args.entry.now other = c.is_hidden.ensures c.if-is_hidden.true in
    hidden-unfound c.args.entries.now c.args.entry.now hidden.1 hidden.0 area.exten (shown_all c.deref.result.now)
    (ap shown_all c.deref.ensures.value ∙ (ap (λ (a : Area). a.exten) (MatchOption-at_some _ _ c.in-Some.met c.in-Some.is met) ∙ ap (after_match area.exten) (sym same))) hidden.2 hidden.3

pub returns : goal.returns
returns c = λ area met same. MatchOption-at_some _ _ c.in-Some.met c.in-Some.is met ∙ ap (area_matched area) (sym same)
