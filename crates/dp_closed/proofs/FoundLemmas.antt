-- An entry that another hides is not found.
use Rattle.std.proofs.Common.{◌≡◌, ℕ, List, Ok, Option, Some, None, slice_get, refl, sym, ap, ◌∙◌, subst}
use Rattle.std.specs.Option.{option_and_then, option_map}
use Rattle.dp_pattern.specs.Name.{IsName, Meaning, meaning_of}
use Rattle.dp_pattern.specs.Spelling.{spelling}
use Rattle.dp_pattern.proofs.SpellingLemmas.{spelled_again}
use Rattle.dp_pieces.specs.Met.{after_match}
use Rattle.dp_pieces.specs.Pieces.{Fits, PieceOf}
use Rattle.dp_pieces.proofs.MetLemmas.{fits-after_match}
use Rattle.dp_plan.specs.Contexts.{PlanContext}
use Rattle.dp_plan.specs.Lookup.{entry_at}
use Rattle.dp_plan.specs.Plan.{PlanOf}
use Rattle.dp_plan.specs.declared.entry.Entry.{Entry}
use Rattle.dp_closed.specs.Found.{Hides, IsUnfound, IsUnmatched}

-- an entry of a context, by its number
there-at : (plan : PlanOf) (context k : ℕ) (entries : List Entry) (other : Entry) → option_map (λ (c : PlanContext). c.entries) (slice_get plan.contexts context) ≡ Some entries
    → slice_get entries k ≡ Some other → entry_at plan (record { context = context; entry = k }) ≡ Some other
there-at plan context k entries other at here = by (slice_get plan.contexts context) at
  where
    by : (o : Option PlanContext) → option_map (λ (c : PlanContext). c.entries) o ≡ Some entries → option_and_then (λ (c : PlanContext). slice_get c.entries k) o ≡ Some other
    by None is = absurd cc
    by (Some c) is = let same : c.entries ≡ entries = cc in ap (λ es. slice_get es k) same ∙ here

pub hidden-unfound : (entries : List Entry) (entry other : Entry) (k : ℕ) (exten met : List PieceOf) → met ≡ after_match exten entry.name → slice_get entries k ≡ Some other → Hides met entry other
    → IsUnfound entries entry exten
hidden-unfound entries entry other k exten met is here hides plan context id at may = may.shown (record {
  other = record { context = id.context; entry = k };
  better = other;
  there = there-at plan id.context k entries other at here;
  context = refl;
  priority = hides.priority;
  less = hides.less;
  covers = λ text fits matching. hides.covers text (subst (λ ps. Fits ps text) (sym is) (fits-after_match exten entry.name text fits matching));
})

-- names with one spelling mean the same
pub spelled-alike : (name other : Meaning) → IsName name → IsName other → spelling name ≡ spelling other → name ≡ other
spelled-alike name other named other_named same = let read : Ok name ≡ Ok other = sym (spelled_again name named) ∙ (ap meaning_of same ∙ spelled_again other other_named) in cc

-- an entry whose name no extension matches is not found
pub unmatched-unfound : (entries : List Entry) (entry : Entry) (exten : List PieceOf) → IsUnmatched exten entry.name → IsUnfound entries entry exten
unmatched-unfound entries entry exten none plan context id at may = none may.exten may.exten_fits may.matching
