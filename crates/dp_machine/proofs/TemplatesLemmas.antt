-- Templates of entries, one for each entry.
use Rattle.std.proofs.Common.{◌≡◌, arith, length, List, [], ◌∷◌, ◌++◌, Option, Some, None, MatchOption, IsSome, IfSome, sym, subst, true≢false}
use Rattle.std.proofs.lemmas.List.{append_assoc, append-nil}
use Rattle.std.proofs.lemmas.Slice.Zip.{AllZip-left}
use Rattle.std.specs.List.{AllZip, slice_get}
use Rattle.std.specs.Option.{IsSomeAnd, option_and_then}
use Rattle.dp_plan.specs.Contexts.{PlanContext}
use Rattle.dp_plan.specs.Lookup.{entry_at}
use Rattle.dp_plan.specs.Plan.{PlanOf}
use Rattle.dp_plan.specs.declared.entry.Entry.{Entry}
use Rattle.dp_plan.specs.declared.entry.EntryId.{EntryId}
use Rattle.dp_machine.specs.steps.Templates.{AreOf, AreTemplates, IsOf, template_at}
use Rattle.dp_machine.specs.declared.templates.EntryTemplate.{EntryTemplate}

-- if the rest of the list matches the remaining elements, then what is done so far, with that rest, matches the whole
abbrev pub Goes : {X Y : Type 0} → (X → Y → Type 0) → List X → List X → List Y → Type 0
Goes {X} {Y} R whole left done = (rest : List Y) → AllZip R left rest → AllZip R whole (done ++ rest)

-- one more element is done
pub goes-next : {X Y : Type 0} (R : X → Y → Type 0) (whole : List X) (x : X) (after : List X) (done : List Y) (y : Y)
    → Goes R whole (x ∷ after) done → R x y → Goes R whole after (done ++ y ∷ [])
goes-next R whole x after done y goes fits rest others =
    subst (AllZip R whole) (sym (append_assoc done (y ∷ []) rest)) (goes (y ∷ rest) (fits, others))

-- all elements are done
pub goes-last : {X Y : Type 0} (R : X → Y → Type 0) (whole left : List X) (done : List Y) → length left ≡ 0 → Goes R whole left done → AllZip R whole done
goes-last R whole [] done none goes = subst (AllZip R whole) (append-nil done) (goes [] tt)
goes-last R whole (x ∷ xs) done none goes = absurd (omega (arith, none))

-- an entry of the dialplan has its template
pub template_there : (plan : PlanOf) (templates : List (List EntryTemplate)) (id : EntryId) → AreTemplates plan.contexts templates
    → MatchOption (entry_at plan id) (Unit {0}) (λ entry. IsSomeAnd (template_at templates id) (IsOf entry))
template_there plan templates id are = by (slice_get plan.contexts id.context) (slice_get templates id.context) (AllZip-left _ plan.contexts templates are id.context)
  where
    by : (o : Option PlanContext) (t : Option (List EntryTemplate)) → MatchOption o (Unit {0}) (λ context. IsSomeAnd t (AreOf context.entries))
        → MatchOption (option_and_then (λ context. slice_get context.entries id.entry) o) (Unit {0})
        (λ entry. IsSomeAnd (option_and_then (λ held. slice_get held id.entry) t) (IsOf entry))
    by None t known = tt
    by (Some context) None known = absurd known
    by (Some context) (Some held) known = AllZip-left IsOf context.entries held known id.entry

-- so no entry of the dialplan lacks one
pub lacks_none : (plan : PlanOf) (templates : List (List EntryTemplate)) (id : EntryId) → AreTemplates plan.contexts templates
    → IsSome (entry_at plan id) → template_at templates id ≡ None → ⊥
lacks_none plan templates id are some none =
    by (entry_at plan id) (subst (λ t. MatchOption (entry_at plan id) (Unit {0}) (λ entry. IsSomeAnd t (IsOf entry))) none (template_there plan templates id are)) some
  where
    by : (o : Option Entry) → MatchOption o (Unit {0}) (λ entry. IsSomeAnd None (IsOf entry)) → IsSome o → ⊥
    by None known some = true≢false (sym some)
    by (Some entry) known some = known

-- and the template is one of the entry's arguments
pub fits_there : (plan : PlanOf) (templates : List (List EntryTemplate)) (id : EntryId) (template : EntryTemplate) → AreTemplates plan.contexts templates
    → template_at templates id ≡ Some template → IfSome (entry_at plan id) (λ entry. IsOf entry template)
fits_there plan templates id template are some =
    by (entry_at plan id) (subst (λ t. MatchOption (entry_at plan id) (Unit {0}) (λ entry. IsSomeAnd t (IsOf entry))) some (template_there plan templates id are))
  where
    by : (o : Option Entry) → MatchOption o (Unit {0}) (λ entry. IsSomeAnd (Some template) (IsOf entry)) → IfSome o (λ entry. IsOf entry template)
    by None known = tt
    by (Some entry) known = known
