-- Entries that are kept once each.
use Rattle.std.proofs.Common.{◌≡◌, ℕ, Bool, true, false, ◌&&◌, ◌||◌, ◌==◌, if◌then◌else◌, List, [], ◌∷◌, ◌++◌, refl, ap, arith, ◌∙◌}
use Rattle.std.specs.List.{flat_map}
use Rattle.std.specs.Prelude.{filter, length}
use Rattle.std.proofs.lemmas.Bool.Decides.{nat_tests}
use Rattle.dp_plan.specs.Plan.{PlanOf}
use Rattle.dp_plan.specs.declared.entry.EntryId.{EntryId}
use Rattle.dp_commands.specs.declared.line_places.LinePlaces.{LinePlaces}
use Rattle.dp_test_runs.specs.Coverage.{coverage_of, covered_line, has_run, ids_of, never_at, same_id, unless_run}

eq_symm : (a b : ℕ) → (a == b) ≡ (b == a)
eq_symm a b = grind (arith, nat_tests)

-- the numbers are the same either way round
same_id_symm : (a b : EntryId) → same_id a b ≡ same_id b a
same_id_symm a b = λ i. eq_symm a.context b.context i && eq_symm a.entry b.entry i

-- the entry is the one that was added, or is among the others
pub id_added : (added id : EntryId) (among : Bool) → (if same_id added id then true else among) ≡ (among || same_id id added)
id_added added id among = ap (λ b. if b then true else among) (same_id_symm added id) ∙ by among (same_id id added)
  where
    by : (a b : Bool) → (if b then true else a) ≡ (a || b)
    by true true = refl
    by true false = refl
    by false true = refl
    by false false = refl

-- the coverage depends only on which entries are among those that ran
pub coverage_alike : (places : LinePlaces) (lines : List (List ℕ)) (plan : PlanOf) (kept ran : List EntryId)
    → ((id : EntryId) → has_run kept id ≡ has_run ran id) → coverage_of places lines plan kept ≡ coverage_of places lines plan ran
unfolding coverage_of
coverage_alike places lines plan kept ran alike = λ i.
    covered_line (length (filter (λ id. alike id i) (ids_of plan))) (length (ids_of plan))
    ++ flat_map (λ id. if alike id i then [] else never_at places lines plan id) (ids_of plan)

-- so does the number of entries that ran
pub covered_alike : (plan : PlanOf) (kept ran : List EntryId)
    → ((id : EntryId) → has_run kept id ≡ has_run ran id) → length (filter (has_run kept) (ids_of plan)) ≡ length (filter (has_run ran) (ids_of plan))
covered_alike plan kept ran alike = λ i. length (filter (λ id. alike id i) (ids_of plan))

-- and which did not run
pub never_alike : (plan : PlanOf) (kept ran : List EntryId)
    → ((id : EntryId) → has_run kept id ≡ has_run ran id) → flat_map (unless_run kept) (ids_of plan) ≡ flat_map (unless_run ran) (ids_of plan)
never_alike plan kept ran alike = λ i. flat_map (λ id. if alike id i then [] else id ∷ []) (ids_of plan)
