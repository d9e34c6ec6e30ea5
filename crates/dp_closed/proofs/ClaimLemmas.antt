-- Where digits lead out of queues, given the contexts of their ways out.
use Rattle.std.proofs.Common.{◌≡◌, ℕ, suc, true, List, [], ◌∷◌, Option, Some, None, slice_get, unwrap_or, refl, sym, ap, ◌∙◌, subst}
use Rattle.std.proofs.lemmas.Option.{slice_get-map}
use Rattle.std.specs.Global.{Vec}
use Rattle.std.specs.List.{AllByRecursion}
use Rattle.std.specs.Option.{option_map}
use Rattle.dp_machine.specs.Events.{is_digit}
use Rattle.dp_machine.specs.Targets.{place_of}
use Rattle.dp_pieces.specs.Pieces.{Fits, OneOf, PieceOf as ShapePiece, exactly}
use Rattle.dp_pieces.specs.Shown.{shown_all}
use Rattle.dp_pieces.specs.declared.piece.Piece.{Piece}
use Rattle.dp_pieces.proofs.FitsLemmas.{fits-exactly}
use Rattle.dp_plan.specs.Plan.{PlanOf}
use Rattle.dp_queue.specs.declared.settings.Settings.{Settings}
use Rattle.dp_reach.specs.Areas.{Area, Covers, Includes, area_at}
use Rattle.dp_reach.specs.Holding.{way_of}
use Rattle.dp_reach.specs.Bounds.{Duty}
use Rattle.dp_closed.specs.Claimed.{AreWays}
use Rattle.dp_closed.specs.Shown.{shown_duties, shown_duty}
use Rattle.dp_closed.specs.declared.duty.KeptDuty.{KeptDuty}

-- digits of a context
abbrev pub digits_in : List ShapePiece → Area
digits_in context = area_at context (OneOf is_digit ∷ [])

one-fits : (digit : ℕ) → is_digit digit ≡ true → Fits (OneOf is_digit ∷ []) (digit ∷ [])
unfolding Fits
one-fits digit is = ((digit, []), refl, is, refl)

nothing-fits : Fits [] []
unfolding Fits
nothing-fits = refl

way-covers : (plan : PlanOf) (reach : List Area) (context : List ShapePiece) (name : List ℕ) (digit : ℕ) → Includes plan reach (digits_in context) → Fits context name → is_digit digit ≡ true
    → Covers plan reach (place_of name (digit ∷ []) 1)
way-covers plan reach context name digit includes fits is = includes (place_of name (digit ∷ []) 1) (record { context = fits; exten = one-fits digit is })

-- the way out of the queue with a number
pub leads-out : (plan : PlanOf) (reach : List Area) (settings : List Settings) (ways : List (Vec Piece)) → AreWays settings ways → Includes plan reach (digits_in [])
    → ((k : ℕ) (way : Vec Piece) → slice_get ways k ≡ Some way → Includes plan reach (digits_in (shown_all way.items)))
    → (queue digit : ℕ) → is_digit digit ≡ true → Covers plan reach (place_of (way_of settings queue) (digit ∷ []) 1)
leads-out plan reach settings ways are none all queue digit is = by (slice_get settings queue) (slice_get ways queue) refl refl
  where
    same : option_map (λ (s : Settings). exactly s.context) (slice_get settings queue) ≡ option_map (λ (way : Vec Piece). shown_all way.items) (slice_get ways queue)
    same = sym (slice_get-map (λ (s : Settings). exactly s.context) settings queue)
        ∙ (ap (λ xs. slice_get xs queue) are ∙ slice_get-map (λ (way : Vec Piece). shown_all way.items) ways queue)

    by : (o : Option Settings) (w : Option (Vec Piece)) → slice_get settings queue ≡ o → slice_get ways queue ≡ w
        → Covers plan reach (place_of (unwrap_or (option_map (λ (s : Settings). s.context) (slice_get settings queue)) []) (digit ∷ []) 1)
    by None w at there =
        subst (λ (o : Option Settings). Covers plan reach (place_of (unwrap_or (option_map (λ (s : Settings). s.context) o) []) (digit ∷ []) 1)) (sym at)
        (way-covers plan reach [] [] digit none nothing-fits is)
    by (Some s) None at there =
        let no : Some (exactly s.context) ≡ None = ap (option_map (λ (s : Settings). exactly s.context)) (sym at) ∙ (same ∙ ap (option_map (λ (way : Vec Piece). shown_all way.items)) there) in
        absurd (let bottom : ⊥ = cc in bottom)
    by (Some s) (Some way) at there =
        let both : Some (exactly s.context) ≡ Some (shown_all way.items)
        = ap (option_map (λ (s : Settings). exactly s.context)) (sym at) ∙ (same ∙ ap (option_map (λ (way : Vec Piece). shown_all way.items)) there) in
        let one : exactly s.context ≡ shown_all way.items = cc in
        subst (λ (o : Option Settings). Covers plan reach (place_of (unwrap_or (option_map (λ (s : Settings). s.context) o) []) (digit ∷ []) 1)) (sym at)
        (way-covers plan reach (shown_all way.items) s.context digit (all queue way there) (subst (λ ps. Fits ps s.context) one (fits-exactly s.context)) is)

-- each duty of a list
pub each-met : (P : Duty → Type 0) (duties : List KeptDuty) → ((k : ℕ) (duty : KeptDuty) → slice_get duties k ≡ Some duty → P (shown_duty duty))
    → AllByRecursion P (shown_duties duties)
each-met P [] all = tt
each-met P (duty ∷ duties) all = (all 0 duty refl, each-met P duties (λ k d at. all (suc k) d at))
