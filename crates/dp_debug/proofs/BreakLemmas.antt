-- Breaks that are asked with one entry, which is the one that a step would run where a break asks for it.
use Rattle.std.proofs.Common.{◌≡◌, ℕ, ◌+◌, true, not, nat_lt, List, [], ◌∷◌, length, Option, Some, None, refl, ap, if◌then◌else◌}
use Rattle.std.specs.List.{list_any, position, position_or_len}
use Rattle.dp_plan.specs.declared.entry.EntryId.{EntryId}
use Rattle.dp_machine.specs.Events.{next_entry}
use Rattle.dp_machine.specs.World.{World, channel_at}
use Rattle.dp_debug.specs.Breaks.{first_for, holds_at, holds_for, names_app, stands_at}
use Rattle.dp_debug.specs.declared.breaks.Break.{Break}
use Rattle.dp_debug.specs.declared.breaks.Break.TheVariants.{At, App}

-- where the first stands that holds
place-by : (w : World) (number : ℕ) (entry : Option EntryId) (breaks : List Break) → (list_any names_app breaks ≡ true → entry ≡ next_entry w number)
    → position_or_len (holds_at w number entry) breaks ≡ position_or_len (holds_for w number) breaks
place-by w number entry [] asked = refl
place-by w number entry (At place ∷ breaks) asked =
    ap (λ n. if not (stands_at (channel_at w.channels number) place) then 1 + n else 0) (place-by w number entry breaks asked)
place-by w number entry (App name ∷ breaks) asked =
    ap (λ (e : Option EntryId). position_or_len (holds_at w number e) (App name ∷ breaks)) (asked refl)

pub first_for-by : (w : World) (number : ℕ) (entry : Option EntryId) (breaks : List Break) → (list_any names_app breaks ≡ true → entry ≡ next_entry w number)
    → position (holds_at w number entry) breaks ≡ first_for w number breaks
unfolding first_for
first_for-by w number entry breaks asked =
    ap (λ n. if nat_lt n (length breaks) then Some n else None) (place-by w number entry breaks asked)
