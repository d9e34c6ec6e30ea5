-- The search for the channel that is stepped next, and a settling step by step.
use Rattle.std.proofs.Common.{◌≡◌, ℕ, zero, suc, ◌+◌, ◌-◌, ◌≤◌, ◌<◌, ◌==◌, Bool, true, false, if◌then◌else◌, List, [], ◌∷◌, ◌++◌, Option, Some, None, is_some, length, map, slice_get, refl, ap, ◌∙◌, arith}
use Rattle.std.specs.List.{find, range_with_len}
use Rattle.std.specs.Option.{option_map}
use Rattle.std.proofs.lemmas.Bool.Decides.{nat_tests}
use Rattle.std.proofs.lemmas.Option.{slice_get_within}
use Rattle.dp_machine.specs.Replay.{world_after}
use Rattle.dp_machine.specs.World.{World, channel_at}
use Rattle.dp_machine.specs.declared.channel.Channel.{Channel}
use Rattle.dp_machine.specs.declared.event.Event.TheVariants.{Step}
use Rattle.dp_wide_runs.specs.Turns.{wide_meanings}
use Rattle.dp_test_runs.specs.Ran.{ran_after, ran_by}
use Rattle.dp_test_runs.specs.Settling.{after_step, first_and, is_channel, next_to_step, ran_within, settled_world, settled_within, stepped_within, steps_of}

-- the numbers that are left begin with the next one
pub numbers_first : (number most : ℕ) → number ≤ most → range_with_len number (most + 1 - number) ≡ number ∷ range_with_len (number + 1) (most + 1 - (number + 1))
numbers_first number most within =
    let more : most + 1 - number ≡ suc (most + 1 - (number + 1)) = omega (arith, within) in
    ap (range_with_len number) more

-- a place without an element is past the end
past_end : (channels : List Channel) (place : ℕ) → slice_get channels place ≡ None → length channels ≤ place
past_end [] place none = omega arith
past_end (c ∷ channels) zero none = absurd cc
past_end (c ∷ channels) (suc place) none = omega (arith, past_end channels place none)

within_if : (is_zero : Bool) (channels : List Channel) (place : ℕ) (at : Option Channel)
    → (if is_zero then None else slice_get channels place) ≡ at → is_some (option_map (λ c. c.phase) at) ≡ true → place < length channels
within_if is_zero channels place None is some = absurd cc
within_if true channels place (Some c) is some = absurd cc
within_if false channels place (Some c) is some = slice_get_within channels place c is

-- the number of a channel is no greater than their count
pub number_within : (w : World) (number : ℕ) → 1 ≤ number → is_channel w number ≡ true → number ≤ length w.channels
number_within w number first some =
    let within : number - 1 < length w.channels = within_if (number == 0) w.channels (number - 1) (channel_at w.channels number) refl some in
    omega (arith, first, within)

past_if : (is_zero : Bool) (channels : List Channel) (place : ℕ) (at : Option Channel) → is_zero ≡ false
    → (if is_zero then None else slice_get channels place) ≡ at → is_some (option_map (λ c. c.phase) at) ≡ false → length channels ≤ place
past_if is_zero channels place (Some c) nonzero is none = absurd cc
past_if true channels place None nonzero is none = absurd cc
past_if false channels place None nonzero is none = past_end channels place is

-- a number without a channel is past them
number_past : (w : World) (number : ℕ) → 1 ≤ number → is_channel w number ≡ false → length w.channels + 1 ≤ number
number_past w number first none =
    let nonzero : (number == 0) ≡ false = grind (arith, nat_tests) in
    let past : length w.channels ≤ number - 1 = past_if (number == 0) w.channels (number - 1) (channel_at w.channels number) nonzero refl none in
    omega (arith, first, past)

-- the first number that is left passes
pub found_left : (test : ℕ → Bool) (w : World) (number : ℕ) → 1 ≤ number → is_channel w number ≡ true → test number ≡ true
    → find test (range_with_len number (length w.channels + 1 - number)) ≡ Some number
found_left test w number first some passes =
    ap (find test) (numbers_first number (length w.channels) (number_within w number first some))
    ∙ ap (λ (b : Bool). if b then Some number else find test (range_with_len (number + 1) (length w.channels + 1 - (number + 1)))) passes

-- it does not pass
pub later_left : (test : ℕ → Bool) (w : World) (number : ℕ) → 1 ≤ number → is_channel w number ≡ true → test number ≡ false
    → find test (range_with_len number (length w.channels + 1 - number)) ≡ find test (range_with_len (number + 1) (length w.channels + 1 - (number + 1)))
later_left test w number first some fails =
    ap (find test) (numbers_first number (length w.channels) (number_within w number first some))
    ∙ ap (λ (b : Bool). if b then Some number else find test (range_with_len (number + 1) (length w.channels + 1 - (number + 1)))) fails

-- no number is left
pub none_left : (test : ℕ → Bool) (w : World) (number : ℕ) → 1 ≤ number → is_channel w number ≡ false
    → find test (range_with_len number (length w.channels + 1 - number)) ≡ None
none_left test w number first none =
    let past : length w.channels + 1 ≤ number = number_past w number first none in
    let empty : length w.channels + 1 - number ≡ 0 = omega (arith, past) in
    ap (λ (count : ℕ). find test (range_with_len number count)) empty

-- the channels that are stepped, where there is one to step
stepped-more : (left taken : ℕ) (w : World) (number : ℕ) → taken < left → next_to_step w ≡ Some number
    → stepped_within (left - taken) w ≡ number ∷ stepped_within (left - (taken + 1)) (after_step w number)
stepped-more left taken w number more next =
    let again : left - taken ≡ suc (left - (taken + 1)) = omega (arith, more) in
    ap (λ n. stepped_within n w) again
    ∙ ap (λ (found : Option ℕ). first_and found (λ other. stepped_within (left - (taken + 1)) (after_step w other))) next

-- and where there is none
stepped-none : (left : ℕ) (w : World) → next_to_step w ≡ None → stepped_within left w ≡ []
stepped-none zero w next = refl
stepped-none (suc left) w next = ap (λ (found : Option ℕ). first_and found (λ other. stepped_within left (after_step w other))) next

-- the world after the steps that are left
pub settled_more : (left taken : ℕ) (w : World) (number : ℕ) → taken < left → next_to_step w ≡ Some number
    → settled_within (left - taken) w ≡ settled_within (left - (taken + 1)) (after_step w number)
unfolding settled_within
settled_more left taken w number more next =
    ap (λ (numbers : List ℕ). world_after wide_meanings w (map Step numbers)) (stepped-more left taken w number more next)

pub settled_none : (left : ℕ) (w : World) → next_to_step w ≡ None → settled_within left w ≡ w
unfolding settled_within
settled_none left w next = ap (λ (numbers : List ℕ). world_after wide_meanings w (map Step numbers)) (stepped-none left w next)

-- and what they run
pub ran_more : (left taken : ℕ) (w : World) (number : ℕ) → taken < left → next_to_step w ≡ Some number
    → ran_within (left - taken) w ≡ ran_by w (Step number) ++ ran_within (left - (taken + 1)) (after_step w number)
unfolding ran_within
ran_more left taken w number more next =
    ap (λ (numbers : List ℕ). ran_after w (map Step numbers)) (stepped-more left taken w number more next)

pub ran_none : (left : ℕ) (w : World) → next_to_step w ≡ None → ran_within left w ≡ []
unfolding ran_within
ran_none left w next = ap (λ (numbers : List ℕ). ran_after w (map Step numbers)) (stepped-none left w next)

-- no steps are left
pub settled_end : (left taken : ℕ) (w : World) → left ≤ taken → settled_within (left - taken) w ≡ w
unfolding settled_within
settled_end left taken w end =
    let none : left - taken ≡ 0 = omega (arith, end) in
    ap (λ (n : ℕ). world_after wide_meanings w (map Step (stepped_within n w))) none

pub ran_end : (left taken : ℕ) (w : World) → left ≤ taken → ran_within (left - taken) w ≡ []
unfolding ran_within
ran_end left taken w end =
    let none : left - taken ≡ 0 = omega (arith, end) in
    ap (λ (n : ℕ). ran_after w (map Step (stepped_within n w))) none

-- all steps of a world that settles
pub settled_is : (left : ℕ) (w : World) → left ≡ 10000 → settled_within left w ≡ settled_world w
unfolding settled_within steps_of
settled_is left w all = ap (λ (n : ℕ). world_after wide_meanings w (map Step (stepped_within n w))) all

pub ran_is : (left : ℕ) (w : World) → left ≡ 10000 → ran_within left w ≡ ran_after w (steps_of w)
unfolding ran_within steps_of
ran_is left w all = ap (λ (n : ℕ). ran_after w (map Step (stepped_within n w))) all
