-- A run that takes one more event, and one that took an event before it.
use Rattle.std.proofs.Common.{suc, ◌≡◌, ℕ, ◌+◌, ◌-◌, ◌<◌, ◌≤◌, List, [], ◌∷◌, ◌++◌, length, take, drop, get_or, Option, refl, sym, ap, subst, ◌∙◌, arith}
use Rattle.std.specs.Option.{option_and_then}
use Rattle.std.specs.List.{slice_get, slice_range}
use Rattle.std.proofs.Math.Seq.{take-add}
use Rattle.std.proofs.lemmas.List.Sums.{fold-append}
use Rattle.std.proofs.lemmas.List.{append_assoc, drop_more, get_or-drop, length-drop, take_more}
use Rattle.std.proofs.lemmas.Option.{slice_get_read}
use Rattle.dp_app.specs.Rows.{Meanings}
use Rattle.dp_machine.specs.Events.{event_row}
use Rattle.dp_machine.specs.Replay.{replies_to, world_after, final_world}
use Rattle.dp_machine.specs.World.{World}
use Rattle.dp_machine.specs.declared.event.Event.{Event}
use Rattle.dp_machine.specs.declared.reply.Reply.{Reply}
use Rattle.dp_debug.specs.Breaks.{first_before}
use Rattle.dp_debug.specs.Cut.{HasTaken, IsRun, IsWhy, first_at}
use Rattle.dp_debug.specs.declared.breaks.Break.{Break}
use Rattle.dp_debug.specs.declared.halt.Halt.{Halt}
use Rattle.dp_debug.specs.declared.halt.Why.{Why}
use Rattle.dp_debug.specs.declared.halt.Why.TheVariants.{End, Break as at_break, NoMemory}

-- no event stands between a number and itself
pub range-none : (events : List Event) (n : ℕ) → slice_range events n n ≡ []
range-none events n =
    let same : n - n ≡ 0 = omega arith in
    ap (λ k. take k (drop n events)) same

-- one more event at the end
pub range-next : (events : List Event) (from n : ℕ) (event : Event) → from ≤ n → n < length events → event ≡ get_or events n event
    → slice_range events from (n + 1) ≡ slice_range events from n ++ event ∷ []
range-next events from n event begun within here =
    let count : n + 1 - from ≡ n - from + 1 = omega (arith, begun) in
    let long = length-drop from events in
    let there : get_or (drop from events) (n - from) event ≡ event =
    get_or-drop from events (n - from) event ∙ (ap (λ k. get_or events k event) (omega (arith, begun)) ∙ sym here) in
    ap (λ k. take k (drop from events)) count
    ∙ (take_more (drop from events) (n - from) event (omega (arith, begun, within, long)) ∙ ap (λ e. take (n - from) (drop from events) ++ e ∷ []) there)

-- one event before them
pub range-first : (events : List Event) (from n : ℕ) (event : Event) → from < n → from < length events → event ≡ get_or events from event
    → slice_range events from n ≡ event ∷ slice_range events (from + 1) n
range-first events from n event begun within here =
    let count : n - from ≡ suc (n - (from + 1)) = omega (arith, begun) in
    ap (λ k. take k (drop from events)) count
    ∙ (ap (take (suc (n - (from + 1)))) (drop_more events from event within)
    ∙ ap (λ e. e ∷ slice_range events (from + 1) n) (sym here))

-- the first break before an event, by the world that it meets
pub first_at-here : (meanings : Meanings) (w now : World) (events : List Event) (from : ℕ) (breaks : List Break) (n : ℕ) (event : Event)
    → n < length events → event ≡ get_or events n event → now ≡ world_after meanings w (slice_range events from n)
    → first_at meanings w events from breaks n ≡ first_before now event breaks
unfolding first_at
first_at-here meanings w now events from breaks n event within here world =
    ap (option_and_then (λ e. first_before (world_after meanings w (slice_range events from n)) e breaks)) (slice_get_read events (length events) n event refl within here)
    ∙ ap (λ world. first_before world event breaks) (sym world)

-- why a run halts before one event is why a longer one halts there
pub IsWhy-later : (count asked taken : ℕ) (first : Option ℕ) (why : Why) → asked ≤ taken → IsWhy 1 0 0 first why → IsWhy count asked taken first why
IsWhy-later count asked taken first End later is = absurd (omega (arith, is))
IsWhy-later count asked taken first (at_break number) later is = (later, is.1)
IsWhy-later count asked taken first NoMemory later is = is

-- one event, and then a run that goes on after it
pub IsRun-after : (meanings : Meanings) (w : World) (events : List Event) (breaks : List Break) (from : ℕ) (event : Event) (old : List Reply) (halt : Halt)
    (new : List Reply) (after : World) → from < length events → event ≡ get_or events from event
    → IsRun meanings (final_world meanings w event) events breaks (from + 1) (from + 1) (old ++ (event_row meanings w event).1 ∷ []) halt new after
    → IsRun meanings w events breaks from (from + 1) old halt new after
unfolding first_at
IsRun-after meanings w events breaks from event old halt new after within here run =
    let first : (n : ℕ) → from + 1 ≤ n → first_at meanings (final_world meanings w event) events (from + 1) breaks n ≡ first_at meanings w events from breaks n =
    λ n later. ap (λ es. option_and_then (λ e. first_before (world_after meanings w es) e breaks) (slice_get events n)) (sym (range-first events from n event (omega (arith, later)) within here)) in
    let more : slice_range events from halt.taken ≡ event ∷ slice_range events (from + 1) halt.taken =
    range-first events from halt.taken event (omega (arith, run.begun)) within here in
    record {
      begun = omega (arith, run.begun);
      within = run.within;
      world = run.world ∙ ap (world_after meanings w) (sym more);
      replies =
          run.replies
          ∙ (append_assoc old ((event_row meanings w event).1 ∷ []) (replies_to meanings (final_world meanings w event) (slice_range events (from + 1) halt.taken))
          ∙ ap (λ es. old ++ replies_to meanings w es) (sym more));
      none = λ n later l. sym (first n later) ∙ run.none n later l;
      why = subst (λ f. IsWhy (length events) (from + 1) halt.taken f halt.why) (first halt.taken run.begun) run.why;
    }

-- the events from the first on
range-all : (events : List Event) (n : ℕ) → slice_range events 0 n ≡ take n events
range-all events n =
    let same : n - 0 ≡ n = omega arith in
    ap (λ k. take k events) same

-- the first events, and those after them
range-after : (events : List Event) (from n : ℕ) → from ≤ n → take from events ++ slice_range events from n ≡ take n events
range-after events from n begun =
    let same : from + (n - from) ≡ n = omega (arith, begun) in
    sym (take-add from (n - from) events) ∙ ap (λ k. take k events) same

-- the replies to events and to more after them
replies_to-append : (meanings : Meanings) (w : World) (events more : List Event)
    → replies_to meanings w (events ++ more) ≡ replies_to meanings w events ++ replies_to meanings (world_after meanings w events) more
replies_to-append meanings w [] more = refl
replies_to-append meanings w (event ∷ events) more =
    ap (λ (later : List Reply). (event_row meanings w event).1 ∷ later) (replies_to-append meanings (final_world meanings w event) events more)

-- a run from the first event on
pub HasTaken-first : (meanings : Meanings) (w : World) (events : List Event) (breaks : List Break) (halt : Halt) (trace : List Reply) (after : World)
    → IsRun meanings w events breaks 0 0 [] halt trace after → HasTaken meanings w events halt.taken trace after
HasTaken-first meanings w events breaks halt trace after run = record {
  within = run.within;
  replies = run.replies ∙ ap (replies_to meanings w) (range-all events halt.taken);
  world = run.world ∙ ap (world_after meanings w) (range-all events halt.taken);
}

-- a run that goes on after so many events
pub HasTaken-further : (meanings : Meanings) (w between after : World) (events : List Event) (breaks : List Break) (taken asked : ℕ) (halt : Halt) (trace whole : List Reply)
    → HasTaken meanings w events taken trace between → IsRun meanings between events breaks taken asked trace halt whole after
    → HasTaken meanings w events halt.taken whole after
HasTaken-further meanings w between after events breaks taken asked halt trace whole before run =
    let so_far = take taken events in
    let more = slice_range events taken halt.taken in
    let both : so_far ++ more ≡ take halt.taken events = range-after events taken halt.taken run.begun in
    record {
      within = run.within;
      replies =
          run.replies
          ∙ (ap (λ rs. rs ++ replies_to meanings between more) before.replies
          ∙ (ap (λ (now : World). replies_to meanings w so_far ++ replies_to meanings now more) before.world
          ∙ (sym (replies_to-append meanings w so_far more) ∙ ap (replies_to meanings w) both)));
      world =
          run.world
          ∙ (ap (λ (now : World). world_after meanings now more) before.world
          ∙ (sym (fold-append (final_world meanings) w so_far more) ∙ ap (world_after meanings w) both));
    }
