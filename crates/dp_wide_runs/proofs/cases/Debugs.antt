-- Debugged runs: which turns a debugged run takes, what it counts, and its lines.
use Rattle.std.proofs.Common.{◌≡◌, ℕ, true, false, [], ◌∷◌, None, Some, Err, refl}
use Rattle.std.specs.Prelude.{codes, ⊤}
use Rattle.std.specs.Fmt.{digits}
use Rattle.dp_machine.specs.World.{World}
use Rattle.dp_machine.specs.declared.event.Event.TheVariants.{Step, Timeout}
use Rattle.dp_machine.specs.declared.unknown.Unknown.{Unknown}
use Rattle.dp_debug.specs.declared.breaks.Break.{Break}
use Rattle.dp_commands.specs.Debug.{Watch, break_of, halt_text}
use Rattle.dp_commands.specs.declared.fault.Code.TheVariants.{BadBreak, BadScript}
use Rattle.dp_commands.specs.declared.fault.PbxFault.TheVariants.{Coded}
use Rattle.dp_commands.specs.declared.script.Turn.TheVariants.{Event, Show}
use Rattle.dp_wide_runs.specs.Beside.{beside_after, step_beside}
use Rattle.dp_wide_runs.specs.Debugging.{watch_after, halt_before, watched_above, watched_after, watched_last, watching, wide_debug_of, without_shows}
use Rattle.dp_wide_runs.specs.Turns.{at_stop, no_stops, unknown_line}
use Rattle.dp_wide_runs.specs.declared.wide_turn.WideTurn.TheVariants.{Plain, Further, Pass}

-- a `show` is left out, and nothing else
shows_left_out : without_shows (Plain (Show 1 (codes "A")) ∷ Plain (Event (Step 1)) ∷ Further 1 ∷ Pass 1 ∷ Plain (Show 2 (codes "DB(k)")) ∷ [])
    ≡ Plain (Event (Step 1)) ∷ Further 1 ∷ Pass 1 ∷ []
shows_left_out = refl

-- each event counts
events_count : (held : Break) → (watch_after (watch_after (watching held) (Event (Step 1))) (Event (Timeout 2))).taken ≡ 2
events_count held = refl

line_of_a_halt : halt_text true 3 ≡ codes "break 3\n"
unfolding digits
line_of_a_halt = refl

no_line_without_halt : halt_text false 3 ≡ []
no_line_without_halt = refl

-- only a step can have a break before it
no_halt_before_the_end_of_a_wait : (held : Break) (w : World) → halt_before (watching held) w (Event (Timeout 1)) ≡ []
no_halt_before_the_end_of_a_wait held w = refl

-- a step that is not taken counts nothing, and no halt stands above its line
unknown_counts_nothing : (watch : Watch) (w : World) (channel : ℕ) (what : Unknown)
    → (step_beside (watched_after (λ (beside : ⊤) v turn. beside)) (watched_above (λ beside v turn. [])) (no_stops, (watch, tt)) w channel (Some what)).state
    ≡ ((at_stop, (watch, tt)), w)
unknown_counts_nothing watch w channel what = refl

unknown_has_no_halt : (watch : Watch) (w : World) (channel : ℕ) (what : Unknown)
    → (step_beside (watched_after (λ (beside : ⊤) v turn. beside)) (watched_above (λ beside v turn. [])) (no_stops, (watch, tt)) w channel (Some what)).lines
    ≡ unknown_line w channel what
unknown_has_no_halt watch w channel what = refl

-- neither does a turn that is not given, as a further step that is left out or a pass that is refused
left_out_counts_nothing : (watch : Watch) (w : World) → beside_after (watched_after (λ (beside : ⊤) v turn. beside)) (watch, tt) w None ≡ (watch, tt)
left_out_counts_nothing watch w = refl

last_line : (held : Break) → watched_last {P = ⊤} (record { held = held; taken = 12 }, tt) ≡ codes "end 12\n"
unfolding digits
last_line held = refl

-- the fault of the break comes before that of the script
fault_of_the_break : wide_debug_of (Err (Coded BadScript (Some 1))) (codes "main,s") ≡ Err (Coded BadBreak None)
unfolding wide_debug_of break_of
fault_of_the_break = refl

fault_of_the_script : wide_debug_of (Err (Coded BadScript (Some 1))) (codes "main,s,1") ≡ Err (Coded BadScript (Some 1))
unfolding wide_debug_of break_of
fault_of_the_script = refl
