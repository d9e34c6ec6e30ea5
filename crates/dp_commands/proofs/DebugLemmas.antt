-- The result of a debugger's run over one event.
use Rattle.std.proofs.Common.{suc, zero, ◌≡◌, ℕ, ◌≤◌, List, [], ◌∷◌, Some, None, refl, subst, arith}
use Rattle.std.specs.List.{slice_range}
use Rattle.dp_app.specs.Rows.{Meanings}
use Rattle.dp_machine.specs.Replay.{replies_to, world_after}
use Rattle.dp_machine.specs.World.{World}
use Rattle.dp_machine.specs.declared.event.Event.{Event}
use Rattle.dp_machine.specs.declared.reply.Reply.{Reply}
use Rattle.dp_debug.specs.Breaks.{first_before}
use Rattle.dp_debug.specs.Cut.{IsRun, IsWhy, first_at}
use Rattle.dp_debug.specs.declared.breaks.Break.{Break}
use Rattle.dp_debug.specs.declared.halt.Halt.{Halt}
use Rattle.dp_debug.specs.declared.halt.Why.TheVariants.{End, Break as at_break}

module _ (meanings : Meanings) (w : World) (event : Event) (breaks : List Break) (halt : Halt) (new : List Reply) (after : World)
    (run : IsRun meanings w (event ∷ []) breaks 0 0 [] halt new after) where
  -- at its end no break held
  pub end_none : halt.why ≡ End → first_before w event breaks ≡ None
  unfolding first_at
  end_none ended =
      let taken : halt.taken ≡ 1 = subst (λ why. IsWhy 1 0 halt.taken (first_at meanings w (event ∷ []) 0 breaks halt.taken) why) ended run.why in
      run.none 0 (omega arith) (omega (arith, taken))

  -- at a break the event was not taken
  halt_why : (number : ℕ) → halt.why ≡ at_break number → first_at meanings w (event ∷ []) 0 breaks halt.taken ≡ Some number
  halt_why number halted =
      let why : (0 ≤ halt.taken) × (first_at meanings w (event ∷ []) 0 breaks halt.taken ≡ Some number) =
      subst (λ why. IsWhy 1 0 halt.taken (first_at meanings w (event ∷ []) 0 breaks halt.taken) why) halted run.why in why.1

  -- after the event no event is left before which a break could hold
  first_after : (number : ℕ) → first_at meanings w (event ∷ []) 0 breaks (suc number) ≡ None
  unfolding first_at
  first_after number = refl

  none_taken : (taken number : ℕ) → first_at meanings w (event ∷ []) 0 breaks taken ≡ Some number → taken ≡ 0
  none_taken zero number first = refl
  none_taken (suc taken) number first =
      let none : first_at meanings w (event ∷ []) 0 breaks (suc taken) ≡ None = first_after taken in
      absurd cc

  halt_taken : (number : ℕ) → halt.why ≡ at_break number → halt.taken ≡ 0
  halt_taken number halted = none_taken halt.taken number (halt_why number halted)

  pub halt_world : (number : ℕ) → halt.why ≡ at_break number → after ≡ w
  halt_world number halted = subst (λ n. after ≡ world_after meanings w (slice_range (event ∷ []) 0 n)) (halt_taken number halted) run.world

  pub halt_replies : (number : ℕ) → halt.why ≡ at_break number → new ≡ []
  halt_replies number halted = subst (λ n. new ≡ replies_to meanings w (slice_range (event ∷ []) 0 n)) (halt_taken number halted) run.replies

  -- and one of its breaks holds
  pub halt_some : (number : ℕ) → halt.why ≡ at_break number → first_before w event breaks ≡ Some number
  unfolding first_at
  halt_some number halted = subst (λ n. first_at meanings w (event ∷ []) 0 breaks n ≡ Some number) (halt_taken number halted) (halt_why number halted)
