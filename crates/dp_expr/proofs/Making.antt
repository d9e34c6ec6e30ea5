-- Whatever a walk makes is made from the tree that the same walk over trees makes.
use Rattle.std.proofs.Common.{◌≡◌, ℕ, suc, true, false, cond, List, [], ◌∷◌, refl, ◌∙◌, ap, nat_le, nat_lt, option_map}
use Rattle.dp_expr.specs.declared.operator.Operator.TheVariants.{Or, And, Equal, NotEqual, LessThan, AtMost, MoreThan, AtLeast, Plus, Minus, Times, Over, Remainder}
use Rattle.dp_expr.specs.declared.operator.Prefix.TheVariants.{Negate, Not}
use Rattle.dp_expr.specs.Tokens.{TokenOf, Operand, Sign, Bang, Opening, Closing, Stray}
use Rattle.dp_expr.specs.Trees.{Tree, level_of, most_depth}
use Rattle.dp_expr.specs.Walk.{Making, FrameOf, Left, Front, Paren, State, Wanting, Holding, Failed, nesting, Held, reduction, entry, closing, first_step, next_step, operator_step, closing_step, step, whole, whole_of, ending, walk, trees}
use Rattle.dp_expr.proofs.Completeness.{made_of}

module _ {X : Type 0} (make : Making X) where
  frame_made : FrameOf Tree → FrameOf X
  frame_made (Left operator left) = Left operator (made_of make left)
  frame_made (Front prefix) = Front prefix
  frame_made Paren = Paren

  frames_made : List (FrameOf Tree) → List (FrameOf X)
  frames_made [] = []
  frames_made (frame ∷ frames) = frame_made frame ∷ frames_made frames

  state_made : State Tree → State X
  state_made (Wanting frames) = Wanting (frames_made frames)
  state_made (Holding frames tree) = Holding (frames_made frames) (made_of make tree)
  state_made Failed = Failed

  held_made : Held Tree → Held X
  held_made held = record { frames = frames_made held.frames; value = made_of make held.value }

  -- the values in frames do not affect their nesting
  nesting-made_of : (frames : List (FrameOf Tree)) → nesting (frames_made frames) ≡ nesting frames
  unfolding nesting frames_made frame_made
  nesting-made_of [] = refl
  nesting-made_of (Left operator left ∷ frames) = nesting-made_of frames
  nesting-made_of (Front prefix ∷ frames) = ap suc (nesting-made_of frames)
  nesting-made_of (Paren ∷ frames) = ap suc (nesting-made_of frames)

  -- frames take their operands in the same way
  reduction-made_of : (level : ℕ) (frames : List (FrameOf Tree)) (tree : Tree) → reduction make level (frames_made frames) (made_of make tree) ≡ held_made (reduction trees level frames tree)
  unfolding reduction frames_made frame_made held_made
  reduction-made_of level [] tree = refl
  reduction-made_of level (Left operator left ∷ frames) tree =
      elim (nat_le level (level_of operator)) as (λ b. cond b (reduction make level (frames_made frames) (make.between operator (made_of make left) (made_of make tree))) (record { frames = Left operator (made_of make left) ∷ frames_made frames; value = made_of make tree }) ≡ held_made (cond b (reduction trees level frames (trees.between operator left tree)) (record { frames = Left operator left ∷ frames; value = tree }))) [
        | true ↦ reduction-made_of level frames (trees.between operator left tree)
        | false ↦ refl
      ]
  reduction-made_of level (Front prefix ∷ frames) tree = reduction-made_of level frames (trees.before prefix tree)
  reduction-made_of level (Paren ∷ frames) tree = refl

  -- a frame opens in the same way
  entry-made_of : (frame : FrameOf Tree) (frames : List (FrameOf Tree)) → entry (frame_made frame) (frames_made frames) ≡ state_made (entry frame frames)
  unfolding state_made frames_made
  entry-made_of frame frames =
      rw (nesting-made_of frames)
      (elim (nat_lt (nesting frames) most_depth) as (λ b. cond b (Wanting (frame_made frame ∷ frames_made frames)) Failed ≡ state_made (cond b (Wanting (frame ∷ frames)) Failed)) [
        | true ↦ refl
        | false ↦ refl
      ])

  -- a parenthesis is closed in the same way
  closing-made_of : (frames : List (FrameOf Tree)) (tree : Tree) → closing make (frames_made frames) (made_of make tree) ≡ state_made (closing trees frames tree)
  unfolding state_made frames_made frame_made
  closing-made_of [] tree = refl
  closing-made_of (Left operator left ∷ frames) tree = refl
  closing-made_of (Front prefix ∷ frames) tree = refl
  closing-made_of (Paren ∷ frames) tree = refl

  -- a token where an operand is needed
  first_step-made_of : (frames : List (FrameOf Tree)) (token : TokenOf) → first_step make (frames_made frames) token ≡ state_made (first_step trees frames token)
  unfolding state_made frame_made
  first_step-made_of frames (Operand bytes) = refl
  first_step-made_of frames (Sign Or) = refl
  first_step-made_of frames (Sign And) = refl
  first_step-made_of frames (Sign Equal) = refl
  first_step-made_of frames (Sign NotEqual) = refl
  first_step-made_of frames (Sign LessThan) = refl
  first_step-made_of frames (Sign AtMost) = refl
  first_step-made_of frames (Sign MoreThan) = refl
  first_step-made_of frames (Sign AtLeast) = refl
  first_step-made_of frames (Sign Plus) = refl
  first_step-made_of frames (Sign Minus) = entry-made_of (Front Negate) frames
  first_step-made_of frames (Sign Times) = refl
  first_step-made_of frames (Sign Over) = refl
  first_step-made_of frames (Sign Remainder) = refl
  first_step-made_of frames Bang = entry-made_of (Front Not) frames
  first_step-made_of frames Opening = entry-made_of Paren frames
  first_step-made_of frames Closing = refl
  first_step-made_of frames Stray = refl

  -- a token after an operand
  next_step-made_of : (frames : List (FrameOf Tree)) (tree : Tree) (token : TokenOf) → next_step make (frames_made frames) (made_of make tree) token ≡ state_made (next_step trees frames tree token)
  unfolding state_made frames_made frame_made held_made
  next_step-made_of frames tree (Operand bytes) = refl
  next_step-made_of frames tree (Sign operator) =
      ap (operator_step operator) (reduction-made_of (level_of operator) frames tree)
  next_step-made_of frames tree Bang = refl
  next_step-made_of frames tree Opening = refl
  next_step-made_of frames tree Closing =
      let held : Held Tree = reduction trees 0 frames tree in
      ap (closing_step make) (reduction-made_of 0 frames tree) ∙ closing-made_of held.frames held.value
  next_step-made_of frames tree Stray = refl

  -- a token in any state
  step-made_of : (state : State Tree) (token : TokenOf) → step make (state_made state) token ≡ state_made (step trees state token)
  unfolding step state_made
  step-made_of (Wanting frames) token = first_step-made_of frames token
  step-made_of (Holding frames tree) token = next_step-made_of frames tree token
  step-made_of Failed token = refl

  -- the operand is the whole in the same way
  whole-made_of : (frames : List (FrameOf Tree)) (tree : Tree) → whole (frames_made frames) (made_of make tree) ≡ option_map (made_of make) (whole frames tree)
  unfolding frames_made
  whole-made_of [] tree = refl
  whole-made_of (frame ∷ frames) tree = refl

  -- the end of the tokens
  ending-made_of : (state : State Tree) → ending make (state_made state) ≡ option_map (made_of make) (ending trees state)
  unfolding ending state_made held_made
  ending-made_of (Wanting frames) = refl
  ending-made_of (Holding frames tree) =
      let held : Held Tree = reduction trees 0 frames tree in
      ap whole_of (reduction-made_of 0 frames tree) ∙ whole-made_of held.frames held.value
  ending-made_of Failed = refl

  -- all tokens, starting in a state
  walk-made_of : (state : State Tree) (tokens : List TokenOf) → walk make (state_made state) tokens ≡ option_map (made_of make) (walk trees state tokens)
  unfolding walk
  walk-made_of state [] = ending-made_of state
  walk-made_of state (token ∷ tokens) =
      ap (λ s. walk make s tokens) (step-made_of state token) ∙ walk-made_of (step trees state token) tokens

  -- a walk over all tokens
  pub walk-trees : (tokens : List TokenOf) → walk make (Wanting []) tokens ≡ option_map (made_of make) (walk trees (Wanting []) tokens)
  unfolding state_made frames_made
  walk-trees tokens = walk-made_of (Wanting []) tokens
