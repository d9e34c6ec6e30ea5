-- A walk that makes a tree has read that tree's tokens.
use Rattle.std.proofs.Common.{◌≡◌, ℕ, suc, ◌+◌, ◌<◌, ◌≤◌, true, false, cond, List, [], ◌∷◌, ◌++◌, Some, refl, sym, ◌∙◌, ap, subst, arith, nat_le, nat_lt, append_assoc, append-nil}
use Rattle.std.specs.Prelude.{⊤}
use Rattle.std.proofs.lemmas.Bool.Decides.{nat_tests}
use Rattle.dp_expr.specs.declared.operator.Operator.{Operator}
use Rattle.dp_expr.specs.declared.operator.Operator.TheVariants.{Or, And, Equal, NotEqual, LessThan, AtMost, MoreThan, AtLeast, Plus, Minus, Times, Over, Remainder}
use Rattle.dp_expr.specs.declared.operator.Prefix.{Prefix}
use Rattle.dp_expr.specs.declared.operator.Prefix.TheVariants.{Negate, Not}
use Rattle.dp_expr.specs.Tokens.{TokenOf, Operand, Sign, Bang, Opening, Closing, Stray}
use Rattle.dp_expr.specs.Trees.{Tree, Leaf, Group, Before, Between, level_of, unary_level, IsGrouped, IsTreeReading, depth_of, most_depth, spelling, prefix_token}
use Rattle.dp_expr.specs.Walk.{FrameOf, Left, Front, Paren, State, Wanting, Holding, Failed, nesting, is_due, Held, reduction, entry, closing, first_step, next_step, operator_step, step, whole, ending, walk, trees}
use Rattle.dp_expr.proofs.Reducing.{IsBelow, level_of-le}

-- the tokens that the frames have taken
frames_spelling : List (FrameOf Tree) → List TokenOf
frames_spelling [] = []
frames_spelling (Left operator left ∷ frames) = frames_spelling frames ++ (spelling left ++ (Sign operator ∷ []))
frames_spelling (Front prefix ∷ frames) = frames_spelling frames ++ (prefix_token prefix ∷ [])
frames_spelling (Paren ∷ frames) = frames_spelling frames ++ (Opening ∷ [])

-- an operand of that level, above frames that are not due before it
record IsOperand (n : ℕ) (frames : List (FrameOf Tree)) (tree : Tree) : Type 0 where
  grouped : IsGrouped n tree
  below : IsBelow n frames
  shallow : nesting frames + depth_of tree ≤ most_depth

-- each left side is an operand of its operator's level, and no more than the greatest number are nested
AreSound : List (FrameOf Tree) → Type 0
AreSound [] = ⊤
AreSound (Left operator left ∷ frames) = IsOperand (level_of operator) frames left × AreSound frames
AreSound (Front prefix ∷ frames) = (nesting frames < most_depth) × AreSound frames
AreSound (Paren ∷ frames) = (nesting frames < most_depth) × AreSound frames

-- the state, after these tokens, is what they spell
IsSound : List TokenOf → State Tree → Type 0
IsSound tokens (Wanting frames) = (tokens ≡ frames_spelling frames) × AreSound frames
IsSound tokens (Holding frames tree) =
    (tokens ≡ frames_spelling frames ++ spelling tree) × IsOperand unary_level frames tree × AreSound frames
IsSound tokens Failed = ⊤

-- no frame on top is due
IsSettled : ℕ → List (FrameOf Tree) → Type 0
IsSettled level [] = ⊤
IsSettled level (frame ∷ frames) = is_due level frame ≡ false

-- no more frames are nested than allowed
AreSound-nesting : (frames : List (FrameOf Tree)) → AreSound frames → nesting frames ≤ most_depth
unfolding nesting AreSound
AreSound-nesting [] sound = omega arith
AreSound-nesting (Left operator left ∷ frames) sound = AreSound-nesting frames sound.1
AreSound-nesting (Front prefix ∷ frames) sound = omega arith
AreSound-nesting (Paren ∷ frames) sound = omega arith

-- nothing is due before a unary operator
IsBelow-unary : (frames : List (FrameOf Tree)) → IsBelow unary_level frames
IsBelow-unary [] = tt
IsBelow-unary (Left operator left ∷ frames) = level_of-le operator
IsBelow-unary (Front prefix ∷ frames) = omega arith
IsBelow-unary (Paren ∷ frames) = tt

-- every operator has a level
level_of-ge : (operator : Operator) → 1 ≤ level_of operator
level_of-ge Or = omega arith
level_of-ge And = omega arith
level_of-ge Equal = omega arith
level_of-ge NotEqual = omega arith
level_of-ge LessThan = omega arith
level_of-ge AtMost = omega arith
level_of-ge MoreThan = omega arith
level_of-ge AtLeast = omega arith
level_of-ge Plus = omega arith
level_of-ge Minus = omega arith
level_of-ge Times = omega arith
level_of-ge Over = omega arith
level_of-ge Remainder = omega arith

-- an operand of a tighter level is one of a looser level
IsGrouped-le : (m n : ℕ) (tree : Tree) → m ≤ n → IsGrouped n tree → IsGrouped m tree
IsGrouped-le m n (Leaf bytes) le grouped = tt
IsGrouped-le m n (Group inner) le grouped = grouped
IsGrouped-le m n (Before prefix operand) le grouped = grouped
IsGrouped-le m n (Between operator left right) le grouped = (omega arith, grouped.1, grouped.2)

-- an operand of any level is an expression
IsGrouped-any : (n : ℕ) (tree : Tree) → IsGrouped n tree → IsGrouped 1 tree
IsGrouped-any n (Leaf bytes) grouped = tt
IsGrouped-any n (Group inner) grouped = grouped
IsGrouped-any n (Before prefix operand) grouped = grouped
IsGrouped-any n (Between operator left right) grouped = (level_of-ge operator, grouped.1, grouped.2)

-- the frames that stay after all that are due have taken their operand
record Settles (level : ℕ) (frames : List (FrameOf Tree)) (tree : Tree) (held : Held Tree) : Type 0 where
  at : ℕ
  at_least : level ≤ at
  operand : IsOperand at held.frames held.value
  sound : AreSound held.frames
  settled : IsSettled level held.frames
  spells : frames_spelling held.frames ++ spelling held.value ≡ frames_spelling frames ++ spelling tree

-- if none is due everything stays
stays : (level n : ℕ) (frames : List (FrameOf Tree)) (tree : Tree) → level ≤ n → IsOperand n frames tree → AreSound frames → IsSettled level frames → Settles level frames tree (record { frames = frames; value = tree })
stays level n frames tree le operand sound settled =
    record { at = n; at_least = le; operand = operand; sound = sound; settled = settled; spells = refl }

-- a binary operator takes its right side
left_operand : (n : ℕ) (operator : Operator) (left : Tree) (frames : List (FrameOf Tree)) (tree : Tree) → IsOperand n (Left operator left ∷ frames) tree → IsOperand (level_of operator) frames left → IsOperand (level_of operator) frames (Between operator left tree)
unfolding nesting
left_operand n operator left frames tree operand other =
    record {
      grouped = (omega arith, other.grouped, IsGrouped-le (suc (level_of operator)) n tree operand.below operand.grouped);
      below = other.below;
      shallow = omega (arith, other.shallow, operand.shallow);
    }

-- a unary operator takes its operand
front_operand : (n : ℕ) (prefix : Prefix) (frames : List (FrameOf Tree)) (tree : Tree) → IsOperand n (Front prefix ∷ frames) tree → IsOperand unary_level frames (Before prefix tree)
unfolding nesting
front_operand n prefix frames tree operand =
    record {
      grouped = IsGrouped-le unary_level n tree operand.below operand.grouped;
      below = IsBelow-unary frames;
      shallow = omega (arith, operand.shallow);
    }

-- the same, if the tree that was made spells what was there
tree_spells_same : (level : ℕ) (more frames : List (FrameOf Tree)) (tree other : Tree) (held : Held Tree) → Settles level frames other held → frames_spelling frames ++ spelling other ≡ frames_spelling more ++ spelling tree → Settles level more tree held
tree_spells_same level more frames tree other held s e =
    record { at = s.at; at_least = s.at_least; operand = s.operand; sound = s.sound; settled = s.settled; spells = s.spells ∙ e }

-- all that are due take their operand and spell what they spelled
settles : (level n : ℕ) (frames : List (FrameOf Tree)) (tree : Tree) → level ≤ n → level ≤ unary_level → IsOperand n frames tree → AreSound frames → Settles level frames tree (reduction trees level frames tree)
unfolding reduction AreSound frames_spelling IsSettled
settles level n [] tree le small operand sound = stays level n [] tree le operand tt tt
settles level n (Left operator left ∷ frames) tree le small operand sound =
    elim (nat_le level (level_of operator)) as (λ b. nat_le level (level_of operator) ≡ b → Settles level (Left operator left ∷ frames) tree (cond b (reduction trees level frames (Between operator left tree)) (record { frames = Left operator left ∷ frames; value = tree }))) [
      | true ↦ λ e. tree_spells_same level (Left operator left ∷ frames) frames tree (Between operator left tree) _
          (settles level (level_of operator) frames (Between operator left tree) (grind (arith, nat_tests)) small (left_operand n operator left frames tree operand sound.0) sound.1)
          (simp append_assoc)
      | false ↦ λ e. stays level n (Left operator left ∷ frames) tree le operand sound e
    ] refl
settles level n (Front prefix ∷ frames) tree le small operand sound =
    tree_spells_same level (Front prefix ∷ frames) frames tree (Before prefix tree) _
    (settles level unary_level frames (Before prefix tree) small small (front_operand n prefix frames tree operand) sound.1)
    (simp append_assoc)
settles level n (Paren ∷ frames) tree le small operand sound =
    stays level n (Paren ∷ frames) tree le operand sound refl

-- frames settled at an operator's level are below it
below_settled : (operator : Operator) (frames : List (FrameOf Tree)) → IsSettled (level_of operator) frames → IsBelow (level_of operator) frames
unfolding IsSettled
below_settled operator [] settled = tt
below_settled operator (Left other left ∷ frames) settled = grind (arith, nat_tests)
below_settled operator (Front prefix ∷ frames) settled = cc
below_settled operator (Paren ∷ frames) settled = tt

-- a frame is opened only if one more is allowed
sound_entry : (tokens : List TokenOf) (frame : FrameOf Tree) (frames : List (FrameOf Tree)) → (nesting frames < most_depth → IsSound tokens (Wanting (frame ∷ frames))) → IsSound tokens (entry frame frames)
unfolding IsSound
sound_entry tokens frame frames h =
    elim (nat_lt (nesting frames) most_depth) as (λ b. nat_lt (nesting frames) most_depth ≡ b → IsSound tokens (cond b (Wanting (frame ∷ frames)) Failed)) [
      | true ↦ λ e. h (grind (arith, nat_tests))
      | false ↦ λ e. tt
    ] refl

-- a unary operator is spelled by its token
sound_front : (tokens : List TokenOf) (prefix : Prefix) (frames : List (FrameOf Tree)) → IsSound tokens (Wanting frames) → IsSound (tokens ++ (prefix_token prefix ∷ [])) (entry (Front prefix) frames)
unfolding IsSound AreSound frames_spelling
sound_front tokens prefix frames s =
    sound_entry _ (Front prefix) frames (λ lt. (ap (λ l. l ++ (prefix_token prefix ∷ [])) s.0, (lt, s.1)))

-- a token where an operand is needed
sound_first_step : (tokens : List TokenOf) (frames : List (FrameOf Tree)) (token : TokenOf) → IsSound tokens (Wanting frames) → IsSound (tokens ++ (token ∷ [])) (first_step trees frames token)
unfolding IsSound AreSound frames_spelling
sound_first_step tokens frames (Operand bytes) s =
    (ap (λ l. l ++ (Operand bytes ∷ [])) s.0, record { grouped = tt; below = IsBelow-unary frames; shallow = omega (arith, AreSound-nesting frames s.1) }, s.1)
sound_first_step tokens frames (Sign Or) s = tt
sound_first_step tokens frames (Sign And) s = tt
sound_first_step tokens frames (Sign Equal) s = tt
sound_first_step tokens frames (Sign NotEqual) s = tt
sound_first_step tokens frames (Sign LessThan) s = tt
sound_first_step tokens frames (Sign AtMost) s = tt
sound_first_step tokens frames (Sign MoreThan) s = tt
sound_first_step tokens frames (Sign AtLeast) s = tt
sound_first_step tokens frames (Sign Plus) s = tt
sound_first_step tokens frames (Sign Minus) s = sound_front tokens Negate frames s
sound_first_step tokens frames (Sign Times) s = tt
sound_first_step tokens frames (Sign Over) s = tt
sound_first_step tokens frames (Sign Remainder) s = tt
sound_first_step tokens frames Bang s = sound_front tokens Not frames s
sound_first_step tokens frames Opening s =
    sound_entry _ Paren frames (λ lt. (ap (λ l. l ++ (Opening ∷ [])) s.0, (lt, s.1)))
sound_first_step tokens frames Closing s = tt
sound_first_step tokens frames Stray s = tt

-- an operator after an operand
sound_operator_step : (tokens : List TokenOf) (frames : List (FrameOf Tree)) (tree : Tree) (operator : Operator) (held : Held Tree) → tokens ≡ frames_spelling frames ++ spelling tree → Settles (level_of operator) frames tree held → IsSound (tokens ++ (Sign operator ∷ [])) (operator_step operator held)
unfolding IsSound AreSound frames_spelling
sound_operator_step tokens frames tree operator held e s = (
  ap (λ l. l ++ (Sign operator ∷ [])) (e ∙ sym s.spells) ∙ append_assoc (frames_spelling held.frames) (spelling held.value) (Sign operator ∷ []),
  (
    record {
      grouped = IsGrouped-le (level_of operator) s.at held.value s.at_least s.operand.grouped;
      below = below_settled operator held.frames s.settled;
      shallow = s.operand.shallow;
    },
    s.sound,
  ),
)

-- a closing parenthesis above settled frames
sound_closing : (tokens : List TokenOf) (frames : List (FrameOf Tree)) (tree : Tree) (n : ℕ) → tokens ≡ frames_spelling frames ++ spelling tree → IsOperand n frames tree → AreSound frames → IsSound (tokens ++ (Closing ∷ [])) (closing trees frames tree)
unfolding IsSound AreSound frames_spelling nesting
sound_closing tokens [] tree n e operand sound = tt
sound_closing tokens (Left operator left ∷ frames) tree n e operand sound = tt
sound_closing tokens (Front prefix ∷ frames) tree n e operand sound = tt
sound_closing tokens (Paren ∷ frames) tree n e operand sound = (
  ap (λ l. l ++ (Closing ∷ [])) e ∙ simp append_assoc,
  record { grouped = IsGrouped-any n tree operand.grouped; below = IsBelow-unary frames; shallow = omega (arith, operand.shallow) },
  sound.1,
)

-- a token after an operand
sound_next_step : (tokens : List TokenOf) (frames : List (FrameOf Tree)) (tree : Tree) (token : TokenOf) → IsSound tokens (Holding frames tree) → IsSound (tokens ++ (token ∷ [])) (next_step trees frames tree token)
unfolding IsSound
sound_next_step tokens frames tree (Operand bytes) s = tt
sound_next_step tokens frames tree (Sign operator) s =
    sound_operator_step tokens frames tree operator (reduction trees (level_of operator) frames tree) s.0
    (settles (level_of operator) unary_level frames tree (omega (arith, level_of-le operator)) (omega (arith, level_of-le operator)) s.1 s.2)
sound_next_step tokens frames tree Bang s = tt
sound_next_step tokens frames tree Opening s = tt
sound_next_step tokens frames tree Closing s =
    let h = settles 0 unary_level frames tree (omega arith) (omega arith) s.1 s.2 in
    let held : Held Tree = reduction trees 0 frames tree in
    sound_closing tokens held.frames held.value h.at (s.0 ∙ sym h.spells) h.operand h.sound
sound_next_step tokens frames tree Stray s = tt

-- a token in any state
sound_step : (tokens : List TokenOf) (state : State Tree) (token : TokenOf) → IsSound tokens state → IsSound (tokens ++ (token ∷ [])) (step trees state token)
unfolding IsSound step
sound_step tokens (Wanting frames) token s = sound_first_step tokens frames token s
sound_step tokens (Holding frames tree) token s = sound_next_step tokens frames tree token s
sound_step tokens Failed token s = tt

-- an operand without a frame is a reading
sound_whole : (tokens : List TokenOf) (frames : List (FrameOf Tree)) (tree made : Tree) (n : ℕ) → tokens ≡ frames_spelling frames ++ spelling tree → IsOperand n frames tree → whole frames tree ≡ Some made → IsTreeReading tokens made
unfolding frames_spelling nesting
sound_whole tokens [] tree made n e operand is =
    let same : tree ≡ made = cc in
    subst (IsTreeReading tokens) same
    (record { spelling = e; grouped = IsGrouped-any n tree operand.grouped; shallow = omega (arith, operand.shallow) })
sound_whole tokens (frame ∷ frames) tree made n e operand is = cc

-- what is made at the end is a reading
sound_ending : (tokens : List TokenOf) (state : State Tree) (made : Tree) → IsSound tokens state → ending trees state ≡ Some made → IsTreeReading tokens made
unfolding IsSound ending
sound_ending tokens (Wanting frames) made s is = cc
sound_ending tokens (Holding frames tree) made s is =
    let h = settles 0 unary_level frames tree (omega arith) (omega arith) s.1 s.2 in
    let held : Held Tree = reduction trees 0 frames tree in
    sound_whole tokens held.frames held.value made h.at (s.0 ∙ sym h.spells) h.operand is
sound_ending tokens Failed made s is = cc

-- what is made from tokens is a reading of all of them
sound_walk : (done : List TokenOf) (state : State Tree) (rest : List TokenOf) (made : Tree) → IsSound done state → walk trees state rest ≡ Some made → IsTreeReading (done ++ rest) made
unfolding walk
sound_walk done state [] made s is =
    subst (λ l. IsTreeReading l made) (sym (append-nil done)) (sound_ending done state made s is)
sound_walk done state (token ∷ rest) made s is =
    subst (λ l. IsTreeReading l made) (append_assoc done (token ∷ []) rest)
    (sound_walk (done ++ (token ∷ [])) (step trees state token) rest made (sound_step done state token s) is)

-- a tree that a walk over all tokens makes is a reading of them
pub reading-walk : (tokens : List TokenOf) (made : Tree) → walk trees (Wanting []) tokens ≡ Some made → IsTreeReading tokens made
unfolding IsSound AreSound frames_spelling
reading-walk tokens made is = sound_walk [] (Wanting []) tokens made (refl, tt) is
