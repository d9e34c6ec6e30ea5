-- A step of the code: its walk over tokens, which makes values or trees or anything else. The walk over values gives the value of the
-- text's one tree (`IsValue` of Expression), and the one over trees gives that tree.
use Rattle.std.specs.Prelude.{ℕ, suc, Bool, true, false, List, [], ◌∷◌, Option, Some, None, if◌then◌else◌, nat_le, nat_lt}
use Rattle.dp_expr.specs.declared.operator.Operator.{Operator}
use Rattle.dp_expr.specs.declared.operator.Operator.TheVariants.{Or, And, Equal, NotEqual, LessThan, AtMost, MoreThan, AtLeast, Plus, Minus, Times, Over, Remainder}
use Rattle.dp_expr.specs.declared.operator.Prefix.{Prefix}
use Rattle.dp_expr.specs.declared.operator.Prefix.TheVariants.{Negate, Not}
use Rattle.dp_expr.specs.Tokens.{TokenOf, Operand, Sign, Bang, Opening, Closing, Stray}
use Rattle.dp_expr.specs.Trees.{Tree, Leaf, Group, Before, Between, level_of, most_depth}
use Rattle.dp_expr.specs.Values.{Outcome, value_before, value_between}

-- what a walk makes from the parts of an expression
pub record Making (X : Type 0) : Type 0 where
  pub leaf : List ℕ → X
  pub group : X → X
  pub before : Prefix → X → X
  pub between : Operator → X → X → X

-- a frame that waits for an operand: an operator with its left side, a unary operator, or a parenthesis
pub data FrameOf (X : Type 0) : Type 0 where
  Left : Operator → X → FrameOf X
  Front : Prefix → FrameOf X
  Paren : FrameOf X

-- above the open frames, the innermost first, an operand is needed, or there is one; or the tokens are not an expression
pub data State (X : Type 0) : Type 0 where
  Wanting : List (FrameOf X) → State X
  Holding : List (FrameOf X) → X → State X
  Failed : State X

-- the depth of a place inside the frame, given the depth of the frame
abbrev pub depth_with : {X : Type 0} → FrameOf X → ℕ → ℕ
depth_with (Left operator left) n = n
depth_with (Front prefix) n = suc n
depth_with Paren n = suc n

-- the number of parentheses and unary operators among the frames
unfoldable pub nesting : {X : Type 0} → List (FrameOf X) → ℕ
nesting [] = 0
nesting (frame ∷ frames) = depth_with frame (nesting frames)

-- the frame takes its operand before an operator of that level does
abbrev pub is_due : {X : Type 0} → ℕ → FrameOf X → Bool
is_due level (Left operator left) = nat_le level (level_of operator)
is_due level (Front prefix) = true
is_due level Paren = false

-- what is made from the frame with its operand
abbrev pub value_under : {X : Type 0} → Making X → FrameOf X → X → X
value_under make (Left operator left) x = make.between operator left x
value_under make (Front prefix) x = make.before prefix x
value_under make Paren x = x

-- frames, and the operand above them
pub record Held (X : Type 0) : Type 0 where
  pub frames : List (FrameOf X)
  pub value : X

-- the remaining frames, and the operand, after all frames on top that are due have taken their operand
unfoldable pub reduction : {X : Type 0} → Making X → ℕ → List (FrameOf X) → X → Held X
reduction make level [] x = record { frames = []; value = x }
reduction make level (frame ∷ frames) x =
    if is_due level frame then reduction make level frames (value_under make frame x)
    else record { frames = frame ∷ frames; value = x }

-- a frame is opened, unless too many are nested
abbrev pub entry : {X : Type 0} → FrameOf X → List (FrameOf X) → State X
entry frame frames = if nat_lt (nesting frames) most_depth then Wanting (frame ∷ frames) else Failed

-- a closing parenthesis closes the open one
abbrev pub closing : {X : Type 0} → Making X → List (FrameOf X) → X → State X
closing make [] x = Failed
closing make (Left operator left ∷ frames) x = Failed
closing make (Front prefix ∷ frames) x = Failed
closing make (Paren ∷ frames) x = Holding frames (make.group x)

-- an operator where an operand is needed: only a minus is allowed there
abbrev pub prefix_entry : {X : Type 0} → Operator → List (FrameOf X) → State X
prefix_entry Or frames = Failed
prefix_entry And frames = Failed
prefix_entry Equal frames = Failed
prefix_entry NotEqual frames = Failed
prefix_entry LessThan frames = Failed
prefix_entry AtMost frames = Failed
prefix_entry MoreThan frames = Failed
prefix_entry AtLeast frames = Failed
prefix_entry Plus frames = Failed
prefix_entry Minus frames = entry (Front Negate) frames
prefix_entry Times frames = Failed
prefix_entry Over frames = Failed
prefix_entry Remainder frames = Failed

-- a token where an operand is needed
abbrev pub first_step : {X : Type 0} → Making X → List (FrameOf X) → TokenOf → State X
first_step make frames (Operand bytes) = Holding frames (make.leaf bytes)
first_step make frames (Sign operator) = prefix_entry operator frames
first_step make frames Bang = entry (Front Not) frames
first_step make frames Opening = entry Paren frames
first_step make frames Closing = Failed
first_step make frames Stray = Failed

-- the operand becomes the operator's left side
abbrev pub operator_step : {X : Type 0} → Operator → Held X → State X
operator_step operator held = Wanting (Left operator held.value ∷ held.frames)

-- the operand is the whole content of the parenthesis
abbrev pub closing_step : {X : Type 0} → Making X → Held X → State X
closing_step make held = closing make held.frames held.value

-- a token after an operand
abbrev pub next_step : {X : Type 0} → Making X → List (FrameOf X) → X → TokenOf → State X
next_step make frames x (Operand bytes) = Failed
next_step make frames x (Sign operator) = operator_step operator (reduction make (level_of operator) frames x)
next_step make frames x Bang = Failed
next_step make frames x Opening = Failed
next_step make frames x Closing = closing_step make (reduction make 0 frames x)
next_step make frames x Stray = Failed

-- a token in any state
unfoldable pub step : {X : Type 0} → Making X → State X → TokenOf → State X
step make (Wanting frames) token = first_step make frames token
step make (Holding frames x) token = next_step make frames x token
step make Failed token = Failed

-- the operand, if no frame is left
abbrev pub whole : {X : Type 0} → List (FrameOf X) → X → Option X
whole [] x = Some x
whole (frame ∷ frames) x = None

-- the same for a pair
abbrev pub whole_of : {X : Type 0} → Held X → Option X
whole_of held = whole held.frames held.value

-- what is made at the end of the tokens
unfoldable pub ending : {X : Type 0} → Making X → State X → Option X
ending make (Wanting frames) = None
ending make (Holding frames x) = whole_of (reduction make 0 frames x)
ending make Failed = None

-- what is made from the tokens, starting in a state
unfoldable pub walk : {X : Type 0} → Making X → State X → List TokenOf → Option X
walk make state [] = ending make state
walk make state (token ∷ tokens) = walk make (step make state token) tokens

-- the making of values
abbrev pub values : Making Outcome
values = record { leaf = λ bytes. Some bytes; group = λ x. x; before = value_before; between = value_between }

-- the making of trees
abbrev pub trees : Making Tree
trees = record { leaf = Leaf; group = Group; before = Before; between = Between }
