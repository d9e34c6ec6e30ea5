-- How far waiting frames take their operand.
use Rattle.std.proofs.Common.{◌≡◌, ℕ, ◌<◌, ◌≤◌, true, false, List, [], ◌∷◌, refl, ap, arith}
use Rattle.std.specs.Prelude.{⊤}
use Rattle.std.proofs.lemmas.Bool.Decides.{nat_tests}
use Rattle.dp_expr.specs.declared.operator.Operator.{Operator}
use Rattle.dp_expr.specs.declared.operator.Operator.TheVariants.{Or, And, Equal, NotEqual, LessThan, AtMost, MoreThan, AtLeast, Plus, Minus, Times, Over, Remainder}
use Rattle.dp_expr.specs.Tokens.{TokenOf, Operand, Sign, Bang, Opening, Closing, Stray}
use Rattle.dp_expr.specs.Trees.{level_of, unary_level}
use Rattle.dp_expr.specs.Walk.{Making, FrameOf, Left, Front, Paren, Holding, is_due, value_under, Held, reduction, operator_step, closing_step, step, whole_of, ending, walk}

-- no frame on top is due before an operand of that level
abbrev pub IsBelow : {X : Type 0} → ℕ → List (FrameOf X) → Type 0
IsBelow n [] = ⊤
IsBelow n (Left operator left ∷ frames) = level_of operator < n
IsBelow n (Front prefix ∷ frames) = unary_level ≤ n
IsBelow n (Paren ∷ frames) = ⊤

-- what may come after an operand of that level
abbrev pub Follows : ℕ → List TokenOf → Type 0
Follows n [] = ⊤
Follows n (Operand bytes ∷ rest) = ⊥
Follows n (Sign operator ∷ rest) = level_of operator ≤ n
Follows n (Bang ∷ rest) = ⊥
Follows n (Opening ∷ rest) = ⊥
Follows n (Closing ∷ rest) = ⊤
Follows n (Stray ∷ rest) = ⊥

-- unary operators bind tighter than all others
pub level_of-le : (operator : Operator) → level_of operator < unary_level
level_of-le Or = omega arith
level_of-le And = omega arith
level_of-le Equal = omega arith
level_of-le NotEqual = omega arith
level_of-le LessThan = omega arith
level_of-le AtMost = omega arith
level_of-le MoreThan = omega arith
level_of-le AtLeast = omega arith
level_of-le Plus = omega arith
level_of-le Minus = omega arith
level_of-le Times = omega arith
level_of-le Over = omega arith
level_of-le Remainder = omega arith

-- a frame that is not due before a level is not due before a tighter one
pub IsBelow-le : {X : Type 0} (m n : ℕ) (frames : List (FrameOf X)) → m ≤ n → IsBelow m frames → IsBelow n frames
IsBelow-le m n [] le below = tt
IsBelow-le m n (Left operator left ∷ frames) le below = omega arith
IsBelow-le m n (Front prefix ∷ frames) le below = omega arith
IsBelow-le m n (Paren ∷ frames) le below = tt

-- what may come after a level may come after a tighter one
pub Follows-le : (m n : ℕ) (rest : List TokenOf) → m ≤ n → Follows m rest → Follows n rest
Follows-le m n [] le follows = tt
Follows-le m n (Operand bytes ∷ rest) le follows = follows
Follows-le m n (Sign operator ∷ rest) le follows = omega arith
Follows-le m n (Bang ∷ rest) le follows = follows
Follows-le m n (Opening ∷ rest) le follows = follows
Follows-le m n (Closing ∷ rest) le follows = tt
Follows-le m n (Stray ∷ rest) le follows = follows

-- the levels of operators are below that of unary operators, so whatever may come after may come after a unary
pub Follows-unary : (n : ℕ) (rest : List TokenOf) → Follows n rest → Follows unary_level rest
Follows-unary n [] follows = tt
Follows-unary n (Operand bytes ∷ rest) follows = follows
Follows-unary n (Sign operator ∷ rest) follows = omega (arith, level_of-le operator)
Follows-unary n (Bang ∷ rest) follows = follows
Follows-unary n (Opening ∷ rest) follows = follows
Follows-unary n (Closing ∷ rest) follows = tt
Follows-unary n (Stray ∷ rest) follows = follows

-- an operator is due before a looser one and one of its own level
pub is_due-le : {X : Type 0} (level : ℕ) (operator : Operator) (left : X) → level ≤ level_of operator → is_due level (Left operator left) ≡ true
is_due-le level operator left le = grind (arith, nat_tests)

-- and not before a tighter one
pub is_due-gt : {X : Type 0} (level : ℕ) (operator : Operator) (left : X) → level_of operator < level → is_due level (Left operator left) ≡ false
is_due-gt level operator left gt = grind (arith, nat_tests)

module _ {X : Type 0} (make : Making X) where
  -- a frame that is due takes the operand
  pub reduction-due : (level : ℕ) (frame : FrameOf X) (frames : List (FrameOf X)) (x : X) → is_due level frame ≡ true → reduction make level (frame ∷ frames) x ≡ reduction make level frames (value_under make frame x)
  unfolding reduction
  reduction-due level frame frames x due = rw due

  -- a frame that is not due stays
  pub reduction-stays : (level : ℕ) (frame : FrameOf X) (frames : List (FrameOf X)) (x : X) → is_due level frame ≡ false → reduction make level (frame ∷ frames) x ≡ record { frames = frame ∷ frames; value = x }
  unfolding reduction
  reduction-stays level frame frames x due = rw due

  -- below an operand of an operator's level nothing is due before that operator
  pub reduction-below : (operator : Operator) (frames : List (FrameOf X)) (x : X) → IsBelow (level_of operator) frames → reduction make (level_of operator) frames x ≡ record { frames = frames; value = x }
  unfolding reduction
  reduction-below operator [] x below = refl
  reduction-below operator (Left other left ∷ frames) x below =
      reduction-stays (level_of operator) (Left other left) frames x (is_due-gt (level_of operator) other left below)
  reduction-below operator (Front prefix ∷ frames) x below = absurd (omega (arith, level_of-le operator))
  reduction-below operator (Paren ∷ frames) x below = refl

  -- a frame that is due before whatever comes next takes the operand
  pub walk-due : (n : ℕ) (frame : FrameOf X) (frames : List (FrameOf X)) (x : X) (rest : List TokenOf) → ((level : ℕ) → level ≤ n → is_due level frame ≡ true) → Follows n rest → walk make (Holding (frame ∷ frames) x) rest ≡ walk make (Holding frames (value_under make frame x)) rest
  unfolding walk step ending
  walk-due n frame frames x [] due follows =
      ap whole_of (reduction-due 0 frame frames x (due 0 (omega arith)))
  walk-due n frame frames x (Operand bytes ∷ rest) due follows = absurd follows
  walk-due n frame frames x (Sign operator ∷ rest) due follows =
      ap (λ (held : Held X). walk make (operator_step operator held) rest) (reduction-due (level_of operator) frame frames x (due (level_of operator) follows))
  walk-due n frame frames x (Bang ∷ rest) due follows = absurd follows
  walk-due n frame frames x (Opening ∷ rest) due follows = absurd follows
  walk-due n frame frames x (Closing ∷ rest) due follows =
      ap (λ (held : Held X). walk make (closing_step make held) rest) (reduction-due 0 frame frames x (due 0 (omega arith)))
  walk-due n frame frames x (Stray ∷ rest) due follows = absurd follows
