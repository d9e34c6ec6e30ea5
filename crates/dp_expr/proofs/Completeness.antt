-- A walk over the tokens of a tree makes the same as the tree, whatever it makes.
use Rattle.std.proofs.Common.{◌≡◌, ℕ, suc, ◌+◌, ◌<◌, ◌≤◌, true, List, [], ◌∷◌, ◌++◌, Some, refl, sym, ◌∙◌, ap, arith, nat_lt, append_assoc, append-nil}
use Rattle.std.proofs.lemmas.Bool.Decides.{nat_tests}
use Rattle.dp_expr.specs.declared.operator.Prefix.{Prefix}
use Rattle.dp_expr.specs.declared.operator.Prefix.TheVariants.{Negate, Not}
use Rattle.dp_expr.specs.Tokens.{TokenOf, Sign, Closing}
use Rattle.dp_expr.specs.Trees.{Tree, Leaf, Group, Before, Between, level_of, unary_level, IsGrouped, IsTreeReading, depth_of, most_depth, spelling, prefix_token}
use Rattle.dp_expr.specs.Walk.{Making, FrameOf, Left, Front, Paren, State, Wanting, Holding, nesting, Held, reduction, entry, first_step, operator_step, step, ending, walk}
use Rattle.dp_expr.proofs.Reducing.{IsBelow, Follows, IsBelow-le, Follows-le, Follows-unary, is_due-le, reduction-below, walk-due}

-- what is made of a tree
abbrev pub made_of : {X : Type 0} → Making X → Tree → X
made_of make (Leaf bytes) = make.leaf bytes
made_of make (Group inner) = make.group (made_of make inner)
made_of make (Before prefix operand) = make.before prefix (made_of make operand)
made_of make (Between operator left right) = make.between operator (made_of make left) (made_of make right)

-- a frame is opened if fewer than the greatest number are nested
pub entry-lt : {X : Type 0} (frame : FrameOf X) (frames : List (FrameOf X)) → nesting frames < most_depth → entry frame frames ≡ Wanting (frame ∷ frames)
entry-lt frame frames lt = rw (let less : nat_lt (nesting frames) most_depth ≡ true = grind (arith, nat_tests) in less)

-- the token of a unary operator opens its frame
first_step-prefix : {X : Type 0} (make : Making X) (prefix : Prefix) (frames : List (FrameOf X)) → first_step make frames (prefix_token prefix) ≡ entry (Front prefix) frames
first_step-prefix make Negate frames = refl
first_step-prefix make Not frames = refl

module _ {X : Type 0} (make : Making X) where
  -- a closing parenthesis above its own frame closes it
  walk-closing : (frames : List (FrameOf X)) (x : X) (rest : List TokenOf) → walk make (Holding (Paren ∷ frames) x) (Closing ∷ rest) ≡ walk make (Holding frames (make.group x)) rest
  unfolding walk step reduction
  walk-closing frames x rest = refl

  -- a walk over the tokens of a tree has made the tree, as far as the tokens after it can tell
  pub walk-spelling : (tree : Tree) (n : ℕ) (frames : List (FrameOf X)) (rest : List TokenOf) → IsGrouped n tree → IsBelow n frames → nesting frames + depth_of tree ≤ most_depth → Follows n rest → walk make (Wanting frames) (spelling tree ++ rest) ≡ walk make (Holding frames (made_of make tree)) rest
  unfolding walk step nesting
  walk-spelling (Leaf bytes) n frames rest grouped below shallow follows = refl
  walk-spelling (Group inner) n frames rest grouped below shallow follows =
      ap (λ (s : State X). walk make s ((spelling inner ++ (Closing ∷ [])) ++ rest)) (entry-lt Paren frames (omega arith))
      ∙ ap (walk make (Wanting (Paren ∷ frames))) (append_assoc (spelling inner) (Closing ∷ []) rest)
      ∙ walk-spelling inner 1 (Paren ∷ frames) (Closing ∷ rest) grouped tt (omega arith) tt
      ∙ walk-closing frames (made_of make inner) rest
  walk-spelling (Before prefix operand) n frames rest grouped below shallow follows =
      ap (λ (s : State X). walk make s (spelling operand ++ rest)) (first_step-prefix make prefix frames ∙ entry-lt (Front prefix) frames (omega arith))
      ∙ walk-spelling operand unary_level (Front prefix ∷ frames) rest grouped (omega arith) (omega arith) (Follows-unary n rest follows)
      ∙ walk-due make n (Front prefix) frames (made_of make operand) rest (λ level le. refl) follows
  walk-spelling (Between operator left right) n frames rest grouped below shallow follows =
      let level : ℕ = level_of operator in
      ap (walk make (Wanting frames)) (append_assoc (spelling left) (Sign operator ∷ spelling right) rest)
      ∙ walk-spelling left (level_of operator) frames (Sign operator ∷ (spelling right ++ rest)) grouped.1 (IsBelow-le n (level_of operator) frames grouped.0 below) (omega arith) (omega arith)
      ∙ ap (λ (held : Held X). walk make (operator_step operator held) (spelling right ++ rest)) (reduction-below make operator frames (made_of make left) (IsBelow-le n (level_of operator) frames grouped.0 below))
      ∙ walk-spelling right (suc (level_of operator)) (Left operator (made_of make left) ∷ frames) rest grouped.2 (omega arith) (omega arith) (Follows-le n (suc (level_of operator)) rest (omega arith) follows)
      ∙ walk-due make n (Left operator (made_of make left)) frames (made_of make right) rest (λ l le. is_due-le l operator (made_of make left) (omega arith)) follows

  -- what a walk makes of the tokens of a reading
  pub walk-reading : (tokens : List TokenOf) (tree : Tree) → IsTreeReading tokens tree → walk make (Wanting []) tokens ≡ Some (made_of make tree)
  unfolding walk ending reduction nesting
  walk-reading tokens tree reading =
      ap (walk make (Wanting [])) (reading.spelling ∙ sym (append-nil (spelling tree)))
      ∙ walk-spelling tree 1 [] [] reading.grouped tt (omega (arith, reading.shallow)) tt
