-- Tables of functions: the meaning of a name between `${` and `(`, and the target of setting such a name from outside.
use Rattle.std.specs.Prelude.{ℕ, List, Bool}
use Rattle.dp_expr.specs.declared.reading.ExpressionReading.{ExpressionReading}
use Rattle.dp_vars.specs.Sights.{Sight}
use Rattle.dp_vars.specs.declared.functions.SetTarget.{SetTarget}
use Rattle.dp_vars.specs.declared.functions.SetTarget.TheVariants as targets

-- the target of setting a name: a variable, a global or a local with a name, the number of the caller, or nothing
pub data SettingTarget : Type 0 where
  Variable : List ℕ → SettingTarget
  Global : List ℕ → SettingTarget
  Local : List ℕ → SettingTarget
  Caller : SettingTarget
  Nothing : SettingTarget

-- the target, with its name as bytes
abbrev pub target_seen : SetTarget → SettingTarget
target_seen (targets.Variable name) = Variable name.now
target_seen (targets.Global name) = Global name.now
target_seen (targets.Local name) = Local name.now
target_seen targets.Caller = Caller
target_seen targets.Nothing = Nothing

-- the meaning of the functions of a table: the value of a name and an argument, whether the name and the argument are known, the value of a
-- plain name, whether that is known, whether a text has the groups that this program reads in it, how an expression is read in addition to
-- its value, and the target of setting a name from outside
pub record FunctionTable : Type 0 where
  pub value : Sight → List ℕ → List ℕ → List ℕ
  pub knows : Sight → List ℕ → List ℕ → Bool
  pub variable : Sight → List ℕ → List ℕ
  pub knows_name : Sight → List ℕ → Bool
  pub reads : List ℕ → Bool
  pub expression : List ℕ → ExpressionReading
  pub target : List ℕ → SettingTarget
