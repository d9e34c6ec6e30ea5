-- Facts about each part of a loaded dialplan, which allow a line to say the part again.
use Rattle.std.proofs.Common.{◌≡◌, ℕ, ◌==◌, false, List, ◌∷◌, codes, Option, Some, None}
use Rattle.dp_conf.specs.Shallow.{is_too_deep}
use Rattle.dp_conf.specs.Words.{same_word}
use Rattle.dp_conf.proofs.TextLemmas.{Avoids, IsTrimmed}
use Rattle.dp_pattern.specs.Name.{Meaning, IsName}
use Rattle.dp_pattern.specs.Spelling.{spelling}
use Rattle.dp_plan.specs.EntryLine.{has_variable, is_no_label}
use Rattle.dp_plan.specs.Priority.{IsPriority}
use Rattle.dp_plan.specs.declared.entry.Entry.{Entry}
use Rattle.dp_plan.specs.declared.plan.GlobalVariable.{GlobalVariable}

-- a text that is not empty
pub record HasFirst (text : List ℕ) : Type 0 where
  pub first : ℕ
  pub rest : List ℕ
  pub is : text ≡ first ∷ rest

-- a key: its line is neither a header nor a directive, and its first `=` comes after it
pub record IsKey (key : List ℕ) : Type 0 where
  pub first : ℕ
  pub rest : List ℕ
  pub is : key ≡ first ∷ rest
  pub no_header : (first == 91) ≡ false
  pub no_directive : (first == 35) ≡ false
  pub trimmed : IsTrimmed key
  pub no_sign : Avoids 61 key
  pub one_line : Avoids 10 key

-- a value
pub record IsValue (value : List ℕ) : Type 0 where
  pub trimmed : IsTrimmed value
  pub one_line : Avoids 10 value

-- the name of a header
pub record IsHeaderName (name : List ℕ) : Type 0 where
  pub some : HasFirst name
  pub trimmed : IsTrimmed name
  pub no_end : Avoids 93 name
  pub one_line : Avoids 10 name

-- the name of a context
pub record IsContextName (name : List ℕ) : Type 0 where
  pub header : IsHeaderName name
  pub no_general : same_word name (codes "general") ≡ false
  pub no_globals : same_word name (codes "globals") ≡ false

-- a global variable
pub record IsGlobal (global : GlobalVariable) : Type 0 where
  pub name : IsKey global.name
  pub value : IsValue global.value
  pub accepted : is_too_deep global.value ≡ false

-- the name of an extension
pub record IsExtension (name : Meaning) : Type 0 where
  pub known : IsName name
  pub no_comma : Avoids 44 (spelling name)
  pub no_slash : Avoids 47 (spelling name)
  pub no_variable : has_variable (spelling name) ≡ false

-- a label
pub record IsLabel (label : List ℕ) : Type 0 where
  pub trimmed : IsTrimmed label
  pub one_line : Avoids 10 label
  pub no_comma : Avoids 44 label
  pub labels : is_no_label label ≡ false

abbrev pub IsLabelled : Option (List ℕ) → Type 0
IsLabelled None = Unit {0}
IsLabelled (Some label) = IsLabel label

-- the name of an application
pub record IsApplication (name : List ℕ) : Type 0 where
  pub some : HasFirst name
  pub trimmed : IsTrimmed name
  pub one_line : Avoids 10 name
  pub no_opening : Avoids 40 name
  pub no_comma : Avoids 44 name

-- an entry
pub record IsEntry (entry : Entry) : Type 0 where
  pub name : IsExtension entry.name
  pub priority : IsPriority entry.priority
  pub label : IsLabelled entry.label
  pub application : IsApplication entry.application
  pub one_line : Avoids 10 entry.arguments
  pub accepted : is_too_deep entry.arguments ≡ false

-- the name in an include
pub record IsIncluded (name : List ℕ) : Type 0 where
  pub value : IsValue name
  pub no_comma : Avoids 44 name
