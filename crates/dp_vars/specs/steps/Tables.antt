-- Names with their bindings, in the order of their numbers, and the store that they are together with the frames above them.
use Rattle.std.specs.Prelude.{ℕ, zero, suc, ◌≡◌, ◌⊎◌, List, [], ◌∷◌, ◌++◌, Option, Some, None, length, map, nat_eq, slice_get, if◌then◌else◌}
use Rattle.std.specs.Cmp.Lexicographic.{pointwise}
use Rattle.std.specs.List.{IsDistinct}
use Rattle.std.specs.Map.{lookup}
use Rattle.std.specs.Option.{option_and_then}
use Rattle.std.specs.FinMap.{empty, get, insert, remove}
use Rattle.dp_vars.specs.steps.Bindings.{Falls, find, without_binding_at}
use Rattle.dp_vars.specs.Stores.{StoreFrame, StoreOf, slot}
use Rattle.dp_vars.specs.Variables.{Named}
use Rattle.dp_vars.specs.declared.frame.HeldFrame.{HeldFrame}
use Rattle.dp_vars.specs.declared.binding_stack.Binding.{Binding}

-- names with their bindings
abbrev pub Entries : Type 0
Entries = List (List ℕ × List Binding)

-- the names
abbrev pub names_of : Entries → List (List ℕ)
names_of entries = map (λ e. e.0) entries

-- each of the names has its number among these, and none occurs twice
pub record AreNumbered (numbers : List (List ℕ × ℕ)) (names : List (List ℕ)) : Type 0 where
  pub slots : (name : List ℕ) → lookup (pointwise nat_eq name) numbers ≡ slot names name
  pub distinct : IsDistinct (pointwise nat_eq) names

-- the bindings of a name
abbrev pub stack_of : Entries → List ℕ → List Binding
stack_of [] name = []
stack_of (e ∷ es) name = if pointwise nat_eq name e.0 then e.1 else stack_of es name

-- the entries with other bindings for a name, which is added at the end if it is new
abbrev pub with_stack : Entries → List ℕ → List Binding → Entries
with_stack [] name bs = (name, bs) ∷ []
with_stack (e ∷ es) name bs = if pointwise nat_eq name e.0 then (e.0, bs) ∷ es else e ∷ with_stack es name bs

-- the entries without bindings for a name; a name that is not in them is not added
abbrev pub without_bindings : Entries → List ℕ → Entries
without_bindings [] name = []
without_bindings (e ∷ es) name = if pointwise nat_eq name e.0 then (e.0, []) ∷ es else e ∷ without_bindings es name

-- the bindings of the name with a number
abbrev pub stack_at : Entries → ℕ → List Binding
stack_at [] number = []
stack_at (e ∷ es) zero = e.1
stack_at (e ∷ es) (suc number) = stack_at es number

-- the entries without the binding at a depth, if it is the innermost one of the name with a number
abbrev pub unbound_at : ℕ → Entries → ℕ → Entries
unbound_at depth [] number = []
unbound_at depth (e ∷ es) zero = (e.0, without_binding_at depth e.1) ∷ es
unbound_at depth (e ∷ es) (suc number) = e ∷ unbound_at depth es number

-- the map with a value for the name, or with none
abbrev pub put_value : Named → List ℕ → Option (List ℕ) → Named
put_value m name None = remove m name
put_value m name (Some value) = insert m name value

-- the map from each name to its value at a depth
abbrev pub map_at : ℕ → Entries → Named
map_at depth [] = empty
map_at depth (e ∷ es) = put_value (map_at depth es) e.0 (find depth e.1)

-- a number is one of these
abbrev pub IsAmong : ℕ → List ℕ → Type 0
IsAmong number [] = ⊥
IsAmong number (n ∷ ns) = (n ≡ number) ⊎ IsAmong number ns

module _ {B : Type 0} where
  -- the frames, of which the first has its locals at this depth
  abbrev pub frames_from : ℕ → Entries → List (HeldFrame B) → List (StoreFrame B)
  frames_from depth entries [] = []
  frames_from depth entries (h ∷ hs) = record { back = h.back; locals = map_at depth entries } ∷ frames_from (suc depth) entries hs

  -- what contracts see of a store
  abbrev pub store_of : Entries → List (HeldFrame B) → StoreOf B
  store_of entries held = record {
    variables = map_at 0 entries;
    frames = frames_from 1 entries held;
    names = names_of entries;
  }

  -- the frames, of which the last has one more number
  abbrev pub with_number : ℕ → List (HeldFrame B) → List (HeldFrame B)
  with_number number [] = []
  with_number number (h ∷ []) = record { back = h.back; numbers = h.numbers ++ number ∷ [] } ∷ []
  with_number number (h ∷ g ∷ hs) = h ∷ with_number number (g ∷ hs)

  -- the value of a name among the locals of the frame at a place
  abbrev pub local_at : List (StoreFrame B) → ℕ → List ℕ → Option (List ℕ)
  local_at frames place name = option_and_then (λ frame. get frame.locals name) (slice_get frames place)

  -- each name that has a value in the store is one of its names
  pub record HasNamed (store : StoreOf B) : Type 0 where
    pub variables : (name : List ℕ) → slot store.names name ≡ None → get store.variables name ≡ None
    pub locals : (place : ℕ) (name : List ℕ) → slot store.names name ≡ None → local_at store.frames place name ≡ None

  -- the numbers in the frame at a place
  abbrev pub numbers_at : List (HeldFrame B) → ℕ → List ℕ
  numbers_at [] place = []
  numbers_at (h ∷ hs) zero = h.numbers
  numbers_at (h ∷ hs) (suc place) = numbers_at hs place

  -- a frame has the number of each name that is bound in it
  abbrev pub IsHeld : List (HeldFrame B) → ℕ → ℕ → Type 0
  IsHeld held number zero = Unit {0}
  IsHeld held number (suc place) = IsAmong number (numbers_at held place)

  abbrev pub AreHeld : List (HeldFrame B) → ℕ → List Binding → Type 0
  AreHeld held number [] = Unit {0}
  AreHeld held number (b ∷ bs) = IsHeld held number b.depth × AreHeld held number bs

  -- the bindings of each name go outwards from the innermost frame or from further out, and frames have the numbers of the names that are
  -- bound in them
  pub record IsBound (entries : Entries) (frames : List (HeldFrame B)) : Type 0 where
    pub falls : (number : ℕ) → Falls (suc (length frames)) (stack_at entries number)
    pub held : (number : ℕ) → AreHeld frames number (stack_at entries number)
