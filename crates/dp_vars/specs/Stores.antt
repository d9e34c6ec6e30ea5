-- The variables of a channel, the frames above them, which may have locals, and the names with their numbers.
use Rattle.std.specs.Prelude.{ℕ, zero, suc, ◌-◌, List, [], ◌∷◌, ◌++◌, Option, Some, None, length, map, fold, reverse, take, slice_get, nat_eq, position, if◌then◌else◌}
use Rattle.std.specs.Cmp.Lexicographic.{pointwise}
use Rattle.std.specs.Option.{option_and_then, option_map, option_or}
use Rattle.std.specs.FinMap.{contains_key, get, insert, empty, remove}
use Rattle.dp_vars.specs.Variables.{Named, first_value, map_of}
use Rattle.dp_vars.specs.declared.local.Local.{Local}

-- the place to which a subroutine returns, and its locals
pub record StoreFrame (B : Type 0) : Type 0 where
  pub back : B
  pub locals : Named

-- the variables of a channel, its frames, the innermost last, and the names that it was given, in the order of their numbers
pub record StoreOf (B : Type 0) : Type 0 where
  pub variables : Named
  pub frames : List (StoreFrame B)
  pub names : List (List ℕ)

-- the number of a name
abbrev pub slot : List (List ℕ) → List ℕ → Option ℕ
slot names name = position (pointwise nat_eq name) names

-- the names with one more at the end, if it is new
abbrev pub with_name : List (List ℕ) → List ℕ → List (List ℕ)
with_name [] name = name ∷ []
with_name (n ∷ names) name = if pointwise nat_eq name n then n ∷ names else n ∷ with_name names name

-- the names with those of some variables
abbrev pub with_names : List (List ℕ) → List Local → List (List ℕ)
with_names names variables = fold (λ known variable. with_name known variable.name) names variables

module _ {B : Type 0} where
  -- no variables and no frames
  abbrev pub nothing : StoreOf B
  nothing = record { variables = empty; frames = []; names = [] }

  -- the locals of the frames, from the innermost outwards
  abbrev pub all_locals : List (StoreFrame B) → List Named
  all_locals frames = map (λ frame. frame.locals) (reverse frames)

  -- the maps in which a name is looked up: those locals, and then the variables
  abbrev pub searched_maps : StoreOf B → List Named
  searched_maps store = all_locals store.frames ++ store.variables ∷ []

  -- the value of a name in the store
  abbrev pub value_in : StoreOf B → List ℕ → Option (List ℕ)
  value_in store name = first_value (searched_maps store) name

  -- the innermost frame
  abbrev pub innermost : List (StoreFrame B) → Option (StoreFrame B)
  innermost frames = slice_get frames (length frames - 1)

  -- the value of the innermost frame's own local
  abbrev pub local_in : StoreOf B → List ℕ → Option (List ℕ)
  local_in store name = option_and_then (λ frame. get frame.locals name) (innermost store.frames)

  -- the frame with the local set
  abbrev pub with_local : List ℕ → List ℕ → StoreFrame B → StoreFrame B
  with_local name value frame = record frame { locals = insert frame.locals name value }

  -- the frames with the one at a place changed
  abbrev pub changed_at : (StoreFrame B → StoreFrame B) → ℕ → List (StoreFrame B) → List (StoreFrame B)
  changed_at change place [] = []
  changed_at change zero (frame ∷ frames) = change frame ∷ frames
  changed_at change (suc place) (frame ∷ frames) = frame ∷ changed_at change place frames

  -- the place of the innermost frame that has the name as a local
  abbrev pub holder : List ℕ → List (StoreFrame B) → Option ℕ
  holder name [] = None
  holder name (frame ∷ frames) =
      option_or (option_map suc (holder name frames)) (if contains_key frame.locals name then Some 0 else None)

  -- the store with the variable set, or the local of the frame at that place
  abbrev pub set_in : Option ℕ → StoreOf B → List ℕ → List ℕ → StoreOf B
  set_in None store name value =
      record store { variables = insert store.variables name value; names = with_name store.names name }
  set_in (Some place) store name value =
      record store { frames = changed_at (with_local name value) place store.frames; names = with_name store.names name }

  -- the store after a name is set: the local of the innermost frame that has one with the name, else the channel's variable
  unfoldable pub set : StoreOf B → List ℕ → List ℕ → StoreOf B
  set store name value = set_in (holder name store.frames) store name value

  -- the frame without the local
  abbrev pub without_local : List ℕ → StoreFrame B → StoreFrame B
  without_local name frame = record frame { locals = remove frame.locals name }

  -- the store in which a name no longer has a value, neither of the channel nor as a local of a frame; it keeps its number
  unfoldable pub unset : StoreOf B → List ℕ → StoreOf B
  unset store name = record store {
    variables = remove store.variables name;
    frames = map (without_local name) store.frames;
  }

  -- the names with that of a local, if there is a frame in which to set it
  abbrev pub with_local_name : List (StoreFrame B) → List (List ℕ) → List ℕ → List (List ℕ)
  with_local_name [] names name = names
  with_local_name (frame ∷ frames) names name = with_name names name

  -- the store with a local of the innermost frame set, if there is a frame
  unfoldable pub set_local : StoreOf B → List ℕ → List ℕ → StoreOf B
  set_local store name value = record store {
    frames = changed_at (with_local name value) (length store.frames - 1) store.frames;
    names = with_local_name store.frames store.names name;
  }

  -- the store with one more frame, which has these locals
  abbrev pub with_frame : StoreOf B → B → List Local → StoreOf B
  with_frame store back locals = record store {
    frames = store.frames ++ record { back = back; locals = map_of locals } ∷ [];
    names = with_names store.names locals;
  }

  -- the store without its innermost frame
  abbrev pub without_frame : StoreOf B → StoreOf B
  without_frame store = record store { frames = take (length store.frames - 1) store.frames }

  -- the store without its innermost frame and then with a name set, and the place to which that frame returns; None without a frame
  abbrev pub popped_setting : StoreOf B → List ℕ → List ℕ → Option (StoreFrame B) → StoreOf B × Option B
  popped_setting store name value None = (store, None)
  popped_setting store name value (Some frame) = (set (without_frame store) name value, Some frame.back)
