-- The bindings of a name, the innermost first. Each has a depth: 0 is the channel, and k + 1 is the frame at place k.
use Rattle.std.specs.Prelude.{ℕ, ◌<◌, Bool, false, eqb, List, [], ◌∷◌, Option, Some, None, if◌then◌else◌}
use Rattle.dp_vars.specs.declared.binding_stack.Binding.{Binding}

-- a value at a depth
abbrev pub binding : ℕ → List ℕ → Binding
binding depth value = record { depth = depth; value = value }

-- the value at a depth
abbrev pub find : ℕ → List Binding → Option (List ℕ)
find depth [] = None
find depth (b ∷ bs) = if eqb b.depth depth then Some b.value else find depth bs

-- the value of the innermost binding
abbrev pub innermost_value : List Binding → Option (List ℕ)
innermost_value [] = None
innermost_value (b ∷ bs) = Some b.value

-- the depth of the innermost binding, or that of the channel if there is none
abbrev pub depth_of : List Binding → ℕ
depth_of [] = 0
depth_of (b ∷ bs) = b.depth

-- whether the innermost binding is at that depth
abbrev pub is_at : ℕ → List Binding → Bool
is_at depth [] = false
is_at depth (b ∷ bs) = eqb b.depth depth

-- the bindings without the innermost one, if that is at that depth
abbrev pub without_binding_at : ℕ → List Binding → List Binding
without_binding_at depth [] = []
without_binding_at depth (b ∷ bs) = if eqb b.depth depth then bs else b ∷ bs

-- the bindings with this one as the innermost, which replaces one at that depth
abbrev pub with_binding : ℕ → List ℕ → List Binding → List Binding
with_binding depth value bs = binding depth value ∷ without_binding_at depth bs

-- the bindings with the value of the innermost one changed, or that of the channel if there is none
abbrev pub with_innermost_value : List ℕ → List Binding → List Binding
with_innermost_value value bs = with_binding (depth_of bs) value bs

-- the same below the innermost one, if that is at this depth
abbrev pub bound_below : ℕ → List ℕ → List Binding → List Binding
bound_below depth value [] = with_innermost_value value []
bound_below depth value (b ∷ bs) = if eqb b.depth depth then b ∷ with_innermost_value value bs else with_innermost_value value (b ∷ bs)

-- each binding is further out than the one before it, and the innermost is below this depth
abbrev pub Falls : ℕ → List Binding → Type 0
Falls limit [] = Unit {0}
Falls limit (b ∷ bs) = (b.depth < limit) × Falls b.depth bs
