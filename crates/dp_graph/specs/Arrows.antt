-- The arrows of a picture that come from extensions.
use Rattle.std.specs.Prelude.{Bool, true, false, ◌&&◌, ◌==◌, List, [], ◌∷◌, ◌++◌, fold, if◌then◌else◌}
use Rattle.std.specs.List.{list_any}
use Rattle.dp_conf.specs.Words.{same_text}
use Rattle.dp_graph.specs.declared.arrow.Arrow.{Arrow}
use Rattle.dp_graph.specs.declared.arrow.ArrowKind.{ArrowKind}
use Rattle.dp_graph.specs.declared.arrow.ArrowKind.TheVariants.{Jump, Subroutine, WayOut}
use Rattle.dp_graph.specs.declared.arrow.Destination.{Destination}
use Rattle.dp_graph.specs.declared.arrow.Destination.TheVariants.{Extension, Context, Computed, Missing}

-- whether two arrows show the same
abbrev pub same_kind : ArrowKind → ArrowKind → Bool
same_kind Jump Jump = true
same_kind Jump Subroutine = false
same_kind Jump WayOut = false
same_kind Subroutine Jump = false
same_kind Subroutine Subroutine = true
same_kind Subroutine WayOut = false
same_kind WayOut Jump = false
same_kind WayOut Subroutine = false
same_kind WayOut WayOut = true

-- whether two arrows of an extension lead to the same place
abbrev pub same_destination : Destination → Destination → Bool
same_destination (Extension c x) (Extension d y) = c == d && same_text x y
same_destination (Extension c x) (Context d) = false
same_destination (Extension c x) (Computed q) = false
same_destination (Extension c x) (Missing y) = false
same_destination (Context c) (Extension d y) = false
same_destination (Context c) (Context d) = c == d
same_destination (Context c) (Computed q) = false
same_destination (Context c) (Missing y) = false
same_destination (Computed p) (Extension d y) = false
same_destination (Computed p) (Context d) = false
same_destination (Computed p) (Computed q) = p == q
same_destination (Computed p) (Missing y) = false
same_destination (Missing x) (Extension d y) = false
same_destination (Missing x) (Context d) = false
same_destination (Missing x) (Computed q) = false
same_destination (Missing x) (Missing y) = same_text x y

abbrev pub same_arrow : Arrow → Arrow → Bool
same_arrow a b = same_kind a.kind b.kind && same_destination a.destination b.destination

-- whether an arrow is the same as one before it
abbrev pub is_again : Arrow → Arrow → Bool
is_again before arrow = same_arrow arrow before

-- the arrows with one more, unless it is among them
abbrev pub with_arrow : List Arrow → Arrow → List Arrow
with_arrow arrows arrow = if list_any (same_arrow arrow) arrows then arrows else arrows ++ arrow ∷ []

-- the arrows, each once
abbrev pub each_once : List Arrow → List Arrow
each_once arrows = fold with_arrow [] arrows
