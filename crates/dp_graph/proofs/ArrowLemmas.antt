-- What `==` says of two arrows.
use Rattle.std.proofs.Common.{◌≡◌, cond, ◌&&◌, List, [], ◌∷◌, ◌++◌, refl, ap}
use Rattle.std.specs.List.{list_any}
use Rattle.indexmap.specs.IndexSet.{insert_key}
use Rattle.dp_graph.specs.Arrows.{same_arrow, same_destination, same_kind, with_arrow}
use Rattle.dp_graph.specs.contracts.arrow.ArrowPartialEq.TheImpl as arrow_eq
use Rattle.dp_graph.specs.contracts.arrow.ArrowKindPartialEq.TheImpl as kind_eq
use Rattle.dp_graph.specs.contracts.arrow.DestinationPartialEq.TheImpl as destination_eq
use Rattle.dp_graph.specs.declared.arrow.Arrow.{Arrow}
use Rattle.dp_graph.specs.declared.arrow.ArrowKind.{ArrowKind}
use Rattle.dp_graph.specs.declared.arrow.ArrowKind.TheVariants.{Jump, Subroutine, WayOut}
use Rattle.dp_graph.specs.declared.arrow.Destination.{Destination}
use Rattle.dp_graph.specs.declared.arrow.Destination.TheVariants.{Extension, Context, Computed, Missing}

same_kinds : (a b : ArrowKind) → (kind_eq.ghosts).eq a b ≡ same_kind a b
same_kinds Jump Jump = refl
same_kinds Jump Subroutine = refl
same_kinds Jump WayOut = refl
same_kinds Subroutine Jump = refl
same_kinds Subroutine Subroutine = refl
same_kinds Subroutine WayOut = refl
same_kinds WayOut Jump = refl
same_kinds WayOut Subroutine = refl
same_kinds WayOut WayOut = refl

same_destinations : (a b : Destination) → (destination_eq.ghosts).eq a b ≡ same_destination a b
same_destinations (Extension c x) (Extension d y) = refl
same_destinations (Extension c x) (Context d) = refl
same_destinations (Extension c x) (Computed q) = refl
same_destinations (Extension c x) (Missing y) = refl
same_destinations (Context c) (Extension d y) = refl
same_destinations (Context c) (Context d) = refl
same_destinations (Context c) (Computed q) = refl
same_destinations (Context c) (Missing y) = refl
same_destinations (Computed p) (Extension d y) = refl
same_destinations (Computed p) (Context d) = refl
same_destinations (Computed p) (Computed q) = refl
same_destinations (Computed p) (Missing y) = refl
same_destinations (Missing x) (Extension d y) = refl
same_destinations (Missing x) (Context d) = refl
same_destinations (Missing x) (Computed q) = refl
same_destinations (Missing x) (Missing y) = refl

pub same_arrows : (a b : Arrow) → (arrow_eq.ghosts).eq a b ≡ same_arrow a b
same_arrows a b = λ i. same_kinds a.kind b.kind i && same_destinations a.destination b.destination i

-- whether an arrow is among others
same_among : (arrow : Arrow) (arrows : List Arrow) → list_any ((arrow_eq.ghosts).eq arrow) arrows ≡ list_any (same_arrow arrow) arrows
same_among arrow arrows = λ i. list_any (λ other. same_arrows arrow other i) arrows

-- one more arrow
pub insert_arrow : (arrows : List Arrow) (arrow : Arrow) → insert_key (arrow_eq.ghosts).eq arrows arrow ≡ with_arrow arrows arrow
insert_arrow arrows arrow = ap (λ t. cond t arrows (arrows ++ arrow ∷ [])) (same_among arrow arrows)
