-- How a picture is printed in the DOT language: each node has a name of letters, digits and `_`, and its label is HTML-like.
use Rattle.std.specs.Prelude.{ℕ, Bool, ◌==◌, List, [], ◌∷◌, ◌++◌, Option, Some, None, codes, decimal, if◌then◌else◌}
use Rattle.std.specs.Char.{is_ascii_alphanumeric}
use Rattle.std.specs.List.{flat_map}
use Rattle.dp_graph.specs.Boxes.{Box, BoxRow}
use Rattle.dp_graph.specs.Labels.{label_text, short_text}
use Rattle.dp_graph.specs.Picture.{DrawnArrow, DrawnInclusion, OriginOf, Picture}
use Rattle.dp_graph.specs.declared.arrow.Arrow.{Arrow}
use Rattle.dp_graph.specs.declared.arrow.ArrowKind.{ArrowKind}
use Rattle.dp_graph.specs.declared.arrow.ArrowKind.TheVariants.{Jump, Subroutine, WayOut}
use Rattle.dp_graph.specs.declared.arrow.Destination.{Destination}
use Rattle.dp_graph.specs.declared.arrow.Destination.TheVariants.{Extension, Context, Computed, Missing}
use Rattle.dp_graph.specs.declared.shade.Shade.{Shade}
use Rattle.dp_graph.specs.declared.shade.Shade.TheVariants.{Plain, Reached, Unreached, AllRan, SomeRan, NoneRan}

-- ---- names of nodes and rows

-- a byte in a name: letters and digits as they are, and any other by its number between two `_`
abbrev pub name_byte : ℕ → List ℕ
name_byte b = if is_ascii_alphanumeric b then b ∷ [] else codes "_" ++ decimal b ++ codes "_"

-- a text as part of a name; different texts give different parts
abbrev pub name_part : List ℕ → List ℕ
name_part text = flat_map name_byte text

-- the node of the context with a number
abbrev pub box_node : ℕ → List ℕ
box_node number = codes "c" ++ decimal number

-- ---- boxes

-- the colours of headings and of rows; in grey print, the more entries tests ran, the darker is the fill
unfoldable pub heading_colour : Shade → List ℕ
heading_colour Plain = codes "#dce6f2"
heading_colour Reached = codes "#a9d6a9"
heading_colour Unreached = codes "#c8c8c8"
heading_colour AllRan = codes "#6fb36f"
heading_colour SomeRan = codes "#e0c050"
heading_colour NoneRan = codes "#e6e6e6"

unfoldable pub row_colour : Shade → List ℕ
row_colour Plain = codes "#ffffff"
row_colour Reached = codes "#e2f3e2"
row_colour Unreached = codes "#e6e6e6"
row_colour AllRan = codes "#8cc98c"
row_colour SomeRan = codes "#f0dc82"
row_colour NoneRan = codes "#ffffff"

-- the start of a cell of a row, up to the sign for its side
unfoldable pub port_start : List ℕ → List ℕ
port_start side = codes "<td port=\"" ++ side

-- the start of the style of a cell
unfoldable pub style_start : List ℕ
style_start = codes "\" align=\"left\" bgcolor=\""

-- the style of a cell of a row
unfoldable pub cell_style : Shade → List ℕ
cell_style shade = style_start ++ row_colour shade ++ codes "\">"

-- the start of a cell of a row, which has a name of its own: a sign for its side, and the name of the row
unfoldable pub cell_start : List ℕ → List ℕ → Shade → List ℕ
cell_start side name shade = port_start side ++ name_part name ++ cell_style shade

-- the cell of a row's name, at which arrows from other boxes end
unfoldable pub name_cell : BoxRow → List ℕ
name_cell row = cell_start (codes "x") row.name row.shade ++ label_text row.name ++ codes " </td>"

-- the cell of what its first entry does, at which arrows begin
unfoldable pub action_cell : BoxRow → List ℕ
action_cell row = cell_start (codes "y") row.name row.shade ++ short_text row.action ++ codes " </td>"

-- a row
unfoldable pub row_text : BoxRow → List ℕ
row_text row = codes "<tr>" ++ name_cell row ++ action_cell row ++ codes "</tr>\n"

-- the start of the row with the name of a context
unfoldable pub heading_start : Shade → List ℕ
heading_start shade = codes "<tr><td port=\"top\" colspan=\"2\" bgcolor=\"" ++ heading_colour shade ++ codes "\"><b>"

-- the row with the name of a context
unfoldable pub heading_text : Shade → List ℕ → List ℕ
heading_text shade name = heading_start shade ++ label_text name ++ codes " </b></td></tr>\n"

-- the start of the box of the context with a number
unfoldable pub box_start : ℕ → List ℕ
box_start number = box_node number ++ codes " [label=<<table border=\"0\" cellborder=\"1\" cellspacing=\"0\" cellpadding=\"3\">\n"

-- the start of a box, with the row that has its name
unfoldable pub box_top : ℕ → Shade → List ℕ → List ℕ
box_top number shade name = box_start number ++ heading_text shade name

-- a box
unfoldable pub box_text : Box → List ℕ
box_text box = box_top box.number box.shade box.name ++ flat_map row_text box.rows ++ codes "</table>>];\n"

-- ---- nodes without a box

-- the label of such a node, and the end of its statement
unfoldable pub label_end : List ℕ → List ℕ
label_end text = codes "label=<" ++ short_text text ++ codes " >];\n"

-- what a node of a missing place begins with, after its name
abbrev pub missing_style : List ℕ
missing_style = codes " [shape=box,color=red,fontcolor=red,"

-- ---- includes

-- the start of the arrow of an include of the context with a number
unfoldable pub inclusion_start : ℕ → List ℕ
inclusion_start number = box_node number ++ codes ":top:e -> "

-- the node of an include that no context has
unfoldable pub inclusion_node : ℕ → ℕ → List ℕ
inclusion_node number place = codes "i" ++ decimal number ++ codes "_" ++ decimal place

-- the end of the arrow of an include, after its style
unfoldable pub place_end : ℕ → List ℕ
place_end place = codes ",label=\"" ++ decimal place ++ codes "\"];\n"

-- the box at which the arrow of an include ends
unfoldable pub included_box : ℕ → List ℕ
included_box included = box_node included ++ codes ":top:w [style=dashed"

-- an include of the context with a number
unfoldable pub known_inclusion : ℕ → ℕ → ℕ → List ℕ
known_inclusion number place included = inclusion_start number ++ included_box included ++ place_end place

-- the statement of the node of an include that no context has
unfoldable pub unknown_node : ℕ → ℕ → List ℕ → List ℕ
unknown_node number place name = inclusion_node number place ++ missing_style ++ label_end name

-- an include of a name that no context has
unfoldable pub unknown_inclusion : ℕ → ℕ → List ℕ → List ℕ
unknown_inclusion number place name =
    unknown_node number place name
    ++ inclusion_start number ++ inclusion_node number place ++ codes " [style=dashed,color=red" ++ place_end place

abbrev pub inclusion_by : ℕ → ℕ → List ℕ → Option ℕ → List ℕ
inclusion_by number place name (Some included) = known_inclusion number place included
inclusion_by number place name None = unknown_inclusion number place name

-- an include
unfoldable pub inclusion_text : DrawnInclusion → List ℕ
inclusion_text i = inclusion_by i.number i.place i.name i.included

-- ---- arrows

-- an extension in the name of a node
abbrev pub origin_part : OriginOf → List ℕ
origin_part origin = decimal origin.number ++ codes "_x" ++ name_part origin.extension

-- the node of the computed targets of an entry with a priority, and that of a missing target
abbrev pub computed_node : OriginOf → ℕ → List ℕ
computed_node origin priority = codes "d" ++ origin_part origin ++ codes "_" ++ decimal priority

unfoldable pub missing_node : OriginOf → List ℕ → List ℕ
missing_node origin target = codes "m" ++ origin_part origin ++ codes "_x" ++ name_part target

-- the entry with a priority, `CONTEXT,EXTENSION,PRIORITY`
abbrev pub entry_text : OriginOf → ℕ → List ℕ
entry_text origin priority = origin.context ++ codes "," ++ origin.extension ++ codes "," ++ decimal priority

-- the statement of the node of the computed targets of an entry with a priority, and that of the node of a missing target
unfoldable pub computed_text : OriginOf → ℕ → List ℕ
computed_text origin priority = computed_node origin priority ++ codes " [shape=diamond," ++ label_end (entry_text origin priority)

unfoldable pub missing_text : OriginOf → List ℕ → List ℕ
missing_text origin target = missing_node origin target ++ missing_style ++ label_end target

-- the statement of the node to which an arrow leads, if that is no box
unfoldable pub node_text : OriginOf → Destination → List ℕ
node_text origin (Extension number name) = []
node_text origin (Context number) = []
node_text origin (Computed priority) = computed_text origin priority
node_text origin (Missing target) = missing_text origin target

-- the start of an arrow: the right side of the extension's row
unfoldable pub start_text : OriginOf → List ℕ
start_text origin = box_node origin.number ++ codes ":y" ++ name_part origin.extension ++ codes ":e -> "

-- the row at which an arrow ends: its left side, or its right side in the same box
abbrev pub row_end : Bool → ℕ → List ℕ → List ℕ
row_end is_own number name =
    if is_own then box_node number ++ codes ":y" ++ name_part name ++ codes ":e"
    else box_node number ++ codes ":x" ++ name_part name ++ codes ":w"

-- the end of an arrow to the box of a context
abbrev pub box_end : ℕ → List ℕ
box_end number = box_node number ++ codes ":top:w"

-- the end of an arrow
unfoldable pub end_text : OriginOf → Destination → List ℕ
end_text origin (Extension number name) = row_end (number == origin.number) number name
end_text origin (Context number) = box_end number
end_text origin (Computed priority) = computed_node origin priority
end_text origin (Missing target) = missing_node origin target

-- the ink of an arrow: red if it leads nowhere
unfoldable pub ink_of : Destination → List ℕ
ink_of (Extension number name) = codes "black"
ink_of (Context number) = codes "black"
ink_of (Computed priority) = codes "black"
ink_of (Missing target) = codes "red"

-- how an arrow of one line is drawn, after the start of its style
abbrev pub single_style : List ℕ → List ℕ → List ℕ
single_style start ink = start ++ ink ++ codes "];\n"

-- how a double arrow is drawn
abbrev pub double_style : List ℕ → List ℕ
double_style ink = codes " [color=\"" ++ ink ++ codes ":white:" ++ ink ++ codes "\"];\n"

-- how an arrow is drawn: solid for a jump, double for a subroutine, dotted for a way out of a queue
unfoldable pub style_text : ArrowKind → List ℕ → List ℕ
style_text Jump ink = single_style (codes " [color=") ink
style_text Subroutine ink = double_style ink
style_text WayOut ink = single_style (codes " [style=dotted,color=") ink

-- an arrow from an extension, after the node to which it leads if that is no box
unfoldable pub arrow_from : OriginOf → Arrow → List ℕ
arrow_from origin arrow =
    node_text origin arrow.destination ++ start_text origin ++ end_text origin arrow.destination
    ++ style_text arrow.kind (ink_of arrow.destination)

abbrev pub arrow_text : DrawnArrow → List ℕ
arrow_text drawn = arrow_from drawn.origin drawn.arrow

-- ---- the whole

-- the first lines: boxes stand from left to right
unfoldable pub opening : List ℕ
opening =
    codes "digraph dialplan {\nrankdir=LR;\nranksep=0.8;\nnodesep=0.25;\n"
    ++ codes "node [shape=plain,fontname=\"Helvetica\",fontsize=9];\n"
    ++ codes "edge [fontname=\"Helvetica\",fontsize=8,arrowsize=0.6];\n"

abbrev pub boxes_text : List Box → List ℕ
boxes_text boxes = flat_map box_text boxes

abbrev pub inclusions_text : List DrawnInclusion → List ℕ
inclusions_text inclusions = flat_map inclusion_text inclusions

abbrev pub arrows_text : List DrawnArrow → List ℕ
arrows_text arrows = flat_map arrow_text arrows

-- the lines of a picture
unfoldable pub text_of : Picture → List ℕ
text_of picture =
    opening ++ boxes_text picture.boxes ++ inclusions_text picture.inclusions ++ arrows_text picture.arrows ++ codes "}\n"
