-- What the fills of boxes and rows say.
use Rattle.std.specs.Prelude.{List}
use Rattle.dp_plan.specs.declared.entry.EntryId.{EntryId}
use Rattle.dp_graph.specs.declared.shading.Shading.{Shading}
use Rattle.dp_graph.specs.declared.shading.Shading.TheVariants.{Plain as plain_in, Reached as reached_in, Tested as tested_in}

-- nothing, which entries a call reaches, or which entries tests ran
pub data ShadingOf : Type 0 where
  Unshaded : ShadingOf
  ByCall : List EntryId → ShadingOf
  ByTests : List EntryId → ShadingOf

-- what the program is given
abbrev pub shading_now : Shading → ShadingOf
shading_now plain_in = Unshaded
shading_now (reached_in entries) = ByCall entries.now.keys
shading_now (tested_in entries) = ByTests entries.now.keys
