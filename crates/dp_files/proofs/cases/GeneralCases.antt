-- Lines of `[general]`, computed from their definition.
use Rattle.std.proofs.Common.{◌≡◌, ℕ, List, [], ◌∷◌, codes, refl}
use Rattle.dp_files.specs.GeneralLines.{general_lines, general_made, general_remarks}
use Rattle.dp_files.specs.declared.remark.LineNote.TheVariants.{AutoFallThrough}
use Rattle.dp_files.specs.declared.remark.RemarkKind.TheVariants.{Note}

-- a section with the setting in two lines, of which the second has the default value
abbrev section : List (ℕ × List ℕ)
section = (4, codes "AutoFallThrough = no ; not here") ∷ (6, codes "autofallthrough=Yes") ∷ (7, codes "static=no") ∷ []

lines : general_lines section ≡ record { source = 6; text = codes "autofallthrough=Yes" } ∷ record { source = 7; text = codes "static=no" } ∷ []
unfolding general_made
lines = refl

remarks : general_remarks section ≡ record { source = 4; kind = Note AutoFallThrough } ∷ []
unfolding general_made
remarks = refl
