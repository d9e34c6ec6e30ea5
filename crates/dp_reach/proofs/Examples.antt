-- What usual entries owe, if each name has only digits.
use Rattle.std.proofs.Common.{◌≡◌, ℕ, List, [], ◌∷◌, ◌++◌, map, codes, refl}
use Rattle.std.specs.Fmt.{digits as digits_in}
use Rattle.dp_conf.specs.GroupsRead.{levels, reading_of}
use Rattle.dp_conf.specs.Levels.{cut_outside}
use Rattle.dp_pieces.specs.Arguments.{shapes_of, split_pieces}
use Rattle.dp_pieces.specs.Bytes.{digits}
use Rattle.dp_pieces.specs.Names.{Names, head_pieces}
use Rattle.dp_pieces.specs.Pieces.{AnyOf, Known, OneOf, PieceOf, exactly, any_bytes_of, pieces_set}
use Rattle.dp_pieces.specs.Texts.{pieces_by, text_pieces}
use Rattle.dp_reach.specs.Areas.{Area, area_at}
use Rattle.dp_reach.specs.Bounds.{Anything, Calls, Duties, Duty, Holds, HoldsAll, Leads, Waits, gosub_duties, goto_duties, goto_if_duties}
use Rattle.dp_reach.specs.Settings.{set_duties}

-- only digits
abbrev plain : Names
plain = record { bytes = λ name. digits; exten = any_bytes_of digits; context = any_bytes_of digits; caller = digits; all = digits }

abbrev here : Area
here = area_at (exactly (codes "from-pstn")) (any_bytes_of digits)

-- a shape and a duty in words: `.` for one byte and `*` for any number of bytes
abbrev told_shape : List PieceOf → List ℕ
told_shape [] = []
told_shape (Known byte ∷ pieces) = byte ∷ told_shape pieces
told_shape (OneOf set ∷ pieces) = 46 ∷ told_shape pieces
told_shape (AnyOf set ∷ pieces) = 42 ∷ told_shape pieces

abbrev duty_text : Duty → List ℕ
duty_text (Leads area) = codes "to " ++ told_shape area.context ++ codes " " ++ told_shape area.exten
duty_text (Holds name set) = codes "set " ++ name
duty_text (HoldsAll set) = codes "set any"
duty_text (Calls set) = codes "set caller"
duty_text Waits = codes "queue"
duty_text Anything = codes "anything"

abbrev owed_texts : Duties → List ℕ → List (List ℕ)
owed_texts duties text = map duty_text (duties here (text_pieces plain text))

pub goto-exten : owed_texts goto_duties (codes "from-did-direct,${EXTEN},1") ≡ codes "to from-did-direct *" ∷ codes "to from-did-direct *" ∷ []
unfolding pieces_by head_pieces split_pieces shapes_of pieces_set reading_of levels cut_outside
goto-exten = refl

-- a part that is known to have a byte is not left out
pub goto-prefix : owed_texts goto_duties (codes "9${EXTEN},1") ≡ codes "to from-pstn 9*" ∷ []
unfolding pieces_by head_pieces split_pieces shapes_of pieces_set reading_of levels cut_outside
goto-prefix = refl

pub goto-choice : owed_texts goto_if_duties (codes "$[\"${X}\" = \"1\"]?a,1:other,b,1") ≡ codes "to from-pstn a" ∷ codes "to other b" ∷ []
unfolding pieces_by head_pieces split_pieces shapes_of pieces_set reading_of levels cut_outside
goto-choice = refl

pub gosub-call : owed_texts gosub_duties (codes "sub-dial,s,1(${ARG1},${EXTEN:1},in)") ≡ codes "to sub-dial s" ∷ codes "set ARG1" ∷ codes "set ARG2" ∷ codes "set ARG3" ∷ []
unfolding pieces_by head_pieces split_pieces shapes_of pieces_set reading_of levels cut_outside digits_in
gosub-call = refl

pub set-global : owed_texts set_duties (codes "GLOBAL(LAST)=${CALLERID(num)}") ≡ codes "set LAST" ∷ []
unfolding pieces_by head_pieces split_pieces shapes_of pieces_set reading_of levels cut_outside
set-global = refl

-- a function of an unknown argument
pub set-any-caller : owed_texts set_duties (codes "CALLERID(${X})=${EXTEN}") ≡ codes "set caller" ∷ []
unfolding pieces_by head_pieces split_pieces shapes_of pieces_set reading_of levels cut_outside
set-any-caller = refl
