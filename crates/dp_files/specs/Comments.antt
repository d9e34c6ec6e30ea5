-- The parts of a file's lines outside block comments.
use Rattle.std.specs.Prelude.{ℕ, zero, suc, ◌+◌, Bool, not, ◌&&◌, ◌==◌, nat_eq, List, [], ◌∷◌, drop, Option, None, Some, codes, if◌then◌else◌}
use Rattle.std.specs.List.{starts_with}
use Rattle.std.specs.Str.{byte}
use Rattle.dp_conf.specs.Lines.{without_mark, parts_of, line_feed, opens_block}

-- the rest of a line, and the lines of the openings of the block comments that are open after it, the innermost first
pub record Uncovered : Type 0 where
  pub text : List ℕ
  pub unclosed : List ℕ

-- a byte that is kept, before the rest of its line
abbrev pub with_byte : ℕ → Uncovered → Uncovered
with_byte byte rest = record { text = byte ∷ rest.text; unclosed = rest.unclosed }

-- `--;` closes a block comment, unless its `;` opens one
abbrev pub closes_block : List ℕ → Bool
closes_block text = starts_with nat_eq text (codes "--;") && not (opens_block (drop 2 text))

-- the rest of the line with this number from a place on, given the number of bytes there that still belong to a mark that was read, the
-- openings of the block comments that are open there, and the byte before
abbrev pub uncovered_from : ℕ → ℕ → List ℕ → ℕ → List ℕ → Uncovered
uncovered_from line mark unclosed previous [] = record { text = []; unclosed = unclosed }
uncovered_from line (suc mark) unclosed previous (b ∷ bs) = uncovered_from line mark unclosed line_feed bs
uncovered_from line zero [] previous (b ∷ bs) =
    if b == byte ";" && not (previous == byte "\\")
    then (if opens_block (b ∷ bs) then uncovered_from line 2 (line ∷ []) line_feed bs else record { text = b ∷ bs; unclosed = [] })
    else with_byte b (uncovered_from line 0 [] b bs)
uncovered_from line zero (inner ∷ outer) previous (b ∷ bs) =
    if opens_block (b ∷ bs) then uncovered_from line 2 (line ∷ inner ∷ outer) line_feed bs
    else if closes_block (b ∷ bs) then uncovered_from line 2 outer line_feed bs
    else uncovered_from line 0 (inner ∷ outer) line_feed bs

-- the rest of the line with this number
unfoldable pub rest_of_line : ℕ → List ℕ → List ℕ → Uncovered
rest_of_line line unclosed part = uncovered_from line 0 unclosed line_feed part

-- the lines of a file without block comments, and the line of the innermost opening of those that are open at its end
pub record FileLinesOf : Type 0 where
  pub texts : List (List ℕ)
  pub open_comment : Option ℕ

-- a line before the lines after it
abbrev pub with_line : List ℕ → FileLinesOf → FileLinesOf
with_line text rest = record { texts = text ∷ rest.texts; open_comment = rest.open_comment }

-- the innermost of the openings
abbrev pub innermost : List ℕ → Option ℕ
innermost [] = None
innermost (inner ∷ outer) = Some inner

-- the lines made from these parts, which come after this many others
abbrev pub lines_after : ℕ → List ℕ → List (List ℕ) → FileLinesOf
lines_after count unclosed [] = record { texts = []; open_comment = innermost unclosed }
lines_after count unclosed (part ∷ parts) =
    with_line (rest_of_line (count + 1) unclosed part).text (lines_after (count + 1) (rest_of_line (count + 1) unclosed part).unclosed parts)

-- the lines of the text of a file
unfoldable pub file_lines : List ℕ → FileLinesOf
file_lines text = lines_after 0 [] (parts_of (without_mark text))
