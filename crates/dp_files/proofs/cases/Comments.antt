-- Lines with block comments, computed from the definition itself.
use Rattle.std.proofs.Common.{◌≡◌, [], ◌∷◌, ◌++◌, Some, None, refl}
use Rattle.std.specs.Prelude.{codes}
use Rattle.dp_files.specs.Comments.{rest_of_line, file_lines}

-- the line goes on after the comment
comment-inside : rest_of_line 1 [] (codes "a;--b--;c") ≡ record { text = codes "ac"; unclosed = [] }
unfolding rest_of_line
comment-inside = refl

-- a `;` after a `\` begins no comment, and a comment with a third dash is an ordinary one
comment-escaped : rest_of_line 1 [] (codes "a" ++ 92 ∷ codes ";--b;---c") ≡ record { text = codes "a" ++ 92 ∷ codes ";--b;---c"; unclosed = [] }
unfolding rest_of_line
comment-escaped = refl

-- the dashes of an opening close nothing
comment-dashes : rest_of_line 4 [] (codes "a;--;b") ≡ record { text = codes "a"; unclosed = 4 ∷ [] }
unfolding rest_of_line
comment-dashes = refl

comment-nested : rest_of_line 4 [] (codes "a;--;--b--;c--;d ; e;--f") ≡ record { text = codes "ad ; e;--f"; unclosed = [] }
unfolding rest_of_line
comment-nested = refl

-- it is checked whether a `;` opens a comment before whether it closes one
comment-opens_first : rest_of_line 5 (4 ∷ []) (codes "b--;--c") ≡ record { text = []; unclosed = 5 ∷ 4 ∷ [] }
unfolding rest_of_line
comment-opens_first = refl

-- an end outside all block comments is a comment
comment-end_alone : rest_of_line 1 [] (codes "a--;b") ≡ record { text = codes "a--;b"; unclosed = [] }
unfolding rest_of_line
comment-end_alone = refl

-- parts stay parts, and the innermost of those open at the end is reported
lines-open : file_lines (239 ∷ 187 ∷ 191 ∷ codes "a;--" ++ 10 ∷ codes "b;--" ++ 10 ∷ codes "--;c" ++ 10 ∷ codes ";--d") ≡ record { texts = codes "a" ∷ [] ∷ [] ∷ [] ∷ []; open_comment = Some 4 }
unfolding file_lines rest_of_line
lines-open = refl

lines-closed : file_lines (codes "a ; b" ++ 10 ∷ []) ≡ record { texts = codes "a ; b" ∷ [] ∷ []; open_comment = None }
unfolding file_lines rest_of_line
lines-closed = refl
