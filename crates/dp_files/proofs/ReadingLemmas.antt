-- Lines and names of files, one after another.
use Rattle.std.proofs.Common.{◌≡◌, ℕ, ◌+◌, ◌<◌, ◌≤◌, List, [], ◌∷◌, drop, length, get_or, fold, Option, refl, ap, sym, ◌∙◌, arith}
use Rattle.std.proofs.lemmas.List.{at_drop_more, at_drop_all}
use Rattle.dp_files.specs.Reading.{FilesReadSoFar, FileRequestOf, after_line, after_lines, is_open_at, after_name, after_names}
use Rattle.dp_files.specs.Sources.{Files}

-- one more line
pub after_lines_line : (include : FileRequestOf → FilesReadSoFar → FilesReadSoFar) (file : ℕ) (open_comment : Option ℕ) (at : ℕ) (texts : List (List ℕ)) (text : List ℕ) (read : FilesReadSoFar)
    → at < length texts → text ≡ get_or texts at text
    → after_lines include file open_comment (at + 1) (drop (at + 1) texts) (after_line include file (is_open_at (at + 1) open_comment) (at + 1) text read) ≡ after_lines include file open_comment at (drop at texts) read
after_lines_line include file open_comment at texts text read within is =
    ap (λ t. after_lines include file open_comment (at + 1) (drop (at + 1) texts) (after_line include file (is_open_at (at + 1) open_comment) (at + 1) t read)) is
    ∙ sym (at_drop_more (λ (left : List (List ℕ)). after_lines include file open_comment at left read) texts at text within)

-- no line is left
pub after_lines_over : (include : FileRequestOf → FilesReadSoFar → FilesReadSoFar) (file : ℕ) (open_comment : Option ℕ) (at : ℕ) (texts : List (List ℕ)) (read : FilesReadSoFar)
    → length texts ≤ at → after_lines include file open_comment at (drop at texts) read ≡ read
after_lines_over include file open_comment at texts read over = at_drop_all (λ (left : List (List ℕ)). after_lines include file open_comment at left read) texts at over

-- one more name
pub fold_name : (f : FilesReadSoFar → List ℕ → FilesReadSoFar) (read : FilesReadSoFar) (at : ℕ) (names : List (List ℕ)) (name : List ℕ)
    → at < length names → name ≡ get_or names at name → fold f (f read name) (drop (at + 1) names) ≡ fold f read (drop at names)
fold_name f read at names name within is =
    ap (λ n. fold f (f read n) (drop (at + 1) names)) is ∙ sym (at_drop_more (λ (left : List (List ℕ)). fold f read left) names at name within)

-- no name is left
pub fold_over : (f : FilesReadSoFar → List ℕ → FilesReadSoFar) (read : FilesReadSoFar) (at : ℕ) (names : List (List ℕ)) → length names ≤ at → fold f read (drop at names) ≡ read
fold_over f read at names over = at_drop_all (λ (left : List (List ℕ)). fold f read left) names at over

-- each of some names is read after another
pub after_names_some : (include : FileRequestOf → FilesReadSoFar → FilesReadSoFar) (files : Files) (request : FileRequestOf) (names : List (List ℕ)) (read : FilesReadSoFar)
    → 0 < length names → fold (after_name include files request) read names ≡ after_names include files request names read
after_names_some include files request [] read some = absurd (omega (arith, some))
after_names_some include files request (name ∷ names) read some = refl
