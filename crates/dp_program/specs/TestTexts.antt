-- The texts of test files, which are read one after another until one cannot be read.
use Rattle.std.specs.Prelude.{◌≡◌, ◌⊎◌, ℕ, List, [], ◌∷◌, Ok}
use Rattle.dp_conf.specs.Answers.{Refuses}
use Rattle.dp_commands.specs.Faults.{reason_of}
use Rattle.dp_program.specs.Files.{Reads, ByteSource}
use Rattle.dp_program.specs.declared.fault_places.Unread.{Unread}
use Rattle.dp_program.specs.declared.texts.TextWithPath.{TextWithPath}

-- the path and the text of a test file
pub record TestText : Type 0 where
  pub path : List ℕ
  pub text : List ℕ

abbrev pub text_at : List ℕ → List ℕ → TestText
text_at path text = record { path = path; text = text }

abbrev pub text_in : TextWithPath → TestText
text_in file = text_at file.path.now file.text.items

-- the file at a path may have this text
abbrev pub Gives : (List ℕ → ByteSource) → List ℕ → TestText → Type 0
Gives files path text = (text.path ≡ path) × Reads (files path) (λ read. read ≡ Ok text.text)

-- the files at these paths may have these texts
abbrev pub GiveAll : (List ℕ → ByteSource) → List (List ℕ) → List TestText → Type 0
GiveAll files [] [] = Unit {0}
GiveAll files [] (text ∷ texts) = ⊥
GiveAll files (path ∷ paths) [] = ⊥
GiveAll files (path ∷ paths) (text ∷ texts) = Gives files path text × GiveAll files paths texts

-- the file at a path may be the one that is not read
abbrev pub Fails : (List ℕ → ByteSource) → List ℕ → Unread → Type 0
Fails files path unread = (unread.path.now ≡ path) × Reads (files path) (λ read. Refuses (reason_of unread.fault) read)

-- one of the files at these paths may be the one that is not read, after those before it
abbrev pub FailsAmong : (List ℕ → ByteSource) → List (List ℕ) → Unread → Type 0
FailsAmong files [] unread = ⊥
FailsAmong files (path ∷ paths) unread =
    Fails files path unread ⊎ ((text : List ℕ) × Reads (files path) (λ read. read ≡ Ok text) × FailsAmong files paths unread)
