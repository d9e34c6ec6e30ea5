-- What a script, the head of a test file or the word of `--assume` assumes of lines that are left out of a dialplan although calls may depend
-- on them.
use Rattle.std.specs.Prelude.{ℕ, Bool, ◌==◌, List, [], ◌∷◌, Option, Some, None, Result, Ok, Err, codes, if◌then◌else◌}
use Rattle.std.specs.List.{flat_map, fold, list_any, slice_split}
use Rattle.dp_commands.specs.Script.{words_of}
use Rattle.dp_commands.specs.declared.fault.PbxFault.{PbxFault}
use Rattle.dp_conf.specs.Lines.{parts_of}
use Rattle.dp_conf.specs.Words.{same_text, same_word}
use Rattle.dp_notices.specs.Printing.{no_assumptions, with_assumed}
use Rattle.dp_notices.specs.declared.printing.Assumptions.{Assumptions}
use Rattle.dp_program.specs.Requests.{OptionsOf}
use Rattle.dp_program.specs.declared.dialplans.PlanUse.{PlanUse}
use Rattle.dp_program.specs.declared.dialplans.PlanUse.TheVariants.{LookUp}
use Rattle.dp_tests.specs.declared.file.HeadLine.{HeadLine}
use Rattle.dp_tests.specs.declared.file.TestFile.{TestFile}

-- the names of notes in a line of a script, given its words: those behind the word `assume`
abbrev pub names_by : List (List ℕ) → List (List ℕ)
names_by [] = []
names_by (word ∷ names) = if same_text word (codes "assume") then names else []

abbrev pub names_in : List ℕ → List (List ℕ)
names_in line = names_by (words_of line)

-- what the lines of a script assume: that the lines which get the notes with these names have no effect
abbrev pub assumed_by : List (List ℕ) → Assumptions
assumed_by lines = fold with_assumed no_assumptions (flat_map names_in lines)

-- what a script assumes
unfoldable pub script_assumptions : List ℕ → Assumptions
script_assumptions text = assumed_by (parts_of text)

-- the same, given the result of reading the script: one that cannot be read assumes nothing
abbrev pub text_assumptions : Result (List ℕ) PbxFault → Assumptions
text_assumptions (Ok text) = script_assumptions text
text_assumptions (Err fault) = no_assumptions

-- what the `assume` line in the head of a test file assumes
abbrev pub head_assumptions : HeadLine → Assumptions
head_assumptions head = fold with_assumed no_assumptions (words_of head.text)

-- what the head of a test file assumes, given this line
abbrev pub assumptions_of : Option HeadLine → Assumptions
assumptions_of None = no_assumptions
assumptions_of (Some head) = head_assumptions head

abbrev pub test_assumptions : TestFile → Assumptions
test_assumptions file = assumptions_of file.assume

-- whether one of the names in a word, which commas separate, is this name
abbrev pub has_name : List ℕ → List ℕ → Bool
has_name word name = list_any (λ part. same_word part name) (slice_split (λ byte. byte == 44) word)

-- what the word of `--assume` assumes, if there is one
abbrev pub word_assumptions : List ℕ → Assumptions
word_assumptions word = record {
  exec = has_name word (codes "Exec");
  switch = has_name word (codes "Switch");
  auto_fall_through = has_name word (codes "AutoFallThrough");
  caller_id = has_name word (codes "CallerId");
}

abbrev pub option_assumptions : Option (List ℕ) → Assumptions
option_assumptions None = no_assumptions
option_assumptions (Some word) = word_assumptions word

-- what a dialplan is read for if an entry is looked up in it
abbrev pub look_up_use : OptionsOf → PlanUse
look_up_use options = LookUp (option_assumptions options.assumed)
