-- The files of a run: its dialplan, its queues and second dialplan if they are named, and its script.
use Rattle.std.specs.Prelude.{ℕ, List, Option, Some, None, Result, Ok}
use Rattle.std.specs.Option.{option_map}
use Rattle.dp_conf.specs.Answers.{◌>>=◌}
use Rattle.dp_commands.specs.declared.fault.PbxFault.{PbxFault}
use Rattle.dp_program.specs.Files.{ByteSource, Reads}
use Rattle.dp_program.specs.declared.request.RunFiles.{RunFiles}
use Rattle.dp_program.specs.declared.texts.Texts.{Texts}

-- one item for each file of a run: its path, what is known of it, or its text
pub record OfRun (X : Type 0) : Type 0 where
  pub plan : X
  pub queues : Option X
  pub second_plan : Option X
  pub script : X

-- the paths that are named
abbrev pub paths_of : RunFiles → OfRun (List ℕ)
paths_of run = record {
  plan = run.plan.now;
  queues = option_map (λ path. path.now) run.queues;
  second_plan = option_map (λ path. path.now) run.second_plan;
  script = run.script.now;
}

-- what is known of the files at the paths
abbrev pub sources_of : (List ℕ → ByteSource) → OfRun (List ℕ) → OfRun ByteSource
sources_of files paths = record {
  plan = files paths.plan;
  queues = option_map files paths.queues;
  second_plan = option_map files paths.second_plan;
  script = files paths.script;
}

-- the texts of the files
abbrev pub texts_of : Texts → OfRun (List ℕ)
texts_of texts = record {
  plan = texts.plan.items;
  queues = option_map (λ text. text.items) texts.queues;
  second_plan = option_map (λ text. text.items) texts.second_plan;
  script = texts.script.items;
}

-- the result of reading an optional file
abbrev pub some_text : Option (Result (List ℕ) PbxFault) → Result (Option (List ℕ)) PbxFault
some_text None = Ok None
some_text (Some text) = text >>= λ text. Ok (Some text)

-- the texts, or the first fault: of the dialplan, the queues, the second dialplan and the script, in this order
abbrev pub all_texts : OfRun (Result (List ℕ) PbxFault) → Result (OfRun (List ℕ)) PbxFault
all_texts read =
    read.plan >>= λ plan. some_text read.queues >>= λ queues. some_text read.second_plan >>= λ second_plan. read.script >>= λ script.
    Ok (record { plan = plan; queues = queues; second_plan = second_plan; script = script })

-- a property of the result of reading an optional source
abbrev pub ReadsSome : Option ByteSource → (Option (Result (List ℕ) PbxFault) → Type 0) → Type 0
ReadsSome None P = P None
ReadsSome (Some source) P = Reads source (λ text. P (Some text))

-- a property of the results of reading each file of a run
abbrev pub ReadsTexts : OfRun ByteSource → (OfRun (Result (List ℕ) PbxFault) → Type 0) → Type 0
ReadsTexts sources P =
    Reads sources.plan (λ plan. ReadsSome sources.queues (λ queues. ReadsSome sources.second_plan (λ second_plan. Reads sources.script (λ script.
    P (record { plan = plan; queues = queues; second_plan = second_plan; script = script })))))
