-- The files of a dialplan and of its queues, if there are some.
use Rattle.std.specs.Prelude.{ℕ, List, Option, Some, None, Result}
use Rattle.std.specs.Option.{option_map}
use Rattle.dp_conf.specs.Answers.{◌>>=◌}
use Rattle.dp_commands.specs.Run.{LoadedFilesOf, files_of}
use Rattle.dp_commands.specs.declared.fault.PbxFault.{PbxFault}
use Rattle.dp_program.specs.Faulted.{PlaceOf, StandsIn, place_in_file, place_in_two, place_of_report, place_of_two, without_place}
use Rattle.dp_program.specs.Files.{Reads, ByteSource}
use Rattle.dp_program.specs.Texts.{ReadsSome, some_text}
use Rattle.dp_program.specs.declared.fault_places.Faulted.{Faulted}

-- the place of a fault, given the results of reading the dialplan and the queue file, if one is named
abbrev pub place_of_files : List ℕ → Option (List ℕ) → Result (List ℕ) PbxFault → Option (Result (List ℕ) PbxFault) → PbxFault → PlaceOf
place_of_files path None plan queues fault = place_of_report path plan fault
place_of_files path (Some queues_path) plan None fault = place_of_report path plan fault
place_of_files path (Some queues_path) plan (Some queues) fault = place_of_two path queues_path plan queues fault

-- the place of a fault in the texts of these files
abbrev pub place_over : List ℕ → Option (List ℕ) → List ℕ → Option (List ℕ) → PbxFault → PlaceOf
place_over path None plan queues fault = place_in_file path plan fault
place_over path (Some queues_path) plan None fault = place_in_file path plan fault
place_over path (Some queues_path) plan (Some queues) fault = place_in_two (path, plan) (queues_path, queues) fault

-- the contents of the files that were read, or the first fault
abbrev pub contents_in : Result (List ℕ) PbxFault → Option (Result (List ℕ) PbxFault) → Result LoadedFilesOf PbxFault
contents_in plan queues = plan >>= λ plan. some_text queues >>= λ queues. files_of plan queues

-- the result of a request, given what it does with the contents of the files at these paths, and the place of its fault
abbrev pub OnFiles : {X : Type 0} → (Result LoadedFilesOf PbxFault → Result X PbxFault → Type 0) → (List ℕ → ByteSource) → List ℕ → Option (List ℕ) → Result X Faulted → Type 0
OnFiles Holds files path queues_path answered =
    Reads (files path) (λ plan. ReadsSome (option_map files queues_path) (λ queues.
    Holds (contents_in plan queues) (without_place answered) × StandsIn (place_of_files path queues_path plan queues) answered))
