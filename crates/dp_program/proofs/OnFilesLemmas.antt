-- Requests on a dialplan and its queues, given the results of reading their files.
use Rattle.std.proofs.Common.{◌≡◌, ℕ, List, [], Option, Some, None, Result, Ok, Err, unwrap_or, refl, sym, ap, ◌∙◌, subst}
use Rattle.std.specs.Option.{option_map}
use Rattle.dp_conf.specs.Answers.{Refuses, ◌>>=◌}
use Rattle.dp_commands.specs.Faults.{reason_of}
use Rattle.dp_commands.specs.Run.{LoadedFilesOf, files_of}
use Rattle.dp_commands.specs.declared.fault.PbxFault.{PbxFault}
use Rattle.dp_commands.specs.declared.fault.PbxFault.TheVariants.{Coded, NoMemory}
use Rattle.dp_program.specs.Faulted.{StandsIn, unread_fault, unread_place, without_place}
use Rattle.dp_program.specs.Files.{Reads, ByteSource}
use Rattle.dp_program.specs.PlanAndQueues.{OnFiles, contents_in, place_of_files, place_over}
use Rattle.dp_program.specs.Texts.{ReadsSome, some_text}
use Rattle.dp_program.specs.declared.fault_places.Faulted.{Faulted}
use Rattle.dp_program.specs.declared.fault_places.Unread.{Unread}
use Rattle.dp_program.proofs.ReadsLemmas.{Reads-weaker, ReadsSome-any, Refuses-next}
use Rattle.dp_program.proofs.ServesLemmas.{lacks_files_place, refused_first_place, refused_report_place, refused_second_place, unread_stands}

-- the dialplan is refused
refused_plan_place : (path : List ℕ) (named : Option (List ℕ)) (queues : Option (Result (List ℕ) PbxFault)) (fault : PbxFault) (plan : Result (List ℕ) PbxFault)
    → Refuses (reason_of fault) plan → unread_place path fault ≡ place_of_files path named plan queues fault
refused_plan_place path None queues = refused_report_place path
refused_plan_place path (Some queues_path) None = refused_report_place path
refused_plan_place path (Some queues_path) (Some queues) = refused_first_place path queues_path queues

-- a refusal of queues
only_memory : (fault : PbxFault) → Refuses (reason_of fault) (some_text None) → fault ≡ NoMemory
only_memory (Coded code line) refused = absurd cc
only_memory NoMemory refused = refl

some_refused : (fault : PbxFault) (text : Result (List ℕ) PbxFault) → Refuses (reason_of fault) (some_text (Some text)) → Refuses (reason_of fault) text
some_refused (Coded code line) (Ok text) refused = absurd cc
some_refused (Coded code line) (Err first) refused = let same : first ≡ Coded code line = cc in ap (λ (fault : PbxFault). Err fault) same
some_refused NoMemory text refused = tt

-- queues that were read
some_read : (text : Result (List ℕ) PbxFault) (held : Option (List ℕ)) → some_text (Some text) ≡ Ok held → (t : List ℕ) × (text ≡ Ok t) × (held ≡ Some t)
some_read (Ok t) held is = (t, refl, (let same : held ≡ Some t = cc in same))
some_read (Err fault) held is = absurd cc

module _ {X : Type 0} (Holds : Result LoadedFilesOf PbxFault → Result X PbxFault → Type 0) where
  -- the output and result, given the results of reading the files
  abbrev OnRead : List ℕ → Option (List ℕ) → Result X Faulted → Result (List ℕ) PbxFault → Option (Result (List ℕ) PbxFault) → Type 0
  OnRead path named answered plan queues =
      Holds (contents_in plan queues) (without_place answered) × StandsIn (place_of_files path named plan queues) answered

  -- if the dialplan is refused
  pub files_refused_plan : ((fault : PbxFault) (given : Result LoadedFilesOf PbxFault) → Refuses (reason_of fault) given → Holds given (Err fault))
      → (files : List ℕ → ByteSource) (path : List ℕ) (named : Option (List ℕ)) (unread : Unread) → unread.path.now ≡ path
      → Reads (files path) (λ text. Refuses (reason_of unread.fault) text) → OnFiles Holds files path named (Err (unread_fault unread))
  files_refused_plan refuses files path named unread at reads =
      Reads-weaker (λ text. Refuses (reason_of unread.fault) text)
      (λ plan. ReadsSome (option_map files named) (OnRead path named (Err (unread_fault unread)) plan))
      (λ plan refused. ReadsSome-any (option_map files named) (OnRead path named (Err (unread_fault unread)) plan) (λ queues. (
        refuses unread.fault _ (Refuses-next unread.fault plan (λ plan. some_text queues >>= λ queues. files_of plan queues) refused),
        unread_stands unread unread.fault ∙ (ap (λ path. unread_place path unread.fault) at ∙ refused_plan_place path named queues unread.fault plan refused),
      ))) reads

  -- if the queues are refused, after the dialplan was read
  refused_queues : ((fault : PbxFault) (given : Result LoadedFilesOf PbxFault) → Refuses (reason_of fault) given → Holds given (Err fault))
      → (files : List ℕ → ByteSource) (path read : List ℕ) (unread : Unread) (named : Option (List ℕ)) → unread.path.now ≡ unwrap_or named []
      → ReadsSome (option_map files named) (λ text. Refuses (reason_of unread.fault) (some_text text))
      → ReadsSome (option_map files named) (OnRead path named (Err (unread_fault unread)) (Ok read))
  refused_queues refuses files path read unread None at refused =
      let lacks : unread.fault ≡ NoMemory = only_memory unread.fault refused in (
        refuses unread.fault (files_of read None) (subst (λ (fault : PbxFault). Refuses (reason_of fault) (files_of read None)) (sym lacks) tt),
        unread_stands unread unread.fault
            ∙ subst (λ (fault : PbxFault). unread_place unread.path.now fault ≡ place_of_files path None (Ok read) None fault) (sym lacks) (lacks_files_place path None (Ok read) None),
      )
  refused_queues refuses files path read unread (Some queues_path) at reads =
      Reads-weaker (λ text. Refuses (reason_of unread.fault) (some_text (Some text)))
      (λ text. OnRead path (Some queues_path) (Err (unread_fault unread)) (Ok read) (Some text))
      (λ text refused. (
        refuses unread.fault _ (Refuses-next unread.fault (some_text (Some text)) (λ queues. files_of read queues) refused),
        unread_stands unread unread.fault
            ∙ (ap (λ path. unread_place path unread.fault) at ∙ refused_second_place path queues_path read unread.fault text (some_refused unread.fault text refused)),
      )) reads

  pub files_refused_queues : ((fault : PbxFault) (given : Result LoadedFilesOf PbxFault) → Refuses (reason_of fault) given → Holds given (Err fault))
      → (files : List ℕ → ByteSource) (path read : List ℕ) (named : Option (List ℕ)) (unread : Unread) → unread.path.now ≡ unwrap_or named []
      → Reads (files path) (λ text. text ≡ Ok read) → ReadsSome (option_map files named) (λ text. Refuses (reason_of unread.fault) (some_text text))
      → OnFiles Holds files path named (Err (unread_fault unread))
  files_refused_queues refuses files path read named unread at is reads =
      Reads-weaker (λ text. text ≡ Ok read)
      (λ plan. ReadsSome (option_map files named) (OnRead path named (Err (unread_fault unread)) plan))
      (λ plan plan_is. subst (λ plan. ReadsSome (option_map files named) (OnRead path named (Err (unread_fault unread)) plan)) (sym plan_is)
      (refused_queues refuses files path read unread named at reads)) is

  -- if both are read
  read_queues : (files : List ℕ → ByteSource) (path read : List ℕ) (held : Option (List ℕ)) (answered : Result X Faulted) (named : Option (List ℕ))
      → Holds (files_of read held) (without_place answered) → StandsIn (place_over path named read held) answered
      → ReadsSome (option_map files named) (λ text. some_text text ≡ Ok held)
      → ReadsSome (option_map files named) (OnRead path named answered (Ok read))
  read_queues files path read held answered None holds stands is =
      let none : held ≡ None = cc in
      (subst (λ (held : Option (List ℕ)). Holds (files_of read held) (without_place answered)) none holds, stands)
  read_queues files path read held answered (Some queues_path) holds stands reads =
      Reads-weaker (λ text. some_text (Some text) ≡ Ok held) (λ text. OnRead path (Some queues_path) answered (Ok read) (Some text))
      (λ text is.
      let t = some_read text held is in
      subst (λ (text : Result (List ℕ) PbxFault). OnRead path (Some queues_path) answered (Ok read) (Some text)) (sym t.1) (
        subst (λ (held : Option (List ℕ)). Holds (files_of read held) (without_place answered)) t.2 holds,
        subst (λ (held : Option (List ℕ)). StandsIn (place_over path (Some queues_path) read held) answered) t.2 stands,
      )) reads

  pub files_read : (files : List ℕ → ByteSource) (path read : List ℕ) (named held : Option (List ℕ)) (result : Result X PbxFault) (answered : Result X Faulted)
      → Reads (files path) (λ text. text ≡ Ok read) → ReadsSome (option_map files named) (λ text. some_text text ≡ Ok held)
      → without_place answered ≡ result → Holds (files_of read held) result → StandsIn (place_over path named read held) answered
      → OnFiles Holds files path named answered
  files_read files path read named held result answered is reads same holds stands =
      Reads-weaker (λ text. text ≡ Ok read)
      (λ plan. ReadsSome (option_map files named) (OnRead path named answered plan))
      (λ plan plan_is. subst (λ plan. ReadsSome (option_map files named) (OnRead path named answered plan)) (sym plan_is)
      (read_queues files path read held answered named (subst (λ result. Holds (files_of read held) result) (sym same) holds) stands reads)) is
