-- Queues that are read with the files that they include.
use Rattle.std.specs.Prelude.{ℕ, List, [], Option, Some, None, Result, Ok, Err}
use Rattle.std.specs.Option.{option_map}
use Rattle.dp_commands.specs.declared.fault.PbxFault.{PbxFault}
use Rattle.dp_files.specs.DialplanText.{text_of}
use Rattle.dp_files.specs.FolderFiles.{ReadsFolder}
use Rattle.dp_files.specs.declared.reading.ReadingFault.{ReadingFault}
use Rattle.dp_notices.specs.QueueFiles.{QueueFilesOf, queue_notices_text, queues_of}
use Rattle.dp_notices.specs.declared.printing.Shown.TheVariants.{All}
use Rattle.dp_program.specs.Dialplans.{FailsToRead, TellsFaults, with_text}
use Rattle.dp_program.specs.Files.{ByteSource}
use Rattle.dp_program.specs.Including.{MayTellOf, reading_fault}
use Rattle.dp_program.specs.declared.fault_places.Faulted.{Faulted}
use Rattle.dp_program.specs.declared.hints.ServedRequest.{ServedRequest}
use Rattle.dp_program.specs.declared.queue_texts.ReadQueues.{ReadQueues}
use Rattle.dp_program.specs.declared.queue_texts.ReadQueues.TheVariants.{Given, Unread}

-- the text of the queues, if there are some, or the lines about what is wrong with them
pub data QueuesRead : Type 0 where
  given : Option (List ℕ) → QueuesRead
  unread : List ℕ → QueuesRead

-- the queues of files that were read, or the lines of the notices on them: each notice says that the exchange may do something else
abbrev pub given_unless : List ℕ → List ℕ → QueuesRead
given_unless [] text = given (Some text)
given_unless lines text = unread lines

abbrev pub queues_or_notices : QueueFilesOf → QueuesRead
queues_or_notices queues = given_unless (queue_notices_text All queues) (text_of queues.made)

-- the same, or why nothing was read
abbrev pub queues_read : Result QueueFilesOf ReadingFault → Result QueuesRead PbxFault
queues_read (Ok queues) = Ok (queues_or_notices queues)
queues_read (Err fault) = Err (reading_fault fault)

-- the result of a call
abbrev pub queues_now : ReadQueues → QueuesRead
queues_now (Given queues) = given (option_map (λ text. text.items) queues)
queues_now (Unread line) = unread line.items

-- the output and result of a command, given what it does with files in which the one at a path has the text of the queues
abbrev pub OnQueues : (List ℕ → ByteSource) → List ℕ → ((List ℕ → ByteSource) → Result ServedRequest Faulted → Type 0) → Option (List ℕ) → Option (List ℕ) → Result QueuesRead PbxFault → Result ServedRequest Faulted → Type 0
OnQueues files path Holds old new (Ok (given None)) answered = Holds files answered
OnQueues files path Holds old new (Ok (given (Some text))) answered = Holds (with_text files path text) answered
OnQueues files path Holds old new (Ok (unread told)) answered = TellsFaults told old new answered
OnQueues files path Holds old new (Err fault) answered = FailsToRead path fault old new answered

-- the same over the queues at a path and the files that they include: for all files that are as they were read
abbrev pub ReadsQueues : (List ℕ → ByteSource) → List ℕ → ((List ℕ → ByteSource) → Result ServedRequest Faulted → Type 0) → Option (List ℕ) → Option (List ℕ) → Result ServedRequest Faulted → Type 0
ReadsQueues files path Holds old new answered =
    ReadsFolder (MayTellOf files path) (λ has. OnQueues files path Holds old new (queues_read (queues_of has path)) answered)
