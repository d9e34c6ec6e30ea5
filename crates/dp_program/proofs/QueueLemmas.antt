-- Commands over queues that are read with the files that they include.
use Rattle.std.proofs.Common.{◌≡◌, ℕ, List, Option, Some, None, Result, Ok, Err, refl, ap, subst, sym}
use Rattle.std.proofs.KnownBytes.{Appends-nil}
use Rattle.dp_conf.specs.Answers.{Refuses}
use Rattle.dp_commands.specs.Faults.{reason_of}
use Rattle.dp_commands.specs.declared.fault.PbxFault.{PbxFault}
use Rattle.dp_commands.specs.declared.fault.PbxFault.TheVariants.{NoMemory}
use Rattle.dp_files.specs.FolderFiles.{ReadsFolder, nothing_known}
use Rattle.dp_files.specs.Sources.{Telling}
use Rattle.dp_notices.specs.QueueFiles.{queues_of}
use Rattle.dp_program.specs.Dialplans.{with_text}
use Rattle.dp_program.specs.Faulted.{in_file, nowhere, place_unread, unread_fault}
use Rattle.dp_program.specs.Files.{ByteSource}
use Rattle.dp_program.specs.Including.{MayTellOf}
use Rattle.dp_program.specs.QueueTexts.{OnQueues, QueuesRead, ReadsQueues, given, queues_read, unread as unread_lines}
use Rattle.dp_program.specs.declared.fault_places.Faulted.{Faulted}
use Rattle.dp_program.specs.declared.fault_places.Unread.{Unread}
use Rattle.dp_program.specs.declared.hints.ServedRequest.{ServedRequest}
use Rattle.dp_program.proofs.ReadsLemmas.{by_reason}

-- what holds of the result of reading holds of what the files give
pub queues_known : (path : List ℕ) (may_tell : Telling → Type 0) (read : QueuesRead) (P : Result QueuesRead PbxFault → Type 0)
    → ReadsFolder may_tell (λ has. queues_read (queues_of has path) ≡ Ok read) → P (Ok read) → ReadsFolder may_tell (λ has. P (queues_read (queues_of has path)))
queues_known path may_tell read P reads holds = (reads.0, reads.1, λ has agrees. subst P (sym (reads.2 has agrees)) holds)

module _ (files : List ℕ → ByteSource) (path : List ℕ) (Holds : (List ℕ → ByteSource) → Result ServedRequest Faulted → Type 0) (old : Option (List ℕ))
    (lacks : (files : List ℕ → ByteSource) → Holds files (Err (nowhere NoMemory))) where
  -- memory may run out before a command does anything
  on_queues_lack : (read : Result QueuesRead PbxFault) → OnQueues files path Holds old old read (Err (nowhere NoMemory))
  on_queues_lack (Ok (given None)) = lacks files
  on_queues_lack (Ok (given (Some text))) = lacks (with_text files path text)
  on_queues_lack (Ok (unread_lines told)) = (Appends-nil old, refl)
  on_queues_lack (Err fault) = (Appends-nil old, tt, refl)

  pub queues_lack : ReadsQueues files path Holds old old (Err (nowhere NoMemory))
  queues_lack =
      (nothing_known, record { texts = λ name. tt; names = λ pattern. tt }, λ has agrees. on_queues_lack (queues_read (queues_of has path)))

  -- if the first file could not be read
  on_queues_refused : (unread : Unread) → unread.path.now ≡ path → (fault : PbxFault) (read : Result QueuesRead PbxFault) → Refuses (reason_of fault) read
      → OnQueues files path Holds old old read (Err (record { fault = fault; place = place_unread unread fault }))
  on_queues_refused unread at =
      by_reason (λ fault read. OnQueues files path Holds old old read (Err (record { fault = fault; place = place_unread unread fault })))
      (λ code line. (Appends-nil old, refl, ap (λ path. in_file path) at)) on_queues_lack

  pub queues_refused : (unread : Unread) → unread.path.now ≡ path
      → ReadsFolder (MayTellOf files path) (λ has. Refuses (reason_of unread.fault) (queues_read (queues_of has path)))
      → ReadsQueues files path Holds old old (Err (unread_fault unread))
  queues_refused unread at reads =
      (reads.0, reads.1, λ has agrees. on_queues_refused unread at unread.fault (queues_read (queues_of has path)) (reads.2 has agrees))
