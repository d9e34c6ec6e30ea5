-- Commands over dialplans that are read with the files that they include.
use Rattle.std.proofs.Common.{◌≡◌, ℕ, false, List, Option, Some, Result, Ok, Err, refl, sym, ap, subst, inl}
use Rattle.std.proofs.KnownBytes.{Appends-nil}
use Rattle.dp_conf.specs.Answers.{Refuses}
use Rattle.dp_commands.specs.Faults.{reason_of}
use Rattle.dp_commands.specs.declared.fault.PbxFault.{PbxFault}
use Rattle.dp_commands.specs.declared.fault.PbxFault.TheVariants.{NoMemory}
use Rattle.dp_files.specs.FolderFiles.{ReadsFolder, nothing_known}
use Rattle.dp_files.specs.Sources.{Telling}
use Rattle.dp_notices.specs.PlanFiles.{plan_of}
use Rattle.dp_program.specs.Dialplans.{DialplanRead, OnDialplan, PlanTextOf, ReadsDialplan, dialplan_read, faulty, loads, moment_in}
use Rattle.dp_program.specs.Faulted.{in_file, nowhere, place_unread, unread_fault}
use Rattle.dp_program.specs.Files.{Reads, ByteSource, source, whole_text}
use Rattle.dp_program.specs.Including.{MayTellOf}
use Rattle.dp_program.specs.declared.dialplans.PlanUse.{PlanUse}
use Rattle.dp_program.specs.declared.fault_places.Faulted.{Faulted}
use Rattle.dp_program.specs.declared.fault_places.Unread.{Unread}
use Rattle.dp_program.specs.declared.hints.ServedRequest.{ServedRequest}
use Rattle.dp_program.proofs.ReadsLemmas.{by_reason}

-- a generated text is read like the bytes of a file that does not fail
pub reads_made : (text : List ℕ) (P : Result (List ℕ) PbxFault → Type 0) → P (whole_text text) → Reads (source (Some text) false) P
reads_made text P holds = record { text = whole_text text; given = inl refl; holds = holds }

-- what holds of the result of reading holds of what the files give
pub dialplan_known : (purpose : PlanUse) (clock : Option (List ℕ)) (path : List ℕ) (may_tell : Telling → Type 0) (read : DialplanRead) (P : Result DialplanRead PbxFault → Type 0)
    → ReadsFolder may_tell (λ has. dialplan_read purpose clock (plan_of (moment_in clock) has path) ≡ Ok read) → P (Ok read)
    → ReadsFolder may_tell (λ has. P (dialplan_read purpose clock (plan_of (moment_in clock) has path)))
dialplan_known purpose clock path may_tell read P reads holds = (reads.0, reads.1, λ has agrees. subst P (sym (reads.2 has agrees)) holds)

module _ (Holds : PlanTextOf → Result ServedRequest Faulted → Type 0) (path : List ℕ) (old : Option (List ℕ)) (lacks : (plan : PlanTextOf) → Holds plan (Err (nowhere NoMemory))) where
  -- memory may run out before a command does anything
  on_dialplan_lacks : (read : Result DialplanRead PbxFault) → OnDialplan Holds path old old read (Err (nowhere NoMemory))
  on_dialplan_lacks (Ok (loads plan)) = lacks plan
  on_dialplan_lacks (Ok (faulty told)) = (Appends-nil old, refl)
  on_dialplan_lacks (Err fault) = (Appends-nil old, tt, refl)

  pub dialplan_lacks : (purpose : PlanUse) (clock : Option (List ℕ)) (files : List ℕ → ByteSource) → ReadsDialplan purpose clock files path Holds old old (Err (nowhere NoMemory))
  dialplan_lacks purpose clock files =
      (nothing_known, record { texts = λ name. tt; names = λ pattern. tt }, λ has agrees. on_dialplan_lacks (dialplan_read purpose clock (plan_of (moment_in clock) has path)))

  -- if the first file could not be read
  on_dialplan_refused : (unread : Unread) → unread.path.now ≡ path → (fault : PbxFault) (read : Result DialplanRead PbxFault) → Refuses (reason_of fault) read
      → OnDialplan Holds path old old read (Err (record { fault = fault; place = place_unread unread fault }))
  on_dialplan_refused unread at =
      by_reason (λ fault read. OnDialplan Holds path old old read (Err (record { fault = fault; place = place_unread unread fault })))
      (λ code line. (Appends-nil old, refl, ap (λ path. in_file path) at)) on_dialplan_lacks

  pub dialplan_refused : (purpose : PlanUse) (clock : Option (List ℕ)) (files : List ℕ → ByteSource) (unread : Unread) → unread.path.now ≡ path
      → ReadsFolder (MayTellOf files path) (λ has. Refuses (reason_of unread.fault) (dialplan_read purpose clock (plan_of (moment_in clock) has path)))
      → ReadsDialplan purpose clock files path Holds old old (Err (unread_fault unread))
  dialplan_refused purpose clock files unread at reads =
      (reads.0, reads.1, λ has agrees. on_dialplan_refused unread at unread.fault (dialplan_read purpose clock (plan_of (moment_in clock) has path)) (reads.2 has agrees))
