-- The output and result of the tests of files.
use Rattle.std.proofs.Common.{◌≡◌, ◌++◌, ◌∷◌, ℕ, List, [], Option, Result, Ok, Err, IfOk, inl, inr, refl, sym, ap, subst, append_assoc, ◌∙◌}
use Rattle.std.proofs.KnownBytes.{Appends-nil}
use Rattle.std.proofs.lemmas.List.{append-nil}
use Rattle.dp_conf.specs.Answers.{Refuses}
use Rattle.dp_commands.specs.Faults.{reason_of}
use Rattle.dp_commands.specs.declared.fault.PbxFault.{PbxFault}
use Rattle.dp_commands.specs.declared.fault.PbxFault.TheVariants.{NoMemory}
use Rattle.dp_program.specs.Faulted.{in_file, in_none, nowhere, place_of, place_unread, unread_fault}
use Rattle.dp_program.specs.Files.{ByteSource}
use Rattle.dp_program.specs.TestSuites.{AfterRead, LosesBy, MannerOf, MayReport, TestReportOf, TestsAfter, WritesMade, WritesReport, report_now}
use Rattle.dp_program.specs.TestTexts.{FailsAmong, GiveAll, TestText, text_at}
use Rattle.dp_program.specs.declared.fault_places.Faulted.{Faulted}
use Rattle.dp_program.specs.declared.fault_places.Unread.{Unread}
use Rattle.dp_program.specs.declared.hints.ServedRequest.{ServedRequest}
use Rattle.dp_program.specs.declared.test_reports.TestReport.{TestReport}
use Rattle.dp_program.proofs.ReadsLemmas.{by_reason, Reads-any, Reads-weaker}

-- what is written of a report that was made is written of a possible one
pub made_written : {E : Type 0} (MayBe : TestReportOf → Type 0) (made : Result TestReport E) (old new : Option (List ℕ)) (answered : Result ServedRequest Faulted)
    → IfOk made (λ report. MayBe (report_now report)) → WritesMade made old new answered → WritesReport MayBe old new answered
made_written MayBe (Ok report) old new (Ok served) may writes =
    record { report = report_now report; may_be = may; written = writes.0; status = writes.1; told = writes.2 }
made_written MayBe (Ok report) old new (Err faulted) may writes =
    subst (λ (faulted : Faulted). LosesBy MayBe old new faulted.fault × (place_of faulted.place ≡ in_none)) (sym writes.1)
    (record { report = report_now report; may_be = may; written = writes.0; code_is = refl; line_is = refl }, refl)
made_written MayBe (Err refused) old new (Ok served) may writes = elim writes [ ]
made_written MayBe (Err refused) old new (Err faulted) may writes =
    subst (λ (faulted : Faulted). LosesBy MayBe old new faulted.fault × (place_of faulted.place ≡ in_none)) (sym writes.1) (writes.0, refl)

-- memory may run out while a test file is read
lacks_after : (Follows : List ℕ → Type 0) (path : List ℕ) (old : Option (List ℕ)) → ((text : List ℕ) → Follows text)
    → (read : Result (List ℕ) PbxFault) → AfterRead Follows path old old (Err (nowhere NoMemory)) read
lacks_after Follows path old follows (Ok text) = follows text
lacks_after Follows path old follows (Err fault) = (Appends-nil old, tt, refl)

-- memory may run out before a report is written
pub tests_lack : (manner : MannerOf) (files : List ℕ → ByteSource) (texts : List TestText) (paths : List (List ℕ)) (old : Option (List ℕ))
    → TestsAfter manner files texts paths old old (Err (nowhere NoMemory))
tests_lack manner files texts [] old = (Appends-nil old, refl)
tests_lack manner files texts (path ∷ more) old =
    Reads-any (files path) _
    (lacks_after (λ text. TestsAfter manner files (texts ++ text_at path text ∷ []) more old old (Err (nowhere NoMemory))) path old
    (λ text. tests_lack manner files (texts ++ text_at path text ∷ []) more old))

-- the fault of a test file, given its place
abbrev fault_at : Unread → PbxFault → Faulted
fault_at unread fault = record { fault = fault; place = place_unread unread fault }

-- the fault of the first test file that is not read
refused_after : (Follows : PbxFault → List ℕ → Type 0) (path : List ℕ) (old : Option (List ℕ)) (unread : Unread) → unread.path.now ≡ path
    → ((text : List ℕ) → Follows NoMemory text) → (fault : PbxFault) (read : Result (List ℕ) PbxFault) → Refuses (reason_of fault) read
    → AfterRead (Follows fault) path old old (Err (fault_at unread fault)) read
refused_after Follows path old unread at follows =
    by_reason (λ fault read. AfterRead (Follows fault) path old old (Err (fault_at unread fault)) read)
    (λ code line. (Appends-nil old, refl, ap (λ path. in_file path) at)) (lacks_after (Follows NoMemory) path old follows)

pub tests_refused : (manner : MannerOf) (files : List ℕ → ByteSource) (texts : List TestText) (paths : List (List ℕ)) (old : Option (List ℕ)) (unread : Unread)
    → FailsAmong files paths unread → TestsAfter manner files texts paths old old (Err (unread_fault unread))
tests_refused manner files texts [] old unread fails = elim fails [ ]
tests_refused manner files texts (path ∷ more) old unread (inl fails) =
    Reads-weaker (λ read. Refuses (reason_of unread.fault) read) _
    (refused_after (λ fault text. TestsAfter manner files (texts ++ text_at path text ∷ []) more old old (Err (fault_at unread fault))) path old unread fails.0
    (λ text. tests_lack manner files (texts ++ text_at path text ∷ []) more old) unread.fault) fails.1
tests_refused manner files texts (path ∷ more) old unread (inr later) =
    Reads-weaker (λ read. read ≡ Ok later.0) _
    (λ read is. subst (λ read. AfterRead (λ text. TestsAfter manner files (texts ++ text_at path text ∷ []) more old old (Err (unread_fault unread))) path old old (Err (unread_fault unread)) read) (sym is)
    (tests_refused manner files (texts ++ text_at path later.0 ∷ []) more old unread later.2)) later.1

-- if all test files are read: the report is on their texts
pub tests_read : (manner : MannerOf) (files : List ℕ → ByteSource) (texts : List TestText) (paths : List (List ℕ)) (read : List TestText) (old new : Option (List ℕ))
    (answered : Result ServedRequest Faulted) → GiveAll files paths read → WritesReport (MayReport manner files (texts ++ read)) old new answered
    → TestsAfter manner files texts paths old new answered
tests_read manner files texts [] [] old new answered gives writes =
    subst (λ texts. WritesReport (MayReport manner files texts) old new answered) (append-nil texts) writes
tests_read manner files texts [] (text ∷ read) old new answered gives writes = elim gives [ ]
tests_read manner files texts (path ∷ more) [] old new answered gives writes = elim gives [ ]
tests_read manner files texts (path ∷ more) (text ∷ read) old new answered gives writes =
    let these : List TestText = texts ++ text_at path text.text ∷ [] in
    let same : texts ++ text ∷ read ≡ these ++ read =
    ap (λ (path : List ℕ). texts ++ text_at path text.text ∷ read) gives.0.0 ∙ sym (append_assoc texts (text_at path text.text ∷ []) read) in
    Reads-weaker (λ (result : Result (List ℕ) PbxFault). result ≡ Ok text.text) _
    (λ result is. subst (λ result. AfterRead (λ text. TestsAfter manner files (texts ++ text_at path text ∷ []) more old new answered) path old new answered result) (sym is)
    (tests_read manner files these more read old new answered gives.1
    (subst (λ texts. WritesReport (MayReport manner files texts) old new answered) same writes))) gives.0.1
