-- The differences between two dialplans that are read from files.
use Rattle.std.proofs.Common.{◌≡◌, ◌≢◌, ℕ, ◌-◌, ◌^◌, min, List, [], ◌∷◌, length, Option, Some, None, Result, Ok, Err, refl, sym, ap, ◌∙◌, subst, arith}
use Rattle.std.proofs.KnownBytes.{Appends-nil}
use Rattle.dp_conf.specs.Answers.{Answers, Refuses}
use Rattle.std.proofs.Math.Seq.{take-append_seam, take-length}
use Rattle.dp_conf.specs.Fronts.{AppendsFront}
use Rattle.dp_plan.specs.Plan.{PlanOf}
use Rattle.dp_commands.specs.Faults.{reason_of}
use Rattle.dp_commands.specs.declared.fault.Code.{Code}
use Rattle.dp_commands.specs.declared.fault.PbxFault.{PbxFault}
use Rattle.dp_commands.specs.declared.fault.PbxFault.TheVariants.{Coded, NoMemory}
use Rattle.dp_diff.specs.Differences.{Difference, differences}
use Rattle.dp_diff.specs.Printing.{text_of}
use Rattle.dp_program.specs.Diffs.{DiffsFiles, LoadsFrom, OnBoth, OnBothOf, WritesDiff, both_plans, first_place, place_of_diff, plan_in, plan_read, status_of}
use Rattle.dp_program.specs.Faulted.{PlaceOf, StandsIn, in_none, nowhere, place_in_file, place_of, place_of_report, place_unread, unread_fault, unread_place, without_place}
use Rattle.dp_program.specs.Files.{Reads, ByteSource}
use Rattle.dp_program.specs.declared.fault_places.Faulted.{Faulted}
use Rattle.dp_program.specs.declared.fault_places.Unread.{Unread}
use Rattle.dp_program.proofs.ReadsLemmas.{Reads-any, Reads-weaker, by_reason}

-- ---- out of memory

lacks_report_place : (path : List ℕ) (text : Result (List ℕ) PbxFault) → in_none ≡ place_of_report path text NoMemory
lacks_report_place path (Ok text) = refl
lacks_report_place path (Err fault) = refl

lacks_first : (plan : Result PlanOf PbxFault) (first second : PlaceOf) → in_none ≡ first → in_none ≡ second → in_none ≡ first_place plan first second
lacks_first (Ok plan) first second is are = are
lacks_first (Err fault) first second is are = is

lacks_place : (before_path after_path : List ℕ) (before after : Result (List ℕ) PbxFault) → in_none ≡ place_of_diff before_path after_path before after NoMemory
lacks_place before_path after_path before after =
    lacks_first (plan_read before) _ _ (lacks_report_place before_path before) (lacks_first (plan_read after) _ _ (lacks_report_place after_path after) refl)

-- nothing is a prefix of every text
pub nothing_written : (old : Option (List ℕ)) (bytes : List ℕ) → AppendsFront old old bytes
nothing_written None bytes = tt
nothing_written (Some xs) bytes = (take-length xs, take-append_seam xs bytes)

diff_lacks : (old : Option (List ℕ)) (plans : Result (PlanOf × PlanOf) PbxFault) → WritesDiff old old plans (Err NoMemory)
diff_lacks old (Ok plans) = nothing_written old (text_of (differences plans.0 plans.1))
diff_lacks old (Err fault) = Appends-nil old

-- memory may run out before anything was written
pub on_both_lacks : {X : Type 0} (Holds : Result (PlanOf × PlanOf) PbxFault → Result X PbxFault → Type 0) → ((given : Result (PlanOf × PlanOf) PbxFault) → Holds given (Err NoMemory))
    → (files : List ℕ → ByteSource) (before_path after_path : List ℕ) → OnBoth Holds files before_path after_path (Err (nowhere NoMemory))
on_both_lacks Holds lacks files before_path after_path =
    Reads-any (files before_path) _ (λ before. Reads-any (files after_path) _ (λ after. (
      lacks (both_plans (plan_read before) (plan_read after)),
      lacks_place before_path after_path before after,
    )))

pub diffs_lack : (files : List ℕ → ByteSource) (before_path after_path : List ℕ) (old : Option (List ℕ)) → DiffsFiles files before_path after_path old old (Err (nowhere NoMemory))
diffs_lack files before_path after_path old = on_both_lacks (WritesDiff old old) (diff_lacks old) files before_path after_path

-- ---- a dialplan that is loaded

-- if its file was not read
unread_loads : (path : List ℕ) (unread : Unread) → unread.path.now ≡ path → (fault : PbxFault) (text : Result (List ℕ) PbxFault) → Refuses (reason_of fault) text
    → Refuses (reason_of fault) (plan_read text) × (place_of (place_unread unread fault) ≡ place_of_report path text fault)
unread_loads path unread at =
    by_reason (λ fault text. Refuses (reason_of fault) (plan_read text) × (place_of (place_unread unread fault) ≡ place_of_report path text fault))
    (λ code line. (refl, ap (λ path. unread_place path (Coded code line)) at)) (λ text. (tt, lacks_report_place path text))

pub load_unread : (path : List ℕ) (source : ByteSource) (unread : Unread) → unread.path.now ≡ path → Reads source (λ text. Refuses (reason_of unread.fault) text)
    → Reads source (LoadsFrom path (Err (unread_fault unread)))
load_unread path source unread at reads =
    Reads-weaker (λ text. Refuses (reason_of unread.fault) text) (LoadsFrom path (Err (unread_fault unread)))
    (λ text refused. unread_loads path unread at unread.fault text refused) reads

-- if its file was read
pub load_read : (path : List ℕ) (source : ByteSource) (read given asked : List ℕ) → given ≡ read → asked ≡ read → (plan : Result PlanOf PbxFault) (loaded : Result PlanOf Faulted)
    → Reads source (λ text. text ≡ Ok read) → without_place loaded ≡ plan → StandsIn (place_in_file path asked) loaded → Answers (λ plan. plan) reason_of plan (plan_in given)
    → Reads source (LoadsFrom path loaded)
load_read path source read given asked given-is asked-is plan loaded reads same stands answers =
    Reads-weaker (λ text. text ≡ Ok read) (LoadsFrom path loaded)
    (λ text is. subst (LoadsFrom path loaded) (sym is) (
      subst (λ (text : List ℕ). Answers (λ plan. plan) reason_of (without_place loaded) (plan_in text)) given-is
          (subst (λ (plan : Result PlanOf PbxFault). Answers (λ plan. plan) reason_of plan (plan_in given)) (sym same) answers),
      subst (λ (text : List ℕ). StandsIn (place_in_file path text) loaded) asked-is stands,
    )) reads

-- ---- both dialplans

-- the result for two dialplans, which is that of a fault if one of them has it, or if memory runs out
module _ {X : Type 0} (Holds : Result (PlanOf × PlanOf) PbxFault → Result X PbxFault → Type 0)
    (lacks : (given : Result (PlanOf × PlanOf) PbxFault) → Holds given (Err NoMemory))
    (faults : (code : Code) (line : Option ℕ) → Holds (Err (Coded code line)) (Err (Coded code line))) where
  -- the first was not loaded
  refused_before : (before_path after_path : List ℕ) (place : PlaceOf) (after : Result (List ℕ) PbxFault) (fault : PbxFault) (before : Result (List ℕ) PbxFault)
      → Refuses (reason_of fault) (plan_read before) → place ≡ place_of_report before_path before fault
      → Holds (both_plans (plan_read before) (plan_read after)) (Err fault) × (place ≡ place_of_diff before_path after_path before after fault)
  refused_before before_path after_path place after (Coded code line) before refused stands = (
    subst (λ (plan : Result PlanOf PbxFault). Holds (both_plans plan (plan_read after)) (Err (Coded code line))) (sym refused) (faults code line),
    stands ∙ subst (λ (plan : Result PlanOf PbxFault). place_of_report before_path before (Coded code line) ≡ first_place plan (place_of_report before_path before (Coded code line)) (first_place (plan_read after) (place_of_report after_path after (Coded code line)) in_none)) (sym refused) refl,
  )
  refused_before before_path after_path place after NoMemory before refused stands = (
    lacks (both_plans (plan_read before) (plan_read after)),
    stands ∙ (sym (lacks_report_place before_path before) ∙ lacks_place before_path after_path before after),
  )

  pub both_refused_before : (files : List ℕ → ByteSource) (before_path after_path : List ℕ) (faulted : Faulted)
      → Reads (files before_path) (LoadsFrom before_path (Err faulted)) → OnBoth Holds files before_path after_path (Err faulted)
  both_refused_before files before_path after_path faulted reads =
      Reads-weaker (LoadsFrom before_path (Err faulted)) (λ before. Reads (files after_path) (OnBothOf Holds before_path after_path (Err faulted) before))
      (λ before is. Reads-any (files after_path) _ (λ after. refused_before before_path after_path (place_of faulted.place) after faulted.fault before is.0 is.1)) reads

  -- the second was not loaded
  refused_after : (after_path : List ℕ) (plan : PlanOf) (place : PlaceOf) (fault : PbxFault) (after : Result (List ℕ) PbxFault)
      → Refuses (reason_of fault) (plan_read after) → place ≡ place_of_report after_path after fault
      → Holds (both_plans (Ok plan) (plan_read after)) (Err fault) × (place ≡ first_place (plan_read after) (place_of_report after_path after fault) in_none)
  refused_after after_path plan place (Coded code line) after refused stands = (
    subst (λ (later : Result PlanOf PbxFault). Holds (both_plans (Ok plan) later) (Err (Coded code line))) (sym refused) (faults code line),
    stands ∙ subst (λ (later : Result PlanOf PbxFault). place_of_report after_path after (Coded code line) ≡ first_place later (place_of_report after_path after (Coded code line)) in_none) (sym refused) refl,
  )
  refused_after after_path plan place NoMemory after refused stands = (
    lacks (both_plans (Ok plan) (plan_read after)),
    stands ∙ (sym (lacks_report_place after_path after) ∙ lacks_first (plan_read after) _ _ (lacks_report_place after_path after) refl),
  )

  pub both_refused_after : (files : List ℕ → ByteSource) (before_path after_path : List ℕ) (plan : PlanOf) (faulted : Faulted)
      → Reads (files before_path) (LoadsFrom before_path (Ok plan)) → Reads (files after_path) (LoadsFrom after_path (Err faulted))
      → OnBoth Holds files before_path after_path (Err faulted)
  both_refused_after files before_path after_path plan faulted is reads =
      Reads-weaker (LoadsFrom before_path (Ok plan)) (λ before. Reads (files after_path) (OnBothOf Holds before_path after_path (Err faulted) before))
      (λ before loaded. Reads-weaker (LoadsFrom after_path (Err faulted)) (OnBothOf Holds before_path after_path (Err faulted) before)
      (λ after refused. subst (λ (first : Result PlanOf PbxFault). Holds (both_plans first (plan_read after)) (Err faulted.fault) × (place_of faulted.place ≡ first_place first (place_of_report before_path before faulted.fault) (first_place (plan_read after) (place_of_report after_path after faulted.fault) in_none))) (sym loaded.0)
      (refused_after after_path plan (place_of faulted.place) faulted.fault after refused.0 refused.1)) reads) is

-- both were loaded
pub both_read : {X : Type 0} (Holds : Result (PlanOf × PlanOf) PbxFault → Result X PbxFault → Type 0) (files : List ℕ → ByteSource) (before_path after_path : List ℕ) (plan later : PlanOf) (result : Result X PbxFault) (answered : Result X Faulted)
    → Reads (files before_path) (LoadsFrom before_path (Ok plan)) → Reads (files after_path) (LoadsFrom after_path (Ok later)) → without_place answered ≡ result
    → Holds (Ok (plan, later)) result → StandsIn (λ _. in_none) answered → OnBoth Holds files before_path after_path answered
both_read Holds files before_path after_path plan later result answered is are same holds stands =
    Reads-weaker (LoadsFrom before_path (Ok plan)) (λ before. Reads (files after_path) (OnBothOf Holds before_path after_path answered before))
    (λ before loaded. Reads-weaker (LoadsFrom after_path (Ok later)) (OnBothOf Holds before_path after_path answered before)
    (λ after read. subst (λ (first : Result PlanOf PbxFault). Holds (both_plans first (plan_read after)) (without_place answered) × StandsIn (λ fault. first_place first (place_of_report before_path before fault) (first_place (plan_read after) (place_of_report after_path after fault) in_none)) answered) (sym loaded.0)
    (subst (λ (second : Result PlanOf PbxFault). Holds (both_plans (Ok plan) second) (without_place answered) × StandsIn (λ fault. first_place second (place_of_report after_path after fault) in_none) answered) (sym read.0)
    (subst (λ result. Holds (Ok (plan, later)) result) (sym same) holds, stands))) are) is

-- the differences between them
diff_faults : (old : Option (List ℕ)) (code : Code) (line : Option ℕ) → WritesDiff old old (Err (Coded code line)) (Err (Coded code line))
diff_faults old code line = (Appends-nil old, refl)

pub diff_refused_before : (files : List ℕ → ByteSource) (before_path after_path : List ℕ) (old : Option (List ℕ)) (faulted : Faulted)
    → Reads (files before_path) (LoadsFrom before_path (Err faulted)) → DiffsFiles files before_path after_path old old (Err faulted)
diff_refused_before files before_path after_path old faulted reads = both_refused_before (WritesDiff old old) (diff_lacks old) (diff_faults old) files before_path after_path faulted reads

pub diff_refused_after : (files : List ℕ → ByteSource) (before_path after_path : List ℕ) (old : Option (List ℕ)) (plan : PlanOf) (faulted : Faulted)
    → Reads (files before_path) (LoadsFrom before_path (Ok plan)) → Reads (files after_path) (LoadsFrom after_path (Err faulted))
    → DiffsFiles files before_path after_path old old (Err faulted)
diff_refused_after files before_path after_path old plan faulted is reads = both_refused_after (WritesDiff old old) (diff_lacks old) (diff_faults old) files before_path after_path plan faulted is reads

-- ---- the status

pub status_none : (differences : List Difference) → min (length differences) (2 ^ 64 - 1) ≡ 0 → status_of differences ≡ 0
status_none [] is = refl
status_none (difference ∷ differences) is = absurd (omega (is, arith))

pub status_some : (differences : List Difference) → min (length differences) (2 ^ 64 - 1) ≢ 0 → status_of differences ≡ 1
status_some [] is = absurd (is refl)
status_some (difference ∷ differences) is = refl
