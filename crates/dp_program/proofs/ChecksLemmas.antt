-- The output of a check of a dialplan and of queues.
use Rattle.std.proofs.Common.{◌≡◌, ℕ, Bool, true, false, List, ◌++◌, Option, Some, None, Result, Ok, Err, refl, sym, ap, ◌∙◌, subst}
use Rattle.std.proofs.KnownBytes.{Appends-nil}
use Rattle.std.proofs.lemmas.List.{append_assoc}
use Rattle.std.specs.Io.KnownBytes.{Appends}
use Rattle.dp_conf.specs.Answers.{Refuses, ◌>>=◌}
use Rattle.dp_conf.specs.Fronts.{AppendsFront, IsFront}
use Rattle.dp_conf.proofs.ToldLemmas.{AppendsFront-more, IsFront-append, IsFront-trans}
use Rattle.dp_plan.specs.Loaded.{plan_and_notes}
use Rattle.dp_plan.specs.declared.fault.LoadFault.{LoadFault}
use Rattle.dp_commands.specs.Faults.{fault_of_load, reason_of}
use Rattle.dp_commands.specs.Report.{Reports, check_explained_of, check_of}
use Rattle.dp_commands.specs.Run.{plan_fault}
use Rattle.dp_commands.specs.declared.fault.Code.TheVariants.{WriteFailed}
use Rattle.dp_commands.specs.declared.fault.PbxFault.{PbxFault}
use Rattle.dp_commands.specs.declared.fault.PbxFault.TheVariants.{Coded, NoMemory}
use Rattle.dp_program.specs.Checks.{after_plan, both_report, check_by, queues_report, with_line}
use Rattle.dp_program.specs.JsonChecks.{check_json_of}
use Rattle.dp_program.proofs.ReadsLemmas.{Refuses-next, by_reason}
use Rattle.dp_program.proofs.ServesLemmas.{reports_lacks}

-- a write, then a write that fails
front_after : (old mid new : Option (List ℕ)) (first second : List ℕ) → Appends old mid first → AppendsFront mid new second → AppendsFront old new (first ++ second)
front_after None mid new first second wrote failed = tt
front_after (Some xs) None new first second wrote failed = absurd wrote
front_after (Some xs) (Some ys) None first second wrote failed = failed
front_after (Some xs) (Some ys) (Some zs) first second wrote failed =
    let P : List ℕ → Type 0 = λ t. IsFront xs t in
    let Q : List ℕ → Type 0 = λ t. IsFront zs t in (
      IsFront-trans xs ys zs (subst P (sym wrote) (IsFront-append xs first)) failed.0,
      subst Q (ap (λ (t : List ℕ). t ++ second) wrote ∙ append_assoc xs first second) failed.1,
    )

-- two writes, one after the other
appends_after : (old mid new : Option (List ℕ)) (first second : List ℕ) → Appends old mid first → Appends mid new second → Appends old new (first ++ second)
appends_after None mid new first second wrote more = tt
appends_after (Some xs) None new first second wrote more = absurd wrote
appends_after (Some xs) (Some ys) None first second wrote more = more
appends_after (Some xs) (Some ys) (Some zs) first second wrote more =
    more ∙ (ap (λ (t : List ℕ). t ++ second) wrote ∙ append_assoc xs first second)

-- if the report is refused
pub line_refused : (old new : Option (List ℕ)) (line : List ℕ) (given : Result (List ℕ) PbxFault) (fault : PbxFault) → Reports old new given (Err fault) → Reports old new (with_line line given) (Err fault)
line_refused old new line (Ok said) (Coded code at) reports = (AppendsFront-more old new said line reports.0, reports.1, reports.2)
line_refused old new line (Ok said) NoMemory reports = reports
line_refused old new line (Err first) (Coded code at) reports = reports
line_refused old new line (Err first) NoMemory reports = reports

-- if the line is written after the report
pub line_written : (old mid new : Option (List ℕ)) (line : List ℕ) (given : Result (List ℕ) PbxFault) (status : ℕ)
    → Reports old mid given (Ok status) → Appends mid new line → Reports old new (with_line line given) (Ok 0)
line_written old mid new line (Ok said) status reports wrote = (appends_after old mid new said line reports.0 wrote, refl)
line_written old mid new line (Err first) status reports wrote = absurd reports

-- if it is not
pub line_failed : (old mid new : Option (List ℕ)) (line : List ℕ) (given : Result (List ℕ) PbxFault) (status : ℕ)
    → Reports old mid given (Ok status) → AppendsFront mid new line → Reports old new (with_line line given) (Err (Coded WriteFailed None))
line_failed old mid new line (Ok said) status reports failed = (front_after old mid new said line reports.0 failed, refl, refl)
line_failed old mid new line (Err first) status reports failed = absurd reports

-- if the queues have a fault, and possibly the dialplan before them
both_by : {Z : Type 0} (read : Result Z LoadFault) (said : Z → List ℕ) (queues : Result (List ℕ) PbxFault) (fault : PbxFault)
    → Refuses (reason_of fault) (plan_fault read >>= λ z. queues)
    → Refuses (reason_of fault) ((plan_fault read >>= λ z. Ok (said z)) >>= λ text. queues >>= λ line. Ok (text ++ line))
both_by (Ok z) said queues fault refused = Refuses-next fault queues (λ line. Ok (said z ++ line)) refused
both_by (Err load) said queues (Coded code line) refused =
    let same : fault_of_load load ≡ Coded code line = cc in
    ap (λ (fault : PbxFault). Err fault) same
both_by (Err load) said queues NoMemory refused = tt

both_refused_by : (is_json explains : Bool) (path plan queues : List ℕ) (fault : PbxFault)
    → Refuses (reason_of fault) (after_plan plan (queues_report is_json queues)) → Refuses (reason_of fault) (both_report is_json explains path plan queues)
unfolding check_of check_explained_of check_json_of
both_refused_by true explains path plan queues fault refused = both_by (plan_and_notes plan) _ (queues_report true queues) fault refused
both_refused_by false true path plan queues fault refused = both_by (plan_and_notes plan) _ (queues_report false queues) fault refused
both_refused_by false false path plan queues fault refused = both_by (plan_and_notes plan) _ (queues_report false queues) fault refused

pub both_refused : (old : Option (List ℕ)) (is_json explains : Bool) (path plan queues : List ℕ) (fault : PbxFault)
    → Refuses (reason_of fault) (after_plan plan (queues_report is_json queues)) → Reports old old (both_report is_json explains path plan queues) (Err fault)
both_refused old is_json explains path plan queues fault refused =
    by_reason (λ fault given. Reports old old given (Err fault)) (λ code line. (Appends-nil old, refl)) (reports_lacks old) fault
    (both_report is_json explains path plan queues) (both_refused_by is_json explains path plan queues fault refused)

-- if the queues have no fault
pub both_written : (old new : Option (List ℕ)) (is_json explains : Bool) (path plan queues line : List ℕ) (result : Result ℕ PbxFault)
    → queues_report is_json queues ≡ Ok line → Reports old new (with_line line (check_by is_json explains path plan)) result
    → Reports old new (both_report is_json explains path plan queues) result
both_written old new is_json explains path plan queues line result is reports =
    subst (λ (given : Result (List ℕ) PbxFault). Reports old new (check_by is_json explains path plan >>= λ said. given >>= λ line. Ok (said ++ line)) result)
    (sym is) reports
