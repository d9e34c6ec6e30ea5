-- A dialplan that is refused for one use is refused for another.
use Rattle.std.proofs.Common.{◌≡◌, ℕ, Bool, true, false, List, Option, Result, Ok, Err, refl, ap}
use Rattle.std.proofs.KnownBytes.{Appends-nil}
use Rattle.dp_conf.specs.Answers.{Refuses, ◌>>=◌}
use Rattle.dp_plan.specs.Loaded.{plan_and_notes}
use Rattle.dp_plan.specs.declared.fault.LoadFault.{LoadFault}
use Rattle.dp_commands.specs.Audit.{WritesAudit, audit_of}
use Rattle.dp_commands.specs.Candidates.{match_all_of}
use Rattle.dp_commands.specs.Faults.{fault_of_load, reason_of}
use Rattle.dp_commands.specs.Report.{Reports, match_of}
use Rattle.dp_commands.specs.Run.{plan_fault}
use Rattle.dp_commands.specs.declared.fault.PbxFault.{PbxFault}
use Rattle.dp_commands.specs.declared.fault.PbxFault.TheVariants.{Coded, NoMemory}
use Rattle.dp_program.specs.Hints.{audit_hint_of, match_hint_of}
use Rattle.dp_program.specs.JsonAudits.{audit_json_of}
use Rattle.dp_program.specs.JsonMatches.{match_json_of}
use Rattle.dp_program.specs.Requests.{LookupOf}
use Rattle.dp_program.specs.Serves.{WritesChoiceBy, audit_by, look_up}
use Rattle.dp_program.proofs.ReadsLemmas.{by_reason}
use Rattle.dp_wide_runs.specs.Kinds.{ChoiceOf}
use Rattle.dp_wide_runs.specs.WideAudits.{plan_of}
use Rattle.dp_program.proofs.ServesLemmas.{audits_lacks, choices_fault, choices_lacks, reports_lacks}

-- if a dialplan is refused for one use it is refused for another, with the same fault
same_refused : {X Y Z : Type 0} (read : Result Z LoadFault) (next : Z → X) (other : Z → Y) (fault : PbxFault)
    → Refuses (reason_of fault) (plan_fault read >>= λ z. Ok (next z)) → Refuses (reason_of fault) (plan_fault read >>= λ z. Ok (other z))
same_refused (Ok z) next other (Coded code line) refused = absurd cc
same_refused (Ok z) next other NoMemory refused = tt
same_refused (Err load) next other (Coded code line) refused =
    let same : fault_of_load load ≡ Coded code line = cc in
    ap (λ (fault : PbxFault). Err fault) same
same_refused (Err load) next other NoMemory refused = tt

audit_refused_by : (is_json : Bool) (file plan : List ℕ) (fault : PbxFault) → Refuses (reason_of fault) (audit_hint_of file plan) → Refuses (reason_of fault) (audit_by is_json plan)
unfolding audit_of audit_json_of audit_hint_of
audit_refused_by true file plan fault refused = same_refused (plan_and_notes plan) _ _ fault refused
audit_refused_by false file plan fault refused = same_refused (plan_and_notes plan) _ _ fault refused

pub audit_hint_refused : (old : Option (List ℕ)) (is_json : Bool) (file plan : List ℕ) (fault : PbxFault) → Refuses (reason_of fault) (audit_hint_of file plan)
    → WritesAudit old old (audit_by is_json plan) (Err fault)
audit_hint_refused old is_json file plan fault refused =
    by_reason (λ fault given. WritesAudit old old given (Err fault)) (λ code line. (Appends-nil old, refl)) (audits_lacks old) fault (audit_by is_json plan)
    (audit_refused_by is_json file plan fault refused)

pub choice_hint_refused : (is_json : Bool) (choice : ChoiceOf) (old : Option (List ℕ)) (file plan : List ℕ) (fault : PbxFault)
    → Refuses (reason_of fault) (audit_hint_of file plan) → WritesChoiceBy is_json choice old old (plan_of plan) (Err fault)
unfolding plan_of audit_hint_of
choice_hint_refused is_json choice old file plan fault refused =
    by_reason (λ fault given. WritesChoiceBy is_json choice old old given (Err fault)) (choices_fault is_json choice old) (choices_lacks is_json choice old) fault
    (plan_of plan) (same_refused (plan_and_notes plan) _ _ fault refused)

look_up_refused_by : (is_json : Bool) (lookup : LookupOf) (all explains : Bool) (plan : List ℕ) (fault : PbxFault)
    → Refuses (reason_of fault) (match_hint_of lookup explains plan) → Refuses (reason_of fault) (look_up is_json lookup all plan)
unfolding match_of match_all_of match_json_of match_hint_of
look_up_refused_by true lookup all explains plan fault refused = same_refused (plan_and_notes plan) _ _ fault refused
look_up_refused_by false lookup false explains plan fault refused = same_refused (plan_and_notes plan) _ _ fault refused
look_up_refused_by false lookup true explains plan fault refused = same_refused (plan_and_notes plan) _ _ fault refused

pub match_hint_refused : (old : Option (List ℕ)) (is_json : Bool) (lookup : LookupOf) (all explains : Bool) (plan : List ℕ) (fault : PbxFault)
    → Refuses (reason_of fault) (match_hint_of lookup explains plan) → Reports old old (look_up is_json lookup all plan) (Err fault)
match_hint_refused old is_json lookup all explains plan fault refused =
    by_reason (λ fault given. Reports old old given (Err fault)) (λ code line. (Appends-nil old, refl)) (reports_lacks old) fault (look_up is_json lookup all plan)
    (look_up_refused_by is_json lookup all explains plan fault refused)
