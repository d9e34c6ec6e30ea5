-- The output and result of a question about the calls that come in at a context, given the contents of its files or their first fault.
use Rattle.std.proofs.Common.{◌≡◌, ℕ, List, Option, None, Result, Ok, Err, refl, sym, subst}
use Rattle.std.specs.Io.KnownBytes.{Appends}
use Rattle.std.proofs.KnownBytes.{Appends-nil}
use Rattle.dp_conf.specs.Answers.{Refuses}
use Rattle.dp_conf.specs.Fronts.{AppendsFront}
use Rattle.dp_app.specs.Rows.{Meanings}
use Rattle.dp_commands.specs.Faults.{reason_of}
use Rattle.dp_commands.specs.Run.{LoadedFilesOf}
use Rattle.dp_commands.specs.declared.fault.Code.TheVariants.{WriteFailed}
use Rattle.dp_commands.specs.declared.fault.PbxFault.{PbxFault}
use Rattle.dp_commands.specs.declared.fault.PbxFault.TheVariants.{Coded}
use Rattle.dp_program.specs.Reaches.{IsAnswered, Reaches}
use Rattle.dp_program.specs.Requests.{OptionsOf, QuestionOf}
use Rattle.dp_program.specs.declared.hints.ServedRequest.{ServedRequest}
use Rattle.dp_program.proofs.ReadsLemmas.{by_reason}
use Rattle.dp_program.proofs.ServesLemmas.{reaches_lacks}

-- if a file has a fault
pub reaches_fault : (meanings : Meanings) (question : QuestionOf) (options : OptionsOf) (old : Option (List ℕ)) (fault : PbxFault) (given : Result LoadedFilesOf PbxFault)
    → Refuses (reason_of fault) given → Reaches meanings question options given old old (Err fault)
reaches_fault meanings question options old =
    by_reason (λ fault given. Reaches meanings question options given old old (Err fault)) (λ code line. (Appends-nil old, refl)) (reaches_lacks meanings question options old)

-- if a report is written, and if it is not
pub reaches_written : (meanings : Meanings) (question : QuestionOf) (options : OptionsOf) (old new : Option (List ℕ)) (given : Result LoadedFilesOf PbxFault) (files : LoadedFilesOf) (text : List ℕ) (served : ServedRequest)
    → given ≡ Ok files → IsAnswered meanings question options files text served.status served.hint.items → Appends old new text → Reaches meanings question options given old new (Ok served)
reaches_written meanings question options old new given files text served is answered written =
    subst (λ (given : Result LoadedFilesOf PbxFault). Reaches meanings question options given old new (Ok served)) (sym is) (record { text = text; answered = answered; written = written })

pub reaches_failed : (meanings : Meanings) (question : QuestionOf) (options : OptionsOf) (old new : Option (List ℕ)) (given : Result LoadedFilesOf PbxFault) (files : LoadedFilesOf) (text : List ℕ) (status : ℕ) (hint : List ℕ)
    → given ≡ Ok files → IsAnswered meanings question options files text status hint → AppendsFront old new text → Reaches meanings question options given old new (Err (Coded WriteFailed None))
reaches_failed meanings question options old new given files text status hint is answered written =
    subst (λ (given : Result LoadedFilesOf PbxFault). Reaches meanings question options given old new (Err (Coded WriteFailed None))) (sym is)
    (record { text = text; status = status; hint = hint; answered = answered; written = written }, refl, refl)
