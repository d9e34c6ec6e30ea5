-- Pictures of dialplans.
use Rattle.std.proofs.Common.{◌≡◌, ℕ, Bool, List, Option, Result, Ok, Err, refl, sym, subst, inl, inr}
use Rattle.std.proofs.KnownBytes.{Appends-nil}
use Rattle.dp_conf.specs.Answers.{Refuses}
use Rattle.dp_app.specs.Rows.{Meanings}
use Rattle.dp_commands.specs.Faults.{reason_of}
use Rattle.dp_commands.specs.Run.{LoadedFilesOf}
use Rattle.dp_commands.specs.declared.fault.PbxFault.{PbxFault}
use Rattle.dp_commands.specs.declared.fault.PbxFault.TheVariants.{Coded, NoMemory}
use Rattle.dp_plan.specs.declared.entry.EntryId.{EntryId}
use Rattle.dp_program.specs.Graphs.{Draws, IsFilled, WritesText, graph_text}
use Rattle.dp_program.specs.Requests.{DrawingOf}
use Rattle.dp_program.specs.declared.hints.ServedRequest.{ServedRequest}
use Rattle.dp_program.proofs.ReadsLemmas.{by_reason}
use Rattle.dp_program.proofs.ServesLemmas.{draws_lack}

-- if a file has a fault
pub graph_fault : (meanings : Meanings) (drawing : DrawingOf) (explains : Bool) (old : Option (List ℕ)) (fault : PbxFault) (given : Result LoadedFilesOf PbxFault)
    → Refuses (reason_of fault) given → Draws meanings drawing explains given old old (Err fault)
graph_fault meanings drawing explains old =
    by_reason (λ fault given. Draws meanings drawing explains given old old (Err fault)) (λ code line. (Appends-nil old, refl)) (draws_lack meanings drawing explains old)

-- if the files have none
pub graph_drawn : (meanings : Meanings) (drawing : DrawingOf) (explains : Bool) (old new : Option (List ℕ)) (given : Result LoadedFilesOf PbxFault) (files : LoadedFilesOf) (result : Result ServedRequest PbxFault)
    → given ≡ Ok files → Draws meanings drawing explains (Ok files) old new result → Draws meanings drawing explains given old new result
graph_drawn meanings drawing explains old new given files result is draws =
    subst (λ (given : Result LoadedFilesOf PbxFault). Draws meanings drawing explains given old new result) (sym is) draws

-- memory runs out before anything is written
pub draws_nothing : (meanings : Meanings) (drawing : DrawingOf) (explains : Bool) (old : Option (List ℕ)) (files : LoadedFilesOf) → Draws meanings drawing explains (Ok files) old old (Err NoMemory)
draws_nothing meanings drawing explains old files = inl (Appends-nil old)

-- a write fails, or memory runs out after a part is written
pub draws_front : (meanings : Meanings) (drawing : DrawingOf) (explains : Bool) (old new : Option (List ℕ)) (files : LoadedFilesOf) (filled : Option (List EntryId)) (fault : PbxFault)
    → IsFilled meanings files drawing.facts drawing.from filled → WritesText old new (graph_text files filled) (Err fault) → Draws meanings drawing explains (Ok files) old new (Err fault)
draws_front meanings drawing explains old new files filled (Coded code line) right writes = (record { filled = filled; right = right; written = writes.0 }, writes.1, writes.2)
draws_front meanings drawing explains old new files filled NoMemory right writes = inr (record { filled = filled; right = right; written = writes })
