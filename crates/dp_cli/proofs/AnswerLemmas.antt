-- The program's answer to words that are refused.
use Rattle.std.proofs.Common.{◌≡◌, ◌⊎◌, ◌||◌, ℕ, Bool, true, false, List, [], ◌∷◌, All, Option, Result, Ok, Err, IfErr, inl, inr, refl, ap, subst, sym, ◌∙◌, arith}
use Rattle.std.proofs.lemmas.List.Elements.{All-head, All-tail}
use Rattle.clap.specs.Kinds.{IsAmong, Kinds}
use Rattle.clap.specs.declared.error.kind.ErrorKind.{ErrorKind}
use Rattle.clap.specs.declared.error.kind.ErrorKind.TheVariants.{OutOfMemory}
use Rattle.std.specs.Io.KnownBytes.{Appends}
use Rattle.dp_commands.specs.Codes.{fault_line}
use Rattle.dp_commands.specs.Faults.{is_write_failed}
use Rattle.dp_commands.specs.declared.fault.PbxFault.{PbxFault}
use Rattle.dp_commands.specs.declared.fault.PbxFault.TheVariants.{NoMemory}
use Rattle.dp_program.specs.Faulted.{nowhere}
use Rattle.dp_program.specs.Files.{ByteSource}
use Rattle.dp_program.specs.Requests.{OptionsOf, RequestOf}
use Rattle.dp_program.specs.Serves.{Serves}
use Rattle.dp_program.specs.Status.{Prints, status_after}
use Rattle.dp_program.specs.declared.hints.ServedRequest.{ServedRequest}
use Rattle.dp_program.proofs.ServesLemmas.{Serves-lacks}
use Rattle.dp_cli.specs.Status.{Explains, Fulfils, RefusesAs, SinkOf, explained_status}

-- if there is no kind, memory ran out
pub no_kind : (kinds : Kinds) (kind : ErrorKind) → kinds ≡ [] → (kind ≡ OutOfMemory) ⊎ IsAmong kind kinds → kind ≡ OutOfMemory
no_kind [] kind none (inl memory) = memory
no_kind [] kind none (inr among) = absurd among
no_kind (first ∷ kinds) kind none has = absurd cc

-- out of memory is not a mistake, but it has the status of one if it is explained
status_among : (kinds : Kinds) (kind : ErrorKind) → IsAmong kind kinds → All (λ kind. explained_status kind ≡ 2) kinds → explained_status kind ≡ 2
status_among [] kind among all = absurd among
status_among (first ∷ kinds) kind (inl is) all = ap explained_status is ∙ All-head (λ (kind : ErrorKind). explained_status kind ≡ 2) first kinds all
status_among (first ∷ kinds) kind (inr among) all = status_among kinds kind among (All-tail (λ (kind : ErrorKind). explained_status kind ≡ 2) first kinds all)

pub mistake_status : (kinds : Kinds) (kind : ErrorKind) → (kind ≡ OutOfMemory) ⊎ IsAmong kind kinds → All (λ kind. explained_status kind ≡ 2) kinds → explained_status kind ≡ 2
mistake_status kinds kind (inl memory) all = ap explained_status memory
mistake_status kinds kind (inr among) all = status_among kinds kind among all

-- the answer if memory runs out
lacks : (kind : ErrorKind) (answered : Result ℕ PbxFault) → kind ≡ OutOfMemory → Explains kind answered → answered ≡ Err NoMemory
lacks kind (Ok status) memory explains = absurd (explains.0 memory)
lacks kind (Err fault) memory (inl is) = ap (λ (fault : PbxFault). Err fault) is
lacks kind (Err fault) memory (inr help) =
    let two : explained_status kind ≡ 2 = ap explained_status memory in
    absurd (omega (arith, two, help.1))

or_false : (b : Bool) → b ≡ (b || false)
or_false true = refl
or_false false = refl

-- out of memory has no explanation
prints_lacks : (explains : Bool) (old new : Option (List ℕ)) → Appends old new (fault_line NoMemory) → Prints old new explains (Err (nowhere NoMemory))
prints_lacks true old new printed = printed
prints_lacks false old new printed = printed

-- a request for which memory ran out counts as fulfilled, with this answer
pub fulfils_lacks : (files : List ℕ → ByteSource) (input : ByteSource) (want : RequestOf) (options : OptionsOf) (output output_after errors errors_after : SinkOf) (kind : ErrorKind) (status : ℕ)
    → kind ≡ OutOfMemory → output_after ≡ output → RefusesAs kind errors errors_after status → Fulfils files input want options output output_after errors errors_after status
fulfils_lacks files input want options output output_after errors errors_after kind status memory same refused =
    let is : refused.answered ≡ Err NoMemory = lacks kind refused.answered memory refused.explains in
    let printed : errors_after.failed ≡ false → Appends errors.contents errors_after.contents (fault_line NoMemory) =
    subst (λ (answered : Result ℕ PbxFault). IfErr answered (λ fault. errors_after.failed ≡ false → Appends errors.contents errors_after.contents (fault_line fault))) is refused.printed in
    record {
      answered = Err (nowhere NoMemory);
      serves = subst (λ (after : SinkOf). Serves files input want options output.contents after.contents (Err (nowhere NoMemory))) (sym same) (Serves-lacks files input want options output.contents);
      written = subst (λ (after : SinkOf). after.failed ≡ (output.failed || is_write_failed {X = ServedRequest} (Err NoMemory))) (sym same) (or_false output.failed);
      told = subst (λ (answered : Result ℕ PbxFault). status ≡ status_after answered) is refused.told;
      printed = λ fine. prints_lacks options.explains errors.contents errors_after.contents (printed fine);
    }
