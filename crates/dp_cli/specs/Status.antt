-- The output and result of the program, given what its words ask for and the kinds with which they are refused.
use Rattle.std.specs.Prelude.{◌≡◌, ◌≢◌, ◌⊎◌, ◌||◌, ℕ, Bool, false, List, Option, None, Result, Ok, Err, IfErr}
use Rattle.clap.specs.Kinds.{IsAmong, Kinds}
use Rattle.clap.specs.declared.error.kind.ErrorKind.{ErrorKind}
use Rattle.clap.specs.declared.error.kind.ErrorKind.TheVariants.{DisplayHelp, DisplayVersion, OutOfMemory}
use Rattle.std.specs.Io.KnownBytes.{Appends}
use Rattle.dp_commands.specs.Codes.{fault_line}
use Rattle.dp_commands.specs.Faults.{is_write_failed}
use Rattle.dp_commands.specs.declared.fault.Code.TheVariants.{WriteFailed}
use Rattle.dp_commands.specs.declared.fault.PbxFault.{PbxFault}
use Rattle.dp_commands.specs.declared.fault.PbxFault.TheVariants.{Coded, NoMemory}
use Rattle.dp_program.specs.Faulted.{without_place}
use Rattle.dp_program.specs.Files.{ByteSource}
use Rattle.dp_program.specs.Hints.{status_in}
use Rattle.dp_program.specs.Requests.{OptionsOf, RequestOf}
use Rattle.dp_program.specs.Serves.{Serves}
use Rattle.dp_program.specs.Status.{Prints, status_after}
use Rattle.dp_program.specs.declared.fault_places.Faulted.{Faulted}
use Rattle.dp_program.specs.declared.hints.ServedRequest.{ServedRequest}

-- the status if the words are not a request: 0 if they ask for help, and 2 for a mistake
abbrev pub explained_status : ErrorKind → ℕ
explained_status DisplayHelp = 0
explained_status DisplayVersion = 0
explained_status _ = 2

-- what is known of a writer: its contents, and whether a write has failed
pub record SinkOf : Type 0 where
  pub contents : Option (List ℕ)
  pub failed : Bool

abbrev pub sink : Option (List ℕ) → Bool → SinkOf
sink contents failed = record { contents = contents; failed = failed }

-- the output and result of the program for words that are a request: those of the request, with its status, and with the hints or the text
-- of its fault on the errors
pub record Fulfils (files : List ℕ → ByteSource) (input : ByteSource) (want : RequestOf) (options : OptionsOf)
    (output output_after errors errors_after : SinkOf) (status : ℕ) : Type 0 where
  pub answered : Result ServedRequest Faulted
  pub serves : Serves files input want options output.contents output_after.contents answered
  pub written : output_after.failed ≡ (output.failed || is_write_failed (without_place answered))
  pub told : status ≡ status_after (status_in answered)
  pub printed : errors_after.failed ≡ false → Prints errors.contents errors_after.contents options.explains answered

-- what replaces a request, given its kind, ends with the kind's status; else memory ran out, or the help was not written
abbrev pub Explains : ErrorKind → Result ℕ PbxFault → Type 0
Explains kind (Ok status) = (kind ≢ OutOfMemory) × (status ≡ explained_status kind)
Explains kind (Err fault) = (fault ≡ NoMemory) ⊎ ((fault ≡ Coded WriteFailed None) × (explained_status kind ≡ 0))

-- the status of words that are refused with a kind; if that is a fault, its line is printed on the errors
pub record RefusesAs (kind : ErrorKind) (errors errors_after : SinkOf) (status : ℕ) : Type 0 where
  pub answered : Result ℕ PbxFault
  pub explains : Explains kind answered
  pub told : status ≡ status_after answered
  pub printed : IfErr answered (λ fault. errors_after.failed ≡ false → Appends errors.contents errors_after.contents (fault_line fault))

-- the words are refused with one of these kinds, or because memory ran out
pub record Refuses (kinds : Kinds) (errors errors_after : SinkOf) (status : ℕ) : Type 0 where
  pub kind : ErrorKind
  pub among : (kind ≡ OutOfMemory) ⊎ IsAmong kind kinds
  pub refuses : RefusesAs kind errors errors_after status
