-- What a file may contain, given the result of reading it.
use Rattle.std.proofs.Common.{◌≡◌, ◌<◌, ◌+◌, ◌⊎◌, inl, inr, ℕ, Bool, true, false, cond, nat_le, List, length, replicate, Option, Some, None, Result, Ok, Err, refl, ap, sym, subst, ◌∙◌, arith}
use Rattle.std.proofs.lemmas.Bool.{leb-false}
use Rattle.std.proofs.lemmas.List.{length-replicate}
use Rattle.dp_conf.specs.Answers.{Refuses}
use Rattle.dp_conf.specs.Whole.{most_bytes}
use Rattle.dp_conf.specs.declared.fault.ReadFault.TheVariants.{TooLong as read_too_long}
use Rattle.dp_commands.specs.Faults.{reason_of}
use Rattle.dp_commands.specs.declared.fault.Code.{Code}
use Rattle.dp_commands.specs.declared.fault.Code.TheVariants.{ReadFailed, TooLong}
use Rattle.dp_commands.specs.declared.fault.PbxFault.{PbxFault}
use Rattle.dp_commands.specs.declared.fault.PbxFault.TheVariants.{Coded}
use Rattle.dp_files.specs.FolderFiles.{MayRead}
use Rattle.dp_files.specs.Sources.{TooLong as long_text}
use Rattle.dp_program.specs.Files.{ByteSource, IsTextOf, Reads, is_read_fault, read_fault}
use Rattle.dp_program.specs.Including.{AreBytes, MayHold}

-- ---- bytes

whole_ok : (known bytes : List ℕ) (short : Bool) → read_fault (cond short (Ok known) (Err read_too_long)) ≡ Ok bytes → bytes ≡ known
whole_ok known bytes true same = cc
whole_ok known bytes false same = absurd cc

bytes_of : (known : Option (List ℕ)) (text : Result (List ℕ) PbxFault) (bytes : List ℕ) → IsTextOf known text → text ≡ Ok bytes → AreBytes known bytes
bytes_of None text bytes is ok = tt
bytes_of (Some known) text bytes is ok = whole_ok known bytes (nat_le (length known) most_bytes) (sym is ∙ ok)

-- the bytes that were read are those of the file
pub read_bytes : (source : ByteSource) (bytes : List ℕ) → Reads source (λ text. text ≡ Ok bytes) → AreBytes source.bytes bytes
read_bytes source bytes reads = by reads.given
  where
    by : (IsTextOf source.bytes reads.text ⊎ ((reads.text ≡ Err (Coded ReadFailed None)) × (source.fails ≡ true))) → AreBytes source.bytes bytes
    by (inl is) = bytes_of source.bytes reads.text bytes is reads.holds
    by (inr failed) = let other : Ok bytes ≡ Err (Coded ReadFailed None) = sym reads.holds ∙ failed.0 in absurd cc

-- ---- too many bytes

whole_long : (known : List ℕ) (short : Bool) → nat_le (length known) most_bytes ≡ short
    → read_fault (cond short (Ok known) (Err read_too_long)) ≡ Err (Coded TooLong None) → most_bytes < length known
whole_long known true is same = absurd cc
whole_long known false is same = leb-false (length known) most_bytes is

-- a text with more bytes than this
longer : (count : ℕ) → (bytes : List ℕ) × (count < length bytes)
longer count = (replicate (count + 1) 0, omega (arith, length-replicate {A = ℕ} (count + 1) 0))

long_of : (source : ByteSource) (known : Option (List ℕ)) (text : Result (List ℕ) PbxFault) → source.bytes ≡ known → IsTextOf known text
    → text ≡ Err (Coded TooLong None) → MayRead (MayHold source) long_text
long_of source None text of is long = ((longer most_bytes).0, (longer most_bytes).1, subst (λ known. AreBytes known (longer most_bytes).0) (sym of) tt)
long_of source (Some known) text of is long =
    (known, whole_long known (nat_le (length known) most_bytes) refl (sym is ∙ long), subst (λ bytes. AreBytes bytes known) (sym of) refl)

-- if a file was too long, it may contain more bytes than allowed
read_long : (source : ByteSource) → Reads source (λ text. text ≡ Err (Coded TooLong None)) → MayRead (MayHold source) long_text
read_long source reads = by reads.given
  where
    by : (IsTextOf source.bytes reads.text ⊎ ((reads.text ≡ Err (Coded ReadFailed None)) × (source.fails ≡ true))) → MayRead (MayHold source) long_text
    by (inl is) = long_of source source.bytes reads.text refl is reads.holds
    by (inr failed) =
        let long : Result (List ℕ) PbxFault = Err (Coded TooLong None) in
        let other : long ≡ Err (Coded ReadFailed None) = sym reads.holds ∙ failed.0 in
        absurd cc

-- a reader's fault has no line
long_at : (source : ByteSource) (line : Option ℕ) → is_read_fault (Coded TooLong line) ≡ true
    → Reads source (λ text. text ≡ Err (Coded TooLong line)) → MayRead (MayHold source) long_text
long_at source None reader reads = read_long source reads
long_at source (Some line) reader reads = absurd cc

-- the same for a fault, given its code
pub read_long-fault : (source : ByteSource) (fault : PbxFault) (code : Code) (line : Option ℕ) → fault ≡ Coded code line → code ≡ TooLong
    → is_read_fault fault ≡ true → Reads source (λ text. Refuses (reason_of fault) text) → MayRead (MayHold source) long_text
read_long-fault source fault code line is same reader reads =
    let long : fault ≡ Coded TooLong line = is ∙ ap (λ (c : Code). Coded c line) same in
    long_at source line (subst (λ (f : PbxFault). is_read_fault f ≡ true) long reader)
    (subst (λ (f : PbxFault). Reads source (λ text. Refuses (reason_of f) text)) long reads)
