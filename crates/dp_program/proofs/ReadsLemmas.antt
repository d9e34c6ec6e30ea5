-- The results of reading sources.
use Rattle.std.proofs.Common.{◌≡◌, ◌||◌, ℕ, Bool, true, false, List, [], Option, Some, None, IfSome, Result, Ok, Err, inl, inr, refl, sym, ap, subst, unwrap_or}
use Rattle.dp_conf.specs.Answers.{Refuses, ◌>>=◌}
use Rattle.dp_conf.specs.Whole.{whole_of, length_fault, is_read_failed}
use Rattle.dp_conf.specs.declared.fault.ReadFault.{ReadFault}
use Rattle.dp_conf.specs.declared.fault.ReadFault.TheVariants.{ReadFailed as read_failed, TooLong as too_long, NoMemory as no_memory}
use Rattle.dp_commands.specs.Faults.{fault_of_read, reason_of}
use Rattle.dp_commands.specs.declared.fault.Code.{Code}
use Rattle.dp_commands.specs.declared.fault.Code.TheVariants.{Line, Name, Plan, QueueLine, Queue, ReadFailed, TooLong, WriteFailed, Settle, BadScript, BadBreak}
use Rattle.dp_commands.specs.declared.fault.PbxFault.{PbxFault}
use Rattle.dp_commands.specs.declared.fault.PbxFault.TheVariants.{Coded, NoMemory}
use Rattle.dp_program.specs.Files.{ByteSource, IsTextOf, Reads, is_read_fault, read_fault, source, whole_text}
use Rattle.dp_program.specs.Faulted.{unread_or, unread_path, unread_place}
use Rattle.dp_program.specs.Texts.{OfRun, ReadsSome, ReadsTexts, all_texts, some_text}

-- what holds of a result of reading, and what follows from it
pub Reads-weaker : {source : ByteSource} (P Q : Result (List ℕ) PbxFault → Type 0) → ((text : Result (List ℕ) PbxFault) → P text → Q text) → Reads source P → Reads source Q
Reads-weaker P Q weaker reads = record { text = reads.text; given = reads.given; holds = weaker reads.text reads.holds }

-- either the bytes as a text, or that there are too many
text_by : Option (List ℕ) → Result (List ℕ) PbxFault
text_by None = Ok []
text_by (Some bytes) = whole_text bytes

IsTextOf-text_by : (bytes : Option (List ℕ)) → IsTextOf bytes (text_by bytes)
unfolding text_by
IsTextOf-text_by None = tt
IsTextOf-text_by (Some bytes) = refl

-- each source gives a result
pub Reads-any : (source : ByteSource) (P : Result (List ℕ) PbxFault → Type 0) → ((text : Result (List ℕ) PbxFault) → P text) → Reads source P
Reads-any source P all =
    record { text = text_by source.bytes; given = inl (IsTextOf-text_by source.bytes); holds = all (text_by source.bytes) }

-- the same for an optional source
pub ReadsSome-weaker : (source : Option ByteSource) (P Q : Option (Result (List ℕ) PbxFault) → Type 0) → ((text : Option (Result (List ℕ) PbxFault)) → P text → Q text) → ReadsSome source P → ReadsSome source Q
ReadsSome-weaker None P Q weaker reads = weaker None reads
ReadsSome-weaker (Some source) P Q weaker reads = Reads-weaker (λ text. P (Some text)) (λ text. Q (Some text)) (λ text. weaker (Some text)) reads

pub ReadsSome-any : (source : Option ByteSource) (P : Option (Result (List ℕ) PbxFault) → Type 0) → ((text : Option (Result (List ℕ) PbxFault)) → P text) → ReadsSome source P
ReadsSome-any None P all = all None
ReadsSome-any (Some source) P all = Reads-any source _ (λ text. all (Some text))

-- the results of reading each file of a run
abbrev pub read_of : Result (List ℕ) PbxFault → Option (Result (List ℕ) PbxFault) → Option (Result (List ℕ) PbxFault) → Result (List ℕ) PbxFault → OfRun (Result (List ℕ) PbxFault)
read_of plan queues second_plan script = record { plan = plan; queues = queues; second_plan = second_plan; script = script }

-- a property of all files of a run, given the property of each
pub ReadsTexts-of : (sources : OfRun ByteSource)
    (P : Result (List ℕ) PbxFault → Type 0) (Q R : Option (Result (List ℕ) PbxFault) → Type 0) (S : Result (List ℕ) PbxFault → Type 0)
    (T : OfRun (Result (List ℕ) PbxFault) → Type 0)
    → ((p : Result (List ℕ) PbxFault) (q r : Option (Result (List ℕ) PbxFault)) (s : Result (List ℕ) PbxFault) → P p → Q q → R r → S s → T (read_of p q r s))
    → Reads sources.plan P → ReadsSome sources.queues Q → ReadsSome sources.second_plan R → Reads sources.script S → ReadsTexts sources T
ReadsTexts-of sources P Q R S T all p_read q_read r_read s_read =
    Reads-weaker P _ (λ p p_holds. ReadsSome-weaker sources.queues Q _ (λ q q_holds. ReadsSome-weaker sources.second_plan R _ (λ r r_holds.
    Reads-weaker S _ (λ s s_holds. all p q r s p_holds q_holds r_holds s_holds) s_read) r_read) q_read) p_read

-- a property of all files, and what follows from it
pub ReadsTexts-weaker : (sources : OfRun ByteSource) (P Q : OfRun (Result (List ℕ) PbxFault) → Type 0)
    → ((read : OfRun (Result (List ℕ) PbxFault)) → P read → Q read) → ReadsTexts sources P → ReadsTexts sources Q
ReadsTexts-weaker sources P Q weaker reads =
    Reads-weaker _ _ (λ p. ReadsSome-weaker sources.queues _ _ (λ q. ReadsSome-weaker sources.second_plan _ _ (λ r. Reads-weaker _ _ (λ s. weaker (read_of p q r s))))) reads

-- the files of a run give results
pub ReadsTexts-any : (sources : OfRun ByteSource) (P : OfRun (Result (List ℕ) PbxFault) → Type 0) → ((read : OfRun (Result (List ℕ) PbxFault)) → P read) → ReadsTexts sources P
ReadsTexts-any sources P all =
    Reads-any sources.plan _ (λ p. ReadsSome-any sources.queues _ (λ q. ReadsSome-any sources.second_plan _ (λ r.
    Reads-any sources.script _ (λ s. all (read_of p q r s)))))

-- what holds of each fault with a code, and of out-of-memory, holds of every fault
pub by_reason : {X : Type 0} (P : PbxFault → Result X PbxFault → Type 0)
    → ((code : Code) (line : Option ℕ) → P (Coded code line) (Err (Coded code line))) → ((text : Result X PbxFault) → P NoMemory text)
    → (fault : PbxFault) (text : Result X PbxFault) → Refuses (reason_of fault) text → P fault text
by_reason P coded lacks (Coded code line) text refused = subst (P (Coded code line)) (sym refused) (coded code line)
by_reason P coded lacks NoMemory text refused = lacks text

-- a refused result stays refused, whatever comes after it
pub Refuses-next : {X Y : Type 0} (fault : PbxFault) (text : Result X PbxFault) (next : X → Result Y PbxFault) → Refuses (reason_of fault) text → Refuses (reason_of fault) (text >>= next)
Refuses-next (Coded code line) text next refused = ap (λ read. read >>= next) refused
Refuses-next NoMemory text next refused = tt

-- the texts, given the result of reading each file; the queues and the second dialplan are optional
abbrev joined_by : Result (List ℕ) PbxFault → Result (Option (List ℕ)) PbxFault → Result (Option (List ℕ)) PbxFault → Result (List ℕ) PbxFault → Result (OfRun (List ℕ)) PbxFault
joined_by p q r s =
    p >>= λ plan. q >>= λ queues. r >>= λ second_plan. s >>= λ script. Ok (record { plan = plan; queues = queues; second_plan = second_plan; script = script })

-- and the path of the first file that was not read
abbrev path_by : OfRun (List ℕ) → Result (List ℕ) PbxFault → Result (Option (List ℕ)) PbxFault → Result (Option (List ℕ)) PbxFault → List ℕ
path_by paths p q r = unread_or p paths.plan (unread_or q (unwrap_or paths.queues []) (unread_or r (unwrap_or paths.second_plan []) paths.script))

-- the fault is the first one, and its place is the file at the path
abbrev IsFirst : OfRun (List ℕ) → List ℕ → PbxFault → Result (List ℕ) PbxFault → Result (Option (List ℕ)) PbxFault → Result (Option (List ℕ)) PbxFault → Result (List ℕ) PbxFault → Type 0
IsFirst paths path fault p q r s = Refuses (reason_of fault) (joined_by p q r s) × (unread_place path fault ≡ unread_place (path_by paths p q r) fault)

-- the same, given the result of reading each file
abbrev pub IsUnread : OfRun (List ℕ) → List ℕ → PbxFault → OfRun (Result (List ℕ) PbxFault) → Type 0
IsUnread paths path fault read = Refuses (reason_of fault) (all_texts read) × (unread_place path fault ≡ unread_place (unread_path paths read) fault)

-- the place of the fault of a refused file is that file, and not a later one
unread_here : {X : Type 0} (path later : List ℕ) (fault : PbxFault) (text : Result X PbxFault) → Refuses (reason_of fault) text → unread_place path fault ≡ unread_place (unread_or text path later) fault
unread_here path later = by_reason (λ fault text. unread_place path fault ≡ unread_place (unread_or text path later) fault) (λ code line. refl) (λ text. refl)

-- if the dialplan's file is refused
pub texts_refused_plan : (paths : OfRun (List ℕ)) (sources : OfRun ByteSource) (path : List ℕ) (fault : PbxFault) → path ≡ paths.plan
    → Reads sources.plan (λ text. Refuses (reason_of fault) text) → ReadsTexts sources (IsUnread paths path fault)
texts_refused_plan paths sources path fault at reads =
    ReadsTexts-of sources (λ text. Refuses (reason_of fault) text) (λ text. Unit {0}) (λ text. Unit {0}) (λ text. Unit {0})
    (IsUnread paths path fault)
    (λ p q r s refused x y z. subst (λ path. IsFirst paths path fault p (some_text q) (some_text r) s) (sym at) (Refuses-next fault p _ refused, unread_here paths.plan _ fault p refused))
    reads (ReadsSome-any sources.queues _ (λ text. tt)) (ReadsSome-any sources.second_plan _ (λ text. tt)) (Reads-any sources.script _ (λ text. tt))

-- if the file of the queues is refused after it
pub texts_refused_queues : (paths : OfRun (List ℕ)) (sources : OfRun ByteSource) (path : List ℕ) (fault : PbxFault) (read : List ℕ) → path ≡ unwrap_or paths.queues []
    → Reads sources.plan (λ text. text ≡ Ok read) → ReadsSome sources.queues (λ text. Refuses (reason_of fault) (some_text text))
    → ReadsTexts sources (IsUnread paths path fault)
texts_refused_queues paths sources path fault read at is reads =
    ReadsTexts-of sources (λ text. text ≡ Ok read) (λ text. Refuses (reason_of fault) (some_text text)) (λ text. Unit {0}) (λ text. Unit {0})
    (IsUnread paths path fault)
    (λ p q r s p_is refused y z. subst (λ path. IsFirst paths path fault p (some_text q) (some_text r) s) (sym at)
    (subst (λ p. IsFirst paths (unwrap_or paths.queues []) fault p (some_text q) (some_text r) s) (sym p_is)
    (Refuses-next fault (some_text q) _ refused, unread_here (unwrap_or paths.queues []) _ fault (some_text q) refused)))
    is reads (ReadsSome-any sources.second_plan _ (λ text. tt)) (Reads-any sources.script _ (λ text. tt))

-- if the second dialplan's file is refused after both
pub texts_refused_second : (paths : OfRun (List ℕ)) (sources : OfRun ByteSource) (path : List ℕ) (fault : PbxFault) (read : List ℕ) (held : Option (List ℕ)) → path ≡ unwrap_or paths.second_plan []
    → Reads sources.plan (λ text. text ≡ Ok read) → ReadsSome sources.queues (λ text. some_text text ≡ Ok held) → ReadsSome sources.second_plan (λ text. Refuses (reason_of fault) (some_text text))
    → ReadsTexts sources (IsUnread paths path fault)
texts_refused_second paths sources path fault read held at is are reads =
    ReadsTexts-of sources (λ text. text ≡ Ok read) (λ text. some_text text ≡ Ok held) (λ text. Refuses (reason_of fault) (some_text text)) (λ text. Unit {0})
    (IsUnread paths path fault)
    (λ p q r s p_is q_is refused z. subst (λ path. IsFirst paths path fault p (some_text q) (some_text r) s) (sym at)
    (subst (λ p. IsFirst paths (unwrap_or paths.second_plan []) fault p (some_text q) (some_text r) s) (sym p_is)
    (subst (λ q. IsFirst paths (unwrap_or paths.second_plan []) fault (Ok read) q (some_text r) s) (sym q_is)
    (Refuses-next fault (some_text r) _ refused, unread_here (unwrap_or paths.second_plan []) _ fault (some_text r) refused))))
    is are reads (Reads-any sources.script _ (λ text. tt))

-- and if the script's file is refused after all three
pub texts_refused_script : (paths : OfRun (List ℕ)) (sources : OfRun ByteSource) (path : List ℕ) (fault : PbxFault) (read : List ℕ) (held other : Option (List ℕ)) → path ≡ paths.script
    → Reads sources.plan (λ text. text ≡ Ok read) → ReadsSome sources.queues (λ text. some_text text ≡ Ok held) → ReadsSome sources.second_plan (λ text. some_text text ≡ Ok other)
    → Reads sources.script (λ text. Refuses (reason_of fault) text)
    → ReadsTexts sources (IsUnread paths path fault)
texts_refused_script paths sources path fault read held other at is are also reads =
    ReadsTexts-of sources (λ text. text ≡ Ok read) (λ text. some_text text ≡ Ok held) (λ text. some_text text ≡ Ok other) (λ text. Refuses (reason_of fault) text)
    (IsUnread paths path fault)
    (λ p q r s p_is q_is r_is refused. subst (λ path. IsFirst paths path fault p (some_text q) (some_text r) s) (sym at)
    (subst (λ p. IsFirst paths paths.script fault p (some_text q) (some_text r) s) (sym p_is)
    (subst (λ q. IsFirst paths paths.script fault (Ok read) q (some_text r) s) (sym q_is)
    (subst (λ r. IsFirst paths paths.script fault (Ok read) (Ok held) r s) (sym r_is)
    (Refuses-next fault s _ refused, refl)))))
    is are also reads

-- if all files are read
pub texts_read : (sources : OfRun ByteSource) (plan : List ℕ) (queues second_plan : Option (List ℕ)) (script : List ℕ)
    → Reads sources.plan (λ text. text ≡ Ok plan) → ReadsSome sources.queues (λ text. some_text text ≡ Ok queues) → ReadsSome sources.second_plan (λ text. some_text text ≡ Ok second_plan)
    → Reads sources.script (λ text. text ≡ Ok script)
    → ReadsTexts sources (λ read. (all_texts read ≡ Ok (record { plan = plan; queues = queues; second_plan = second_plan; script = script })) × Unit {0})
texts_read sources plan queues second_plan script p_read q_read r_read s_read =
    let all : OfRun (List ℕ) = record { plan = plan; queues = queues; second_plan = second_plan; script = script } in
    ReadsTexts-of sources (λ text. text ≡ Ok plan) (λ text. some_text text ≡ Ok queues) (λ text. some_text text ≡ Ok second_plan) (λ text. text ≡ Ok script)
    (λ read. (all_texts read ≡ Ok all) × Unit {0})
    (λ p q r s p_is q_is r_is s_is. (
      subst (λ p. joined_by p (some_text q) (some_text r) s ≡ Ok all) (sym p_is)
          (subst (λ q. joined_by (Ok plan) q (some_text r) s ≡ Ok all) (sym q_is)
          (subst (λ r. joined_by (Ok plan) (Ok queues) r s ≡ Ok all) (sym r_is)
          (subst (λ s. joined_by (Ok plan) (Ok queues) (Ok second_plan) s ≡ Ok all) (sym s_is) refl))),
      tt,
    ))
    p_read q_read r_read s_read

-- a source that was not read whole, given the reader's fault
pub refused_source : (bytes : Option (List ℕ)) (old new : Bool) (fault : ReadFault)
    → IfSome bytes (λ bytes. Refuses (length_fault fault) (whole_of bytes)) → new ≡ (old || is_read_failed {T = List ℕ} (Err fault))
    → Reads (source bytes new) (λ text. Refuses (reason_of (fault_of_read fault)) text)
refused_source bytes true new read_failed refused told = record { text = Err (Coded ReadFailed None); given = inr (refl, told); holds = refl }
refused_source bytes false new read_failed refused told = record { text = Err (Coded ReadFailed None); given = inr (refl, told); holds = refl }
refused_source None old new too_long refused told = record { text = Err (Coded TooLong None); given = inl refl; holds = refl }
refused_source (Some bytes) old new too_long refused told = record { text = whole_text bytes; given = inl refl; holds = ap read_fault refused }
refused_source bytes old new no_memory refused told = Reads-any (source bytes new) _ (λ text. tt)

-- a source of which nothing is known may have any fault of a reader
pub refused_unknown : (fault : PbxFault) → is_read_fault fault ≡ true → Reads (source None true) (λ text. Refuses (reason_of fault) text)
refused_unknown (Coded (Line kind) line) is = absurd cc
refused_unknown (Coded (Name fault) line) is = absurd cc
refused_unknown (Coded (Plan kind) line) is = absurd cc
refused_unknown (Coded (QueueLine kind) line) is = absurd cc
refused_unknown (Coded (Queue kind) line) is = absurd cc
refused_unknown (Coded ReadFailed None) is = record { text = Err (Coded ReadFailed None); given = inr (refl, refl); holds = refl }
refused_unknown (Coded ReadFailed (Some line)) is = absurd cc
refused_unknown (Coded TooLong None) is = record { text = Err (Coded TooLong None); given = inl refl; holds = refl }
refused_unknown (Coded TooLong (Some line)) is = absurd cc
refused_unknown (Coded WriteFailed line) is = absurd cc
refused_unknown (Coded (Settle fault) line) is = absurd cc
refused_unknown (Coded BadScript line) is = absurd cc
refused_unknown (Coded BadBreak line) is = absurd cc
refused_unknown NoMemory is = Reads-any (source None true) _ (λ text. tt)
