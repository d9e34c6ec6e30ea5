-- A run continues after what it wrote and what waits, and stops if memory runs out or a write fails.
use Rattle.std.proofs.Common.{◌≡◌, ℕ, ◌+◌, Bool, true, false, ◌||◌, List, [], ◌∷◌, ◌++◌, Option, Some, None, Result, Ok, Err, length, take, drop, refl, ap, subst, ◌∙◌, sym, arith}
use Rattle.std.specs.Io.KnownBytes.{Appends, Keeps}
use Rattle.std.proofs.lemmas.List.{append_assoc, append-nil, length-append, take-append-le, take-append-drop}
use Rattle.std.proofs.lemmas.List.Sums.{fold-append}
use Rattle.std.proofs.Math.Bool.{or-false}
use Rattle.std.proofs.Math.Seq.{take-append-add, take-length}
use Rattle.dp_conf.specs.Fronts.{IsFront, AppendsFront}
use Rattle.dp_conf.proofs.ToldLemmas.{AppendsFront-more, IsFront-append}
use Rattle.dp_commands.specs.Faults.{is_write_failed, is_write_fault}
use Rattle.dp_commands.specs.Run.{Writes, run_on, status_by}
use Rattle.dp_commands.specs.Trace.{after_turn, trace_of, any_refused}
use Rattle.dp_commands.specs.Turns.{Taken, WritesTurns, WritesTurnsBy, lines_of, state_past, refused_in, text_of}
use Rattle.dp_commands.specs.laws.Flows.{Flows-fails, Flows-stay, Flows-trans, IsFront-refl}
use Rattle.dp_commands.specs.steps.Streams.{Ends, Flows, FlowsFirst, Streams, StreamsAll, fails_at_the_end, plainly}
use Rattle.dp_machine.specs.World.{World}
use Rattle.dp_commands.specs.declared.fault.PbxFault.{PbxFault}
use Rattle.dp_commands.specs.declared.fault.PbxFault.TheVariants.{Coded, NoMemory}
use Rattle.dp_commands.specs.declared.script.Turn.{Turn}

or-assoc : (a b c : Bool) → ((a || b) || c) ≡ (a || (b || c))
or-assoc true b c = refl
or-assoc false b c = refl

-- bytes are added to those that wait
pub Flows-waits : (old : Option (List ℕ)) (waited waits bytes : List ℕ) → waits ≡ waited ++ bytes → Flows old waited old waits bytes
Flows-waits None waited waits bytes e = tt
Flows-waits (Some xs) waited waits bytes e = (ap (λ (t : List ℕ). xs ++ t) e, IsFront-refl xs)

-- everything that waits is written
pub Flows-sent : (old new : Option (List ℕ)) (waited : List ℕ) → Appends old new waited → Flows old waited new [] []
Flows-sent None new waited wrote = tt
Flows-sent (Some xs) None waited wrote = wrote
Flows-sent (Some xs) (Some ys) waited wrote =
    let Q : List ℕ → Type 0 = λ t. IsFront xs t in (
      append-nil ys ∙ (wrote ∙ ap (λ (t : List ℕ). xs ++ t) (sym (append-nil waited))),
      subst Q (sym wrote) (IsFront-append xs waited),
    )

-- a failed write with nothing after it
AppendsFront-kept : (c d e : Option (List ℕ)) (bytes : List ℕ) → AppendsFront c d bytes → Keeps d e → AppendsFront c e bytes
AppendsFront-kept None d e bytes failed kept = tt
AppendsFront-kept (Some xs) None e bytes failed kept = absurd failed
AppendsFront-kept (Some xs) (Some ys) None bytes failed kept = kept
AppendsFront-kept (Some xs) (Some ys) (Some zs) bytes failed kept =
    let P : List ℕ → Type 0 = λ t. IsFront xs t × IsFront t (xs ++ bytes) in
    subst P (sym kept) failed

-- what waits is written at the end
pub Flows-ends : (c d e : Option (List ℕ)) (b bytes : List ℕ) → Flows c [] d b bytes → Appends d e b → Appends c e bytes
Flows-ends None d e b bytes p q = tt
Flows-ends (Some xs) None e b bytes p q = absurd p
Flows-ends (Some xs) (Some ys) None b bytes p q = q
Flows-ends (Some xs) (Some ys) (Some zs) b bytes p q = q ∙ p.0

-- the write at the end fails
pub Flows-ends_short : (c d e : Option (List ℕ)) (b bytes : List ℕ) → Flows c [] d b bytes → AppendsFront d e b → AppendsFront c e bytes
Flows-ends_short c d e b bytes p q =
    let P : List ℕ → Type 0 = λ t. AppendsFront d e t in
    let Q : List ℕ → Type 0 = λ t. AppendsFront c e t in
    subst Q (append-nil bytes) (Flows-fails c d e [] b bytes [] p (subst P (sym (append-nil b)) q))

module _ {S U : Type 0} (step : S → U → Taken S) where
  pub lines_of-append : (s : S) (ts us : List U) → lines_of step s (ts ++ us) ≡ lines_of step s ts ++ lines_of step (state_past step s ts) us
  lines_of-append s [] us = refl
  lines_of-append s (t ∷ ts) us =
      ap (λ (later : List ℕ). (step s t).lines ++ later) (lines_of-append (step s t).state ts us)
      ∙ sym (append_assoc (step s t).lines (lines_of step (step s t).state ts) (lines_of step (state_past step (step s t).state ts) us))

  pub state_past-append : (s : S) (ts us : List U) → state_past step s (ts ++ us) ≡ state_past step (state_past step s ts) us
  state_past-append s ts us = fold-append (λ at turn. (step at turn).state) s ts us

  refused_in-append : (s : S) (ts us : List U) → refused_in step s (ts ++ us) ≡ (refused_in step s ts || refused_in step (state_past step s ts) us)
  refused_in-append s [] us = refl
  refused_in-append s (t ∷ ts) us =
      ap (λ r. (step s t).refused || r) (refused_in-append (step s t).state ts us)
      ∙ sym (or-assoc (step s t).refused (refused_in step (step s t).state ts) (refused_in step (state_past step (step s t).state ts) us))

  -- nothing so far
  pub Streams-start : (s : S) (old : Option (List ℕ)) (waited : List ℕ) → Streams step s [] old waited old waited s (Ok false)
  Streams-start s old waited = (Flows-stay old waited, refl, refl)

  -- more turns meet the state after the others
  pub Streams-goes_on : (s : S) (ts us : List U) (c d e : Option (List ℕ)) (a b f : List ℕ) (s1 s2 : S) (r1 r2 : Bool) → Streams step s ts c a d b s1 (Ok r1) → Streams step s1 us d b e f s2 (Ok r2) → Streams step s (ts ++ us) c a e f s2 (Ok (r1 || r2))
  Streams-goes_on s ts us c d e a b f s1 s2 r1 r2 so_far more =
      let P : List ℕ → Type 0 = λ t. Flows c a e f t in
      let here : lines_of step s (ts ++ us) ≡ lines_of step s ts ++ lines_of step s1 us = lines_of-append s ts us ∙ ap (λ at. lines_of step s ts ++ lines_of step at us) (sym so_far.1) in (
        subst P (sym here) (Flows-trans c d e a b f (lines_of step s ts) (lines_of step s1 us) so_far.0 more.0),
        more.1 ∙ (ap (λ at. state_past step at us) so_far.1 ∙ sym (state_past-append s ts us)),
        ap (λ r. r || r2) so_far.2 ∙ (ap (λ r. refused_in step s ts || r) (more.2 ∙ ap (λ at. refused_in step at us) so_far.1) ∙ sym (refused_in-append s ts us)),
      )

  -- a stop after other bytes
  pub Streams-stops : (s : S) (ts us : List U) (c d e : Option (List ℕ)) (a b f : List ℕ) (s1 s2 : S) (r1 : Bool) (fault : PbxFault) → Streams step s ts c a d b s1 (Ok r1) → Streams step s1 us d b e f s2 (Err fault) → Streams step s (ts ++ us) c a e f s2 (Err fault)
  Streams-stops s ts us c d e a b f s1 s2 r1 (Coded code line) so_far more =
      let P : List ℕ → Type 0 = λ t. AppendsFront c e (a ++ t) in
      let here : lines_of step s (ts ++ us) ≡ lines_of step s ts ++ lines_of step s1 us = lines_of-append s ts us ∙ ap (λ at. lines_of step s ts ++ lines_of step at us) (sym so_far.1) in
      (subst P (sym here) (Flows-fails c d e a b (lines_of step s ts) (lines_of step s1 us) so_far.0 more.0), more.1, more.2)
  Streams-stops s ts us c d e a b f s1 s2 r1 NoMemory so_far more =
      let P : List ℕ → Type 0 = λ t. Flows c a e f t in
      let here : lines_of step s (take (length ts + more.count) (ts ++ us)) ≡ lines_of step s ts ++ lines_of step s1 (take more.count us) =
      ap (lines_of step s) (take-append-add ts us more.count) ∙ (lines_of-append s ts (take more.count us) ∙ ap (λ at. lines_of step s ts ++ lines_of step at (take more.count us)) (sym so_far.1)) in
      record {
        count = length ts + more.count;
        within = omega (arith, more.within, length-append ts us);
        flowed = subst P (sym here) (Flows-trans c d e a b f (lines_of step s ts) (lines_of step s1 (take more.count us)) so_far.0 more.flowed);
      }

  -- a run that stopped, stopped with more turns remaining
  pub Streams-more : (s : S) (ts us : List U) (c d : Option (List ℕ)) (a b : List ℕ) (s1 : S) (fault : PbxFault) → Streams step s ts c a d b s1 (Err fault) → Streams step s (ts ++ us) c a d b s1 (Err fault)
  Streams-more s ts us c d a b s1 (Coded code line) stopped =
      let P : List ℕ → Type 0 = λ t. AppendsFront c d t in
      let here : (a ++ lines_of step s ts) ++ lines_of step (state_past step s ts) us ≡ a ++ lines_of step s (ts ++ us) =
      append_assoc a (lines_of step s ts) (lines_of step (state_past step s ts) us) ∙ ap (λ (t : List ℕ). a ++ t) (sym (lines_of-append s ts us)) in
      (subst P here (AppendsFront-more c d (a ++ lines_of step s ts) (lines_of step (state_past step s ts) us) stopped.0), stopped.1, stopped.2)
  Streams-more s ts us c d a b s1 NoMemory stopped =
      let P : List U → Type 0 = λ t. Flows c a d b (lines_of step s t) in
      record {
        count = stopped.count;
        within = omega (arith, stopped.within, length-append ts us);
        flowed = subst P (sym (take-append-le stopped.count ts us stopped.within)) stopped.flowed;
      }

  -- one turn, whose lines wait, and some of what waits may be written
  pub Streams-one : (s : S) (turn : U) (c d : Option (List ℕ)) (a mid b : List ℕ) (after : S) (refused : Bool) → mid ≡ a ++ (step s turn).lines → after ≡ (step s turn).state → refused ≡ (step s turn).refused → Flows c mid d b [] → Streams step s (turn ∷ []) c a d b after (Ok refused)
  Streams-one s turn c d a mid b after refused line state answer sent =
      let P : List ℕ → Type 0 = λ t. Flows c a d b t in (
        subst P (append-nil ((step s turn).lines ++ []))
            (Flows-trans c c d a mid b ((step s turn).lines ++ []) [] (Flows-waits c a mid ((step s turn).lines ++ []) (line ∙ ap (λ (t : List ℕ). a ++ t) (sym (append-nil (step s turn).lines)))) sent),
        state,
        answer ∙ or-end (step s turn).refused,
      ) where
        or-end : (r : Bool) → r ≡ (r || false)
        or-end true = refl
        or-end false = refl

  -- one turn during which memory ran out
  pub FlowsFirst-none : (s : S) (turns : List U) (c : Option (List ℕ)) (a b : List ℕ) → b ≡ a → FlowsFirst step s turns c a c b
  FlowsFirst-none s turns c a b e =
      record {
        count = 0;
        within = omega arith;
        flowed = Flows-waits c a b [] (e ∙ sym (append-nil a));
      }

  -- one turn during which the write failed
  pub fails-one : (s : S) (turn : U) (c d : Option (List ℕ)) (a mid : List ℕ) → mid ≡ a ++ (step s turn).lines → AppendsFront c d mid → AppendsFront c d (a ++ lines_of step s (turn ∷ []))
  fails-one s turn c d a mid line failed =
      let P : List ℕ → Type 0 = λ t. AppendsFront c d t in
      subst P (line ∙ ap (λ (t : List ℕ). a ++ t) (sym (append-nil (step s turn).lines))) failed

  -- the first turns, and a prefix of the whole output
  first-short : (last : S → List ℕ) (s : S) (turns : List U) (c e : Option (List ℕ)) (count : ℕ) → AppendsFront c e (lines_of step s (take count turns)) → AppendsFront c e (text_of step last s turns)
  first-short last s turns c e count failed =
      let P : List ℕ → Type 0 = λ t. AppendsFront c e (t ++ last (state_past step s turns)) in
      let whole : lines_of step s (take count turns) ++ lines_of step (state_past step s (take count turns)) (drop count turns) ≡ lines_of step s turns =
      sym (lines_of-append s (take count turns) (drop count turns)) ∙ ap (lines_of step s) (take-append-drop count turns) in
      subst P whole (AppendsFront-more c e (lines_of step s (take count turns) ++ lines_of step (state_past step s (take count turns)) (drop count turns)) (last (state_past step s turns))
      (AppendsFront-more c e (lines_of step s (take count turns)) (lines_of step (state_past step s (take count turns)) (drop count turns)) failed))

  -- all turns were taken, and the lines after the last of them wait
  pub StreamsAll_ends : (last : S → List ℕ) (status : S → Bool → ℕ) (s : S) (turns : List U) (c d : Option (List ℕ)) (a b f : List ℕ) (after : S) (refused : Bool) (answer : ℕ) → Streams step s turns c a d b after (Ok refused) → f ≡ b ++ last after → answer ≡ status after refused → StreamsAll step last status s turns c a d f (Ok answer)
  StreamsAll_ends last status s turns c d a b f after refused answer ran beyond told =
      let bytes = lines_of step s turns in
      let P : S → Type 0 = λ at. Flows c a d f (bytes ++ last at) in
      (subst P ran.1 (Flows-trans c d d a b f bytes (last after) ran.0 (Flows-waits d b f (last after) beyond)), told ∙ (ap (λ at. status at refused) ran.1 ∙ ap (status (state_past step s turns)) ran.2))

  -- all turns were taken, and memory ran out after them
  pub StreamsAll_lacks : (last : S → List ℕ) (status : S → Bool → ℕ) (s : S) (turns : List U) (c d : Option (List ℕ)) (a b f : List ℕ) (after : S) (refused : Bool) → Streams step s turns c a d b after (Ok refused) → f ≡ b → StreamsAll step last status s turns c a d f (Err NoMemory)
  StreamsAll_lacks last status s turns c d a b f after refused ran same =
      let P : List ℕ → Type 0 = λ waits. Flows c a d waits (lines_of step s (take (length turns) turns)) in
      let Q : List U → Type 0 = λ ts. Flows c a d b (lines_of step s ts) in
      record { count = length turns; within = omega arith; flowed = subst P (sym same) (subst Q (sym (take-length turns)) ran.0) }

  -- the turns stopped before the end
  pub StreamsAll_stops : (last : S → List ℕ) (status : S → Bool → ℕ) (s : S) (turns : List U) (c d : Option (List ℕ)) (a b : List ℕ) (after : S) (fault : PbxFault) → Streams step s turns c a d b after (Err fault) → StreamsAll step last status s turns c a d b (Err fault)
  StreamsAll_stops last status s turns c d a b after (Coded code line) ran =
      let P : List ℕ → Type 0 = λ t. AppendsFront c d t in
      (subst P (append_assoc a (lines_of step s turns) (last (state_past step s turns))) (AppendsFront-more c d (a ++ lines_of step s turns) (last (state_past step s turns)) ran.0), ran.1, ran.2)
  StreamsAll_stops last status s turns c d a b after NoMemory ran = ran

  -- the turns and the end together write the whole output
  pub Writes-ends : (last : S → List ℕ) (status : S → Bool → ℕ) (s : S) (turns : List U) (c d e : Option (List ℕ)) (b : List ℕ) (ran : Result ℕ PbxFault) (result : Result ℕ PbxFault) → StreamsAll step last status s turns c [] d b ran → Ends d b e ran result → WritesTurnsBy step last status s turns c e result
  Writes-ends last status s turns c d e b (Ok came_to) (Ok answer) ran ends =
      (Flows-ends c d e b (text_of step last s turns) ran.0 ends.0, ends.1 ∙ ran.1)
  Writes-ends last status s turns c d e b (Ok came_to) (Err (Coded code line)) ran ends =
      (Flows-ends_short c d e b (text_of step last s turns) ran.0 ends.0, ends.1, ends.2)
  Writes-ends last status s turns c d e b (Ok came_to) (Err NoMemory) ran ends = absurd ends
  Writes-ends last status s turns c d e b (Err (Coded code line)) (Ok answer) ran ends = absurd ends
  Writes-ends last status s turns c d e b (Err (Coded code line)) (Err (Coded other at)) ran ends =
      (AppendsFront-kept c d e (text_of step last s turns) ran.0 ends.0, ends.1 ∙ ran.1, ends.2 ∙ ran.2)
  Writes-ends last status s turns c d e b (Err (Coded code line)) (Err NoMemory) ran ends = absurd ends
  Writes-ends last status s turns c d e b (Err NoMemory) (Ok answer) ran ends = absurd ends
  Writes-ends last status s turns c d e b (Err NoMemory) (Err (Coded code line)) ran ends =
      (first-short last s turns c e ran.count (Flows-ends_short c d e b (lines_of step s (take ran.count turns)) ran.flowed ends.0), ends.1, ends.2)
  Writes-ends last status s turns c d e b (Err NoMemory) (Err NoMemory) ran ends =
      record { count = ran.count; within = ran.within; written = Flows-ends c d e b (lines_of step s (take ran.count turns)) ran.flowed ends }

-- turns that are taken without further lines have the trace of a run
module _ {P : Type 0} where
  lines_of-plainly : (p : P) (w : World) (ts : List Turn) → lines_of plainly (p, w) ts ≡ trace_of w ts
  lines_of-plainly p w [] = refl
  lines_of-plainly p w (t ∷ ts) = ap (λ (later : List ℕ). (after_turn w t).line ++ later) (lines_of-plainly p (after_turn w t).world ts)

  refused_in-plainly : (p : P) (w : World) (ts : List Turn) → refused_in plainly (p, w) ts ≡ any_refused w ts
  refused_in-plainly p w [] = refl
  refused_in-plainly p w (t ∷ ts) = ap (λ r. (after_turn w t).refused || r) (refused_in-plainly p (after_turn w t).world ts)

  text_of-plainly : (p : P) (w : World) (ts : List Turn) → text_of plainly (λ _. []) (p, w) ts ≡ trace_of w ts
  text_of-plainly p w ts = append-nil (lines_of plainly (p, w) ts) ∙ lines_of-plainly p w ts

  pub Writes_plainly : (p : P) (w : World) (turns : List Turn) (c e : Option (List ℕ)) (result : Result ℕ PbxFault) → WritesTurns plainly (λ _. []) (p, w) turns c e result → Writes c e (Ok (run_on w turns)) result
  Writes_plainly p w turns c e (Ok status) wrote =
      let Q : List ℕ → Type 0 = λ t. Appends c e t in
      (subst Q (text_of-plainly p w turns) wrote.0, wrote.1 ∙ ap status_by (refused_in-plainly p w turns))
  Writes_plainly p w turns c e (Err (Coded code line)) wrote =
      let Q : List ℕ → Type 0 = λ t. AppendsFront c e t in
      (subst Q (text_of-plainly p w turns) wrote.0, wrote.1, wrote.2)
  Writes_plainly p w turns c e (Err NoMemory) wrote =
      let Q : List ℕ → Type 0 = λ t. Appends c e t in
      record { count = wrote.count; within = wrote.within; written = subst Q (lines_of-plainly p w (take wrote.count turns)) wrote.written }

-- whether a write failed, given the result of a run and of its end
pub told-ends : (d e : Option (List ℕ)) (b : List ℕ) (ran : Result ℕ PbxFault) (result : Result ℕ PbxFault) (was mid now : Bool) → Ends d b e ran result → mid ≡ (was || is_write_failed ran) → now ≡ (mid || fails_at_the_end ran result) → now ≡ (was || is_write_failed result)
told-ends d e b (Ok came_to) result was mid now ends before beyond =
    beyond ∙ ap (λ m. m || is_write_failed result) (before ∙ or-false was)
told-ends d e b (Err (Coded code line)) (Ok status) was mid now ends before beyond = absurd ends
told-ends d e b (Err (Coded code line)) (Err (Coded other at)) was mid now ends before beyond =
    beyond ∙ (or-false mid ∙ (before ∙ ap (λ x. was || x) (sym (ap (λ c. is_write_fault (Coded c at)) ends.1 ∙ ap (λ l. is_write_fault (Coded code l)) ends.2))))
told-ends d e b (Err (Coded code line)) (Err NoMemory) was mid now ends before beyond = absurd ends
told-ends d e b (Err NoMemory) result was mid now ends before beyond =
    beyond ∙ ap (λ m. m || is_write_failed result) (before ∙ or-false was)
