-- An expanded text fits its pieces.
use Rattle.std.proofs.Common.{◌≡◌, ℕ, ◌==◌, Bool, true, false, ◌&&◌, List, [], ◌∷◌, ◌++◌, Option, Some, None, refl, sym, ap, ◌∙◌, subst, append_assoc, codes, if◌then◌else◌, length}
use Rattle.std.proofs.lemmas.List.{append-nil}
use Rattle.dp_conf.proofs.TextLemmas.{Avoids, cut_once-here, each-append, either-false}
use Rattle.dp_conf.specs.Cut.{before_last, cut_once}
use Rattle.dp_conf.specs.Groups.{Reading, Over, Plain, Group}
use Rattle.dp_conf.specs.GroupsRead.{reading_of}
use Rattle.dp_conf.specs.Levels.{cut_after, cut_outside, level_of, stands_outside}
use Rattle.dp_conf.specs.Words.{same_text}
use Rattle.dp_conf.specs.declared.groups.GroupKind.{GroupKind}
use Rattle.dp_conf.specs.declared.groups.GroupKind.TheVariants.{Braces, Brackets}
use Rattle.dp_expr.specs.Expression.{expression_value}
use Rattle.dp_vars.specs.Functions.{FunctionTable}
use Rattle.dp_vars.specs.Parts.{asked_of}
use Rattle.dp_vars.specs.Sights.{Sight}
use Rattle.dp_vars.specs.Values.{body_by as body_value_by, call_argument, caller_value, expansion, expansion_of_with, function_of, function_value, group_value, group_value_with, head_by as head_value_by, head_value, head_value_with, standard_functions}
use Rattle.dp_vars.specs.declared.value.Function.{Function}
use Rattle.dp_vars.specs.declared.value.Function.TheVariants.{Global, Local, Len, CallerId, QueueWaitingCount}
use Rattle.dp_pieces.specs.Bytes.{IsPart, Within, either, none, numeric}
use Rattle.dp_pieces.specs.Cuts.{cut_known}
use Rattle.dp_pieces.specs.Names.{Names, IsWithin, any_argument_set, body_by, called_set, caller_set, function_set, head_by, head_pieces, variable_pieces}
use Rattle.dp_pieces.specs.Pieces.{Fits, Known, PieceOf, bytes_in, text_known, any_bytes_of, pieces_set}
use Rattle.dp_pieces.specs.Texts.{GroupMeaning, braces_pieces, called_pieces, group_pieces, pieces_by, text_pieces, text_set, unknown_pieces}
use Rattle.dp_pieces.proofs.ExpressionLemmas.{within-expression}
use Rattle.dp_pieces.proofs.LastLemmas.{known_cut_heads}
use Rattle.dp_pieces.proofs.FitsLemmas.{fits-append, fits-text_known, fits-any_bytes_of, fits-nothing, fits-part, fits-set, any_bytes_of-part}
use Rattle.dp_pieces.proofs.NumeralLemmas.{within-decimal}
use Rattle.dp_pieces.proofs.WithinLemmas.{within-more, within-part}

-- a byte that is not in a text
lacks-avoids : (byte : ℕ) (text : List ℕ) → bytes_in text byte ≡ false → Avoids byte text
lacks-avoids byte [] lacks = tt
lacks-avoids byte (b ∷ text) lacks = let both = either-false (b == byte) (bytes_in text byte) lacks in (both.0, lacks-avoids byte text both.1)

-- the text before a cut begins with the text before the search
begins-with : (mark : ℕ) (text before : List ℕ) (cut : List ℕ × List ℕ) → cut_after (stands_outside mark) before text ≡ Some cut → (more : List ℕ) × (cut.0 ≡ before ++ more)
begins-with mark [] before cut is = absurd cc
begins-with mark (b ∷ text) before cut is = by (stands_outside mark before b) (begins-with mark text (before ++ b ∷ []) cut) is
  where
    by : (here : Bool) → (cut_after (stands_outside mark) (before ++ b ∷ []) text ≡ Some cut → (more : List ℕ) × (cut.0 ≡ (before ++ b ∷ []) ++ more))
        → (if here then Some (before, text) else cut_after (stands_outside mark) (before ++ b ∷ []) text) ≡ Some cut → (more : List ℕ) × (cut.0 ≡ before ++ more)
    by true later same = let pair : (let p : List ℕ × List ℕ = (before, text) in p ≡ cut) = cc in ([], ap (λ p. p.0) (sym pair) ∙ sym (append-nil before))
    by false later same = let found = later same in (b ∷ found.0, found.1 ∙ append_assoc before (b ∷ []) found.0)

-- bytes other than the mark are skipped
passed-over : (mark : ℕ) (front rest before : List ℕ) → Avoids mark front → cut_after (stands_outside mark) before (front ++ rest) ≡ cut_after (stands_outside mark) (before ++ front) rest
passed-over mark [] rest before avoids = ap (λ b. cut_after (stands_outside mark) b rest) (sym (append-nil before))
passed-over mark (b ∷ front) rest before avoids =
    ap (λ (t : Bool). if t && level_of before == 0 then Some (before, front ++ rest) else cut_after (stands_outside mark) (before ++ b ∷ []) (front ++ rest)) avoids.0
    ∙ (passed-over mark front rest (before ++ b ∷ []) avoids.1
    ∙ ap (λ x. cut_after (stands_outside mark) x rest) (append_assoc before (b ∷ []) front))

begins-named : (mark : ℕ) (name rest : List ℕ) (cut : List ℕ × List ℕ) → Avoids mark (name ++ 40 ∷ []) → cut_outside mark (name ++ 40 ∷ rest) ≡ Some cut
    → (more : List ℕ) × (cut.0 ≡ name ++ 40 ∷ more)
unfolding cut_outside
begins-named mark name rest cut avoids is =
    let found = begins-with mark rest (name ++ 40 ∷ []) cut (
    sym (passed-over mark (name ++ 40 ∷ []) rest [] avoids ∙ refl) ∙ (ap (cut_after (stands_outside mark) []) (append_assoc name (40 ∷ []) rest) ∙ is)) in
    (found.0, found.1 ∙ append_assoc name (40 ∷ []) found.0)

module _ (groups : GroupMeaning) (functions : FunctionTable) (sight : Sight)
    (each : (kind : GroupKind) (body : List PieceOf) (text : List ℕ) → Fits body text → Fits (groups kind body) (group_value_with functions sight kind text)) where
  plain : (byte : ℕ) (pieces : List PieceOf) (text : List ℕ) → Fits pieces text → Fits (Known byte ∷ pieces) (byte ∷ text)
  unfolding Fits
  plain byte pieces text fits = (text, refl, fits)

  -- an expanded text fits its pieces if the value of each group fits the pieces of the group
  pub fits-pieces_by : (reading : Reading) → Fits (pieces_by groups reading) (expansion_of_with functions sight reading)
  unfolding pieces_by expansion_of_with
  fits-pieces_by Over = fits-nothing
  fits-pieces_by (Plain byte rest) = plain byte (pieces_by groups rest) (expansion_of_with functions sight rest) (fits-pieces_by rest)
  fits-pieces_by (Group kind inside rest) =
      fits-append (groups kind (pieces_by groups inside)) (pieces_by groups rest) (group_value_with functions sight kind (expansion_of_with functions sight inside))
      (expansion_of_with functions sight rest) (each kind (pieces_by groups inside) (expansion_of_with functions sight inside) (fits-pieces_by inside)) (fits-pieces_by rest)

module _ (names : Names) (sight : Sight) (seen : IsWithin names sight) where
  within-caller : (argument : List ℕ) → Within (caller_set names.caller argument) (caller_value sight.caller argument)
  within-caller argument = by (same_text argument (codes "num"))
    where
      by : (b : Bool) → Within (if b then names.caller else none) (if b then sight.caller else [])
      by true = seen.caller
      by false = tt

  within-function : (function : Option Function) (argument : List ℕ) → Within (function_set names function argument) (function_value sight function argument)
  within-function None argument = tt
  within-function (Some Global) argument = seen.global argument
  within-function (Some Local) argument = seen.local argument
  within-function (Some Len) argument = within-decimal (length argument)
  within-function (Some CallerId) argument = within-caller argument
  within-function (Some QueueWaitingCount) argument = within-decimal (sight.waiting argument)

  within-call_argument : (name : List ℕ) (argument : Option (List ℕ)) → Within (called_set names name argument) (call_argument sight name argument)
  within-call_argument name None = tt
  within-call_argument name (Some argument) = within-function (function_of name) argument

  fits-head : (head : List ℕ) → Fits (head_pieces names head) (head_value sight head)
  unfolding head_pieces head_value_with
  fits-head head = by (cut_once 40 head)
    where
      by : (cut : Option (List ℕ × List ℕ)) → Fits (head_by names head cut) (head_value_by sight head cut)
      by None = seen.variable head
      by (Some cut) = fits-any_bytes_of (called_set names cut.0 (before_last 41 cut.1)) _ (within-call_argument cut.0 (before_last 41 cut.1))

  fits-body : (body : List ℕ) (cut : Option (List ℕ × List ℕ)) → Fits (body_by names body cut) (body_value_by sight body cut)
  fits-body body None = fits-head body
  fits-body body (Some cut) = fits-part (asked_of (Some cut.1)) (head_pieces names cut.0) (head_value sight cut.0) (fits-head cut.0)

  -- the bytes of whatever a body names are among those of all
  part-call_argument : (name : List ℕ) (argument : Option (List ℕ)) → IsPart (called_set names name argument) names.all
  part-call_argument name None = λ byte is. absurd cc
  part-call_argument name (Some argument) = by (function_of name)
    where
      num : (b : Bool) → IsPart (if b then names.caller else none) names.all
      num true = seen.whole.caller
      num false = λ byte is. absurd cc

      by : (function : Option Function) → IsPart (function_set names function argument) names.all
      by None = λ byte is. absurd cc
      by (Some Global) = seen.whole.bytes argument
      by (Some Local) = seen.whole.bytes argument
      by (Some Len) = seen.whole.digits
      by (Some CallerId) = num (same_text argument (codes "num"))
      by (Some QueueWaitingCount) = seen.whole.digits

  -- a variable has only the bytes of any value
  pub all-variable : (name : List ℕ) → Within names.all (sight.variable name)
  all-variable name = by (same_text name (codes "EXTEN")) (same_text name (codes "CONTEXT")) (fits-set (variable_pieces names name) (sight.variable name) (seen.variable name))
    where
      by : (a b : Bool) → Within (pieces_set (if a then names.exten else if b then names.context else any_bytes_of (names.bytes name))) (sight.variable name) → Within names.all (sight.variable name)
      by true b is = within-more (pieces_set names.exten) names.all seen.whole.exten (sight.variable name) is
      by false true is = within-more (pieces_set names.context) names.all seen.whole.context (sight.variable name) is
      by false false is =
          within-more (names.bytes name) names.all (seen.whole.bytes name) (sight.variable name)
          (within-more (pieces_set (any_bytes_of (names.bytes name))) (names.bytes name) (any_bytes_of-part (names.bytes name)) (sight.variable name) is)

  all-head : (head : List ℕ) → Within names.all (head_value sight head)
  unfolding head_value_with
  all-head head = by (cut_once 40 head)
    where
      by : (cut : Option (List ℕ × List ℕ)) → Within names.all (head_value_by sight head cut)
      by None = all-variable head
      by (Some cut) = within-more (called_set names cut.0 (before_last 41 cut.1)) names.all (part-call_argument cut.0 (before_last 41 cut.1)) _ (within-call_argument cut.0 (before_last 41 cut.1))

  all-body : (body : List ℕ) (cut : Option (List ℕ × List ℕ)) → Within names.all (body_value_by sight body cut)
  all-body body None = all-head body
  all-body body (Some cut) = within-part names.all (asked_of (Some cut.1)) (head_value sight cut.0) (all-head cut.0)

  -- a function with a known name and any argument
  any-call_argument : (name : List ℕ) (argument : Option (List ℕ)) → Within (any_argument_set names (function_of name)) (call_argument sight name argument)
  any-call_argument name None = tt
  any-call_argument name (Some argument) = by (function_of name)
    where
      num : (b : Bool) → Within names.caller (if b then sight.caller else [])
      num true = seen.caller
      num false = tt

      by : (function : Option Function) → Within (any_argument_set names function) (function_value sight function argument)
      by None = tt
      by (Some Global) = within-more (names.bytes argument) names.all (seen.whole.bytes argument) (sight.global argument) (seen.global argument)
      by (Some Local) = within-more (names.bytes argument) names.all (seen.whole.bytes argument) (sight.local argument) (seen.local argument)
      by (Some Len) = within-decimal (length argument)
      by (Some CallerId) = num (same_text argument (codes "num"))
      by (Some QueueWaitingCount) = within-decimal (sight.waiting argument)

  named-head : (name rest head : List ℕ) → Avoids 40 name → head ≡ name ++ 40 ∷ rest → Within (any_argument_set names (function_of name)) (head_value sight head)
  unfolding head_value_with
  named-head name rest head avoids is =
      subst (λ o. Within (any_argument_set names (function_of name)) (head_value_by sight head o)) (sym (ap (cut_once 40) is ∙ cut_once-here 40 name rest avoids))
      (any-call_argument name (before_last 41 rest))

  named-body : (name rest text : List ℕ) → Avoids 40 name → Avoids 58 name → text ≡ name ++ 40 ∷ rest
      → (cut : Option (List ℕ × List ℕ)) → cut_outside 58 text ≡ cut → Within (any_argument_set names (function_of name)) (body_value_by sight text cut)
  named-body name rest text avoids no_part is None from = named-head name rest text avoids is
  named-body name rest text avoids no_part is (Some cut) from =
      let begun = begins-named 58 name rest cut (each-append (λ b. (b == 58) ≡ false) name (40 ∷ []) no_part (refl, tt)) (ap (cut_outside 58) (sym is) ∙ from) in
      within-part (any_argument_set names (function_of name)) (asked_of (Some cut.1)) (head_value sight cut.0) (named-head name begun.0 cut.0 avoids begun.1)

  fits-call_argument : (name rest text : List ℕ) → Avoids 40 name → text ≡ name ++ 40 ∷ rest → Fits (called_pieces names name) (body_value_by sight text (cut_outside 58 text))
  fits-call_argument name rest text avoids is = fits-any_bytes_of _ _ (by (bytes_in name 58) refl)
    where
      by : (b : Bool) → bytes_in name 58 ≡ b → Within (if b then names.all else any_argument_set names (function_of name)) (body_value_by sight text (cut_outside 58 text))
      by true has = all-body text (cut_outside 58 text)
      by false lacks = named-body name rest text avoids (lacks-avoids 58 name lacks) is (cut_outside 58 text) refl

  fits-unknown : (pieces : List PieceOf) (text : List ℕ) → Fits pieces text → Fits (unknown_pieces names (cut_known 40 pieces)) (body_value_by sight text (cut_outside 58 text))
  fits-unknown pieces text fits = by (cut_known 40 pieces) refl
    where
      by : (o : Option (List ℕ × List PieceOf)) → cut_known 40 pieces ≡ o → Fits (unknown_pieces names o) (body_value_by sight text (cut_outside 58 text))
      by None from = fits-any_bytes_of names.all _ (all-body text (cut_outside 58 text))
      by (Some cut) from = let is = known_cut_heads 40 pieces text cut from fits in fits-call_argument cut.0 is.rest text is.avoids is.whole

  fits-braces : (pieces : List PieceOf) (text : List ℕ) → Fits pieces text → (o : Option (List ℕ)) → ((body : List ℕ) → o ≡ Some body → text ≡ body)
      → Fits (braces_pieces names pieces o) (body_value_by sight text (cut_outside 58 text))
  fits-braces pieces text fits None is = fits-unknown pieces text fits
  fits-braces pieces text fits (Some body) is =
      subst (λ t. Fits (body_by names body (cut_outside 58 body)) (body_value_by sight t (cut_outside 58 t))) (sym (is body refl)) (fits-body body (cut_outside 58 body))

  -- the value of a group whose expanded body fits pieces
  pub fits-group : (kind : GroupKind) (body : List PieceOf) (text : List ℕ) → Fits body text → Fits (group_pieces names kind body) (group_value sight kind text)
  unfolding group_value_with
  fits-group Braces body text fits = fits-braces body text fits (text_known body) (λ bytes from. fits-text_known body text bytes from fits)
  fits-group Brackets body text fits = fits-any_bytes_of (either (pieces_set body) numeric) (expression_value text) (within-expression (pieces_set body) text (fits-set body text fits))

-- an expanded text fits its pieces
pub fits-expansion : (names : Names) (sight : Sight) → IsWithin names sight → (text : List ℕ) → Fits (text_pieces names text) (expansion sight text)
fits-expansion names sight seen text = fits-pieces_by (group_pieces names) standard_functions sight (fits-group names sight seen) (reading_of text)

-- and has only their bytes
pub within-expansion : (names : Names) (sight : Sight) → IsWithin names sight → (text : List ℕ) → Within (text_set names text) (expansion sight text)
within-expansion names sight seen text = fits-set (text_pieces names text) (expansion sight text) (fits-expansion names sight seen text)
