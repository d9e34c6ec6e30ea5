-- The row of `Set` stays inside if what it owes is met.
use Rattle.std.proofs.Common.{◌≡◌, ℕ, Bool, true, false, ◌==◌, List, [], ◌∷◌, ◌++◌, codes, eq-eqb, Option, Some, None, refl, sym, ap, ◌∙◌, subst, if◌then◌else◌}
use Rattle.std.specs.FinMap.{insert}
use Rattle.dp_conf.proofs.TextLemmas.{Avoids, cut_once-here, cut_once-is, each-cut_rest}
use Rattle.dp_conf.specs.Blanks.{trim, trim_end, trim_start}
use Rattle.dp_conf.specs.Cut.{cut_once}
use Rattle.dp_conf.specs.Words.{same_text}
use Rattle.dp_vars.specs.Stores.{set, set_local}
use Rattle.dp_app.specs.Cells.{CellOf}
use Rattle.dp_flow.specs.Settings.{argument_of, set_row, with_called, with_function, with_name, with_pair, with_variable}
use Rattle.dp_pieces.specs.Bytes.{Bytes, Within}
use Rattle.dp_pieces.specs.Cuts.{cut_known, with_byte}
use Rattle.dp_pieces.specs.Pieces.{AnyOf, Fits, Known, OneOf, PieceOf, pieces_set}
use Rattle.dp_pieces.proofs.FitsLemmas.{fits-set}
use Rattle.dp_pieces.proofs.LastLemmas.{IsHeaded, known_cut_heads}
use Rattle.dp_pieces.proofs.WithinLemmas.{within-more}
use Rattle.dp_reach.specs.Bounds.{Calls, Holds, HoldsAll, IsBounded, MeetsAll}
use Rattle.dp_reach.specs.Holding.{Claim, IsGood}
use Rattle.dp_reach.specs.Settings.{any_argument_duties, called_duties, function_duties, name_duties, pair_duties, set_duties, unknown_duties}
use Rattle.dp_reach.proofs.CallPieces.{cut-trimmed}
use Rattle.dp_reach.proofs.StoreLemmas.{held-insert, kept-set, kept-set_local}

-- if no text is known before one byte, a text that is known before another has none of it
known-avoids : (mark byte : ℕ) (pieces : List PieceOf) (cut : List ℕ × List PieceOf) → cut_known mark pieces ≡ None → cut_known byte pieces ≡ Some cut → Avoids mark cut.0
known-avoids mark byte [] cut none is = absurd cc
known-avoids mark byte (OneOf set ∷ pieces) cut none is = absurd cc
known-avoids mark byte (AnyOf set ∷ pieces) cut none is = absurd cc
known-avoids mark byte (Known b ∷ pieces) cut none is =
    by (b == mark) (b == byte) refl (λ c away from. known-avoids mark byte pieces c away from) none is
  where
    first : (o : Option (List ℕ × List PieceOf)) → with_byte b o ≡ None → o ≡ None
    first None same = refl
    first (Some c) same = absurd cc

    later : (o : Option (List ℕ × List PieceOf)) → cut_known byte pieces ≡ o → with_byte b o ≡ Some cut → (b == mark) ≡ false
        → ((c : List ℕ × List PieceOf) → cut_known byte pieces ≡ Some c → Avoids mark c.0) → Avoids mark cut.0
    later None from same other more = absurd cc
    later (Some c) from same other more = subst (Avoids mark) (let front : b ∷ c.0 ≡ cut.0 = cc in front) (other, more c from)

    by : (at_mark at_byte : Bool) → (b == mark) ≡ at_mark
        → ((c : List ℕ × List PieceOf) → cut_known mark pieces ≡ None → cut_known byte pieces ≡ Some c → Avoids mark c.0)
        → (if at_mark then Some ([], pieces) else with_byte b (cut_known mark pieces)) ≡ None
        → (if at_byte then Some ([], pieces) else with_byte b (cut_known byte pieces)) ≡ Some cut → Avoids mark cut.0
    by true at_byte other more none is = absurd cc
    by false true other more none is = subst (Avoids mark) (let front : [] ≡ cut.0 = cc in front) tt
    by false false other more none is = later (cut_known byte pieces) refl is other (λ c from. more c (first (cut_known mark pieces) none) from)

-- bytes that differ are not the same
apart : (a b : ℕ) → (a == b) ≡ false → a ≡ b → ⊥
apart a b differs same = let no : false ≡ true = sym differs ∙ eq-eqb a b same in let c : ⊥ = cc in c

-- a text that is cut at two bytes: if the part before the first has none of the second, the part before the second begins with it
parted-later : (inner outer : ℕ) → (inner == outer) ≡ false → (head rest front after : List ℕ) → head ++ inner ∷ rest ≡ front ++ outer ∷ after → Avoids outer head
    → (inside : List ℕ) × (front ≡ head ++ inner ∷ inside)
parted-later inner outer differs [] rest [] after same clear = absurd (apart inner outer differs (let first : inner ≡ outer = cc in first))
parted-later inner outer differs [] rest (byte ∷ front) after same clear = (front, ap (λ b. b ∷ front) (let first : byte ≡ inner = cc in first))
parted-later inner outer differs (byte ∷ head) rest [] after same clear = absurd (apart byte outer clear.0 (let first : byte ≡ outer = cc in first))
parted-later inner outer differs (byte ∷ head) rest (other ∷ front) after same clear =
    let first : other ≡ byte = cc in
    let later : head ++ inner ∷ rest ≡ front ++ outer ∷ after = cc in
    let more = parted-later inner outer differs head rest front after later clear.1 in
    (more.0, ap (λ b. b ∷ front) first ∙ ap (λ t. byte ∷ t) more.1)

-- a known text before the first `(` that has no `=` is the name of a function that is set
headed-name : (head rest front after : List ℕ) → Avoids 40 head → Avoids 61 head → head ++ 40 ∷ rest ≡ front ++ 61 ∷ after
    → (inside : List ℕ) × (cut_once 40 front ≡ Some (head, inside))
headed-name head rest front after opening clear same =
    let longer = parted-later 40 61 refl head rest front after same clear in
    (longer.0, ap (cut_once 40) longer.1 ∙ cut_once-here 40 head longer.0 opening)

module _ (claim : Claim) where
  good-variable : (cell : CellOf) (name value : List ℕ) → IsGood claim cell → Within (claim.names.bytes name) value → IsGood claim (with_variable cell name value)
  good-variable cell [] value good is = good
  good-variable cell (b ∷ bs) value good is =
      let kept = kept-set claim cell.store (b ∷ bs) value good.store is in
      record { store = kept; globals = good.globals; caller = good.caller }

  good-global : (cell : CellOf) (name value : List ℕ) → IsGood claim cell → Within (claim.names.bytes name) value
      → IsGood claim (record cell { globals = insert cell.globals name value })
  good-global cell name value good is =
      record { store = good.store; globals = held-insert claim.names cell.globals name value good.globals is; caller = good.caller }

  good-local : (cell : CellOf) (name value : List ℕ) → IsGood claim cell → Within (claim.names.bytes name) value
      → IsGood claim (record cell { store = set_local cell.store name value })
  good-local cell name value good is =
      let kept = kept-set_local claim cell.store name value good.store is in
      record { store = kept; globals = good.globals; caller = good.caller }

  good-caller : (cell : CellOf) (value : List ℕ) → IsGood claim cell → Within claim.names.caller value → IsGood claim (record cell { caller = value })
  good-caller cell value good is = record { store = good.store; globals = good.globals; caller = is }

  good-function : (cell : CellOf) (function argument value : List ℕ) (set : Bytes) → IsGood claim cell → Within set value
      → MeetsAll claim (function_duties function argument set) → IsGood claim (with_function cell function argument value)
  good-function cell function argument value set good is =
      by (same_text function (codes "GLOBAL")) (same_text function (codes "LOCAL")) (same_text function (codes "CALLERID")) (same_text argument (codes "num"))
    where
      by : (a b c d : Bool)
          → MeetsAll claim (if a then Holds argument set ∷ [] else if b then Holds argument set ∷ [] else if c then (if d then Calls set ∷ [] else []) else [])
          → IsGood claim (if a then record cell { globals = insert cell.globals argument value } else if b then record cell { store = set_local cell.store argument value }
          else if c then (if d then record cell { caller = value } else cell) else cell)
      by true b c d met = good-global cell argument value good (within-more set (claim.names.bytes argument) met.0 value is)
      by false true c d met = good-local cell argument value good (within-more set (claim.names.bytes argument) met.0 value is)
      by false false true true met = good-caller cell value good (within-more set claim.names.caller met.0 value is)
      by false false true false met = good
      by false false false d met = good

  good-called : (cell : CellOf) (function value : List ℕ) (argument : Option (List ℕ)) (set : Bytes) → IsGood claim cell → Within set value
      → MeetsAll claim (called_duties function argument set) → IsGood claim (with_called cell function argument value)
  good-called cell function value None set good is met = good
  good-called cell function value (Some argument) set good is met = good-function cell function argument value set good is met

  good-name : (cell : CellOf) (name value : List ℕ) (cut : Option (List ℕ × List ℕ)) (set : Bytes) → IsGood claim cell → Within set value
      → MeetsAll claim (name_duties name cut set) → IsGood claim (with_name cell name cut value)
  good-name cell name value None set good is met = good-variable cell name value good (within-more set (claim.names.bytes name) met.0 value is)
  good-name cell name value (Some cut) set good is met = good-called cell cut.0 value (argument_of cut.1) set good is met

  -- if each name may have the bytes, so may the one that is set
  module _ (set : Bytes) (met : MeetsAll claim (HoldsAll set ∷ Calls set ∷ [])) where
    each-function : (function argument : List ℕ) → MeetsAll claim (function_duties function argument set)
    each-function function argument =
        by (same_text function (codes "GLOBAL")) (same_text function (codes "LOCAL")) (same_text function (codes "CALLERID")) (same_text argument (codes "num"))
      where
        by : (a b c d : Bool)
            → MeetsAll claim (if a then Holds argument set ∷ [] else if b then Holds argument set ∷ [] else if c then (if d then Calls set ∷ [] else []) else [])
        by true b c d = (met.0 argument, tt)
        by false true c d = (met.0 argument, tt)
        by false false true true = (met.1.0, tt)
        by false false true false = tt
        by false false false d = tt

    each-called : (function : List ℕ) (argument : Option (List ℕ)) → MeetsAll claim (called_duties function argument set)
    each-called function None = tt
    each-called function (Some argument) = each-function function argument

    each-name : (name : List ℕ) (cut : Option (List ℕ × List ℕ)) → MeetsAll claim (name_duties name cut set)
    each-name name None = (met.0 name, tt)
    each-name name (Some cut) = each-called cut.0 (argument_of cut.1)

  -- a pair of which nothing is known
  good-each : (cell : CellOf) (arguments : List ℕ) (set : Bytes) → IsGood claim cell → Within set arguments → MeetsAll claim (HoldsAll set ∷ Calls set ∷ [])
      → IsGood claim (with_pair cell (cut_once 61 arguments))
  good-each cell arguments set good is met = by (cut_once 61 arguments) refl
    where
      by : (o : Option (List ℕ × List ℕ)) → cut_once 61 arguments ≡ o → IsGood claim (with_pair cell o)
      by None from = good
      by (Some cut) from =
          good-name cell (trim cut.0) cut.1 (cut_once 40 (trim cut.0)) set good
          (each-cut_rest (λ x. set x ≡ true) 61 arguments cut.0 cut.1 (cut_once-is 61 arguments cut.0 cut.1 from) is) (each-name set met (trim cut.0) (cut_once 40 (trim cut.0)))

  -- if a function with any argument may have the bytes, so may one with this argument
  each-argument : (function argument : List ℕ) (set : Bytes) → MeetsAll claim (any_argument_duties function set) → MeetsAll claim (function_duties function argument set)
  each-argument function argument set =
      by (same_text function (codes "GLOBAL")) (same_text function (codes "LOCAL")) (same_text function (codes "CALLERID")) (same_text argument (codes "num"))
    where
      by : (a b c d : Bool)
          → MeetsAll claim (if a then HoldsAll set ∷ [] else if b then HoldsAll set ∷ [] else if c then Calls set ∷ [] else [])
          → MeetsAll claim (if a then Holds argument set ∷ [] else if b then Holds argument set ∷ [] else if c then (if d then Calls set ∷ [] else []) else [])
      by true b c d met = (met.0 argument, tt)
      by false true c d met = (met.0 argument, tt)
      by false false true true met = (met.0, tt)
      by false false true false met = tt
      by false false false d met = tt

  -- a pair of which only a function's name is known
  good-headed : (cell : CellOf) (arguments : List ℕ) (set : Bytes) (cut : List ℕ × List PieceOf) → IsGood claim cell → Within set arguments → Avoids 61 cut.0
      → IsHeaded 40 cut arguments → MeetsAll claim (any_argument_duties (trim_start cut.0) set) → IsGood claim (with_pair cell (cut_once 61 arguments))
  good-headed cell arguments set cut good is clear known met = by (cut_once 61 arguments) refl
    where
      by : (o : Option (List ℕ × List ℕ)) → cut_once 61 arguments ≡ o → IsGood claim (with_pair cell o)
      by None from = good
      by (Some pair) from =
          let parted = cut_once-is 61 arguments pair.0 pair.1 from in
          let name = headed-name cut.0 known.rest pair.0 pair.1 known.avoids clear (sym known.whole ∙ parted.whole) in
          subst (λ o. IsGood claim (with_name cell (trim pair.0) o pair.1)) (sym (cut-trimmed pair.0 cut.0 name.0 name.1))
          (with-argument (argument_of (trim_end name.0)) (each-cut_rest (λ x. set x ≡ true) 61 arguments pair.0 pair.1 parted is))
        where
          with-argument : (o : Option (List ℕ)) → Within set pair.1 → IsGood claim (with_called cell (trim_start cut.0) o pair.1)
          with-argument None has = good
          with-argument (Some argument) has = good-function cell (trim_start cut.0) argument pair.1 set good has (each-argument (trim_start cut.0) argument set met)

  good-unknown : (cell : CellOf) (arguments : List ℕ) (pieces : List PieceOf) → IsGood claim cell → Fits pieces arguments → cut_known 61 pieces ≡ None
      → (o : Option (List ℕ × List PieceOf)) → cut_known 40 pieces ≡ o → MeetsAll claim (unknown_duties (pieces_set pieces) o) → IsGood claim (with_pair cell (cut_once 61 arguments))
  good-unknown cell arguments pieces good fits none None from met =
      good-each cell arguments (pieces_set pieces) good (fits-set pieces arguments fits) met
  good-unknown cell arguments pieces good fits none (Some cut) from met =
      good-headed cell arguments (pieces_set pieces) cut good (fits-set pieces arguments fits) (known-avoids 61 40 pieces cut none from)
      (known_cut_heads 40 pieces arguments cut from fits) met

  good-pair : (cell : CellOf) (arguments : List ℕ) (pieces : List PieceOf) → IsGood claim cell → Fits pieces arguments
      → (o : Option (List ℕ × List PieceOf)) → cut_known 61 pieces ≡ o → MeetsAll claim (pair_duties pieces o) → IsGood claim (with_pair cell (cut_once 61 arguments))
  good-pair cell arguments pieces good fits None from met = good-unknown cell arguments pieces good fits from (cut_known 40 pieces) refl met
  good-pair cell arguments pieces good fits (Some cut) from met =
      let known = known_cut_heads 61 pieces arguments cut from fits in
      subst (λ o. IsGood claim (with_pair cell o)) (sym (ap (cut_once 61) known.whole ∙ cut_once-here 61 cut.0 known.rest known.avoids))
      (good-name cell (trim cut.0) known.rest (cut_once 40 (trim cut.0)) (pieces_set cut.1) good (fits-set cut.1 known.rest known.fits) met)

-- the row of `Set`
pub set-bounded : IsBounded set_duties set_row
unfolding set_row
set-bounded claim area pieces arguments cell good inside own fits met =
    record { cell = good-pair claim cell arguments pieces good fits (cut_known 61 pieces) refl met; next = tt }
