-- The rows of the wide table that set names stay inside if what they owe is met.
use Rattle.std.proofs.Common.{◌≡◌, ℕ, Bool, true, false, ◌==◌, ◌+◌, List, [], ◌∷◌, fold, length, codes, Option, Some, None, refl, sym, subst, if◌then◌else◌, unwrap_or}
use Rattle.std.specs.List.{AllByRecursion}
use Rattle.std.specs.Option.{option_and_then, option_map_or}
use Rattle.dp_conf.proofs.TextLemmas.{cut_once-is, each-cut_front, each-cut_rest}
use Rattle.dp_conf.specs.Blanks.{trim}
use Rattle.dp_conf.specs.Cut.{before_last, cut_once}
use Rattle.dp_conf.specs.Levels.{arguments_of, parts_of}
use Rattle.dp_flow.specs.Settings.{before_end}
use Rattle.dp_vars.specs.Functions.{SettingTarget, Variable, Global, Local, Caller, Nothing}
use Rattle.dp_app.specs.Cells.{CellOf}
use Rattle.dp_pieces.specs.Bytes.{Bytes, Within}
use Rattle.dp_pieces.specs.Cuts.{cut_known}
use Rattle.dp_pieces.specs.Fitting.{IsCutKnown}
use Rattle.dp_pieces.specs.Pieces.{Fits, PieceOf, pieces_set}
use Rattle.dp_pieces.proofs.FitsLemmas.{fits-set}
use Rattle.dp_pieces.proofs.LastLemmas.{known-fits}
use Rattle.dp_pieces.proofs.WithinLemmas.{within-more, within-trim}
use Rattle.dp_wide.specs.Cells.{cell_name}
use Rattle.dp_wide.specs.Settings.{CallerTextOf, EffectOf, OneTarget, NameAndNumber, EmptyKey, EachName, Settable, bare_name, before_quote, caller_by, caller_of, effect_of, first_value, later_values, mset_row, name_and_number, number_alone, set_row, settable_of, with_each, with_effect, with_one, with_pair, with_setting, with_settable, with_target, with_text, without_quotes}
use Rattle.dp_reach.specs.Bounds.{IsBounded, MeetsAll}
use Rattle.dp_reach.specs.Holding.{AreHeld, Claim, IsGood, KeepsToClaim}
use Rattle.dp_reach.proofs.StoreLemmas.{held-insert, kept-set, kept-set_local}
use Rattle.dp_reach.proofs.TargetLemmas.{arguments-within, split-within}
use Rattle.dp_wide_reach.specs.Settings.{any_duties, effect_duties, mset_duties, setting_duties, target_duties, wide_set_duties}

-- the settable parts of a cell keep to the claim
record AreSettled (claim : Claim) (s : Settable) : Type 0 where
  store : KeepsToClaim claim s.store
  globals : AreHeld claim.names s.globals
  caller : Within claim.names.caller s.caller

settled-cell : (claim : Claim) (cell : CellOf) → IsGood claim cell → AreSettled claim (settable_of cell)
settled-cell claim cell good = record { store = good.store; globals = good.globals; caller = good.caller }

good-settled : (claim : Claim) (cell : CellOf) (s : Settable) → AreSettled claim s → IsGood claim (with_settable cell s)
good-settled claim cell s are = record { store = are.store; globals = are.globals; caller = are.caller }

-- the text before the last such byte
before_last-within : (set : Bytes) (byte : ℕ) (text front : List ℕ) → Within set text → before_last byte text ≡ Some front → Within set front
before_last-within set byte [] front within is = absurd cc
before_last-within set byte (b ∷ bs) front within is = by (before_last byte bs) refl (λ f e. before_last-within set byte bs f within.1 e) is
  where
    by : (o : Option (List ℕ)) → before_last byte bs ≡ o → ((f : List ℕ) → before_last byte bs ≡ Some f → Within set f)
        → option_map_or (λ f. Some (b ∷ f)) o (if b == byte then Some [] else None) ≡ Some front → Within set front
    by None from later same = none (b == byte) same
      where
        none : (t : Bool) → (if t then Some [] else None) ≡ Some front → Within set front
        none true same = subst (Within set) (let e : [] ≡ front = cc in e) tt
        none false same = absurd cc
    by (Some f) from later same = subst (Within set) (let e : b ∷ f ≡ front = cc in e) (within.0, later f from)

-- a text without the quotes at its ends
quotes-within : (set : Bytes) (text : List ℕ) → Within set text → Within set (without_quotes text)
quotes-within set [] within = tt
quotes-within set (b ∷ bs) within = by (b == 34)
  where
    ended : (front : List ℕ) → Within set front → (t : Bool) → Within set (unwrap_or (if t then Some front else None) (b ∷ bs))
    ended front is true = is
    ended front is false = within

    inner : (o : Option (List ℕ)) → before_last 34 bs ≡ o → Within set (unwrap_or (option_and_then (before_end bs) o) (b ∷ bs))
    inner None from = within
    inner (Some front) from = ended front (before_last-within set 34 bs front within.1 from) (length front + 1 == length bs)

    by : (t : Bool) → Within set (if t then unwrap_or (before_quote bs) (b ∷ bs) else b ∷ bs)
    by true = inner (before_last 34 bs) refl
    by false = within

-- the name and the number of a caller
record IsTextWithin (set : Bytes) (caller : CallerTextOf) : Type 0 where
  name : Within set caller.name
  number : Within set caller.number

alone-within : (set : Bytes) (text : List ℕ) → Within set text → IsTextWithin set (number_alone text)
alone-within set text within = record { name = tt; number = within-trim set text within }

caller-within : (set : Bytes) (text : List ℕ) → Within set text → IsTextWithin set (caller_of text)
unfolding caller_of
caller-within set text within = by (cut_once 60 text) refl
  where
    closed : (cut : List ℕ × List ℕ) → cut_once 60 text ≡ Some cut → (o : Option (List ℕ)) → before_last 62 cut.1 ≡ o
        → IsTextWithin set (option_map_or (name_and_number cut.0) o (number_alone text))
    closed cut from None last = alone-within set text within
    closed cut from (Some number) last =
        let parted = cut_once-is 60 text cut.0 cut.1 from in
        record {
          name = quotes-within set (trim cut.0) (within-trim set cut.0 (each-cut_front (λ b. set b ≡ true) 60 text cut.0 cut.1 parted within));
          number = within-trim set number (before_last-within set 62 cut.1 number (each-cut_rest (λ b. set b ≡ true) 60 text cut.0 cut.1 parted within) last);
        }

    by : (o : Option (List ℕ × List ℕ)) → cut_once 60 text ≡ o → IsTextWithin set (caller_by text o)
    by None from = alone-within set text within
    by (Some cut) from = closed cut from (before_last 62 cut.1) refl

module _ (claim : Claim) (set : Bytes) where
  settled-target : (s : Settable) (target : SettingTarget) (value : List ℕ) → AreSettled claim s → Within set value → MeetsAll claim (target_duties set target)
      → AreSettled claim (with_target s target value)
  settled-target s (Variable name) value are is met =
      record { store = kept-set claim s.store name value are.store (within-more set _ met.0 value is); globals = are.globals; caller = are.caller }
  settled-target s (Global name) value are is met =
      record { store = are.store; globals = held-insert claim.names s.globals name value are.globals (within-more set _ met.0 value is); caller = are.caller }
  settled-target s (Local name) value are is met =
      record { store = kept-set_local claim s.store name value are.store (within-more set _ met.0 value is); globals = are.globals; caller = are.caller }
  settled-target s Caller value are is met = record { store = are.store; globals = are.globals; caller = within-more set _ met.0 value is }
  settled-target s Nothing value are is met = are

  -- what a name sets, if its duties are met, and a list of names is taken as a cell that may have the bytes
  settled-effect : (s : Settable) (name value : List ℕ) (effect : EffectOf) → AreSettled claim s → Within set value → MeetsAll claim (effect_duties set effect)
      → AreSettled claim (with_effect s name effect value)
  settled-effect s name value (OneTarget target) are is met = settled-target s target value are is met
  settled-effect s name value NameAndNumber are is met =
      let caller = caller-within set value is in record {
        store = kept-set claim s.store (cell_name (codes "CALLERID") (codes "name")) (caller_of value).name are.store (within-more set _ met.1.0 (caller_of value).name caller.name);
        globals = are.globals;
        caller = within-more set _ met.0 (caller_of value).number caller.number;
      }
  settled-effect s name value (EmptyKey key) are is met =
      record { store = are.store; globals = held-insert claim.names s.globals (cell_name (codes "DB") key) [] are.globals tt; caller = are.caller }
  settled-effect s name value (EachName names) are is met = settled-target s (Variable name) value are is (met.0 name, tt)

  -- if each name and the caller may have the bytes, so may what a name sets
  module _ (any : MeetsAll claim (any_duties set)) where
    met-target : (target : SettingTarget) → MeetsAll claim (target_duties set target)
    met-target (Variable name) = (any.0 name, tt)
    met-target (Global name) = (any.0 name, tt)
    met-target (Local name) = (any.0 name, tt)
    met-target Caller = (any.1.0, tt)
    met-target Nothing = tt

    met-effect : (effect : EffectOf) → MeetsAll claim (effect_duties set effect)
    met-effect (OneTarget target) = met-target target
    met-effect NameAndNumber = (any.1.0, (any.0 (cell_name (codes "CALLERID") (codes "name")), tt))
    met-effect (EmptyKey key) = tt
    met-effect (EachName names) = any

    first-within : (values : List (List ℕ)) → AllByRecursion (Within set) values → Within set (first_value values)
    first-within [] all = tt
    first-within (value ∷ values) all = all.0

    later-within : (values : List (List ℕ)) → AllByRecursion (Within set) values → AllByRecursion (Within set) (later_values values)
    later-within [] all = tt
    later-within (value ∷ values) all = all.1

    settled-each : (s : Settable) (names values : List (List ℕ)) → AreSettled claim s → AllByRecursion (Within set) values → AreSettled claim (with_each s names values)
    settled-each s [] values are all = are
    settled-each s (name ∷ names) values are all =
        settled-each (with_one s name (first_value values)) names (later_values values)
        (settled-effect s (bare_name name) (first_value values) (effect_of (bare_name name)) are (first-within values all) (met-effect (effect_of (bare_name name))))
        (later-within values all)

  settled-setting : (s : Settable) (name value : List ℕ) (effect : EffectOf) → AreSettled claim s → Within set value → MeetsAll claim (effect_duties set effect)
      → AreSettled claim (with_setting s name effect value)
  unfolding parts_of
  settled-setting s name value (OneTarget target) are is met = settled-effect s name value (OneTarget target) are is met
  settled-setting s name value NameAndNumber are is met = settled-effect s name value NameAndNumber are is met
  settled-setting s name value (EmptyKey key) are is met = settled-effect s name value (EmptyKey key) are is met
  settled-setting s name value (EachName names) are is met = settled-each met s (parts_of names) (parts_of value) are (split-within set value [] is)

  -- a text of which nothing is known
  settled-text : MeetsAll claim (any_duties set) → (s : Settable) (text : List ℕ) → AreSettled claim s → Within set text → AreSettled claim (with_text s text)
  settled-text any s text are is = by (cut_once 61 text) refl
    where
      by : (o : Option (List ℕ × List ℕ)) → cut_once 61 text ≡ o → AreSettled claim (with_pair s o)
      by None from = are
      by (Some cut) from =
          settled-setting s (bare_name cut.0) cut.1 (effect_of (bare_name cut.0)) are
          (each-cut_rest (λ b. set b ≡ true) 61 text cut.0 cut.1 (cut_once-is 61 text cut.0 cut.1 from) is) (met-effect any (effect_of (bare_name cut.0)))

  settled-texts : MeetsAll claim (any_duties set) → (s : Settable) (texts : List (List ℕ)) → AreSettled claim s → AllByRecursion (Within set) texts
      → AreSettled claim (fold with_text s texts)
  settled-texts any s [] are all = are
  settled-texts any s (text ∷ texts) are all = settled-texts any (with_text s text) texts (settled-text any s text are all.0) all.1

-- a text with a known name, or without
settled-pair : (claim : Claim) (s : Settable) (pieces : List PieceOf) (text : List ℕ) → AreSettled claim s → Fits pieces text
    → (o : Option (List ℕ × List PieceOf)) → IsCutKnown 61 o text → MeetsAll claim (setting_duties pieces o) → AreSettled claim (with_text s text)
settled-pair claim s pieces text are fits None known met = settled-text claim (pieces_set pieces) met s text are (fits-set pieces text fits)
settled-pair claim s pieces text are fits (Some cut) known met =
    subst (λ o. AreSettled claim (with_pair s o)) (sym known.1)
    (settled-setting claim (pieces_set cut.1) s (bare_name cut.0) known.0 (effect_of (bare_name cut.0)) are (fits-set cut.1 known.0 known.2) met)

-- the row of `Set`
pub wide_set-bounded : IsBounded wide_set_duties set_row
unfolding set_row
wide_set-bounded claim area pieces arguments cell good inside own fits met = record {
  cell = good-settled claim cell (with_text (settable_of cell) arguments)
      (settled-pair claim (settable_of cell) pieces arguments (settled-cell claim cell good) fits (cut_known 61 pieces) (known-fits 61 pieces arguments fits) met);
  next = tt;
}

-- the row of `MSet`
pub mset-bounded : IsBounded mset_duties mset_row
unfolding mset_row
mset-bounded claim area pieces arguments cell good inside own fits met = record {
  cell = good-settled claim cell (fold with_text (settable_of cell) (arguments_of arguments))
      (settled-texts claim (pieces_set pieces) met (settable_of cell) (arguments_of arguments) (settled-cell claim cell good)
      (arguments-within (pieces_set pieces) arguments (fits-set pieces arguments fits)));
  next = tt;
}
