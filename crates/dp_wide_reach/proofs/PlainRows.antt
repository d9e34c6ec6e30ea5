-- The rows of the wide table that delete keys, that run outside, and that leave a macro stay inside if what they owe is met.
use Rattle.std.proofs.Common.{◌≡◌, ℕ, Bool, true, false, ◌-◌, ◌==◌, List, [], ◌∷◌, ◌++◌, length, codes, Option, Some, None, refl, sym, subst, if◌then◌else◌}
use Rattle.std.specs.FinMap.{insert}
use Rattle.std.specs.List.{AllByRecursion}
use Rattle.dp_conf.specs.Blanks.{trim}
use Rattle.dp_conf.specs.Levels.{arguments_of}
use Rattle.dp_vars.specs.Stores.{StoreFrame, StoreOf, innermost, set, unset, value_in}
use Rattle.dp_vars.specs.Variables.{Named}
use Rattle.dp_app.specs.Cells.{CellOf}
use Rattle.dp_app.specs.Parts.{part}
use Rattle.dp_app.specs.declared.place.Place.{Place}
use Rattle.dp_pieces.specs.Bytes.{Bytes, IsPart, Within, either}
use Rattle.dp_pieces.specs.Pieces.{bytes_in, pieces_set, text_known}
use Rattle.dp_pieces.proofs.FitsLemmas.{fits-set, fits-text_known}
use Rattle.dp_pieces.proofs.WithinLemmas.{part-left, part-right, within-append, within-more, within-own, within-trim}
use Rattle.dp_wide.specs.CellValues.{assumed_name, deleted_name}
use Rattle.dp_wide.specs.Cells.{cell_name}
use Rattle.dp_wide.specs.Deleting.{database_front, delete_row, delete_tree_row, deleted_mark, front_below, names_all, tree_of, without_key, without_keys, without_named}
use Rattle.dp_wide.specs.Macros.{exit_by, macro_exit_row}
use Rattle.dp_wide.specs.Outside.{after_arguments, after_reading, name_to_read, outside_outcome, outside_row, without_values}
use Rattle.dp_wide.specs.ReadNames.{is_listed, read_names, with_listed}
use Rattle.dp_wide.specs.Settings.{without_mark}
use Rattle.dp_reach.specs.Areas.{Covers}
use Rattle.dp_reach.specs.Bounds.{Holds, IsBounded, Meets, MeetsAll, nothing_owed}
use Rattle.dp_reach.specs.Holding.{AreHeld, Claim, IsGood, IsHeld, IsInside, KeepsToClaim}
use Rattle.dp_reach.proofs.StoreLemmas.{each-get, held-insert, kept-set, kept-without_frame}
use Rattle.dp_reach.proofs.TargetLemmas.{arguments-within}
use Rattle.dp_wide_reach.specs.Settings.{delete_tree_duties, deletion_duties, read_duties}
use Rattle.dp_wide_reach.proofs.HeldLemmas.{held-value_in, held-without_tree, kept-unset}

-- the end of a macro
pub macro_exit-bounded : IsBounded nothing_owed macro_exit_row
macro_exit-bounded claim area pieces arguments cell good inside own fits met = by (innermost cell.store.frames) refl
  where
    by : (o : Option (StoreFrame Place)) → innermost cell.store.frames ≡ o → IsInside claim cell.place (exit_by cell o)
    by None is = record { cell = good; next = tt }
    by (Some frame) is = record {
      cell = record { store = kept-without_frame claim cell.store good.store; globals = good.globals; caller = good.caller };
      next = λ place found.
          let same : frame.back ≡ place = cc in
          subst (Covers claim.plan claim.reach) same (each-get (λ (frame : StoreFrame Place). Covers claim.plan claim.reach frame.back) cell.store.frames (length cell.store.frames - 1) frame good.store.back is);
    }

-- the row of `DBdel`
pub delete-bounded : IsBounded nothing_owed delete_row
delete-bounded claim area pieces arguments cell good inside own fits met = record {
  cell = record { store = good.store; globals = held-insert claim.names cell.globals (cell_name (codes "DB") (trim arguments)) [] good.globals tt; caller = good.caller };
  next = tt;
}

-- the globals after keys were deleted
held-without_named : (claim : Claim) (globals : Named) (argument : List ℕ) → AreHeld claim.names globals → Meets claim (Holds (deleted_mark argument) (bytes_in (codes "1")))
    → AreHeld claim.names (without_named globals argument)
held-without_named claim globals argument held met = by (names_all argument) met
  where
    marked : (name : List ℕ) → IsPart (bytes_in (codes "1")) (claim.names.bytes name) → AreHeld claim.names (insert globals name (codes "1"))
    marked name part = held-insert claim.names globals name (codes "1") held (within-more (bytes_in (codes "1")) _ part (codes "1") (within-own (codes "1")))

    by : (all : Bool) → IsPart (bytes_in (codes "1")) (claim.names.bytes (if all then assumed_name (codes "DB") else deleted_name (tree_of argument)))
        → AreHeld claim.names (if all then without_keys globals else without_key globals (tree_of argument))
    by true part = held-without_tree claim.names _ database_front database_front (marked (assumed_name (codes "DB")) part)
    by false part =
        held-without_tree claim.names _ (cell_name (codes "DB") (tree_of argument)) (front_below (tree_of argument)) (marked (deleted_name (tree_of argument)) part)

-- the row of `DBdeltree`
pub delete_tree-bounded : IsBounded delete_tree_duties delete_tree_row
delete_tree-bounded claim area pieces arguments cell good inside own fits met = record {
  cell = record { store = good.store; globals = held-without_named claim cell.globals (trim arguments) good.globals (by (text_known pieces) refl met); caller = good.caller };
  next = tt;
}
  where
    by : (o : Option (List ℕ)) → text_known pieces ≡ o → MeetsAll claim (deletion_duties o) → Meets claim (Holds (deleted_mark (trim arguments)) (bytes_in (codes "1")))
    by None from met = met.0 (deleted_mark (trim arguments))
    by (Some text) from met =
        subst (λ t. IsPart (bytes_in (codes "1")) (claim.names.bytes (deleted_mark (trim t)))) (sym (fits-text_known pieces arguments text from fits)) met.0

-- a name for input is a part of the first argument
mark-within : (set : Bytes) (name : List ℕ) → Within set name → Within set (without_mark name)
mark-within set [] is = tt
mark-within set (b ∷ bs) is = by (b == 95)
  where
    by : (t : Bool) → Within set (if t then bs else b ∷ bs)
    by true = is.1
    by false = is

part-within : (set : Bytes) (parts : List (List ℕ)) → AllByRecursion (Within set) parts → Within set (part 0 parts)
part-within set [] all = tt
part-within set (text ∷ texts) all = all.0

name-within : (set : Bytes) (arguments : List ℕ) → Within set arguments → Within set (name_to_read arguments)
name-within set arguments is =
    let first = part-within set (arguments_of arguments) (arguments-within set arguments is) in
    mark-within set _ (mark-within set _ (within-trim set (part 0 (arguments_of arguments)) first))

-- the list of the names for input
listed-within : (set own : Bytes) (name : List ℕ) → IsPart (either set (bytes_in (codes ","))) own → Within set name → (o : Option (List ℕ)) → IsHeld own o
    → Within own (with_listed o name)
listed-within set own name part is None held = within-more set own (λ byte has. part byte (part-left set (bytes_in (codes ",")) byte has)) name is
listed-within set own name part is (Some names) held = by (is_listed names name)
  where
    more : IsPart set own
    more byte has = part byte (part-left set (bytes_in (codes ",")) byte has)

    by : (t : Bool) → Within own (if t then names else names ++ 44 ∷ name)
    by true = held
    by false = within-append own names (44 ∷ name) held (part 44 (part-right set (bytes_in (codes ",")) 44 refl), within-more set own more name is)

-- the store after names lost their values
kept-without_values : (claim : Claim) (names : List (List ℕ)) (store : StoreOf Place) → KeepsToClaim claim store → KeepsToClaim claim (without_values names store)
kept-without_values claim [] store kept = kept
kept-without_values claim (name ∷ names) store kept = kept-without_values claim names (unset store name) (kept-unset claim store name kept)

kept-after_reading : (claim : Claim) (set : Bytes) (name : List ℕ) (store : StoreOf Place) → Meets claim (Holds read_names (either set (bytes_in (codes ",")))) → Within set name
    → KeepsToClaim claim store → KeepsToClaim claim (after_reading name store)
kept-after_reading claim set name store met is kept =
    kept-unset claim _ name (kept-set claim store read_names (with_listed (value_in store read_names) name) kept
    (listed-within set (claim.names.bytes read_names) name met is (value_in store read_names) (held-value_in claim store read_names kept)))

-- an application that runs outside, whose store before it keeps to the claim
outside-inside : (claim : Claim) (statuses : List (List ℕ)) (reads : Bool) (arguments : List ℕ) (cell : CellOf) → IsGood claim cell
    → KeepsToClaim claim (after_arguments reads arguments cell.store) → (closing : Bool) → IsInside claim cell.place (outside_outcome statuses reads arguments cell closing)
outside-inside claim statuses reads arguments cell good kept true = record { cell = good; next = tt }
outside-inside claim statuses reads arguments cell good kept false = record {
  cell = record { store = kept-without_values claim statuses (after_arguments reads arguments cell.store) kept; globals = good.globals; caller = good.caller };
  next = tt;
}

-- the rows that run outside
pub outside-bounded : (statuses : List (List ℕ)) → IsBounded nothing_owed (outside_row statuses false)
unfolding outside_row
outside-bounded statuses claim area pieces arguments cell good inside own fits met = outside-inside claim statuses false arguments cell good good.store cell.is_closing

pub read-bounded : (statuses : List (List ℕ)) → IsBounded read_duties (outside_row statuses true)
unfolding outside_row
read-bounded statuses claim area pieces arguments cell good inside own fits met =
    outside-inside claim statuses true arguments cell good
    (kept-after_reading claim (pieces_set pieces) (name_to_read arguments) cell.store met.0 (name-within (pieces_set pieces) arguments (fits-set pieces arguments fits)) good.store)
    cell.is_closing
