-- Stores and maps whose values have the bytes that their names may have, after names lose their values, and the value of a name in a store.
use Rattle.std.proofs.Common.{ℕ, Bool, true, false, not, cond, List, [], ◌∷◌, map, reverse, None, sym, ap, subst}
use Rattle.std.specs.List.{AllByRecursion}
use Rattle.std.specs.Cmp.Lexicographic.{nat_list_cmp_total, slice_cmp}
use Rattle.std.specs.Ordering.{eq_by_cmp, nat_cmp}
use Rattle.std.specs.FinMap.{get, get-remove, get-retain_keys, remove, slice_cmp-IsAntisymmetric, nat_cmp-IsAntisymmetric}
use Rattle.dp_conf.proofs.TextLemmas.{each-append}
use Rattle.dp_vars.specs.Stores.{StoreFrame, StoreOf, all_locals, searched_maps, unset, value_in, without_local}
use Rattle.dp_vars.specs.Variables.{Named, is_in_tree, without_tree}
use Rattle.dp_app.specs.declared.place.Place.{Place}
use Rattle.dp_pieces.specs.Names.{Names}
use Rattle.dp_reach.specs.Areas.{Covers}
use Rattle.dp_reach.specs.Holding.{AreHeld, Claim, IsHeld, KeepsToClaim}
use Rattle.dp_reach.proofs.SightLemmas.{each-reverse, held-first, locals-held}

-- a map without a name
held-remove : (names : Names) (values : Named) (name : List ℕ) → AreHeld names values → AreHeld names (remove values name)
held-remove names values name held q =
    subst (IsHeld (names.bytes q)) (sym (get-remove nat_list_cmp_total values name q)) (by (eq_by_cmp (slice_cmp nat_cmp) q name))
  where
    by : (same : Bool) → IsHeld (names.bytes q) (cond same None (get values q))
    by true = tt
    by false = held q

-- a map without the names of a tree
pub held-without_tree : (names : Names) (values : Named) (root front : List ℕ) → AreHeld names values → AreHeld names (without_tree root front values)
held-without_tree names values root front held q =
    subst (IsHeld (names.bytes q))
    (sym (get-retain_keys values (λ name. not (is_in_tree root front name)) q
    (λ x same. ap (λ name. not (is_in_tree root front name)) (sym (slice_cmp-IsAntisymmetric nat_cmp-IsAntisymmetric q x same)))))
    (by (not (is_in_tree root front q)))
  where
    by : (kept : Bool) → IsHeld (names.bytes q) (cond kept (get values q) None)
    by true = held q
    by false = tt

-- frames without a local
held-frames : (names : Names) (name : List ℕ) (frames : List (StoreFrame Place)) → AllByRecursion (λ (frame : StoreFrame Place). AreHeld names frame.locals) frames
    → AllByRecursion (λ (frame : StoreFrame Place). AreHeld names frame.locals) (map (without_local name) frames)
held-frames names name [] all = tt
held-frames names name (frame ∷ frames) all = (held-remove names frame.locals name all.0, held-frames names name frames all.1)

back-frames : (claim : Claim) (name : List ℕ) (frames : List (StoreFrame Place)) → AllByRecursion (λ (frame : StoreFrame Place). Covers claim.plan claim.reach frame.back) frames
    → AllByRecursion (λ (frame : StoreFrame Place). Covers claim.plan claim.reach frame.back) (map (without_local name) frames)
back-frames claim name [] all = tt
back-frames claim name (frame ∷ frames) all = (all.0, back-frames claim name frames all.1)

-- a store in which a name no longer has a value
pub kept-unset : (claim : Claim) (store : StoreOf Place) (name : List ℕ) → KeepsToClaim claim store → KeepsToClaim claim (unset store name)
unfolding unset
kept-unset claim store name kept = record {
  variables = held-remove claim.names store.variables name kept.variables;
  locals = held-frames claim.names name store.frames kept.locals;
  back = back-frames claim name store.frames kept.back;
}

-- the value of a name in a store
pub held-value_in : (claim : Claim) (store : StoreOf Place) (name : List ℕ) → KeepsToClaim claim store → IsHeld (claim.names.bytes name) (value_in store name)
held-value_in claim store name kept =
    held-first claim.names (searched_maps store) name
    (each-append (AreHeld claim.names) (all_locals store.frames) (store.variables ∷ [])
    (locals-held claim.names (reverse store.frames) (each-reverse (λ (frame : StoreFrame Place). AreHeld claim.names frame.locals) store.frames kept.locals)) (kept.variables, tt))
