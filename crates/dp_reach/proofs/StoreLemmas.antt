-- Stores whose values have the bytes that their names may have, after a name is set and after a frame is pushed or dropped.
use Rattle.std.proofs.Common.{◌≡◌, ℕ, zero, suc, ◌-◌, Bool, true, false, cond, List, [], ◌∷◌, length, fold, slice_get, Option, Some, None, nat_eq, refl, sym, ap, ◌∙◌, subst}
use Rattle.std.specs.List.{AllByRecursion}
use Rattle.std.specs.Cmp.Lexicographic.{bytes_decides, nat_list_cmp_total, pointwise, slice_cmp, texts_ties}
use Rattle.std.specs.Ordering.{nat_cmp}
use Rattle.std.specs.FinMap.{empty, get, get-empty, get-insert, insert}
use Rattle.dp_conf.proofs.TextLemmas.{each-append, each-take}
use Rattle.dp_vars.specs.Stores.{StoreFrame, StoreOf, changed_at, holder, set, set_in, set_local, with_frame, with_local, without_frame}
use Rattle.dp_vars.specs.Variables.{Named, map_of, map_with}
use Rattle.dp_vars.specs.declared.local.Local.{Local}
use Rattle.dp_app.specs.declared.place.Place.{Place}
use Rattle.dp_pieces.specs.Bytes.{Within}
use Rattle.dp_pieces.specs.Names.{Names}
use Rattle.dp_reach.specs.Areas.{Covers}
use Rattle.dp_reach.specs.Holding.{AreHeld, Claim, IsHeld, KeepsToClaim}

-- an element of a list with this property
pub each-get : {X : Type 0} (P : X → Type 0) (xs : List X) (i : ℕ) (x : X) → AllByRecursion P xs → slice_get xs i ≡ Some x → P x
each-get P [] i x all is = absurd cc
each-get P (y ∷ ys) zero x all is = let same : y ≡ x = cc in subst P same all.0
each-get P (y ∷ ys) (suc i) x all is = each-get P ys i x all.1 is

-- a value that is set
pub held-insert : (names : Names) (values : Named) (name value : List ℕ) → AreHeld names values → Within (names.bytes name) value → AreHeld names (insert values name value)
held-insert names values name value held is q =
    subst (IsHeld (names.bytes q)) (sym (get-insert nat_list_cmp_total values name value q ∙ ap (λ b. cond b (Some value) (get values q)) (sym (texts_ties q name))))
    (by (pointwise nat_eq q name) refl)
  where
    by : (same : Bool) → pointwise nat_eq q name ≡ same → IsHeld (names.bytes q) (cond same (Some value) (get values q))
    by true tied = subst (λ n. Within (names.bytes n) value) (sym ((bytes_decides q name).0 tied)) is
    by false other = held q

pub held-empty : (names : Names) → AreHeld names empty
held-empty names name = subst (IsHeld (names.bytes name)) (sym (get-empty (slice_cmp nat_cmp) name)) tt

-- locals that each have the bytes of their names
abbrev pub AreLocals : Names → List Local → Type 0
AreLocals names locals = AllByRecursion (λ (local : Local). Within (names.bytes local.name) local.value) locals

held-locals : (names : Names) (values : Named) (locals : List Local) → AreHeld names values → AreLocals names locals → AreHeld names (fold map_with values locals)
held-locals names values [] held all = held
held-locals names values (local ∷ locals) held all =
    held-locals names (map_with values local) locals (held-insert names values local.name local.value held all.0) all.1

module _ (claim : Claim) where
  -- a frame with its locals and its return place
  abbrev IsFrame : StoreFrame Place → Type 0
  IsFrame frame = AreHeld claim.names frame.locals × Covers claim.plan claim.reach frame.back

  frames-of : (frames : List (StoreFrame Place)) → AllByRecursion (λ (frame : StoreFrame Place). AreHeld claim.names frame.locals) frames
      → AllByRecursion (λ (frame : StoreFrame Place). Covers claim.plan claim.reach frame.back) frames → AllByRecursion IsFrame frames
  frames-of [] locals back = tt
  frames-of (frame ∷ frames) locals back = ((locals.0, back.0), frames-of frames locals.1 back.1)

  locals-of : (frames : List (StoreFrame Place)) → AllByRecursion IsFrame frames → AllByRecursion (λ (frame : StoreFrame Place). AreHeld claim.names frame.locals) frames
  locals-of [] all = tt
  locals-of (frame ∷ frames) all = (all.0.0, locals-of frames all.1)

  backs-of : (frames : List (StoreFrame Place)) → AllByRecursion IsFrame frames → AllByRecursion (λ (frame : StoreFrame Place). Covers claim.plan claim.reach frame.back) frames
  backs-of [] all = tt
  backs-of (frame ∷ frames) all = (all.0.1, backs-of frames all.1)

  kept-by : (store : StoreOf Place) → AreHeld claim.names store.variables → AllByRecursion IsFrame store.frames → KeepsToClaim claim store
  kept-by store variables frames = record { variables = variables; locals = locals-of store.frames frames; back = backs-of store.frames frames }

  kept-frames : (store : StoreOf Place) → KeepsToClaim claim store → AllByRecursion IsFrame store.frames
  kept-frames store kept = frames-of store.frames kept.locals kept.back

  changed-frames : (name value : List ℕ) → Within (claim.names.bytes name) value → (place : ℕ) (frames : List (StoreFrame Place)) → AllByRecursion IsFrame frames
      → AllByRecursion IsFrame (changed_at (with_local name value) place frames)
  changed-frames name value is place [] all = tt
  changed-frames name value is zero (frame ∷ frames) all = ((held-insert claim.names frame.locals name value all.0.0 is, all.0.1), all.1)
  changed-frames name value is (suc place) (frame ∷ frames) all = (all.0, changed-frames name value is place frames all.1)

  -- a name is set
  pub kept-set : (store : StoreOf Place) (name value : List ℕ) → KeepsToClaim claim store → Within (claim.names.bytes name) value → KeepsToClaim claim (set store name value)
  unfolding set
  kept-set store name value kept is = by (holder name store.frames)
    where
      by : (place : Option ℕ) → KeepsToClaim claim (set_in place store name value)
      by None = kept-by (set_in None store name value) (held-insert claim.names store.variables name value kept.variables is) (kept-frames store kept)
      by (Some place) = kept-by (set_in (Some place) store name value) kept.variables (changed-frames name value is place store.frames (kept-frames store kept))

  -- a local of the innermost frame is set
  pub kept-set_local : (store : StoreOf Place) (name value : List ℕ) → KeepsToClaim claim store → Within (claim.names.bytes name) value → KeepsToClaim claim (set_local store name value)
  unfolding set_local
  kept-set_local store name value kept is =
      kept-by (set_local store name value) kept.variables (changed-frames name value is (length store.frames - 1) store.frames (kept-frames store kept))

  -- a frame is pushed
  pub kept-with_frame : (store : StoreOf Place) (back : Place) (locals : List Local) → KeepsToClaim claim store → Covers claim.plan claim.reach back → AreLocals claim.names locals
      → KeepsToClaim claim (with_frame store back locals)
  kept-with_frame store back locals kept covers all =
      kept-by (with_frame store back locals) kept.variables
      (each-append IsFrame store.frames (record { back = back; locals = map_of locals } ∷ []) (kept-frames store kept) ((held-locals claim.names empty locals (held-empty claim.names) all, covers), tt))

  -- a frame is dropped
  pub kept-without_frame : (store : StoreOf Place) → KeepsToClaim claim store → KeepsToClaim claim (without_frame store)
  kept-without_frame store kept =
      kept-by (without_frame store) kept.variables (each-take IsFrame (length store.frames - 1) store.frames (kept-frames store kept))
