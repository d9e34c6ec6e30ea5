-- Entries and areas of a closed claim.
use Rattle.std.proofs.Common.{◌≡◌, ℕ, suc, ◌<◌, ◌≤◌, ◌+◌, ◌==◌, ◌⊎◌, inl, inr, Bool, true, false, List, [], ◌∷◌, ◌++◌, drop, get_or, length, map, Option, Some, None, slice_get, refl, sym, ap, ◌∙◌, subst, arith}
use Rattle.std.proofs.lemmas.Bool.{cases_lt}
use Rattle.std.proofs.lemmas.List.{drop_all, drop_more}
use Rattle.std.proofs.lemmas.Option.{slice_get_past, slice_get_read}
use Rattle.std.specs.Global.{Vec}
use Rattle.std.specs.List.{AllByRecursion}
use Rattle.std.specs.Option.{option_and_then, option_map, option_map_or}
use borrow.Author.Tests.{eqb-true}
use Rattle.dp_lookup.specs.SearchOrder.{has, search_order}
use Rattle.dp_pieces.specs.Bytes.{Bytes, IsPart}
use Rattle.dp_pieces.specs.Pieces.{Fits, PieceOf as ShapePiece, exactly, text_known}
use Rattle.dp_pieces.specs.Shown.{shown_all}
use Rattle.dp_pieces.specs.declared.piece.Piece.{Piece}
use Rattle.dp_pieces.proofs.FitsLemmas.{fits-text_known}
use Rattle.dp_plan.specs.Contexts.{PlanContext}
use Rattle.dp_plan.specs.Lookup.{entry_at}
use Rattle.dp_plan.specs.Plan.{PlanOf}
use Rattle.dp_plan.specs.declared.entry.Entry.{Entry}
use Rattle.dp_plan.specs.declared.entry.EntryId.{EntryId}
use Rattle.dp_reach.specs.Areas.{Area, area_at, area_matched}
use Rattle.dp_reach.specs.Bounds.{Obligations}
use Rattle.dp_reach.specs.Closed.{IsEntry}
use Rattle.dp_reach.specs.Finding.{MayFind}
use Rattle.dp_reach.specs.Holding.{Claim}
use Rattle.dp_closed.specs.Found.{IsUnfound}
use Rattle.dp_closed.specs.Reach.{areas_in, shapes_at}
use Rattle.dp_closed.specs.Steps.{IsEntryIn}

-- the entries of the context with a number
abbrev pub entries_in : PlanOf → ℕ → List Entry
entries_in plan number = option_map_or (λ (c : PlanContext). c.entries) (slice_get plan.contexts number) []

-- an entry that does not exist is not found
pub not-there : (plan : PlanOf) (area : Area) (id : EntryId) (entry : Entry) → entry_at plan id ≡ None → MayFind plan area id entry → ⊥
not-there plan area id entry is may = let there : entry_at plan id ≡ Some entry = may.there in cc

-- an entry that is not found in any context with these entries
pub not_in_context : (plan : PlanOf) (context exten : List ShapePiece) (id : EntryId) (entry other : Entry) (entries : List Entry) → entry_at plan id ≡ Some entry
    → entries ≡ entries_in plan id.context → IsUnfound entries entry exten → MayFind plan (area_at context exten) id other → ⊥
not_in_context plan context exten id entry other entries there are none may = by (slice_get plan.contexts id.context) refl
  where
    same : other ≡ entry
    same = let found : entry_at plan id ≡ Some other = may.there in cc

    by : (o : Option PlanContext) → slice_get plan.contexts id.context ≡ o → ⊥
    by None is =
        let no : None ≡ Some entry = ap (option_and_then (λ (c : PlanContext). slice_get c.entries id.entry)) (sym is) ∙ there in cc
    by (Some c) is =
        let same_entries : entries ≡ c.entries = are ∙ ap (λ o. option_map_or (λ (c : PlanContext). c.entries) o []) is in
        none plan context id (ap (option_map (λ (c : PlanContext). c.entries)) is ∙ ap (λ es. Some es) (sym same_entries))
        (subst (λ e. MayFind plan (area_at context exten) id e) same may)

-- an entry that is found, from what is known of its match
pub found-entry : (owing : Obligations) (claim : Claim) (answers : EntryId → Bool) (area met : Area) (id : EntryId) (entry : Entry) → entry_at claim.plan id ≡ Some entry
    → met ≡ area_matched area entry.name → IsEntry owing claim answers met id entry → IsEntryIn owing claim answers area id
found-entry owing claim answers area met id entry there is closed other may =
    let found : entry_at claim.plan id ≡ Some other = may.there in
    let same : entry ≡ other = cc in
    subst (λ (e : Entry). IsEntry owing claim answers (area_matched area e.name) id e) same
    (subst (λ (a : Area). IsEntry owing claim answers a id entry) is closed)

-- after the entries of a context there is none
pub past-entries : (plan : PlanOf) (number entry : ℕ) → length (entries_in plan number) ≤ entry → entry_at plan (record { context = number; entry = entry }) ≡ None
past-entries plan number entry = by (slice_get plan.contexts number)
  where
    by : (o : Option PlanContext) → length (option_map_or (λ (c : PlanContext). c.entries) o []) ≤ entry → option_and_then (λ (c : PlanContext). slice_get c.entries entry) o ≡ None
    by None past = refl
    by (Some c) past = slice_get_past c.entries entry past

-- an entry of a context of the dialplan, by its number
pub there-in : (plan : PlanOf) (number place : ℕ) (entry : Entry) (entries : List Entry) → entries ≡ entries_in plan number → place < length entries
    → entry ≡ get_or entries place entry → entry_at plan (record { context = number; entry = place }) ≡ Some entry
there-in plan number place entry entries are within here =
    by (slice_get plan.contexts number) (subst (λ (es : List Entry). slice_get es place ≡ Some entry) are (slice_get_read entries (length entries) place entry refl within here))
  where
    by : (o : Option PlanContext) → slice_get (option_map_or (λ (c : PlanContext). c.entries) o []) place ≡ Some entry
        → option_and_then (λ (c : PlanContext). slice_get c.entries place) o ≡ Some entry
    by None is = is
    by (Some c) is = is

-- each entry of the context with a number is closed
abbrev pub AreEntriesIn : Obligations → Claim → (EntryId → Bool) → Area → ℕ → Type 0
AreEntriesIn owing claim answers area number = (entry : ℕ) → IsEntryIn owing claim answers area (record { context = number; entry = entry })

-- it holds of each of these numbers
abbrev pub HoldsOfEach : (ℕ → Type 0) → List ℕ → Type 0
HoldsOfEach P order = (n : ℕ) → has order n ≡ true → P n

-- it holds of the first of these numbers, and of those after it
has-first : (P : ℕ → Type 0) (first : ℕ) (rest : List ℕ) → P first → HoldsOfEach P rest → HoldsOfEach P (first ∷ rest)
has-first P first rest here there n = by (first == n) refl
  where
    by : (b : Bool) → (first == n) ≡ b → has (first ∷ rest) n ≡ true → P n
    by true same is = subst P (eqb-true first n same) here
    by false other is = there n (let e : has rest n ≡ true = cc in e)

-- it holds from a place of a list on
pub has-more : (P : ℕ → Type 0) (order : List ℕ) (at default : ℕ) → at < length order → P (get_or order at default)
    → HoldsOfEach P (drop (at + 1) order) → HoldsOfEach P (drop at order)
has-more P order at default within here there =
    subst (HoldsOfEach P) (sym (drop_more order at default within))
    (has-first P (get_or order at default) (drop (at + 1) order) here there)

pub has-none : (P : ℕ → Type 0) (order : List ℕ) (at : ℕ) → length order ≤ at → HoldsOfEach P (drop at order)
has-none P order at past = subst (HoldsOfEach P) (sym (drop_all at order past)) (λ n is. absurd cc)

-- what holds below a number and at it holds below the next
pub below-more : (P : ℕ → Type 0) (n : ℕ) → ((k : ℕ) → k < n → P k) → P n → (k : ℕ) → k < n + 1 → P k
below-more P n below here k less = by (cases_lt k n)
  where
    by : (k < n) ⊎ (n ≤ k) → P k
    by (inl less_still) = below k less_still
    by (inr past) = let same : n ≡ k = omega (arith, less, past) in subst P same here

-- each entry of the context with a number is closed if those below a number are, and there are no more
pub none-behind : (owing : Obligations) (claim : Claim) (answers : EntryId → Bool) (area : Area) (number count : ℕ) → length (entries_in claim.plan number) ≤ count
    → ((k : ℕ) → k < count → IsEntryIn owing claim answers area (record { context = number; entry = k })) → AreEntriesIn owing claim answers area number
none-behind owing claim answers area number count all below k = by (cases_lt k count)
  where
    by : (k < count) ⊎ (count ≤ k) → IsEntryIn owing claim answers area (record { context = number; entry = k })
    by (inl less) = below k less
    by (inr past) = λ entry may.
        absurd (not-there claim.plan area (record { context = number; entry = k }) entry (past-entries claim.plan number k (omega (arith, all, past))) may)

-- sets that are the same
pub part-by : (a b c d : Bytes) → a ≡ c → b ≡ d → IsPart a b → IsPart c d
part-by a b c d first second part = subst (λ (s : Bytes). IsPart s d) first (subst (IsPart a) second part)

pub all-drop : {X : Type 0} (P : X → Type 0) (xs : List X) (at : ℕ) (x : X) → at < length xs → x ≡ get_or xs at x → P x
    → AllByRecursion P (drop (at + 1) xs) → AllByRecursion P (drop at xs)
all-drop P xs at x within is here there = subst (AllByRecursion P) (sym (drop_more xs at x within)) (subst P is here, there)

text_known-is : (text : List ℕ) → text_known (exactly text) ≡ Some text
text_known-is [] = refl
text_known-is (byte ∷ text) = ap (option_map (λ bytes. byte ∷ bytes)) (text_known-is text)

-- the contexts that are searched from an area of a known context
pub searched-in : (plan : PlanOf) (area : Area) (name : List ℕ) (id : EntryId) (entry : Entry) → area.context ≡ exactly name → MayFind plan area id entry
    → has (search_order plan name) id.context ≡ true
searched-in plan area name id entry is may =
    let same : may.context ≡ name = fits-text_known (exactly name) may.context name (text_known-is name) (subst (λ (ps : List ShapePiece). Fits ps may.context) is may.context_fits) in
    subst (λ (n : List ℕ). has (search_order plan n) id.context ≡ true) same may.searched

-- all of two lists
all-both : {X : Type 0} (P : X → Type 0) (xs ys : List X) → AllByRecursion P xs → AllByRecursion P ys → AllByRecursion P (xs ++ ys)
all-both P [] ys first rest = rest
all-both P (x ∷ xs) ys first rest = (first.0, all-both P xs ys first.1 rest)

all-own : (P : Area → Type 0) (name : List ℕ) (shapes : List (Vec Piece)) → AllByRecursion (λ (shape : Vec Piece). P (area_at (exactly name) (shown_all shape.items))) shapes
    → AllByRecursion P (map (λ (shape : Vec Piece). area_at (exactly name) (shown_all shape.items)) shapes)
all-own P name [] all = tt
all-own P name (shape ∷ shapes) all = (all.0, all-own P name shapes all.1)

-- each area of a reach, by the numbers of the contexts
pub all-areas : (P : Area → Type 0) (contexts : List PlanContext) (shapes : List (Vec (Vec Piece)))
    → ((k : ℕ) (context : PlanContext) → slice_get contexts k ≡ Some context
    → AllByRecursion (λ (shape : Vec Piece). P (area_at (exactly context.name) (shown_all shape.items))) (shapes_at shapes k))
    → AllByRecursion P (areas_in contexts shapes)
all-areas P [] shapes all = tt
all-areas P (context ∷ contexts) [] all = tt
all-areas P (context ∷ contexts) (first ∷ shapes) all =
    all-both P (map (λ (shape : Vec Piece). area_at (exactly context.name) (shown_all shape.items)) first.items) (areas_in contexts shapes)
    (all-own P context.name first.items (all 0 context refl))
    (all-areas P contexts shapes (λ k own at. all (suc k) own at))

-- what holds of all holds in each case
pub all-more : {X : Type 0} (P Q : X → Type 0) (xs : List X) → ((x : X) → P x → Q x) → AllByRecursion P xs → AllByRecursion Q xs
all-more P Q [] more all = tt
all-more P Q (x ∷ xs) more all = (more x all.0, all-more P Q xs more all.1)
