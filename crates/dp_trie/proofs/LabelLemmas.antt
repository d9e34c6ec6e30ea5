-- The table of labels leads from each label to the names that have it, in the order of names.
use Rattle.std.proofs.Common.{◌≡◌, ℕ, ◌<◌, ◌≤◌, Bool, true, false, cond, ◌&&◌, ◌==◌, List, [], ◌∷◌, take, drop, get_or, Option, Some, inl, inr, arith, refl, sym, ap, subst, ◌∙◌, Ordering, Less, Equal, Greater, nat_cmp, map}
use Rattle.std.specs.Prelude.{slice_get, filter, find, nat_lt}
use Rattle.std.specs.List.{AllByRecursion}
use Rattle.std.specs.List.Sorted.{IsStrictlySortedBy, IsPartitionedBy}
use Rattle.std.specs.Option.{option_map}
use Rattle.std.specs.Ordering.{ordering_then}
use Rattle.std.proofs.lemmas.Bool.{eq-eqb, ne_eqb, cases_order}
use Rattle.std.proofs.lemmas.Option.{slice_get_within, slice_get-get_or}
use Rattle.dp_pattern.specs.Name.{Meaning, Plain, Pattern}
use Rattle.dp_pattern.specs.Order.{name_cmp}
use Rattle.dp_plan.specs.Plan.{shares_label}
use Rattle.dp_trie.specs.Asked.{is_asked, has_label}
use Rattle.dp_trie.specs.Known.{Known}
use Rattle.dp_trie.specs.steps.Labels.{holder_of, holders_named, held_of, holder_cmp, is_matched, name_rank, AreRising, AreLabels}
use Rattle.dp_trie.specs.Names.{side_of}
use Rattle.dp_trie.specs.steps.Ranked.{AreInOrder, known_cmp}
use Rattle.dp_trie.specs.declared.labels.Holder.{Holder}
use Rattle.dp_trie.specs.declared.labels.Labels.{Labels}
use Rattle.dp_trie.proofs.PlainLemmas.{fits-side, rank-most, sides-rise}
use Rattle.dp_trie.proofs.PointLemmas.{all-first, at-first, at-last, rising-parted}
use Rattle.dp_trie.proofs.RisingLemmas.{sorted-at}

-- ---- the holders of one label are in the order of names

all-holders_named : (one : Known) (label : List ℕ) (entries : List Known) → AllByRecursion (λ other. known_cmp one other ≡ Less) entries → AllByRecursion (λ holder. holder_cmp (holder_of one) holder ≡ Less) (holders_named label entries)
all-holders_named one label [] each = tt
all-holders_named one label (other ∷ entries) each = by (shares_label other.label (Some label)) (all-holders_named one label entries each.1)
  where
    by : (b : Bool) → AllByRecursion (λ holder. holder_cmp (holder_of one) holder ≡ Less) (holders_named label entries) → AllByRecursion (λ holder. holder_cmp (holder_of one) holder ≡ Less) (map holder_of (cond b (other ∷ filter (λ known. shares_label known.label (Some label)) entries) (filter (λ known. shares_label known.label (Some label)) entries)))
    by true rest = (each.0, rest)
    by false rest = rest

entries-rise : (label : List ℕ) (entries : List Known) → AreInOrder entries → AreRising (holders_named label entries)
unfolding IsStrictlySortedBy
entries-rise label [] order = tt
entries-rise label (one ∷ entries) order = by (shares_label one.label (Some label)) (all-holders_named one label entries order.0) (entries-rise label entries order.1)
  where
    by : (b : Bool) → AllByRecursion (λ holder. holder_cmp (holder_of one) holder ≡ Less) (holders_named label entries) → AreRising (holders_named label entries) → AreRising (map holder_of (cond b (one ∷ filter (λ known. shares_label known.label (Some label)) entries) (filter (λ known. shares_label known.label (Some label)) entries)))
    by true all rest = (all, rest)
    by false all rest = rest

pub holders_named-rise : (entries : List Known) (labels : Labels) (label : List ℕ) → AreLabels entries labels → AreRising (held_of labels label)
holders_named-rise entries labels label are = subst AreRising (sym (are.each label)) (entries-rise label entries are.order)

-- those after the first are in order too
pub rise_rest : (first : Holder) (more : List Holder) → AreRising (first ∷ more) → AreRising more
unfolding IsStrictlySortedBy
rise_rest first more rise = rise.1

-- ---- the names of one label

-- a name that is not after another does not rank above it
rank-rises : (digits : List ℕ) (m n : Meaning) → (name_cmp m n ≡ Greater → ⊥) → name_rank digits m ≤ name_rank digits n
unfolding name_cmp
rank-rises digits (Plain a) (Plain b) low = sides-rise a b digits low
rank-rises digits (Plain a) (Pattern classes tail) low = let most = rank-most (side_of a digits) in omega (arith, most)
rank-rises digits (Pattern classes tail) (Plain b) low = absurd (low refl)
rank-rises digits (Pattern classes tail) (Pattern others other) low = omega arith

not_greater : (o p : Ordering) → ordering_then o p ≡ Less → o ≡ Greater → ⊥
not_greater Less p less e = cc
not_greater Equal p less e = cc
not_greater Greater p less e = cc

pub rank-at : (digits : List ℕ) (holders : List Holder) → AreRising holders → (i j : ℕ) (a b : Holder) → i < j → slice_get holders i ≡ Some a → slice_get holders j ≡ Some b → name_rank digits a.name ≤ name_rank digits b.name
rank-at digits holders rise i j a b before at_i at_j =
    rank-rises digits a.name b.name (not_greater (name_cmp a.name b.name) (nat_cmp a.priority b.priority) (sorted-at holder_cmp holders rise i j a b before at_i at_j))

-- the names below a rank come first
pub labels-parted : (digits : List ℕ) (holders : List Holder) (limit : ℕ) → AreRising holders → IsPartitionedBy (λ (holder : Holder). nat_lt (name_rank digits holder.name) limit) holders
labels-parted digits holders limit rise = rising-parted (λ (holder : Holder). name_rank digits holder.name) holders limit (rank-at digits holders rise)

-- a plain name matches if it is the digits
pub plain-matched : (digits : List ℕ) (m : Meaning) → name_rank digits m < 4 → is_matched digits m ≡ (name_rank digits m == 1)
plain-matched digits (Plain text) few = fits-side false text digits
plain-matched digits (Pattern classes tail) few = absurd (omega (arith, few))

module _ (digits : List ℕ) (holders : List Holder) (p : ℕ) (below : AllByRecursion (λ (holder : Holder). name_rank digits holder.name < 1) (take p holders)) where
  -- no name before the digits matches
  pub none-below : AllByRecursion (λ (holder : Holder). is_matched digits holder.name ≡ false) (take p holders)
  none-below = all-first (λ (holder : Holder). is_matched digits holder.name ≡ false) holders p (λ k holder few here.
      let low = at-first (λ (r : Holder). name_rank digits r.name < 1) holders p k holder below few here in
      plain-matched digits holder.name (omega (arith, low)) ∙ ne_eqb (name_rank digits holder.name) 1 (λ same. omega (arith, low, same)))

  -- if the first name after them does not match, no plain name does
  pub none-plain : AreRising holders → AllByRecursion (λ (holder : Holder). 1 ≤ name_rank digits holder.name) (drop p holders) → (q : ℕ) → AllByRecursion (λ (holder : Holder). name_rank digits holder.name < 4) (take q holders) → ((holder : Holder) → slice_get holders p ≡ Some holder → is_matched digits holder.name ≡ false) → AllByRecursion (λ (holder : Holder). is_matched digits holder.name ≡ false) (take q holders)
  none-plain rise above q plain other = all-first (λ (holder : Holder). is_matched digits holder.name ≡ false) holders q (λ k holder few here.
      let low = at-first (λ (r : Holder). name_rank digits r.name < 4) holders q k holder plain few here in
      plain-matched digits holder.name low ∙ ne_eqb (name_rank digits holder.name) 1 (apart k holder here))
    where
      apart : (k : ℕ) (holder : Holder) → slice_get holders k ≡ Some holder → name_rank digits holder.name ≡ 1 → ⊥
      apart k holder here is = elim (cases_order k p) [
        | inl same ↦ matched holder (ap (slice_get holders) (sym same) ∙ here) is
        | inr (inl before) ↦ (let low = at-first (λ (r : Holder). name_rank digits r.name < 1) holders p k holder below before here in omega (arith, low, is))
        | inr (inr after) ↦
            let inside = slice_get_within holders k holder here in
            let first = slice_get-get_or holders p holder (omega (arith, after, inside)) in
            let least = at-last (λ (r : Holder). 1 ≤ name_rank digits r.name) holders p p (get_or holders p holder) above (omega arith) first in
            let less = rank-at digits holders rise p k (get_or holders p holder) holder after first here in
            matched (get_or holders p holder) first (omega (arith, least, less, is))
      ]
        where
          matched : (one : Holder) → slice_get holders p ≡ Some one → name_rank digits one.name ≡ 1 → ⊥
          matched one there is =
              let pass = plain-matched digits one.name (omega (arith, is)) ∙ eq-eqb (name_rank digits one.name) 1 is in
              let wrong : true ≡ false = sym pass ∙ other one there in
              cc

-- ---- what is found

abbrev pub first_holder : List ℕ → List Holder → Option ℕ
first_holder digits holders = option_map (λ (holder : Holder). holder.priority) (find (λ (holder : Holder). is_matched digits holder.name) holders)

abbrev pub first_asked : List ℕ → List ℕ → List Known → Option ℕ
first_asked digits label entries = option_map (λ (known : Known). known.priority) (find (is_asked false (has_label label) digits) entries)

-- the first holder of a label that matches is that of the first requested entry
pub found-holder : (digits label : List ℕ) (entries : List Known) → first_holder digits (holders_named label entries) ≡ first_asked digits label entries
found-holder digits label [] = refl
found-holder digits label (one ∷ entries) = by (shares_label one.label (Some label)) (is_matched digits one.name) refl (found-holder digits label entries)
  where
    chosen : List Known
    chosen = filter (λ known. shares_label known.label (Some label)) entries

    test : Holder → Bool
    test r = is_matched digits r.name

    by : (s b : Bool) → is_matched digits one.name ≡ b → first_holder digits (holders_named label entries) ≡ first_asked digits label entries
        → first_holder digits (map holder_of (cond s (one ∷ chosen) chosen)) ≡ option_map (λ (known : Known). known.priority) (cond (b && s) (Some one) (find (is_asked false (has_label label) digits) entries))
    by true true e same = ap (λ t. option_map (λ (r : Holder). r.priority) (cond t (Some (holder_of one)) (find test (map holder_of chosen)))) e
    by true false e same = ap (λ t. option_map (λ (r : Holder). r.priority) (cond t (Some (holder_of one)) (find test (map holder_of chosen)))) e ∙ same
    by false true e same = same
    by false false e same = same

-- the table leads to what is requested
pub found-labelled : (digits label : List ℕ) (entries : List Known) (labels : Labels) → AreLabels entries labels → first_holder digits (held_of labels label) ≡ first_asked digits label entries
found-labelled digits label entries labels are = ap (first_holder digits) (are.each label) ∙ found-holder digits label entries
