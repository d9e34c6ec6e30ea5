-- Lists of entries with their keys as bytes, as in ordered maps, and as finite maps.
use Rattle.std.proofs.Common.{◌≡◌, ℕ, Bool, true, false, cond, List, [], ◌∷◌, Option, Some, None, Ordering, Less, Equal, Greater, IsSome, refl, sym, ap, ◌∙◌, nat_eq}
use Rattle.std.specs.Ordering.{is_eq, match_ordering, nat_cmp}
use Rattle.std.specs.Cmp.Lexicographic.{slice_cmp, pointwise, texts_ties, nat_list_eq_equiv, nat_list_cmp_total, bytes_decides}
use Rattle.std.specs.FinMap.{find, get, insert, from_entries, retain_keys, get-from_entries, get-insert, get-retain_keys, same_map, nat_cmp-IsAntisymmetric, slice_cmp-IsAntisymmetric}
use Rattle.std.specs.BTreeMap.{insert_entry, is_at}
use Rattle.std.specs.List.{AllZip, filter}
use Rattle.std.proofs.lemmas.Map.Entries.{lookup-filter-keys}
use Rattle.std.specs.Map.{lookup, remove_entry, set_value}
use Rattle.dp_vars.specs.Variables.{by_bytes, in_order}

pub cond_shadows : {A : Type 0} (b : Bool) (x y z : A) → cond b x z ≡ cond b x (cond b y z)
cond_shadows true x y z = refl
cond_shadows false x y z = refl

pub conds_swap : {A : Type 0} (a b : Bool) (x y z : A) → (b ≡ true → a ≡ false) → cond b y (cond a x z) ≡ cond a x (cond b y z)
conds_swap true true x y z apart = ap (λ c. cond c y x) (apart refl)
conds_swap true false x y z apart = refl
conds_swap false b x y z apart = refl

-- two different texts are not both equal to a third
pub apart : (q k e : List ℕ) → pointwise nat_eq k e ≡ false → pointwise nat_eq q e ≡ true → pointwise nat_eq q k ≡ false
apart q k e other tied = nat_list_eq_equiv.congr q e k tied ∙ nat_list_eq_equiv.symm e k ∙ other

-- texts are equal exactly if they are equal in the order
other_by : (q k : List ℕ) (r : Ordering) → slice_cmp nat_cmp q k ≡ r → pointwise nat_eq q k ≡ is_eq r
other_by q k r is = texts_ties q k ∙ ap is_eq is

same_by : (q k : List ℕ) → pointwise nat_eq q k ≡ true → q ≡ k
same_by q k tied = (bytes_decides q k).0 tied

-- the first entry with a key in the order of texts
find-lookup : {X : Type 0} (name : List ℕ) (es : List (List ℕ × X)) → find (slice_cmp nat_cmp) name es ≡ lookup (pointwise nat_eq name) es
find-lookup name [] = refl
find-lookup name (e ∷ es) = λ i. cond (sym (texts_ties name e.0) i) (Some e.1) (find-lookup name es i)

-- the value of a name among entries is that in their finite map
pub get-texts : {X : Type 0} (name : List ℕ) (es : List (List ℕ × X))
    → get (from_entries {R = slice_cmp nat_cmp} es) name ≡ lookup (pointwise nat_eq name) es
get-texts name es = get-from_entries nat_list_cmp_total es name ∙ find-lookup name es

module _ {K : Type 0} (bytes : K → List ℕ) where
  -- whether a key has these bytes
  abbrev pub has_bytes : List ℕ → K → Bool
  has_bytes name key = is_at (λ k. slice_cmp nat_cmp name (bytes k)) key

module _ {K X : Type 0} (bytes : K → List ℕ) where
  -- the value of a name among the entries
  abbrev pub at_name : List (K × X) → List ℕ → Option X
  at_name entries name = lookup (pointwise nat_eq name) (by_bytes bytes entries)

  -- a look-up in the order of the keys
  pub lookup-by_bytes : (name : List ℕ) (entries : List (K × X)) → lookup (has_bytes bytes name) entries ≡ at_name entries name
  lookup-by_bytes name [] = refl
  lookup-by_bytes name (e ∷ es) = λ i. cond (sym (texts_ties name (bytes e.0)) i) (Some e.1) (lookup-by_bytes name es i)

  -- an inserted key is found, and each other key as before
  pub lookup-inserted : (q : List ℕ) (entries : List (K × X)) (k : K) (v : X)
      → at_name (insert_entry (in_order bytes) entries k v) q ≡ cond (pointwise nat_eq q (bytes k)) (Some v) (at_name entries q)
  lookup-inserted q [] k v = refl
  lookup-inserted q (e ∷ es) k v = by (slice_cmp nat_cmp (bytes k) (bytes e.0)) refl (lookup-inserted q es k v)
    where
      by : (r : Ordering) → slice_cmp nat_cmp (bytes k) (bytes e.0) ≡ r
          → at_name (insert_entry (in_order bytes) es k v) q ≡ cond (pointwise nat_eq q (bytes k)) (Some v) (at_name es q)
          → at_name (match_ordering r ((k, v) ∷ e ∷ es) ((e.0, v) ∷ es) (e ∷ insert_entry (in_order bytes) es k v)) q
          ≡ cond (pointwise nat_eq q (bytes k)) (Some v) (cond (pointwise nat_eq q (bytes e.0)) (Some e.1) (at_name es q))
      by Less is rest = refl
      by Equal is rest =
          let same = same_by (bytes k) (bytes e.0) (other_by (bytes k) (bytes e.0) Equal is) in
          ap (λ bs. cond (pointwise nat_eq q bs) (Some v) (at_name es q)) (sym same)
          ∙ cond_shadows (pointwise nat_eq q (bytes k)) (Some v) (Some e.1) (at_name es q)
          ∙ ap (λ bs. cond (pointwise nat_eq q (bytes k)) (Some v) (cond (pointwise nat_eq q bs) (Some e.1) (at_name es q))) same
      by Greater is rest =
          ap (cond (pointwise nat_eq q (bytes e.0)) (Some e.1)) rest
          ∙ conds_swap (pointwise nat_eq q (bytes k)) (pointwise nat_eq q (bytes e.0)) (Some v) (Some e.1) (at_name es q)
          (apart q (bytes k) (bytes e.0) (other_by (bytes k) (bytes e.0) Greater is))

  -- an entry that is skipped is found as before
  passed : (q name : List ℕ) (e : K × X) (es rest : List (K × X)) (o : Option X) → pointwise nat_eq name (bytes e.0) ≡ false
      → at_name rest q ≡ cond (pointwise nat_eq q name) o (at_name es q)
      → at_name (e ∷ rest) q ≡ cond (pointwise nat_eq q name) o (at_name (e ∷ es) q)
  passed q name e es rest o other is =
      ap (cond (pointwise nat_eq q (bytes e.0)) (Some e.1)) is
      ∙ conds_swap (pointwise nat_eq q name) (pointwise nat_eq q (bytes e.0)) o (Some e.1) (at_name es q) (apart q name (bytes e.0) other)

  -- an existing key has the value that is written for it, and each other key its old value
  pub lookup-written : (q name : List ℕ) (entries : List (K × X)) (v : X) → IsSome (lookup (has_bytes bytes name) entries)
      → at_name (set_value (has_bytes bytes name) entries v) q ≡ cond (pointwise nat_eq q name) (Some v) (at_name entries q)
  lookup-written q name [] v there = (cc)
  lookup-written q name (e ∷ es) v there =
      by (has_bytes bytes name e.0) (texts_ties name (bytes e.0)) there (lookup-written q name es v)
    where
      by : (b : Bool) → pointwise nat_eq name (bytes e.0) ≡ b → IsSome (cond b (Some e.1) (lookup (has_bytes bytes name) es))
          → (IsSome (lookup (has_bytes bytes name) es)
          → at_name (set_value (has_bytes bytes name) es v) q ≡ cond (pointwise nat_eq q name) (Some v) (at_name es q))
          → at_name (cond b ((e.0, v) ∷ es) (e ∷ set_value (has_bytes bytes name) es v)) q
          ≡ cond (pointwise nat_eq q name) (Some v) (at_name (e ∷ es) q)
      by true tied there rest =
          ap (λ bs. cond (pointwise nat_eq q bs) (Some v) (at_name es q)) (sym (same_by name (bytes e.0) tied))
          ∙ cond_shadows (pointwise nat_eq q name) (Some v) (Some e.1) (at_name es q)
          ∙ ap (λ bs. cond (pointwise nat_eq q name) (Some v) (cond (pointwise nat_eq q bs) (Some e.1) (at_name es q)))
          (same_by name (bytes e.0) tied)
      by false other there rest = passed q name e es (set_value (has_bytes bytes name) es v) (Some v) other (rest there)

  -- after a key is removed each other key has its old value
  lookup-kept : (q name : List ℕ) (entries : List (K × X)) → pointwise nat_eq q name ≡ false
      → at_name (remove_entry (has_bytes bytes name) entries) q ≡ at_name entries q
  lookup-kept q name [] differs = refl
  lookup-kept q name (e ∷ es) differs = by (has_bytes bytes name e.0) (texts_ties name (bytes e.0)) (lookup-kept q name es differs)
    where
      by : (b : Bool) → pointwise nat_eq name (bytes e.0) ≡ b → at_name (remove_entry (has_bytes bytes name) es) q ≡ at_name es q
          → at_name (cond b es (e ∷ remove_entry (has_bytes bytes name) es)) q ≡ at_name (e ∷ es) q
      by true tied rest =
          ap (λ b. cond b (Some e.1) (at_name es q)) (sym (ap (pointwise nat_eq q) (sym (same_by name (bytes e.0) tied)) ∙ differs))
      by false other rest = ap (cond (pointwise nat_eq q (bytes e.0)) (Some e.1)) rest

  -- a removed key is not found, and each other key as before
  pub lookup-removed : (q name : List ℕ) (entries : List (K × X))
      → lookup (has_bytes bytes name) (remove_entry (has_bytes bytes name) entries) ≡ None
      → at_name (remove_entry (has_bytes bytes name) entries) q ≡ cond (pointwise nat_eq q name) None (at_name entries q)
  lookup-removed q name entries gone = by (pointwise nat_eq q name) refl
    where
      by : (b : Bool) → pointwise nat_eq q name ≡ b
          → at_name (remove_entry (has_bytes bytes name) entries) q ≡ cond b None (at_name entries q)
      by true tied =
          ap (at_name (remove_entry (has_bytes bytes name) entries)) (same_by q name tied)
          ∙ sym (lookup-by_bytes name (remove_entry (has_bytes bytes name) entries)) ∙ gone
      by false differs = lookup-kept q name entries differs

  -- entries in which one name has another value are the finite map with that value
  pub from_entries-with : (entries changed : List (K × X)) (name : List ℕ) (v : X)
      → ((q : List ℕ) → at_name changed q ≡ cond (pointwise nat_eq q name) (Some v) (at_name entries q))
      → from_entries {R = slice_cmp nat_cmp} (by_bytes bytes changed) ≡ insert (from_entries (by_bytes bytes entries)) name v
  from_entries-with entries changed name v finds =
      same_map nat_list_cmp_total (slice_cmp-IsAntisymmetric nat_cmp-IsAntisymmetric) _ _ (λ q.
      get-texts q (by_bytes bytes changed) ∙ finds q
      ∙ (λ i. cond (texts_ties q name i) (Some v) (sym (get-texts q (by_bytes bytes entries)) i))
      ∙ sym (get-insert nat_list_cmp_total _ name v q))

  -- those entries whose names pass a test are the finite map of the names that pass it
  pub from_entries-kept : (keep : List ℕ → Bool) (entries : List (K × X))
      → from_entries {R = slice_cmp nat_cmp} (by_bytes bytes (filter (λ e. keep (bytes e.0)) entries)) ≡ retain_keys (from_entries (by_bytes bytes entries)) keep
  from_entries-kept keep entries =
      same_map nat_list_cmp_total (slice_cmp-IsAntisymmetric nat_cmp-IsAntisymmetric) _ _ (λ q.
      get-texts q (by_bytes bytes (filter (λ e. keep (bytes e.0)) entries))
      ∙ sym (lookup-by_bytes q (filter (λ e. keep (bytes e.0)) entries))
      ∙ lookup-filter-keys (has_bytes bytes q) (λ k. keep (bytes k)) (keep q)
      (λ k tied. ap keep (sym (same_by q (bytes k) (texts_ties q (bytes k) ∙ tied)))) entries
      ∙ ap (λ o. cond (keep q) o None) (lookup-by_bytes q entries ∙ sym (get-texts q (by_bytes bytes entries)))
      ∙ sym (get-retain_keys (from_entries (by_bytes bytes entries)) keep q
      (λ x tied. ap keep (sym (slice_cmp-IsAntisymmetric nat_cmp-IsAntisymmetric q x tied)))))

  -- copies of entries, each with the same value and a copy of the key, have the same bytes
  pub by_bytes-copies : (IsCopy : K → K → Type 0) → ((key copy : K) → IsCopy key copy → bytes copy ≡ bytes key) → (entries copies : List (K × X))
      → AllZip (λ e c. IsCopy e.0 c.0 × (c.1 ≡ e.1)) entries copies → by_bytes bytes copies ≡ by_bytes bytes entries
  by_bytes-copies IsCopy same [] [] all = refl
  by_bytes-copies IsCopy same [] (c ∷ cs) all = absurd all
  by_bytes-copies IsCopy same (e ∷ es) [] all = absurd all
  by_bytes-copies IsCopy same (e ∷ es) (c ∷ cs) all =
      λ i. (same e.0 c.0 all.0.0 i, all.0.1 i) ∷ by_bytes-copies IsCopy same es cs all.1 i

-- a list of copies of bytes is the same list
pub same_bytes : (bytes copies : List ℕ) → AllZip (λ byte copy. copy ≡ byte) bytes copies → copies ≡ bytes
same_bytes [] [] all = refl
same_bytes [] (c ∷ cs) all = absurd all
same_bytes (b ∷ bs) [] all = absurd all
same_bytes (b ∷ bs) (c ∷ cs) all = λ i. all.0 i ∷ same_bytes bs cs all.1 i
