-- What is known of files, before and after one more was requested.
use Rattle.std.proofs.Common.{◌≡◌, ℕ, Bool, true, false, cond, nat_le, min, length, arith, List, Option, Some, None, IsSortedBy, is_lt, nat_cmp, Ordering, Bor, refl, ap, sym, ◌∙◌, subst}
use Rattle.std.specs.Cmp.{IsStrictWeakOrder}
use Rattle.std.specs.Cmp.Lexicographic.{nat_list_eq_equiv, slice_cmp}
use Rattle.std.specs.Fn.{Called, Mut, ComparesAs}
use Rattle.std.specs.Map.{lookup}
use Rattle.std.specs.Str.{IsUtf8, is_utf8}
use Rattle.std.proofs.lemmas.Bool.Decides.{nat_tests}
use Rattle.std.proofs.lemmas.Cmp.{nat_list_cmp_total}
use Rattle.std.proofs.lemmas.Fn.{always_returns_same}
use Rattle.std.proofs.lemmas.List.Sorted.{ranks_by}
use Rattle.std.proofs.lemmas.Slice.Eq.{bytes_eq-Decides}
use Rattle.std.proofs.lemmas.Str.{IsUtf8-from_is_utf8}
use Rattle.indexmap.specs.IndexMap.{insert_entry}
use Rattle.dp_conf.specs.Whole.{most_bytes}
use Rattle.dp_conf.specs.Words.{same_text}
use Rattle.dp_files.proofs.LookupLemmas.{lookup-insert_entry}
use Rattle.dp_files.specs.FolderFiles.{KnownFiles, FitsKnown, AreKnown, Agrees, MayFit, MayFitKnown, MayBeKnown, MayKnow}
use Rattle.dp_files.specs.Sources.{Files, Telling, TextOf, NamesOf, Bytes, TooLong, text_read}
use Rattle.dp_files.specs.declared.known_text.KnownText.{KnownText}

-- ---- one more entry

module _ {V : Type 0} (F : List ℕ → Option V → Type 0) (es new : List (List ℕ × V)) (name : List ℕ) (v : V) (is : new ≡ insert_entry same_text es name v) where
  -- the value of a name after one was written
  found : (q : List ℕ) → lookup (same_text q) new ≡ cond (same_text q name) (Some v) (lookup (same_text q) es)
  found q = ap (λ entries. lookup (same_text q) entries) is ∙ lookup-insert_entry same_text nat_list_eq_equiv es name v q

  same_is : (q : List ℕ) → same_text q name ≡ true → q ≡ name
  same_is q e = (bytes_eq-Decides q name).0 e

  -- what holds of all names now held of all before, if nothing was known of this one
  pub before : ((q : List ℕ) → F q None) → lookup (same_text name) es ≡ None → ((q : List ℕ) → F q (lookup (same_text q) new)) → (q : List ℕ) → F q (lookup (same_text q) es)
  before none absent all q = by (same_text q name) refl (subst (F q) (found q) (all q))
    where
      by : (t : Bool) → same_text q name ≡ t → F q (cond t (Some v) (lookup (same_text q) es)) → F q (lookup (same_text q) es)
      by true same f = subst (F q) (sym (ap (λ (text : List ℕ). lookup (same_text text) es) (same_is q same) ∙ absent)) (none q)
      by false other f = f

  -- what held of all names before, and holds of this one, holds of all now
  pub with_new : ((q : List ℕ) → F q (lookup (same_text q) es)) → F name (Some v) → (q : List ℕ) → F q (lookup (same_text q) new)
  with_new all own q = subst (F q) (sym (found q)) (by (same_text q name) refl)
    where
      by : (t : Bool) → same_text q name ≡ t → F q (cond t (Some v) (lookup (same_text q) es))
      by true same = subst (λ (text : List ℕ). F text (Some v)) (sym (same_is q same)) own
      by false other = all q

-- ---- files that agree

module _ (texts new : List (List ℕ × KnownText)) (lists : List (List ℕ × List (List ℕ))) (name : List ℕ) (known : KnownText) (is : new ≡ insert_entry same_text texts name known) where
  -- files that agree with what is known now agree with what was known before
  pub agrees-before_text : lookup (same_text name) texts ≡ None → (has : Files) → Agrees (record { texts = new; lists = lists }) has → Agrees (record { texts = texts; lists = lists }) has
  agrees-before_text absent has agrees = record {
    texts = before (λ q text. FitsKnown text (has.text q)) texts new name known is (λ q. tt) absent agrees.texts;
    names = agrees.names;
  }

  -- everything known is something that may be reported
  pub may_know-text : (may_tell : Telling → Type 0) → MayFit (λ text. may_tell (TextOf name text)) known → MayKnow may_tell (record { texts = texts; lists = lists }) → MayKnow may_tell (record { texts = new; lists = lists })
  may_know-text may_tell own all = record {
    texts = with_new (λ q text. MayFitKnown (λ text. may_tell (TextOf q text)) text) texts new name known is all.texts own;
    names = all.names;
  }

module _ (texts : List (List ℕ × KnownText)) (lists new : List (List ℕ × List (List ℕ))) (pattern : List ℕ) (names : List (List ℕ)) (is : new ≡ insert_entry same_text lists pattern names) where
  pub agrees-before_names : lookup (same_text pattern) lists ≡ None → (has : Files) → Agrees (record { texts = texts; lists = new }) has → Agrees (record { texts = texts; lists = lists }) has
  agrees-before_names absent has agrees = record {
    texts = agrees.texts;
    names = before (λ q known. AreKnown known (has.names q)) lists new pattern names is (λ q. tt) absent agrees.names;
  }

  pub may_know-names : (may_tell : Telling → Type 0) → may_tell (NamesOf pattern names) → MayKnow may_tell (record { texts = texts; lists = lists }) → MayKnow may_tell (record { texts = texts; lists = new })
  may_know-names may_tell own all = record {
    texts = all.texts;
    names = with_new (λ q known. MayBeKnown (λ told. may_tell (NamesOf q told)) known) lists new pattern names is all.names own;
  }

-- what one may report another may report
pub may_know-weaker : (A B : Telling → Type 0) (known : KnownFiles) → ((told : Telling) → A told → B told) → MayKnow A known → MayKnow B known
may_know-weaker A B known weaker all = record {
  texts = λ name. text name (lookup (same_text name) known.texts) (all.texts name);
  names = λ pattern. names pattern (lookup (same_text pattern) known.lists) (all.names pattern);
}
  where
    text : (name : List ℕ) (o : Option KnownText) → MayFitKnown (λ text. A (TextOf name text)) o → MayFitKnown (λ text. B (TextOf name text)) o
    text name None may = tt
    text name (Some known) may = (may.0, may.1, weaker (TextOf name may.0) may.2)

    names : (pattern : List ℕ) (o : Option (List (List ℕ))) → MayBeKnown (λ names. A (NamesOf pattern names)) o → MayBeKnown (λ names. B (NamesOf pattern names)) o
    names pattern None may = tt
    names pattern (Some those) may = weaker (NamesOf pattern those) may

-- ---- texts

-- bytes that are not a text
pub is_utf8-from_no_text : (path : List ℕ) → (IsUtf8 path → ⊥) → is_utf8 path ≡ false
is_utf8-from_no_text path none = by (is_utf8 path) refl
  where
    by : (t : Bool) → is_utf8 path ≡ t → t ≡ false
    by true e = absurd (none (IsUtf8-from_is_utf8 path e))
    by false e = refl

-- ---- names in byte order

-- a closure that compares names sorts them in byte order
pub IsSortedBy-names : {F : Type 0} {g : Mut F (Bor (List ℕ) × (Bor (List ℕ) × Unit {0})) Ordering} {f : F} (names : List (List ℕ))
    → ((lt : List ℕ → List ℕ → Bool) → IsStrictWeakOrder lt → ComparesAs g lt f → IsSortedBy lt names)
    → ((a : Bor (List ℕ) × (Bor (List ℕ) × Unit {0})) (r : Ordering) (f' : F) → Called g f a r f' → (r ≡ slice_cmp nat_cmp a.0.now a.1.0.now) × (f' ≡ f))
    → IsSortedBy (λ a b. is_lt (slice_cmp nat_cmp a b)) names
IsSortedBy-names {g = g} {f = f} names up h =
    up (λ a b. is_lt (slice_cmp nat_cmp a b)) (ranks_by nat_list_cmp_total (λ (name : List ℕ). name))
    (always_returns_same g (λ a r. is_lt r ≡ is_lt (slice_cmp nat_cmp a.0.now a.1.0.now)) f (λ a r f' k. (ap is_lt (h a r f' k).0, (h a r f' k).1)))

-- ---- texts that are too long

too_long : (most : ℕ) (bytes : List ℕ) (short : Bool) → nat_le (length bytes) (min most_bytes most_bytes) ≡ short
    → cond short (Bytes bytes) TooLong ≡ TooLong → TooLong ≡ text_read most (Some bytes)
too_long most bytes true short same = absurd cc
too_long most bytes false long same =
    let above : nat_le (length bytes) (min most most_bytes) ≡ false = grind (arith, nat_tests, long) in
    ap (λ t. cond t (Bytes bytes) TooLong) (sym above)

-- a text with more bytes than any may have is too long, whatever the limit
pub long_for_any : (most : ℕ) (text : Option (List ℕ)) → text_read most_bytes text ≡ TooLong → TooLong ≡ text_read most text
long_for_any most None same = absurd cc
long_for_any most (Some bytes) same = too_long most bytes (nat_le (length bytes) (min most_bytes most_bytes)) refl same
