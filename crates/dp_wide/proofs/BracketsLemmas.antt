-- Whether a text has a byte that Asterisk counts, mark after mark.
use Rattle.std.proofs.Common.{◌≡◌, ℕ, Bool, true, false, not, ◌||◌, List, [], ◌∷◌, length, reverse, refl, ap, sym, ◌∙◌, arith}
use Rattle.std.specs.List.{list_any}
use Rattle.std.proofs.lemmas.List.Sorted.{IsPermutation-reverse, list_any-IsPermutation}
use Rattle.dp_conf.specs.declared.groups.GroupKind.{GroupKind}
use Rattle.dp_conf.specs.declared.groups.Mark.{Mark}
use Rattle.dp_conf.specs.GroupsRead.{mark_at}
use Rattle.dp_wide.specs.Brackets.{bytes_left, counted_from, has_counted, is_counted, open_after, reads}

-- a test over a reversed list
pub any-reverse : {X : Type 0} (test : X → Bool) (xs : List X) → list_any test xs ≡ list_any test (reverse xs)
any-reverse test xs = list_any-IsPermutation test xs (reverse xs) (IsPermutation-reverse xs)

-- an empty text has none
pub has_counted-empty : (text : List ℕ) (kinds : List GroupKind) (skipped : ℕ) → length text ≡ 0 → has_counted text kinds skipped ≡ false
unfolding has_counted
has_counted-empty [] kinds skipped e = refl
has_counted-empty (byte ∷ text) kinds skipped e = absurd (omega arith)

-- a byte that was already read does not count
pub has_counted-skip : (text rest : List ℕ) (byte : ℕ) (kinds : List GroupKind) → text ≡ byte ∷ rest → has_counted rest kinds 0 ≡ has_counted text kinds 1
unfolding has_counted
has_counted-skip text rest byte kinds e = sym (ap (λ t. has_counted t kinds 1) e)

-- a text, given its first mark
has_counted-mark : (text left after : List ℕ) (kinds : List GroupKind) (byte : ℕ) (mark : Mark) → left ≡ byte ∷ after
    → mark ≡ mark_at kinds byte after → has_counted left kinds 0 ≡ has_counted text [] 0
    → counted_from mark (has_counted after) kinds ≡ has_counted text [] 0
unfolding has_counted
has_counted-mark text left after kinds byte mark cut is same =
    ap (λ m. counted_from m (has_counted after) kinds) is ∙ sym (ap (λ t. has_counted t kinds 0) cut) ∙ same

-- a mark is counted
pub reads-here : (text left after : List ℕ) (kinds : List GroupKind) (byte : ℕ) (mark : Mark) → left ≡ byte ∷ after
    → mark ≡ mark_at kinds byte after → true ≡ is_counted mark kinds → has_counted left kinds 0 ≡ has_counted text [] 0 → false ≡ reads text
unfolding reads
reads-here text left after kinds byte mark cut is counted same =
    ap (λ b. not (b || has_counted after (open_after mark kinds) (bytes_left mark))) counted
    ∙ ap not (has_counted-mark text left after kinds byte mark cut is same)

-- a mark is not counted
pub has_counted-later : (text left after next : List ℕ) (kinds inner : List GroupKind) (byte : ℕ) (mark : Mark) → left ≡ byte ∷ after
    → mark ≡ mark_at kinds byte after → false ≡ is_counted mark kinds → inner ≡ open_after mark kinds
    → has_counted next inner 0 ≡ has_counted after inner (bytes_left mark)
    → has_counted left kinds 0 ≡ has_counted text [] 0 → has_counted next inner 0 ≡ has_counted text [] 0
has_counted-later text left after next kinds inner byte mark cut is counted opened behind same =
    behind ∙ ap (λ groups. has_counted after groups (bytes_left mark)) opened
    ∙ ap (λ b. b || has_counted after (open_after mark kinds) (bytes_left mark)) counted
    ∙ has_counted-mark text left after kinds byte mark cut is same

-- no mark is left
pub reads-over : (text left : List ℕ) (kinds : List GroupKind) → length left ≡ 0 → has_counted left kinds 0 ≡ has_counted text [] 0 → true ≡ reads text
unfolding reads
reads-over text left kinds e same = ap not (sym (has_counted-empty left kinds 0 e) ∙ same)
