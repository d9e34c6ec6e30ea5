-- Lines that sections keep in their order.
use Rattle.std.proofs.Common.{◌≡◌, ℕ, zero, suc, ◌+◌, ◌-◌, ◌<◌, ◌≤◌, Bool, true, false, cond, eqb, not, ◌||◌, List, [], ◌∷◌, ◌++◌, length, map, Option, Some, None, Result, Ok, Err, IfOk, refl, ap, sym, ◌∙◌, subst, arith, append_assoc}
use Rattle.std.specs.Prelude.{unwrap_or}
use Rattle.std.specs.Option.{option_to_list, option_and_then, option_or}
use Rattle.std.specs.List.{AllByRecursion, filter, flat_map, range_with_len}
use Rattle.std.proofs.Math.Dec.{leb-zero}
use Rattle.std.proofs.lemmas.Bool.{ne_eqb, false≢true}
use Rattle.std.proofs.lemmas.Grind.{flat_map-append}
use Rattle.std.proofs.lemmas.List.{length_push}
use Rattle.std.proofs.lemmas.List.Elements.{filter-append}
use Rattle.std.proofs.lemmas.List.Folds.{list_any-append}
use Rattle.dp_conf.specs.Changes.{changed_at}
use Rattle.dp_conf.specs.Lines.{LineOf, content_of, item_of}
use Rattle.dp_conf.specs.declared.fault.LineKind.{LineKind}
use Rattle.dp_conf.specs.declared.fault.LineKind.TheVariants.{BadHeader}
use Rattle.std.specs.Str.{byte}
use Rattle.dp_conf.specs.Cut.{begins_with}
use Rattle.dp_files.specs.Headers.{HeaderOf, header_in, header_of}
use Rattle.dp_files.specs.Order.{IsPlainLine, KeepsOrder, section_places, has_remark, without_remark}
use Rattle.dp_files.specs.SectionParts.{fault_at}
use Rattle.dp_files.specs.Sections.{SectionsSoFar, after_lines, before_lines, after_content, with_copies, copies_within, after_header, after_known_header, including, after_line, after_named_header, open_after, sections_after, after_plain_line, after_item, new_section, section_of_next, opening_of, sections_of, with_fault, with_lines, with_open}
use Rattle.dp_files.specs.declared.remark.Fault.{Fault}
use Rattle.dp_files.specs.declared.remark.LineRemark.{LineRemark}
use Rattle.dp_files.specs.declared.sections.Opening.TheVariants.{New}
use Rattle.dp_files.specs.declared.sections.SourceSection.{SourceSection}
use Rattle.dp_files.specs.declared.source_line.SourceFile.{SourceFile}
use Rattle.dp_files.specs.declared.source_line.SourceLine.{SourceLine}

-- numbers, with one more at their end
range-push : (a n : ℕ) → range_with_len a (suc n) ≡ range_with_len a n ++ (a + n) ∷ []
range-push a zero = let e : a ≡ a + 0 = omega arith in ap (λ (k : ℕ). k ∷ []) e
range-push a (suc n) =
    let e : (a + 1) + n ≡ a + suc n = omega arith in
    ap (λ (t : List ℕ). a ∷ t) (range-push (a + 1) n ∙ ap (λ (k : ℕ). range_with_len (a + 1) n ++ k ∷ []) e)

-- a remark on a later line does not concern a place
has_remark-push : (remarks : List LineRemark) (remark : LineRemark) (place : ℕ) → place < remark.source → has_remark (remarks ++ remark ∷ []) place ≡ has_remark remarks place
has_remark-push remarks remark place later =
    let other : eqb remark.source place ≡ false = ne_eqb remark.source place (λ e. absurd (omega (arith, later, e))) in
    list_any-append (λ r. eqb r.source place) remarks (remark ∷ [])
    ∙ ap (λ (b : Bool). has_remark remarks place || (b || false)) other ∙ or_false (has_remark remarks place)
  where
    or_false : (b : Bool) → (b || (false || false)) ≡ b
    or_false true = refl
    or_false false = refl

-- remarks on lines before a place do not concern it
no_remark_before : (remarks : List LineRemark) (place : ℕ) → AllByRecursion (λ remark. remark.source < place) remarks → has_remark remarks place ≡ false
no_remark_before [] place before = refl
no_remark_before (remark ∷ remarks) place before =
    let other : eqb remark.source place ≡ false = ne_eqb remark.source place (λ e. absurd (omega (arith, before.0, e))) in
    ap (λ (b : Bool). b || has_remark remarks place) other ∙ no_remark_before remarks place before.1

-- two tests that agree on numbers keep the same ones
without_remark_from : (remarks : List LineRemark) (remark : LineRemark) (a n : ℕ) → a + n ≤ remark.source
    → filter (λ place. not (has_remark (remarks ++ remark ∷ []) place)) (range_with_len a n) ≡ filter (λ place. not (has_remark remarks place)) (range_with_len a n)
without_remark_from remarks remark a zero within = refl
without_remark_from remarks remark a (suc n) within =
    let rest = filter (λ place. not (has_remark (remarks ++ remark ∷ []) place)) (range_with_len (a + 1) n) in
    let here = has_remark-push remarks remark a (omega (arith, within)) in
    ap (λ (b : Bool). cond (not b) (a ∷ rest) rest) here
    ∙ ap (λ (t : List ℕ). cond (not (has_remark remarks a)) (a ∷ t) t) (without_remark_from remarks remark (a + 1) n (omega (arith, within)))

-- one more line
without_remark-more : (remarks : List LineRemark) (place : ℕ) → without_remark remarks (suc place) ≡ without_remark remarks place ++ cond (not (has_remark remarks place)) (place ∷ []) []
without_remark-more remarks place =
    let keeps = λ (k : ℕ). not (has_remark remarks k) in
    let e : 0 + place ≡ place = omega arith in
    ap (filter keeps) (range-push 0 place) ∙ filter-append keeps (range_with_len 0 place) ((0 + place) ∷ [])
    ∙ ap (λ (k : ℕ). filter keeps (range_with_len 0 place) ++ cond (keeps k) (k ∷ []) []) e

-- a line without a remark is one more
without_remark-kept : (remarks : List LineRemark) (place : ℕ) → AllByRecursion (λ remark. remark.source < place) remarks → without_remark remarks (suc place) ≡ without_remark remarks place ++ place ∷ []
without_remark-kept remarks place before =
    without_remark-more remarks place ∙ ap (λ (b : Bool). without_remark remarks place ++ cond (not b) (place ∷ []) []) (no_remark_before remarks place before)

append-nil : (xs : List ℕ) → xs ++ [] ≡ xs
append-nil [] = refl
append-nil (x ∷ xs) = ap (λ (t : List ℕ). x ∷ t) (append-nil xs)

-- a line with a remark is left out
without_remark-with_fault : (remarks : List LineRemark) (remark : LineRemark) → without_remark (remarks ++ remark ∷ []) (suc remark.source) ≡ without_remark remarks remark.source
without_remark-with_fault remarks remark =
    without_remark-more (remarks ++ remark ∷ []) remark.source
    ∙ ap (λ (b : Bool). without_remark (remarks ++ remark ∷ []) remark.source ++ cond (not b) (remark.source ∷ []) []) remark_here
    ∙ append-nil (without_remark (remarks ++ remark ∷ []) remark.source)
    ∙ without_remark_from remarks remark 0 remark.source (omega arith)
  where
    or_true : (b : Bool) → (b || (true || false)) ≡ true
    or_true true = refl
    or_true false = refl

    same : (n : ℕ) → eqb n n ≡ true
    same n = grind (arith)

    remark_here : has_remark (remarks ++ remark ∷ []) remark.source ≡ true
    remark_here =
        list_any-append (λ r. eqb r.source remark.source) remarks (remark ∷ [])
        ∙ ap (λ (b : Bool). has_remark remarks remark.source || (b || false)) (same remark.source)
        ∙ or_true (has_remark remarks remark.source)

-- what holds of remarks before a place holds of them before the next place, and of one more
before_more : (remarks : List LineRemark) (place : ℕ) → AllByRecursion (λ remark. remark.source < place) remarks → AllByRecursion (λ remark. remark.source < suc place) remarks
before_more [] place before = tt
before_more (remark ∷ remarks) place before = (omega (arith, before.0), before_more remarks place before.1)

before_push : (remarks : List LineRemark) (remark : LineRemark) → AllByRecursion (λ other. other.source < remark.source) remarks → AllByRecursion (λ other. other.source < suc remark.source) (remarks ++ remark ∷ [])
before_push [] remark before = (omega arith, tt)
before_push (other ∷ remarks) remark before = (omega (arith, before.0), before_push remarks remark before.1)

-- the last section with one more line
last_longer : (place last : ℕ) (sections : List SourceSection) → length sections ≡ suc last
    → flat_map section_places (changed_at (with_lines (place ∷ [])) last sections) ≡ flat_map section_places sections ++ place ∷ []
last_longer place last [] e = absurd (omega (arith, e))
last_longer place zero (s ∷ []) e =
    ap (λ (t : List ℕ). t ++ []) (sym (append_assoc (option_to_list s.header) s.lines (place ∷ [])))
    ∙ append-nil (section_places s ++ place ∷ []) ∙ ap (λ (t : List ℕ). t ++ place ∷ []) (sym (append-nil (section_places s)))
last_longer place zero (s ∷ t ∷ ss) e = absurd (omega (arith, e))
last_longer place (suc last) (s ∷ ss) e =
    ap (λ (t : List ℕ). section_places s ++ t) (last_longer place last ss (omega (arith, e)))
    ∙ sym (append_assoc (section_places s) (flat_map section_places ss) (place ∷ []))

length-changed : {X : Type 0} (change : X → X) (place : ℕ) (xs : List X) → length (changed_at change place xs) ≡ length xs
length-changed change place [] = refl
length-changed change zero (x ∷ xs) = refl
length-changed change (suc place) (x ∷ xs) = ap suc (length-changed change place xs)

-- the lines so far are in order, and the open section is the last one
record Ordered (so_far : SectionsSoFar) (current place : ℕ) : Type 0 where
  order : flat_map section_places so_far.sections ≡ without_remark so_far.remarks place
  before : AllByRecursion (λ remark. remark.source < place) so_far.remarks
  last : length so_far.sections ≡ suc current

-- the line has a fault
ordered-with_fault : (so_far : SectionsSoFar) (current place : ℕ) (fault : Fault) → Ordered so_far current place → Ordered (with_fault place fault so_far) current (suc place)
ordered-with_fault so_far current place fault o = record {
  order = o.order ∙ sym (without_remark-with_fault so_far.remarks (fault_at place fault));
  before = before_push so_far.remarks (fault_at place fault) o.before;
  last = o.last;
}

-- the line is kept
ordered-kept : (so_far : SectionsSoFar) (current place : ℕ) → Ordered so_far current place
    → Ordered (record so_far { sections = changed_at (with_lines (place ∷ [])) current so_far.sections }) current (suc place)
ordered-kept so_far current place o = record {
  order =
      last_longer place current so_far.sections o.last ∙ ap (λ (t : List ℕ). t ++ place ∷ []) o.order
      ∙ sym (without_remark-kept so_far.remarks place o.before);
  before = before_more so_far.remarks place o.before;
  last = length-changed (with_lines (place ∷ [])) current so_far.sections ∙ o.last;
}

-- the line begins a section
ordered-begun : (so_far : SectionsSoFar) (current place room : ℕ) (header : HeaderOf) → Ordered so_far current place
    → Ordered (record { sections = so_far.sections ++ new_section place header [] ∷ []; remarks = so_far.remarks; open_in = so_far.open_in; room = room }) (length so_far.sections) (suc place)
ordered-begun so_far current place room header o = record {
  order =
      flat_map-append section_places so_far.sections (new_section place header [] ∷ []) ∙ ap (λ (t : List ℕ). t ++ place ∷ []) o.order
      ∙ sym (without_remark-kept so_far.remarks place o.before);
  before = before_more so_far.remarks place o.before;
  last = length_push so_far.sections (new_section place header []) ∙ add-one;
}
  where
    add-one : length so_far.sections + 1 ≡ suc (length so_far.sections)
    add-one = omega arith

-- the same for the result of a line, which does not change the section that is open in each file
record Follows (so_far : SectionsSoFar) (place : ℕ) (after : SectionsSoFar × ℕ) : Type 0 where
  ordered : Ordered after.0 after.1 (suc place)
  same : after.0.open_in ≡ so_far.open_in

follows-plain : (so_far : SectionsSoFar) (current place : ℕ) (read : Result (List LineOf) LineKind) → Ordered so_far current place → Follows so_far place (after_item place current read so_far, current)
unfolding after_item
follows-plain so_far current place (Ok items) o = record { ordered = ordered-kept so_far current place o; same = refl }
follows-plain so_far current place (Err kind) o = record { ordered = ordered-with_fault so_far current place _ o; same = refl }

-- a header without parentheses
abbrev plain_header : List ℕ → HeaderOf
plain_header name = record { name = name; options = None }

follows-named : (so_far : SectionsSoFar) (current place : ℕ) (name : List ℕ) → Ordered so_far current place → Follows so_far place (after_header place current (Ok (plain_header name)) so_far)
unfolding after_named_header sections_after with_copies copies_within opening_of
follows-named so_far current place name o =
    subst (λ (b : Bool). Follows so_far place (after_known_header place (plain_header name) New (with_copies place (cond {A = Option (List ℕ)} b (Some []) None) so_far))) (sym (leb-zero so_far.room))
    (record { ordered = ordered-begun so_far current place (so_far.room - 0) (plain_header name) o; same = refl })

follows-header : (so_far : SectionsSoFar) (current place : ℕ) (read : Result HeaderOf LineKind) → IfOk read (λ header. header.options ≡ None) → Ordered so_far current place
    → Follows so_far place (after_header place current read so_far)
follows-header so_far current place (Err kind) plain o = record { ordered = ordered-with_fault so_far current place _ o; same = refl }
follows-header so_far current place (Ok header) plain o =
    subst (λ (options : Option (List ℕ)). Follows so_far place (after_header place current (Ok (record { name = header.name; options = options })) so_far)) (sym plain)
    (follows-named so_far current place header.name o)

-- a line is a header, or it is neither a header nor a directive
follows-cases : (so_far : SectionsSoFar) (place : ℕ) (is_header is_directive : Bool) (read : Result HeaderOf LineKind) (header directive plain : SectionsSoFar × ℕ)
    → is_directive ≡ false → IfOk (cond is_header read (Err BadHeader)) (λ header. header.options ≡ None)
    → (IfOk read (λ header. header.options ≡ None) → Follows so_far place header) → Follows so_far place plain
    → Follows so_far place (cond is_header header (cond is_directive directive plain))
follows-cases so_far place true is_directive read header directive plain none known by_header by_plain = by_header known
follows-cases so_far place false true read header directive plain none known by_header by_plain = absurd (false≢true (sym none))
follows-cases so_far place false false read header directive plain none known by_header by_plain = by_plain

follows-content : (so_far : SectionsSoFar) (current place : ℕ) (content : List ℕ) → begins_with (byte "#") content ≡ false → IfOk (header_in content) (λ header. header.options ≡ None)
    → Ordered so_far current place → Follows so_far place (after_content place current content so_far)
unfolding after_content
follows-content so_far current place [] none known o = follows-plain so_far current place (Ok []) o
follows-content so_far current place (b ∷ bs) none known o =
    follows-cases so_far place (eqb b 91) (eqb b 35) (header_of bs)
    (after_header place current (header_of bs) so_far) (so_far, current) (after_plain_line place current (b ∷ bs) so_far) none known
    (λ h. follows-header so_far current place (header_of bs) h o)
    (follows-plain so_far current place (item_of (not (eqb current 0)) 0 (b ∷ bs)) o)

-- the lines so far are in order, if the open section is that of the next line of the first file
record InOrder (files : List SourceFile) (lines : List SourceLine) (so_far : SectionsSoFar) (place : ℕ) : Type 0 where
  ordered : Ordered so_far (section_of_next files lines so_far.open_in 0) place
  known : 0 < length so_far.open_in

-- the section that is open after a line of the first file is that of its next line
section_kept : (files : List SourceFile) (lines : List SourceLine) (open_in : List (Option ℕ)) (current : ℕ) → 0 < length open_in
    → section_of_next files lines (changed_at (λ _. Some current) 0 open_in) 0 ≡ current
unfolding section_of_next
section_kept files lines [] current known = absurd (omega (arith, known))
section_kept files lines (o ∷ os) current known = refl

in_order-after : (files : List SourceFile) (lines : List SourceLine) (so_far : SectionsSoFar) (place : ℕ) (after : SectionsSoFar × ℕ) → 0 < length so_far.open_in → Follows so_far place after
    → InOrder files lines (with_open 0 after) (suc place)
in_order-after files lines so_far place after known f = record {
  ordered = subst (λ (current : ℕ). Ordered (with_open 0 after) current (suc place)) (sym (section_kept files lines after.0.open_in after.1 known_after))
      (record { order = f.ordered.order; before = f.ordered.before; last = f.ordered.last });
  known = subst (λ (n : ℕ). 0 < n) (sym (length-changed (λ _. Some after.1) 0 after.0.open_in)) known_after;
}
  where
    known_after : 0 < length after.0.open_in
    known_after = subst (λ (open_in : List (Option ℕ)). 0 < length open_in) (sym f.same) known

in_order-line : (files : List SourceFile) (lines : List SourceLine) (so_far : SectionsSoFar) (place : ℕ) (line : SourceLine) → IsPlainLine line → InOrder files lines so_far place
    → InOrder files lines (after_line files lines so_far place line) (suc place)
in_order-line files lines so_far place line plain o =
    subst (λ (file : ℕ). InOrder files lines (with_open file (after_content place (section_of_next files lines so_far.open_in file) (content_of line.text) so_far)) (suc place)) (sym plain.file)
    (in_order-after files lines so_far place _ o.known
    (follows-content so_far (section_of_next files lines so_far.open_in 0) place (content_of line.text) plain.directive plain.header o.ordered))

in_order-all : (files : List SourceFile) (lines : List SourceLine) (so_far : SectionsSoFar) (place : ℕ) (rest : List SourceLine) → AllByRecursion IsPlainLine rest → InOrder files lines so_far place
    → InOrder files lines (after_lines files lines so_far place rest) (place + length rest)
in_order-all files lines so_far place [] plain o = let e : place ≡ place + 0 = omega arith in subst (InOrder files lines so_far) e o
in_order-all files lines so_far place (line ∷ rest) plain o =
    let next : suc place ≡ place + 1 = omega arith in
    let e : (place + 1) + length rest ≡ place + suc (length rest) = omega arith in
    subst (InOrder files lines (after_lines files lines (after_line files lines so_far place line) (place + 1) rest)) e
    (in_order-all files lines (after_line files lines so_far place line) (place + 1) rest plain.1
    (subst (InOrder files lines (after_line files lines so_far place line)) next (in_order-line files lines so_far place line plain.0 o)))

-- no section is open yet
none_open : (files : List SourceFile) (file : ℕ) → open_after (map (λ _. None) files) file ≡ None
none_open [] file = refl
none_open (f ∷ files) zero = refl
none_open (f ∷ files) (suc file) = none_open files file

none_including : (files : List SourceFile) (file : Option ℕ) → option_and_then (open_after (map (λ _. None) files)) file ≡ None
none_including files None = refl
none_including files (Some file) = none_open files file

first_section : (files : List SourceFile) (lines : List SourceLine) → section_of_next files lines (map (λ _. None) files) 0 ≡ 0
unfolding section_of_next
first_section files lines =
    ap (λ (o : Option ℕ). unwrap_or (option_or o (option_and_then (open_after (map (λ _. None) files)) (including files lines 0))) 0) (none_open files 0)
    ∙ ap (λ (o : Option ℕ). unwrap_or (option_or None o) 0) (none_including files (including files lines 0))

length-none : (files : List SourceFile) → 0 < length files → 0 < length (map {B = Option ℕ} (λ _. None) files)
length-none [] some = some
length-none (f ∷ files) some = omega arith

in_order-before : (files : List SourceFile) (lines : List SourceLine) → 0 < length files → InOrder files lines (before_lines files) 0
in_order-before files lines some = record {
  ordered = subst (λ (current : ℕ). Ordered (before_lines files) current 0) (sym (first_section files lines))
      (record { order = refl; before = tt; last = refl });
  known = length-none files some;
}

-- plain lines of the first file are kept in order
pub keeps_order : (files : List SourceFile) (lines : List SourceLine) → 0 < length files → AllByRecursion IsPlainLine lines → KeepsOrder files lines
unfolding sections_of
keeps_order files lines some plain =
    let e : 0 + length lines ≡ length lines = omega arith in
    let all = in_order-all files lines (before_lines files) 0 lines plain (in_order-before files lines some) in
    subst (λ (n : ℕ). flat_map section_places (after_lines files lines (before_lines files) 0 lines).sections ≡ without_remark (after_lines files lines (before_lines files) 0 lines).remarks n) e all.ordered.order
