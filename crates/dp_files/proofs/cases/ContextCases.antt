-- Lines of contexts, computed from their definition.
use Rattle.std.proofs.Common.{◌≡◌, ℕ, ◌+◌, List, [], ◌∷◌, map, codes, decimal, refl, arith}
use Rattle.std.proofs.lemmas.Fmt.{decimal_digit}
use Rattle.dp_pattern.specs.Classes.{byte_count}
use Rattle.dp_pattern.specs.Name.{meaning_of}
use Rattle.dp_pattern.specs.Spelling.{spelling}
use Rattle.dp_files.specs.ContextHistory.{extension_of}
use Rattle.dp_files.specs.ContextLines.{context_lines, context_remarks, entry_reading, line_reading, numbered_reading}
use Rattle.dp_files.specs.ContextWords.{context_line, is_old_form}
use Rattle.dp_files.specs.Priorities.{label_within, priority_of, written_of}
use Rattle.dp_files.specs.declared.remark.LineNote.TheVariants.{AfterHint, CallerId, DoubleLabel, Hint, IgnorePat, Switch}
use Rattle.dp_files.specs.declared.remark.Fault.TheVariants.{OldForm}
use Rattle.dp_files.specs.declared.remark.RemarkKind.{RemarkKind}
use Rattle.dp_files.specs.declared.remark.RemarkKind.TheVariants.{Fault, Note}
use Rattle.dp_files.specs.declared.remark.LineRemark.{LineRemark}
use Rattle.dp_files.specs.declared.source_line.MadeLine.{MadeLine}

-- lines at places, beginning with this one
abbrev at_places : ℕ → List (List ℕ) → List (ℕ × List ℕ)
at_places place [] = []
at_places place (line ∷ lines) = (place, line) ∷ at_places (place + 1) lines

-- the texts made from a section with these lines
abbrev texts : List (List ℕ) → List (List ℕ)
texts lines = map (λ (line : MadeLine). line.text) (context_lines (at_places 0 lines))

-- the remarks on them, each with the place of its line
abbrev kinds : List (List ℕ) → List (ℕ × RemarkKind)
kinds lines = map (λ (remark : LineRemark). (remark.source, remark.kind)) (context_remarks (at_places 0 lines))

-- how numbers are written
two : decimal 2 ≡ codes "2"
two = decimal_digit 2 (omega arith)

three : decimal 3 ≡ codes "3"
three = decimal_digit 3 (omega arith)

five : decimal 5 ≡ codes "5"
five = decimal_digit 5 (omega arith)

seven : decimal 7 ≡ codes "7"
seven = decimal_digit 7 (omega arith)

one : decimal 1 ≡ codes "1"
one = decimal_digit 1 (omega arith)

-- `n` counts across all extensions of the section
numbers : texts (codes "exten => 100,1,A()" ∷ codes "exten => 200,n(go),B()" ∷ [])
    ≡ codes "exten => 100,1,A()" ∷ codes "exten => 200,2(go),B()" ∷ []
unfolding context_lines line_reading context_line entry_reading numbered_reading extension_of is_old_form priority_of written_of label_within meaning_of spelling byte_count
numbers = rw two refl

-- a line that is rewritten has no comment
next_of_same : texts (codes "exten => 1,2,A() ; first" ∷ codes "same => Next,B() ; done" ∷ [])
    ≡ codes "exten => 1,2,A() ; first" ∷ codes "same => 3,B()" ∷ []
unfolding context_lines line_reading context_line entry_reading numbered_reading extension_of is_old_form priority_of written_of label_within meaning_of spelling byte_count
next_of_same = rw three refl

-- labels belong to the meaning of a name
labels : texts (codes "exten => _[1-3],1(a),A()" ∷ codes "exten => _X,a,B()" ∷ codes "exten => _[123],a + 4,C()" ∷ [])
    ≡ codes "exten => _[1-3],1(a),A()" ∷ codes "exten => _X,a,B()" ∷ codes "exten => _[123],5,C()" ∷ []
unfolding context_lines line_reading context_line entry_reading numbered_reading extension_of is_old_form priority_of written_of label_within meaning_of spelling byte_count
labels = rw (five) refl

same_numbers : texts (codes "exten => 1,5,A()" ∷ codes "exten => 2,same,B()" ∷ codes "same => s+2(b),C()" ∷ [])
    ≡ codes "exten => 1,5,A()" ∷ codes "exten => 2,5,B()" ∷ codes "same => 7(b),C()" ∷ []
unfolding context_lines line_reading context_line entry_reading numbered_reading extension_of is_old_form priority_of written_of label_within meaning_of spelling byte_count
same_numbers = rw (five, seven) refl

hints : texts (codes "exten => 1,hint,SIP/1" ∷ codes "same => n,A()" ∷ codes "same => 1,B()" ∷ codes "same => n,C()" ∷ [])
    ≡ codes "exten => 1,1,B()" ∷ codes "same => 2,C()" ∷ []
unfolding context_lines line_reading context_line entry_reading numbered_reading extension_of is_old_form priority_of written_of label_within meaning_of spelling byte_count
hints = rw (one, two) refl

hints_remarked : kinds (codes "exten => 1,hint,SIP/1" ∷ codes "same => n,A()" ∷ codes "same => 1,B()" ∷ codes "same => n,C()" ∷ [])
    ≡ (0, Note Hint) ∷ (1, Note AfterHint) ∷ []
unfolding context_remarks line_reading context_line entry_reading numbered_reading extension_of is_old_form priority_of written_of label_within meaning_of spelling byte_count
hints_remarked = refl

double_label : texts (codes "exten => 1,1(a),A()" ∷ codes "same => 2(a),B()" ∷ [])
    ≡ codes "exten => 1,1(a),A()" ∷ codes "same => 2,B()" ∷ []
unfolding context_lines line_reading context_line entry_reading numbered_reading extension_of is_old_form priority_of written_of label_within meaning_of spelling byte_count
double_label = rw (two) refl

double_label_remarked : kinds (codes "exten => 1,1(a),A()" ∷ codes "same => 2(a),B()" ∷ []) ≡ (1, Note DoubleLabel) ∷ []
unfolding context_remarks line_reading context_line entry_reading numbered_reading extension_of is_old_form priority_of written_of label_within meaning_of spelling byte_count
double_label_remarked = refl

left_out : texts (codes "ignorepat => 9" ∷ codes "Switch => IAX2/x" ∷ codes "exten => 1/55,1,A()" ∷ codes "same => n,B()" ∷ codes "include => x" ∷ [] ∷ codes "exten => 1,1,Dial,SIP/1" ∷ [])
    ≡ codes "include => x" ∷ [] ∷ []
unfolding context_lines line_reading context_line entry_reading numbered_reading extension_of is_old_form priority_of written_of label_within meaning_of spelling byte_count
left_out = refl

left_out_remarked : kinds (codes "ignorepat => 9" ∷ codes "Switch => IAX2/x" ∷ codes "exten => 1/55,1,A()" ∷ codes "same => n,B()" ∷ codes "include => x" ∷ [] ∷ codes "exten => 1,1,Dial,SIP/1" ∷ [])
    ≡ (0, Note IgnorePat) ∷ (1, Note Switch) ∷ (2, Note CallerId) ∷ (3, Note CallerId) ∷ (6, Fault OldForm) ∷ []
unfolding context_remarks line_reading context_line entry_reading numbered_reading extension_of is_old_form priority_of written_of label_within meaning_of spelling byte_count
left_out_remarked = refl

-- a line that the loader refuses is kept, and says nothing to the lines after it
refused : texts (codes "same => 1,A()" ∷ codes "exten => 1,n,A()" ∷ codes "exten => 1,x,A()" ∷ codes "exten => 1,0,A()" ∷ codes "exten => 1,s,A()" ∷ [])
    ≡ codes "same => 1,A()" ∷ codes "exten => 1,n,A()" ∷ codes "exten => 1,x,A()" ∷ codes "exten => 1,0,A()" ∷ codes "exten => 1,s,A()" ∷ []
unfolding context_lines line_reading context_line entry_reading numbered_reading extension_of is_old_form priority_of written_of label_within meaning_of spelling byte_count
refused = refl

-- a semicolon after a `\` is written this way again
semicolon : texts (codes "exten => 1,1,A() ; as it stands" ∷ codes "same => n,B(a\\;b)" ∷ [])
    ≡ codes "exten => 1,1,A() ; as it stands" ∷ codes "same => 2,B(a\\;b)" ∷ []
unfolding context_lines line_reading context_line entry_reading numbered_reading extension_of is_old_form priority_of written_of label_within meaning_of spelling byte_count
semicolon = rw (two) refl
