-- The objects of tests that run, and of the entries of dialplans that they ran.
use Rattle.std.specs.Prelude.{ℕ, List, [], ◌∷◌, ◌++◌, Option, Some, None, codes}
use Rattle.dp_audit.specs.Findings.{context_name}
use Rattle.dp_json.specs.Entries.{application_field, place_fields}
use Rattle.dp_json.specs.Joining.{joined_texts}
use Rattle.dp_json.specs.Objects.{Field, number_field, text_field, type_field}
use Rattle.dp_json.specs.declared.tests.TestFailure.{TestFailure}
use Rattle.dp_json.specs.declared.tests.TestPoint.{TestPoint}
use Rattle.dp_pattern.specs.Spelling.{spelling}
use Rattle.dp_plan.specs.Lookup.{entry_at}
use Rattle.dp_plan.specs.Plan.{PlanOf}
use Rattle.dp_plan.specs.declared.entry.Entry.{Entry}
use Rattle.dp_plan.specs.declared.entry.EntryId.{EntryId}

-- ---- tests

-- the word for what a test comes to
abbrev pub test_word : Option TestFailure → List ℕ
test_word None = codes "Passed"
test_word (Some failure) = codes "Failed"

-- the lines of a trace as one text, with line feeds between them
abbrev pub trace_text : List (List ℕ) → List ℕ
trace_text lines = joined_texts 10 lines

-- where a test failed, what was expected, and what came of it
unfoldable pub got_fields : TestFailure → List Field
got_fields failure =
    text_field (codes "at") failure.at.now ∷ text_field (codes "expected") failure.expected.now
    ∷ text_field (codes "got") failure.got.now ∷ []

-- the last entries that ran
unfoldable pub trace_field : TestFailure → Field
trace_field failure = text_field (codes "trace") (trace_text failure.trace.now)

-- the report of a test that failed
abbrev pub failure_fields : Option TestFailure → List Field
failure_fields None = []
failure_fields (Some failure) = got_fields failure ++ trace_field failure ∷ []

-- the number of a test, what it comes to, and its name
unfoldable pub point_fields : TestPoint → List Field
point_fields point =
    number_field (codes "number") point.number ∷ text_field (codes "kind") (test_word point.failure)
    ∷ text_field (codes "name") point.name.now ∷ []

-- the object of a test
abbrev pub test_object : TestPoint → List Field
test_object point = type_field (codes "test") ∷ (point_fields point ++ failure_fields point.failure)

-- the object of the number of tests and of those that failed
abbrev pub tests_object : ℕ → ℕ → List Field
tests_object tests failed = type_field (codes "count") ∷ number_field (codes "tests") tests ∷ number_field (codes "failed") failed ∷ []

-- ---- the entries that tests ran

-- the object of the number of entries of a file that tests ran, of all its entries
abbrev pub covered_object : List ℕ → ℕ → ℕ → List Field
covered_object file entries all =
    type_field (codes "covered") ∷ text_field (codes "file") file ∷ number_field (codes "entries") entries ∷ number_field (codes "of") all ∷ []

-- the number of a line, if there is one
abbrev pub number_fields : Option ℕ → List Field
number_fields None = []
number_fields (Some line) = number_field (codes "line") line ∷ []

-- a line of a file
unfoldable pub line_fields : List ℕ → Option ℕ → List Field
line_fields file line = text_field (codes "file") file ∷ number_fields line

-- the place of an entry of the context with a name, and its application; nothing if there is no such entry
abbrev pub never_by : List ℕ → Option Entry → List Field
never_by context None = []
never_by context (Some entry) = place_fields context (spelling entry.name) entry.priority ++ application_field entry.application ∷ []

unfoldable pub never_fields : PlanOf → EntryId → List Field
never_fields plan id = never_by (context_name plan id.context) (entry_at plan id)

-- the object of an entry, made from a line of a file, that no test ran
abbrev pub never_object : List ℕ → Option ℕ → PlanOf → EntryId → List Field
never_object file line plan id = type_field (codes "never") ∷ (line_fields file line ++ never_fields plan id)
