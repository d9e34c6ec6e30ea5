use Rattle.std.proofs.Common.{◌≡◌, ◌∙◌, false, Some, ap, rules, tests}
use Rattle.dp_files.specs.ContextHistory.{extension_of, has_caller}
use Rattle.dp_files.specs.ContextLines.{line_by}
use Rattle.dp_files.specs.ContextSteps.{line_now, spelled_extension}
use Rattle.dp_files.specs.ContextWords.{is_old_form}
use Rattle.dp_files.specs.Priorities.{within_limit}
use Rattle.dp_files.specs.declared.context_line.ContextLine.{ContextLine}
use Rattle.dp_files.proofs.SpelledLemmas.{spelled_line}
use Rattle.dp_files.proofs.line_reading.spelled_entry.Goals as goal

pub returns-in-Some : goal.returns-in-Some
returns-in-Some c history line =
    let name = c.in-Exten.name.now in
    let application = c.in-Exten.entry.application.now in
    let number = c.in-Some.number in
    let extension : extension_of name ≡ Some (spelled_extension name) = search (rules, tests) in
    let caller : has_caller name ≡ false = search (rules, tests) in
    let old : is_old_form application ≡ false = search (rules, tests) in
    let within : within_limit number ≡ Some number = search (rules, tests) in
    ap (λ (said : ContextLine). line_by history line (line_now said)) c.in-Exten.is
    ∙ spelled_line history line name c.in-Exten.entry.priority.now application number extension caller old c.in-Some.ensures.priority within
