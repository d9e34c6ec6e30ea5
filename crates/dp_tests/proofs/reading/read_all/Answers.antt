use Rattle.std.proofs.Common.{◌≡◌, ◌+◌, List, ◌∷◌, ◌++◌, fold, Option, append_assoc, ap, sym, ◌∙◌, arith}
use Rattle.dp_conf.proofs.LinesLemmas.{parts_left, parts_left-cut, left_len, left_len-cut}
use Rattle.dp_tests.specs.Files.{fault_at, lines_after}
use Rattle.dp_tests.specs.Meanings.{meant_at}
use Rattle.dp_tests.specs.steps.Drafts.{drafted_after, fault_with, faults_from}
use Rattle.dp_tests.specs.declared.draft.TestDraft.{TestDraft}
use Rattle.dp_tests.specs.declared.fault.TestFault.{TestFault}
use Rattle.dp_tests.specs.declared.fault.TestFaultKind.{TestFaultKind}
use Rattle.dp_tests.specs.declared.meaning.MeantLine.{MeantLine}
use Rattle.dp_tests.proofs.reading.read_all.Goals as goal

-- one turn of the loop over the faults
found-turn : (draft later : TestDraft) (found more : List TestFault) (kind : Option TestFaultKind) (line meant : MeantLine) (lines : List MeantLine)
    → meant ≡ line
    → kind ≡ fault_with draft meant.meaning
    → more ≡ found ++ fault_at line.line kind
    → later ≡ drafted_after draft meant
    → more ++ faults_from later lines ≡ found ++ faults_from draft (line ∷ lines)
found-turn draft later found more kind line meant lines same what add take =
    ap (λ (faults : List TestFault). faults ++ faults_from later lines) add
    ∙ (ap (λ (d : TestDraft). (found ++ fault_at line.line kind) ++ faults_from d lines) (take ∙ ap (drafted_after draft) same)
    ∙ (ap (λ (k : Option TestFaultKind). (found ++ fault_at line.line k) ++ faults_from (drafted_after draft line) lines)
    (what ∙ ap (λ (m : MeantLine). fault_with draft m.meaning) same)
    ∙ append_assoc found (fault_at line.line (fault_with draft line.meaning)) (faults_from (drafted_after draft line) lines)))

pub loop-rest-preserved : goal.loop-rest-preserved
loop-rest-preserved c =
    let at = c.loop-rest in
    let left = c.in-Some.left.now in
    let part = c.first_part.result.0.now in
    let after = c.first_part.result.1 in
    let cut : parts_left at.rest ≡ part ∷ parts_left after = ap parts_left c.in-Some.is ∙ parts_left-cut left part after c.first_part.ensures.parts in
    let lines : List MeantLine = lines_after (at.number + 1) (parts_left after) in
    record {
      counted = omega (arith, left_len-cut left after c.first_part.ensures.shorter, ap left_len c.in-Some.is, at.invariant.counted);
      drafted =
          ap (λ (draft : TestDraft). fold drafted_after draft lines) (c.in_ok-take.ensures ∙ ap (drafted_after at.draft) c.in_ok-meant.ensures)
          ∙ (sym (ap (λ parts. fold drafted_after at.draft (lines_after at.number parts)) cut) ∙ at.invariant.drafted);
      found =
          found-turn at.draft c.take.new.self at.faults c.push_fault.new.faults c.fault.result (meant_at (at.number + 1) part) c.in_ok-meant.meant lines
          c.in_ok-meant.ensures c.fault.ensures c.in_ok-push_fault.ensures c.in_ok-take.ensures
          ∙ (sym (ap (λ parts. at.faults ++ faults_from at.draft (lines_after at.number parts)) cut) ∙ at.invariant.found);
    }
