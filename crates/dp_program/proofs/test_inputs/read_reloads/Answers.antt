use Rattle.std.proofs.Common.{◌≡◌, ◌+◌, ◌∷◌, ℕ, List, [], drop, get_or, map, sym, ap, subst}
use Rattle.std.proofs.lemmas.List.{drop_more}
use Rattle.dp_program.specs.Dialplans.{read_now}
use Rattle.dp_program.specs.Files.{ByteSource}
use Rattle.dp_program.specs.TestFiles.{AreReloads, NamedOf, ReloadsOf, named_now, reloads_now}
use Rattle.dp_program.specs.declared.test_inputs.FileMention.{FileMention}
use Rattle.dp_program.proofs.test_inputs.read_reloads.Goals as goal

-- what follows from the lines after this one follows from this one and those
pub loop-named-preserved : goal.loop-named-preserved
loop-named-preserved g c =
    let files : List ℕ → ByteSource = g.F.ReadFiles.source_at c.args.files.now in
    let none : FileMention = record { line = 0; name = record { ref_ptr = (0, 0); now = [] } } in
    let named : NamedOf = named_now (get_or c.args.lines.now c.loop-named.named-index none) in
    let rest : List NamedOf = map named_now (drop (c.loop-named.named-index + 1) c.args.lines.now) in
    let split : map named_now (drop c.loop-named.named-index c.args.lines.now) ≡ named ∷ rest =
    ap (map named_now) (drop_more c.args.lines.now c.loop-named.named-index none c.loop-named-test.true) in
    λ after later. c.loop-named.invariant after
    (subst (λ (names : List NamedOf). AreReloads files c.args.reading c.args.path.now names (reloads_now c.loop-named.reloads) after) (sym split) (
      read_now c.in_ok-read.read,
      c.in_ok-read.ensures,
      subst (λ (reloads : ReloadsOf). AreReloads files c.args.reading c.args.path.now rest reloads after) c.in_ok-push_read.ensures later,
    ))
