use Rattle.std.proofs.Common.{ℕ, List, ap, sym, ◌∙◌, subst}
use Rattle.std.specs.Map.{lookup}
use Rattle.indexmap.specs.IndexMap.{insert_entry}
use Rattle.dp_conf.specs.Words.{same_text}
use Rattle.dp_files.specs.FolderFiles.{MayBe, MayFit, MayTell, path_of}
use Rattle.dp_files.proofs.FolderFilesLemmas.{agrees-before_text, may_know-text}
use Rattle.dp_files.proofs.folder_files.FolderFilesSource.read.Goals as goal

-- what was reported of the file is what the system may give
pub invariant_of-self-2 : goal.invariant_of-self-2
invariant_of-self-2 g c =
    let inside = c.self.inside in
    let name = c.args.name.now in
    let known = c.in_ok-known.known in
    may_know-text inside.texts.entries c.insert.new.self.entries inside.lists.entries name known
    (c.in_ok-insert.ensures.entries ∙ ap (λ (key : List ℕ). insert_entry same_text inside.texts.entries key known) c.in_ok-key.ensures)
    (MayTell (g.P.Paths.may_be inside.paths.now) (g.P.Paths.may_list inside.paths.now) inside.first.now)
    (subst (λ (first : List ℕ). MayFit (MayBe (g.P.Paths.may_be inside.paths.now) (path_of first name)) known) c.as_bytes.ensures.value c.in_ok-known.ensures)
    c.self.invariant

-- nothing was known of the file before
pub returns-clause-kept : goal.returns-clause-kept
returns-clause-kept g c =
    let inside = c.self.inside in
    let name = c.args.name.now in
    let known = c.in_ok-known.known in
    rw (← c.self.view_is)
    (agrees-before_text inside.texts.entries c.insert.new.self.entries inside.lists.entries name known
    (c.in_ok-insert.ensures.entries ∙ ap (λ (key : List ℕ). insert_entry same_text inside.texts.entries key known) c.in_ok-key.ensures)
    (ap (λ (key : List ℕ). lookup (same_text key) inside.texts.entries) (sym c.in_ok-key.ensures) ∙ sym c.in_default.ensures.value))
