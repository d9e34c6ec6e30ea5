use Rattle.std.proofs.Common.{ℕ, List, ap, sym, ◌∙◌, subst}
use Rattle.std.specs.Map.{lookup}
use Rattle.indexmap.specs.IndexMap.{insert_entry}
use Rattle.dp_conf.specs.Words.{same_text}
use Rattle.dp_files.specs.FolderFiles.{MayTell}
use Rattle.dp_files.specs.Sources.{NamesOf}
use Rattle.dp_files.proofs.FolderFilesLemmas.{agrees-before_names, may_know-names}
use Rattle.dp_files.proofs.folder_files.FolderFilesSource.names.Goals as goal

-- the names that were reported are what the system may give
pub invariant_of-self-2 : goal.invariant_of-self-2
invariant_of-self-2 g c =
    let inside = c.self.inside in
    let name = c.args.pattern.now in
    let known = c.in_ok-known.known in
    may_know-names inside.texts.entries inside.lists.entries c.insert.new.self.entries name known
    (c.in_ok-insert.ensures.entries ∙ ap (λ (key : List ℕ). insert_entry same_text inside.lists.entries key known) c.in_ok-key.ensures)
    (MayTell (g.P.Paths.may_be inside.paths.now) (g.P.Paths.may_list inside.paths.now) inside.first.now)
    (subst (λ (first : List ℕ). MayTell (g.P.Paths.may_be inside.paths.now) (g.P.Paths.may_list inside.paths.now) first (NamesOf name known)) c.as_bytes.ensures.value c.in_ok-known.ensures)
    c.self.invariant

-- nothing was known of the names before
pub returns-clause-kept : goal.returns-clause-kept
returns-clause-kept g c =
    let inside = c.self.inside in
    let name = c.args.pattern.now in
    let known = c.in_ok-known.known in
    rw (← c.self.view_is)
    (agrees-before_names inside.texts.entries inside.lists.entries c.insert.new.self.entries name known
    (c.in_ok-insert.ensures.entries ∙ ap (λ (key : List ℕ). insert_entry same_text inside.lists.entries key known) c.in_ok-key.ensures)
    (ap (λ (key : List ℕ). lookup (same_text key) inside.lists.entries) (sym c.in_ok-key.ensures) ∙ sym c.in_default.ensures.value))
