use Rattle.std.proofs.Common.{◌≡◌, ◌+◌, ◌++◌, ◌∷◌, ℕ, List, [], Bor, inr, drop, get_or, map, sym, ap, subst, append_assoc, ◌∙◌}
use Rattle.std.proofs.lemmas.List.{append-nil, drop_all, drop_more}
use Rattle.dp_program.specs.Files.{ByteSource}
use Rattle.dp_program.specs.TestTexts.{FailsAmong, GiveAll, TestText, text_in}
use Rattle.dp_program.proofs.texts.read_all.Goals as goal

-- the path behind a reference
abbrev path_of : Bor (List ℕ) → List ℕ
path_of path = path.now

-- what follows from the paths after this one follows from this one and those
pub loop-path-preserved : goal.loop-path-preserved
loop-path-preserved g c =
    let files : List ℕ → ByteSource = g.F.ReadFiles.source_at c.args.files.now in
    let none : Bor (List ℕ) = record { ref_ptr = (0, 0); now = [] } in
    let path : List ℕ = path_of (get_or c.args.paths.now c.loop-path.path-index none) in
    let rest : List (List ℕ) = map path_of (drop (c.loop-path.path-index + 1) c.args.paths.now) in
    let split : map path_of (drop c.loop-path.path-index c.args.paths.now) ≡ path ∷ rest =
    ap (map path_of) (drop_more c.args.paths.now c.loop-path.path-index none c.loop-path-test.true) in
    let added = c.in_ok-add_text.ensures.ok in
    let before : List TestText = map text_in c.loop-path.texts.items in
    record {
      gives = λ texts later.
          subst (λ (all : List TestText). GiveAll files (map path_of c.args.paths.now) all)
          (sym (append_assoc before (added.0 ∷ []) texts) ∙ ap (λ (texts-so-far : List TestText). texts-so-far ++ texts) (sym added.2))
          (c.loop-path.invariant.gives (added.0 ∷ texts)
          (subst (λ (paths : List (List ℕ)). GiveAll files paths (added.0 ∷ texts)) (sym split) (added.1, later)));
      fails = λ unread later. c.loop-path.invariant.fails unread
          (subst (λ (paths : List (List ℕ)). FailsAmong files paths unread) (sym split) (inr (added.0.text, added.1.1, later)));
    }

-- no path is left
pub returns-clause-ok : goal.returns-clause-ok
returns-clause-ok g c =
    let files : List ℕ → ByteSource = g.F.ReadFiles.source_at c.args.files.now in
    subst (λ (all : List TestText). GiveAll files (map path_of c.args.paths.now) all) (append-nil (map text_in c.loop-path.texts.items))
    (c.loop-path.invariant.gives []
    (subst (λ (left : List (Bor (List ℕ))). GiveAll files (map path_of left) []) (sym (drop_all c.loop-path.path-index c.args.paths.now c.loop-path-test.false)) tt))
