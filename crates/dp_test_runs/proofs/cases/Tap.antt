-- Results as text, row by row.
use Rattle.std.proofs.Common.{◌≡◌, [], ◌∷◌, ◌++◌, codes, refl}
use Rattle.std.specs.List.{flat_map}
use Rattle.dp_test_runs.specs.Tap.{block_text, line_of, name_byte, quoted_text}

quotes : quoted_text (codes "it's") ≡ codes "'it''s'"
quotes = refl

marks : flat_map name_byte (codes "a #1 \\ b") ≡ codes "a \\#1 \\\\ b"
marks = refl

block : block_text (record { at = codes "a.test:4"; expected = codes "1 ended"; got = codes "pause"; trace = codes "Wait(5)" ∷ [] })
    ≡ line_of (codes "  ---") ++ line_of (codes "  at: 'a.test:4'") ++ line_of (codes "  expected: '1 ended'")
    ++ line_of (codes "  got: 'pause'") ++ line_of (codes "  trace:") ++ line_of (codes "    - 'Wait(5)'") ++ line_of (codes "  ...")
block = refl

no_trace : block_text (record { at = codes "a:4"; expected = codes "x"; got = []; trace = [] })
    ≡ line_of (codes "  ---") ++ line_of (codes "  at: 'a:4'") ++ line_of (codes "  expected: 'x'") ++ line_of (codes "  got: ''")
    ++ line_of (codes "  trace: []") ++ line_of (codes "  ...")
no_trace = refl
