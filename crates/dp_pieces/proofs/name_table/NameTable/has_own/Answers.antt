use Rattle.std.proofs.Common.{◌≡◌, ℕ, ◌<◌, List, Some, slice_get, length, ap, arith, ◌∙◌, subst}
use Rattle.std.specs.Global.{Vec}
use Rattle.std.proofs.lemmas.Option.{slice_get_within}
use Rattle.dp_pieces.specs.Bytes.{IsPart}
use Rattle.dp_pieces.specs.Sets.{set_by}
use Rattle.dp_pieces.specs.Tables.{Entries, Table}
use Rattle.dp_pieces.proofs.NameTableLemmas.{own-part}
use Rattle.dp_pieces.proofs.name_table.NameTable.has_own.Goals as goal

pub returns : goal.returns
returns c = λ yes.
    let entries : c.as_slice-entries.result ≡ c.args.self.now.own = c.as_slice-entries.ensures.entries ∙ ap (λ (t : Table). t.own) c.self.view_is in
    own-part c.args.self.now.own (set_by c.args.self.now.all) (subst (λ (own : Entries). (k : ℕ) (entry : Vec ℕ × List ℕ) → slice_get own k ≡ Some entry → IsPart (set_by entry.1) (set_by c.args.self.now.all)) entries (λ k entry there.
    let within : k < length c.as_slice-entries.result = slice_get_within c.as_slice-entries.result k entry there in
    let below : k < c.loop-at.at = omega (arith, within, c.loop-at-test.false, c.len-at-end.ensures) in
    c.loop-at.invariant k entry below there))
