use Rattle.std.proofs.Common.{◌∙◌}
use Rattle.dp_trie.specs.Asked.{wants}
use Rattle.dp_trie.proofs.PlainLemmas.{own-wanted}
use Rattle.dp_trie.proofs.plain.find_own.Goals as goal

pub returns : goal.returns
returns c = c.first_wanted.ensures ∙ own-wanted c.args.held.now (wants c.args.question) c.args.plain.now
