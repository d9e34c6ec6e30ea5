-- A step of the code: the hash of a context's name, used to find its extensions in a table.
use Rattle.std.specs.Prelude.{ℕ, List}
use Rattle.std.specs.Hash.DefaultHasher as sip

-- the hash of a name
unfoldable pub name_hash : List ℕ → ℕ
name_hash name = sip.finish (sip.write sip.initial name)
