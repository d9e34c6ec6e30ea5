-- Where `DISA`, `Directory` and the applications of voice mail may lead a call in a real exchange.
use Rattle.std.specs.Prelude.{List, [], ◌∷◌, ◌++◌, codes, if◌then◌else◌}
use Rattle.dp_pieces.specs.Bytes.{Bytes}
use Rattle.dp_pieces.specs.Pieces.{PieceOf, any_bytes_of, bytes_in, exactly}
use Rattle.dp_reach.specs.Areas.{Area, area_at, beside, may_be_empty}
use Rattle.dp_reach.specs.Bounds.{Duties, Duty, Leads}
use Rattle.dp_wide_duties.specs.Arguments.{argument}

-- the bytes that a phone can dial
abbrev pub dialled_bytes : Bytes
dialled_bytes = bytes_in (codes "0123456789*#ABCD")

-- the bytes of the names of mailboxes
abbrev pub mailbox_bytes : Bytes
mailbox_bytes = bytes_in (codes "0123456789*#ABCDEFGHIJKLMNOPQRSTUVWXYZabcdefghijklmnopqrstuvwxyz-_.+")

-- any extension with these bytes, in a context that an argument names; an empty one names none
abbrev pub any_in : Bytes → List PieceOf → List Duty
any_in set [] = []
any_in set (piece ∷ pieces) = Leads (area_at (piece ∷ pieces) (any_bytes_of set)) ∷ []

-- the extension for what is not found, in a context that an argument names
abbrev pub invalid_in : List PieceOf → List Duty
invalid_in [] = []
invalid_in (piece ∷ pieces) = Leads (area_at (piece ∷ pieces) (exactly (codes "i"))) ∷ []

-- the duties if an argument is empty
abbrev pub if_empty : List PieceOf → List Duty → List Duty
if_empty pieces duties = if may_be_empty pieces then duties else []

-- what is dialled into a context
abbrev pub dialled_into : List PieceOf → List Duty
dialled_into context = any_in dialled_bytes context ++ invalid_in context

-- the duties of `DISA`: what is dialled into the context of the second argument, or `disa`
abbrev pub disa_owed : List PieceOf → List Duty
disa_owed pieces = dialled_into (argument 1 pieces) ++ if_empty (argument 1 pieces) (dialled_into (exactly (codes "disa")))

-- the mailboxes in the context of the first argument of `Directory`, or `default`
abbrev pub first_listed : List PieceOf → List Duty
first_listed context = any_in mailbox_bytes context ++ if_empty context (any_in mailbox_bytes (exactly (codes "default")))

-- the duties of `Directory`: the mailboxes in the context of the second argument, or of the first
abbrev pub directory_owed : List PieceOf → List Duty
directory_owed pieces = any_in mailbox_bytes (argument 1 pieces) ++ if_empty (argument 1 pieces) (first_listed (argument 0 pieces))

-- the duties of voice mail: the operator and the assistant
abbrev pub mail_owed : Area → List Duty
mail_owed area = Leads (beside area (codes "o")) ∷ Leads (beside area (codes "a")) ∷ []

-- the same as rows of a table
abbrev pub disa_leads : Duties
disa_leads area pieces = disa_owed pieces

abbrev pub directory_leads : Duties
directory_leads area pieces = directory_owed pieces

abbrev pub mail_leads : Duties
mail_leads area pieces = mail_owed area
