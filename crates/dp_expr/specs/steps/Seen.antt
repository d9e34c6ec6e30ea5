-- A step of the code: its tokens in terms of definitions. They are those of `tokens_of` of Tokens.
use Rattle.std.specs.Prelude.{◌≡◌, ℕ, ◌<◌, false, List, [], ◌∷◌, length, ⊤}
use Rattle.dp_expr.specs.declared.token.Token.{Token as BorrowedToken}
use Rattle.dp_expr.specs.declared.token.Token.TheVariants as borrowed
use Rattle.dp_expr.specs.declared.token.TokenCut.{TokenCut as BorrowedCut}
use Rattle.dp_expr.specs.Tokens.{TokenOf, Operand, Sign, Bang, Opening, Closing, Stray, Cut, is_blank, tokens_of}

-- a token, with the bytes that it borrows
abbrev pub token_seen : BorrowedToken → TokenOf
token_seen (borrowed.Operand bytes) = Operand bytes.now
token_seen (borrowed.Sign operator) = Sign operator
token_seen borrowed.Bang = Bang
token_seen borrowed.Opening = Opening
token_seen borrowed.Closing = Closing
token_seen borrowed.Stray = Stray

-- a cut, with its token
abbrev pub cut_seen : BorrowedCut → Cut
cut_seen cut = record { token = token_seen cut.token; more = cut.more }

-- the text is empty, or does not begin with a blank
abbrev pub IsStart : List ℕ → Type 0
IsStart [] = ⊤
IsStart (b ∷ bytes) = is_blank b ≡ false

-- the token is the first of the text, and the rest, which is shorter, has the others
pub record IsNext (text : List ℕ) (token : TokenOf) (rest : List ℕ) : Type 0 where
  pub tokens : tokens_of text ≡ token ∷ tokens_of rest
  pub shorter : length rest < length text
