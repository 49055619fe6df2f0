-- What a contract sees of a token.
use Rattle.std.specs.Prelude.{ℕ}

-- A token has the host and the port whose it is, and its number there.
pub record Token : Type 0 where
  pub host : ℕ
  pub port : ℕ
  pub number : ℕ

-- the token of a number
abbrev pub token_at : ℕ → ℕ → ℕ → Token
token_at host port number = record { host = host; port = port; number = number }
