-- The tokens that clients hold, as the lines tell it, and what the lines may say of them.
use Rattle.std.specs.Prelude.{◌≡◌, ℕ, ◌+◌, ◌<◌, Bool, true, false, ◌&&◌, not, List, [], ◌∷◌, ◌++◌, map, length}
use Rattle.std.specs.Prelude.{nat_eq, nat_lt}
use Rattle.std.specs.Prelude.{if◌then◌else◌, Option, Some, None}
use Rattle.std.specs.Bool.{beq}
use Rattle.std.specs.List.{AllByRecursion, range_with_len}
use Rattle.std.specs.Map.{lookup}
use Rattle.gm_defs.specs.Port.{without_first}
use Rattle.gm_defs.specs.Token.{has_number}
use Rattle.world_defs.specs.Client.{ClientState, new_client}
use Rattle.port_ledgers.specs.declared.lane.PortName.{PortName}
use Rattle.port_ledgers.specs.declared.lane.ToldPlace.{ToldPlace}
use Rattle.port_ledgers.specs.Told.{Told, Opened, Closed, Provided, Accepted, Returned, Received}

-- An open port: how many tokens it has, and those that its client holds.
pub record OpenPort : Type 0 where
  pub sends : ℕ
  pub recvs : ℕ
  pub client : ClientState

-- the same port
abbrev pub is_port : PortName → PortName → Bool
is_port a b = nat_eq a.host b.host && nat_eq a.port b.port

-- the port of which a line tells
abbrev pub port_of : Told → PortName
port_of (Opened a sends recvs) = a
port_of (Closed a count) = a
port_of (Provided a token) = a
port_of (Accepted l m token) = record { host = l.from; port = m.sport }
port_of (Returned a token) = a
port_of (Received l sport body token) = record { host = l.to; port = l.port }

-- the port with other tokens at its client
abbrev pub with_sends : List ℕ → OpenPort → OpenPort
with_sends ts p = record { sends = p.sends; recvs = p.recvs; client = record { sends = ts; recvs = p.client.recvs } }

abbrev pub with_recvs : List ℕ → OpenPort → OpenPort
with_recvs ts p = record { sends = p.sends; recvs = p.recvs; client = record { sends = p.client.sends; recvs = ts } }

-- what a line makes of an open port that it tells of: a token that is used leaves the client's, and one that comes back
-- goes after them
abbrev pub port_by : Told → OpenPort → Option OpenPort
port_by (Opened a sends recvs) p = Some (record { sends = sends; recvs = recvs; client = new_client sends recvs })
port_by (Closed a count) p = None
port_by (Provided a token) p = Some (with_recvs (without_first (nat_eq token) p.client.recvs) p)
port_by (Accepted l m token) p = Some (with_sends (without_first (nat_eq token) p.client.sends) p)
port_by (Returned a token) p = Some (with_sends (p.client.sends ++ token ∷ []) p)
port_by (Received l sport body token) p = Some (with_recvs (p.client.recvs ++ token ∷ []) p)

-- the same of any port: opening it begins it anew, and one that isn't open stays so
abbrev pub port_from : Told → Option OpenPort → Option OpenPort
port_from (Opened a sends recvs) before =
    Some (record { sends = sends; recvs = recvs; client = new_client sends recvs })
port_from t None = None
port_from t (Some p) = port_by t p

-- A port as the lines so far tell it: none where it isn't open.
abbrev pub port_told : PortName → List Told → Option OpenPort
port_told a [] = None
port_told a (t ∷ past) = if is_port (port_of t) a then port_from t (port_told a past) else port_told a past

-- the port has a token, and its client doesn't hold it
abbrev pub IsOut : ℕ → List ℕ → ℕ → Type 0
IsOut count held token = (token < count) × (has_number held token ≡ false)

-- What a line may say of an open port: a token that is used is held; one that comes back isn't; as many come back from
-- a port that is closed as its client doesn't hold.
abbrev pub MayBeSaid : Told → OpenPort → Type 0
MayBeSaid (Opened a sends recvs) p = Unit {0}
MayBeSaid (Closed a count) p = count + length p.client.recvs ≡ p.recvs
MayBeSaid (Provided a token) p = has_number p.client.recvs token ≡ true
MayBeSaid (Accepted l m token) p = has_number p.client.sends token ≡ true
MayBeSaid (Returned a token) p = IsOut p.sends p.client.sends token
MayBeSaid (Received l sport body token) p = IsOut p.recvs p.client.recvs token

-- the same of any port: of one that isn't open only that it opens
abbrev pub MayBeSaidOf : Told → Option OpenPort → Type 0
MayBeSaidOf (Opened a sends recvs) p = Unit {0}
MayBeSaidOf t None = ⊥
MayBeSaidOf t (Some p) = MayBeSaid t p

-- Tokens are right in a line, by the lines before it.
abbrev pub AreTokensRight : List Told → Told → Type 0
AreTokensRight past t = MayBeSaidOf t (port_told (port_of t) past)

-- Each token of a kind is told once, by number, and with the client exactly those that it holds.
pub record ArePlaced (count : ℕ) (held : List ℕ) (told : List ToldPlace) : Type 0 where
  pub numbers : map (λ e. e.number) told ≡ range_with_len 0 count
  pub clients : AllByRecursion (λ e. e.with_client ≡ has_number held e.number) told

-- So it is with both kinds of an open port's tokens.
abbrev pub AreAllPlaced : Option OpenPort → List ToldPlace → List ToldPlace → Type 0
AreAllPlaced None sends recvs = ⊥
AreAllPlaced (Some p) sends recvs = ArePlaced p.sends p.client.sends sends × ArePlaced p.recvs p.client.recvs recvs

-- Each port is kept as the lines tell it.
pub record AreHeld (past : List Told) (q : List (PortName × OpenPort)) : Type 0 where
  pub each : (a : PortName) → lookup (is_port a) q ≡ port_told a past

-- one port is replaced or closed, and the others stay
pub record IsPortPut (before after : List (PortName × OpenPort)) (a : PortName) (p : Option OpenPort) : Type 0 where
  pub each : (b : PortName) → lookup (is_port b) after ≡ (if is_port a b then p else lookup (is_port b) before)

-- a token is out, as a test
abbrev pub is_out : ℕ → List ℕ → ℕ → Bool
is_out count held token = nat_lt token count && not (has_number held token)

-- the tokens once one came back that was out
abbrev pub with_back : ℕ → List ℕ → ℕ → List ℕ
with_back count held token = if is_out count held token then held ++ token ∷ [] else held

-- what may be said of a port, as a test
abbrev pub may_be_said : Told → Option OpenPort → Bool
may_be_said (Opened a sends recvs) p = true
may_be_said (Closed a count) None = false
may_be_said (Closed a count) (Some p) = nat_eq (count + length p.client.recvs) p.recvs
may_be_said (Provided a token) None = false
may_be_said (Provided a token) (Some p) = has_number p.client.recvs token
may_be_said (Accepted l m token) None = false
may_be_said (Accepted l m token) (Some p) = has_number p.client.sends token
may_be_said (Returned a token) None = false
may_be_said (Returned a token) (Some p) = is_out p.sends p.client.sends token
may_be_said (Received l sport body token) None = false
may_be_said (Received l sport body token) (Some p) = is_out p.recvs p.client.recvs token

-- the port of which a line tells, as it is kept
abbrev pub port_for : List (PortName × OpenPort) → Told → Option OpenPort
port_for q t = lookup (is_port (port_of t)) q

-- The ledger was told a line, with this answer: what the line makes of its port is kept where it may be said.
pub record IsToldTo (before after : List (PortName × OpenPort)) (t : Told) (is : Bool) : Type 0 where
  pub said : is ≡ may_be_said t (port_for before t)
  pub put : IsPortPut before after (port_of t) (if is then port_from t (port_for before t) else port_for before t)

-- a token has this number, and is with the client exactly where it is held
abbrev pub is_placed : ℕ → List ℕ → ToldPlace → Bool
is_placed number held e = nat_eq e.number number && beq e.with_client (has_number held e.number)

-- tokens are numbered from here on, and with the client exactly those that are held
abbrev pub are_placed_from : ℕ → List ℕ → List ToldPlace → Bool
are_placed_from number held [] = true
are_placed_from number held (e ∷ es) = is_placed number held e && are_placed_from (number + 1) held es

-- so many tokens are placed, as a test
abbrev pub are_placed : ℕ → List ℕ → List ToldPlace → Bool
are_placed count held told = nat_eq (length told) count && are_placed_from 0 held told

-- both kinds are, as a test
abbrev pub are_all_placed : Option OpenPort → List ToldPlace → List ToldPlace → Bool
are_all_placed None sends recvs = false
are_all_placed (Some p) sends recvs = are_placed p.sends p.client.sends sends && are_placed p.recvs p.client.recvs recvs
