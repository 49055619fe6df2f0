-- When a journal tells the truth of a fabric, and where its nodes stand there.
use Rattle.std.specs.Prelude.{◌≡◌, ◌≢◌, ℕ, ℤ, pos, ◌+ℤ◌, List, Option, Some}
use Rattle.std.specs.List.{AllByRecursion}
use Rattle.net_defs.specs.declared.place.Answer.TheVariants.{Nothing}
use Rattle.net_defs.specs.declared.vertex.End.{End}
use Rattle.net_defs.specs.Network.{Network, far}
use Rattle.net_defs.specs.Route.{answer, entered_after, host_port}
use Rattle.journal_defs.specs.declared.entry.Entry.{Entry}
use Rattle.journal_defs.specs.Tree.{Node}
use Rattle.journal_defs.specs.Tree.Node.{Mapper, Reached}

-- every answer is true
abbrev pub IsTrueJournal : Network → ℕ → List Entry → Type 0
IsTrueJournal n host j = AllByRecursion (λ e. e.answer ≡ answer n host e.walk) j

-- every answer is true, or Nothing where a probe may have been lost
abbrev pub IsTrueWhereFound : Network → ℕ → List Entry → Type 0
IsTrueWhereFound n host j = AllByRecursion (λ e. e.answer ≢ Nothing → e.answer ≡ answer n host e.walk) j

-- the vertex at which a node stands, with the port by which it was entered
abbrev pub standing : Network → ℕ → Node → Option End
standing n host Mapper = Some (host_port host)
standing n host (Reached w) = entered_after n (far n (host_port host)) w

-- Two nodes stand at one vertex, the first entered k ports above the second.
pub record StandTogether (n : Network) (host : ℕ) (u v : Node) (k : ℤ) : Type 0 where
  pub at_u : End
  pub at_v : End
  pub is_at_u : standing n host u ≡ Some at_u
  pub is_at_v : standing n host v ≡ Some at_v
  pub one_vertex : at_u.v ≡ at_v.v
  pub apart : pos at_u.p ≡ pos at_v.p +ℤ k
