-- The laws of journals.
use Rattle.std.specs.Prelude.{◌≡◌, ℕ, ℤ, pos, List, Some}
use Rattle.net_defs.specs.declared.vertex.End.{End}
use Rattle.net_defs.specs.Network.{Network, IsFabric, far}
use Rattle.net_defs.specs.Turn.{IsTurn}
use Rattle.journal_defs.specs.declared.entry.Entry.{Entry}
use Rattle.journal_defs.specs.Tree.{Node}
use Rattle.journal_defs.specs.Replicates.{Replicates}
use Rattle.journal_defs.specs.Truth.{IsTrueWhereFound, StandTogether}
use Rattle.journal_defs.specs.Growth.{NextAsk, IsEndedByDepth}

-- a cable's far end goes both ways
abbrev pub FarEndGoesBothWays : Type 0
FarEndGoesBothWays = (n : Network) (d e : End) → IsFabric n → far n d ≡ Some e → far n e ≡ Some d

-- Over answers that are true of one fabric, replicates stand at one host, or at one switch with entry ports k apart.
abbrev pub ReplicatesStandTogether : Type 0
ReplicatesStandTogether = (n : Network) (host : ℕ) (j : List Entry) (u v : Node) (k : ℤ) → IsFabric n
    → IsTrueWhereFound n host j → Replicates host j u v k → StandTogether n host u v k

-- so an offset is from -15 to 15
abbrev pub OffsetsAreTurns : Type 0
OffsetsAreTurns = (n : Network) (host : ℕ) (j : List Entry) (u v : Node) (k : ℤ) → IsFabric n
    → IsTrueWhereFound n host j → Replicates host j u v k → IsTurn k

-- two nodes are replicates by one offset at most
abbrev pub OffsetIsUnique : Type 0
OffsetIsUnique = (n : Network) (host : ℕ) (j : List Entry) (u v : Node) (k l : ℤ) → IsFabric n
    → IsTrueWhereFound n host j → Replicates host j u v k → Replicates host j u v l → k ≡ l

-- and a node is a replicate of itself by 0 alone
abbrev pub OwnOffsetIsZero : Type 0
OwnOffsetIsZero = (n : Network) (host : ℕ) (j : List Entry) (u : Node) (k : ℤ) → IsFabric n
    → IsTrueWhereFound n host j → Replicates host j u u k → k ≡ pos 0

-- a journal has one next ask at most
abbrev pub NextAskIsUnique : Type 0
NextAskIsUnique = (host depth : ℕ) (j : List Entry) (x y : List ℤ) → NextAsk host depth j x → NextAsk host depth j y
    → x ≡ y

-- and none once its growth has ended by its depth
abbrev pub NoAskAtTheEnd : Type 0
NoAskAtTheEnd = (host depth : ℕ) (j : List Entry) (x : List ℤ) → NextAsk host depth j x → ¬ IsEndedByDepth host depth j
