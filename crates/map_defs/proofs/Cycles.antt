-- Ranks leave no cycle.
use Rattle.std.proofs.Common.{◌≡◌, ◌<◌, ℕ, List, Some, sym, ◌∙◌, arith}
use Rattle.map_defs.specs.declared.rank.RankEntry.{RankEntry}
use Rattle.net_defs.proofs.Cycles.{no_cycle-rising}
use Rattle.map_defs.specs.NetMap.{MapPort}
use Rattle.net_defs.specs.Dependencies.{Chain, HasNoCycle, IsBefore}
use Rattle.map_defs.specs.Ranks.{Rises}
use Rattle.net_defs.specs.Dependencies.Chain.{one, more}
use Rattle.map_defs.specs.Laws.{CertificateLeavesNoCycle, RisingLeavesNoCycle}

pub rising_leaves_no_cycle : RisingLeavesNoCycle
rising_leaves_no_cycle routes rank rises = no_cycle-rising (IsBefore routes) rank rises

rises-trans : (ranks : List RankEntry) (c d e : MapPort) → Rises ranks c d → Rises ranks d e → Rises ranks c e
rises-trans ranks c d e r s =
    let same : r.high ≡ s.low = (let two : Some r.high ≡ Some s.low = sym r.is_high ∙ s.is_low in cc) in
    record { low = r.low; high = s.high; is_low = r.is_low; is_high = s.is_high; rises = (let a = r.rises in let b = s.rises in omega arith) }

pub chain-rank : (Before : MapPort → MapPort → Type 0) (ranks : List RankEntry) (c d : MapPort) → ((a b : MapPort) → Before a b → Rises ranks a b) → Chain Before c d → Rises ranks c d
chain-rank Before ranks c d rises (one b) = rises c d b
chain-rank Before ranks c d rises (more {d = m} b rest) = rises-trans ranks c m d (rises c m b) (chain-rank Before ranks m d rises rest)

not_above_itself : (ranks : List RankEntry) (c : MapPort) → ¬ Rises ranks c c
not_above_itself ranks c r =
    let same : r.low ≡ r.high = (let two : Some r.low ≡ Some r.high = sym r.is_low ∙ r.is_high in cc) in
    let above = r.rises in
    omega arith

pub certificate_leaves_no_cycle : CertificateLeavesNoCycle
certificate_leaves_no_cycle m routes ranks k c around = not_above_itself ranks c (chain-rank _ ranks c c k.rising around)
