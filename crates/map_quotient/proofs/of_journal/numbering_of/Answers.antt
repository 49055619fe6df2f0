use Rattle.std.proofs.Common.{◌∙◌, List, sym, subst}
use Rattle.net_defs.specs.Network.{Apart}
use Rattle.journal_defs.specs.Tree.{Node}
use Rattle.replicate_merge.proofs.Nodes.{nodes-apart}
use Rattle.map_quotient.proofs.Whole.{few-nodes, few-in-table}
use Rattle.map_quotient.proofs.of_journal.numbering_of.Goals as goal

pub node_order-requires : goal.node_order-requires
node_order-requires c = few-nodes c.args.j.now.entries c.walks-walks.result.now (c.walks-walks.ensures ∙ c.requires.classes.numbered) c.requires.few

pub numbered-requires-clause-few : goal.numbered-requires-clause-few
numbered-requires-clause-few c = few-in-table c.args.j.now.entries c.walks-walks.result.now c.args.c.now.nodes (c.walks-walks.ensures ∙ c.requires.classes.numbered) c.requires.classes.numbered c.requires.few

pub numbered-requires-clause-once : goal.numbered-requires-clause-once
numbered-requires-clause-once c = subst (λ (ns : List Node). Apart ns) (sym c.requires.classes.numbered) (nodes-apart c.args.j.now.entries c.entries-once.ensures.once)
