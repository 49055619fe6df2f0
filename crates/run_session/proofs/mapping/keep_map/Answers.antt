use Rattle.run_session.proofs.Keeping.{kept_last}
use Rattle.run_session.proofs.mapping.keep_map.Goals as goal

pub returns-clause-kept : goal.returns-clause-kept
returns-clause-kept c = kept_last c.args.w.now.links.cables c.args.host c.args.mapping.made.words c.args.mapping.made.map c.args.mapping.began c.requires.past c.requires.right
