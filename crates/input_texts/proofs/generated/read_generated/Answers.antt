use Rattle.std.proofs.Common.{◌∙◌}
use Rattle.input_texts.proofs.Refusing.{never-refused}
use Rattle.input_texts.proofs.generated.read_generated.Goals as goal

pub unreachable-requires : goal.unreachable-requires
unreachable-requires c =
    never-refused c.args.n c.args.seed c.deref.result.now c.read_text.result c.in-Err-At.field-0 c.in-Err-At.field-0-0 c.in-Err-At.field-0-1 c.requires.some c.requires.few
    (c.deref.ensures.value ∙ c.in_ok-text.ensures.text) c.read_text.ensures.reading c.in-Err-At.is c.in-Err-At.field-0-is
