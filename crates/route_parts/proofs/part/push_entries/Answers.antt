use Rattle.std.proofs.Common.{◌++◌, List, ℕ, take, ap, sym, ◌∙◌, append_assoc}
use Rattle.std.specs.Int.{w16, to_be_bytes}
use Rattle.world_defs.specs.Mapping.{entry_bytes, route_bytes}
use Rattle.route_parts.proofs.Entries.{bytes-more}
use Rattle.route_parts.proofs.part.push_entries.Goals as goal

pub loop-entry-preserved : goal.loop-entry-preserved
loop-entry-preserved c =
    let es = c.args.entries.now in
    let at = c.loop-entry.entry-index in
    let e = c.entry-item.result in
    let more = to_be_bytes w16 e.to ++ route_bytes e.walk in
    c.in_ok-push_entry.ensures
    ∙ ap (λ (l : List ℕ). l ++ more) c.loop-entry.invariant
    ∙ append_assoc c.push.new.self.items (entry_bytes (take at es)) more
    ∙ ap (λ (l : List ℕ). c.push.new.self.items ++ l) (sym (bytes-more es at e c.loop-entry-test.true c.entry-item.is))
