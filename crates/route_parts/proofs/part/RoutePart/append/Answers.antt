use Rattle.std.proofs.Common.{◌≡◌, rules}
use Rattle.std.proofs.lemmas.Result.{on_ok_weaker}
use Rattle.route_parts.proofs.Appended.{appended}
use Rattle.route_parts.proofs.part.RoutePart.append.Goals as goal

pub returns : goal.returns
returns c =
    let walk : c.turns.result.now ≡ c.args.self.now.back = search rules in
    let entries : c.list.result.now ≡ c.args.self.now.entries = search rules in
    on_ok_weaker c.push_entries.result
    (appended c.args.bytes.now.items c.args.self.now c.turns.result.now c.list.result.now walk entries c.in_ok-append_numbers.ensures c.in_ok-push_route.ensures)
    c.push_entries.ensures
