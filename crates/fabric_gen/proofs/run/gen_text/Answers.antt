use Rattle.std.proofs.Common.{◌≡◌, ◌≤◌, ℕ, List, [], ◌++◌, ◌∙◌, ap, sym, subst, length}
use Rattle.fabric_gen.specs.Text.{lines_text, fabric_lines, mapping_lines, client_lines, closing_lines, gen_text}
use Rattle.fabric_gen.proofs.Lengths.{text-short}
use Rattle.fabric_gen.proofs.Lines.{lines_written}
use Rattle.fabric_gen.proofs.run.gen_text.Goals as goal

pub returns : goal.returns
returns c =
    let n = c.args.n in
    let seed = c.args.seed in
    let items = c.append_closing.new.text.items in
    let whole : items ≡ gen_text n seed =
    lines_written [] c.append_fabric.new.text.items items (fabric_lines n) (mapping_lines n ++ (client_lines n seed ++ closing_lines n))
    (c.in_ok-append_fabric.ensures ∙ ap (λ t. t ++ lines_text (fabric_lines n)) c.new-text.ensures.items)
    (lines_written c.append_fabric.new.text.items c.append_mapping.new.text.items items (mapping_lines n) (client_lines n seed ++ closing_lines n)
    c.in_ok-append_mapping.ensures
    (lines_written c.append_mapping.new.text.items c.append_clients.new.text.items items (client_lines n seed) (closing_lines n)
    c.in_ok-append_clients.ensures c.in_ok-append_closing.ensures)) in
    record { text = whole; short = subst (λ (t : List ℕ). length t ≤ 65536) (sym whole) (text-short n seed c.requires.some c.requires.few) }
