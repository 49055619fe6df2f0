use Rattle.std.proofs.Common.{◌≡◌, ◌<◌, ◌-◌, length, take, set, Some, ap, sym, ◌∙◌, subst, arith}
use Rattle.std.specs.Prelude.{slice_get}
use Rattle.std.proofs.lemmas.Option.{slice_get-get_or}
use Rattle.replicate_merge.specs.declared.heads.Head.{Head}
use Rattle.replicate_merge.specs.Heads.{head_at}
use Rattle.replicate_merge.proofs.Numbers.{any-default, no_head}
use Rattle.replicate_merge.proofs.heads.drop_number.Goals as goal

pub index_mut-requires-3 : goal.index_mut-requires-3
index_mut-requires-3 c =
    let names = c.args.names.now.items in
    let name = c.index-name.result.now in
    let n : c.len-last.result ≡ length names = (let e = c.len-last.ensures in let o = c.args.names.now.ok.0 in omega arith) in
    let inside : c.len-last.result - 1 < length names = (let t = c.requires.there in omega arith) in
    let there : slice_get names (c.len-last.result - 1) ≡ Some name = slice_get-get_or names (c.len-last.result - 1) name inside ∙ ap (λ k. Some k) (sym c.index-name.ensures) in
    let below = c.requires.inside (c.len-last.result - 1) name there in
    let o = c.args.heads.now.ok.0 in
    omega arith

pub returns : goal.returns
returns c =
    let names = c.args.names.now.items in
    let marks = c.args.marks.now.items in
    let hs = c.args.heads.now.items in
    let name = c.index-name.result.now in
    let n : c.len-last.result ≡ length names = (let e = c.len-last.ensures in let o = c.args.names.now.ok.0 in omega arith) in
    let inside : c.len-last.result - 1 < length names = (let t = c.requires.there in omega arith) in
    let inside_marks : c.len-last.result - 1 < length marks = (let t = c.requires.marked in omega arith) in
    let there : slice_get names (c.len-last.result - 1) ≡ Some name = slice_get-get_or names (c.len-last.result - 1) name inside ∙ ap (λ k. Some k) (sym c.index-name.ensures) in
    let there_mark : slice_get marks (c.len-last.result - 1) ≡ Some c.index-mark.result.now = slice_get-get_or marks (c.len-last.result - 1) c.index-mark.result.now inside_marks ∙ ap (λ k. Some k) (sym c.index-mark.ensures) in
    let below = c.requires.inside (c.len-last.result - 1) name there in
    let head : c.index_mut-3.result.now ≡ head_at hs name = c.index_mut-3.ensures.value ∙ any-default hs name c.index_mut-3.result.now no_head below in
    record {
      last = name;
      last_is = subst (λ k. slice_get names (k - 1) ≡ Some name) n there;
      names_are = c.truncate.ensures.items ∙ ap (λ k. take (k - 1) (set names c.args.number name)) n;
      mark = c.index-mark.result.now;
      mark_is = subst (λ k. slice_get marks (k - 1) ≡ Some c.index-mark.result.now) n there_mark;
      marks_are = c.truncate-2.ensures.items ∙ ap (λ k. take (k - 1) (set marks c.args.number c.index-mark.result.now)) n;
      heads_are = ap (λ (h : Head). set hs name (record h { number = c.args.number })) head;
    }
