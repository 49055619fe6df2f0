-- The word of a call names it; so a refusal and a token that it took are what the values of their rows mean.
use Rattle.std.proofs.Common.{◌≡◌, ℕ, List, [], ◌∷◌, true, drop, Option, Some, None, option_map, refl, ap, sym, ◌∙◌}
use Rattle.net_defs.specs.Network.{empty_network}
use Rattle.port_ledgers.specs.declared.lane.PortName.{PortName}
use Rattle.run_defs.specs.declared.line.ClientCall.{ClientCall}
use Rattle.run_defs.specs.declared.line.ClientCall.TheVariants.{Begin, Close, Provide, Send, Poll, Tokens}
use Rattle.run_defs.specs.LineRows.{call_word}
use Rattle.line_table.specs.declared.kind.LineKind.TheVariants.{CallToken, CallRefused}
use Rattle.line_table.specs.Form.{Slot, Of, OneOf, Word, Number}
use Rattle.line_table.specs.Matching.{is_among, where_so, onto}
use Rattle.line_table.specs.Said.{value_said}
use Rattle.line_table.specs.Table.{form_of}
use Rattle.report_lines.specs.Lines.{said_as}
use Rattle.report_lines.specs.Meaning.{call_named, refused_for, token_of, where_known}
use Rattle.report_lines.specs.Reading.{before, call_rest, call_values}

named : (call : ClientCall) → call_named (call_word call) ≡ Some call
named Begin = refl
named Close = refl
named Provide = refl
named Send = refl
named Poll = refl
named Tokens = refl

-- the words of which the first may be one
abbrev one_of : List Slot → List (List ℕ)
one_of (Of (OneOf ws) ∷ ss) = ws
one_of ss = []

-- the causes that count nothing
abbrev pub all_causes : List (List ℕ)
all_causes = one_of (drop 4 (form_of CallRefused))

pub refusal_read : (call : ClientCall) (a : PortName) (cause : List ℕ) → is_among all_causes cause ≡ true
    → refused_for call a cause ≡ call_rest empty_network call a (CallRefused ∷ []) 4 (cause ∷ [])
refusal_read call a cause e =
    ap (λ o. where_known CallRefused o a (Word cause ∷ [])) (sym (named call))
    ∙ ap (λ t. said_as None CallRefused (before (call_values call a) (onto (where_so t cause) (Some []))) None) (sym e)

pub token_read : (call : ClientCall) (a : PortName) (w : List ℕ) (token : ℕ) → value_said w ≡ Some token
    → token_of call a token ≡ call_rest empty_network call a (CallToken ∷ []) 4 (w ∷ [])
token_read call a w token e =
    ap (λ o. where_known CallToken o a (Number token ∷ [])) (sym (named call))
    ∙ ap (λ (o : Option ℕ). said_as None CallToken (before (call_values call a) (onto (option_map Number o) (Some []))) None) (sym e)
