-- Journals for worked examples.
use Rattle.std.specs.Prelude.{ℤ, pos, negsuc, List, [], ◌∷◌, map, if◌then◌else◌}
use Rattle.std.specs.Ordering.{int_eq}
use Rattle.net_defs.specs.declared.place.Answer.{Answer}
use Rattle.net_defs.specs.declared.place.Answer.TheVariants.{Host, Switch, Nothing}
use Rattle.journal_defs.specs.declared.entry.Entry.{Entry}
use Rattle.journal_defs.specs.Walks.{onward_turns}

-- an entry of a journal
abbrev pub told : List ℤ → Answer → Entry
told w a = record { walk = w; answer = a }

-- Two hosts on one cable, mapped from the first.
abbrev pub one_cable_journal : List Entry
one_cable_journal = told [] (Host 1) ∷ []

-- The two cables between switches s and t: both ways on to the second host.
abbrev pub parallel_journal : List Entry
parallel_journal =
    told [] Switch
    ∷ told (pos 1 ∷ []) Switch
    ∷ told (pos 2 ∷ []) Switch
    ∷ told (pos 1 ∷ pos 1 ∷ []) (Host 1)
    ∷ told (pos 2 ∷ negsuc 1 ∷ []) (Host 1)
    ∷ []

-- Two hosts at ports 2 and 5 of one switch: turn 3 alone finds something.
abbrev pub answer_to_turn : ℤ → Answer
answer_to_turn t = if int_eq t (pos 3) then Host 1 else Nothing

-- The whole journal of these, mapped from the first: the switch and its 30 turns.
abbrev pub two_hosts_journal : List Entry
two_hosts_journal = told [] Switch ∷ map (λ t. told (t ∷ []) (answer_to_turn t)) onward_turns
