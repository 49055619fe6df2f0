-- Messages that are polled, lost and got anew, worked out.
use Rattle.std.specs.Prelude.{◌≡◌, ℕ, List, [], ◌∷◌, ◌++◌}
use Rattle.duo_defs.specs.declared.event.DuoEvent.{DuoEvent}
use Rattle.duo_defs.specs.declared.event.DuoEvent.TheVariants.{Send, Provide, Emit, Deliver, Poll, Restart}
use Rattle.duo_defs.specs.Duo.{plain_message, new_duo, end_at}
use Rattle.duo_defs.specs.Step.{after_all}
use Rattle.duo_laws.specs.Polled.{effects_of, handed_in, waiting_of, lost_in, all_got}

-- both ends hear of each other; end 0 sends 65 and then 66, and both come; end 1 polls the first, and restarts
abbrev pub two_messages : List DuoEvent
two_messages =
    Provide 1 4 ∷ Provide 1 4 ∷ Emit 0 ∷ Deliver 0 ∷ Emit 1 ∷ Deliver 1 ∷ Send 0 1 65 ∷ Send 0 1 66 ∷ Emit 0 ∷ Deliver 2
    ∷ Emit 0
    ∷ Deliver 3
    ∷ Poll 1
    ∷ []

-- both hear of each other again, and end 0 sends 67, which comes, and waits
abbrev pub after_a_restart : List DuoEvent
after_a_restart =
    two_messages
    ++ Restart 1 ∷ Provide 1 4 ∷ Emit 1 ∷ Deliver 4 ∷ Emit 0 ∷ Deliver 5 ∷ Send 0 1 67 ∷ Emit 0 ∷ Deliver 6 ∷ []

-- what polls handed to end 1 as incarnation j, what restarts took from it, and what waits for it
abbrev pub handed_to : List DuoEvent → ℕ → List (List ℕ)
handed_to es j = handed_in 1 j 1 es (effects_of (new_duo 1) es)

abbrev pub taken_from : List DuoEvent → ℕ → List (List ℕ)
taken_from es j = lost_in 1 j (new_duo 1) es

abbrev pub waits_for : List DuoEvent → ℕ → List (List ℕ)
waits_for es j = waiting_of (end_at (after_all (new_duo 1) es) 1) j

-- before the restart, the first message was polled, and the second waits
abbrev pub OneIsPolledAndOneWaits : Type 0
OneIsPolledAndOneWaits =
    (handed_to two_messages 1 ≡ (65 ∷ []) ∷ [])
    × (taken_from two_messages 1 ≡ [])
    × (waits_for two_messages 1 ≡ (66 ∷ []) ∷ [])
    × (all_got (after_all (new_duo 1) two_messages) 1 1 ≡ plain_message (65 ∷ []) ∷ plain_message (66 ∷ []) ∷ [])

-- the restart takes the second one; the next incarnation gets the third message alone
abbrev pub RestartTakesWhatWaits : Type 0
RestartTakesWhatWaits =
    (handed_to after_a_restart 1 ≡ (65 ∷ []) ∷ [])
    × (taken_from after_a_restart 1 ≡ (66 ∷ []) ∷ [])
    × (waits_for after_a_restart 1 ≡ [])
    × (all_got (after_all (new_duo 1) after_a_restart) 1 1 ≡ plain_message (65 ∷ []) ∷ plain_message (66 ∷ []) ∷ [])
    × (handed_to after_a_restart 2 ≡ [])
    × (waits_for after_a_restart 2 ≡ (67 ∷ []) ∷ [])
    × (all_got (after_all (new_duo 1) after_a_restart) 1 2 ≡ plain_message (67 ∷ []) ∷ [])
