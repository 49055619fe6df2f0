-- Messages in order, wherever they lie.
use Rattle.std.specs.Prelude.{◌<◌, List, [], vec_len, vec_capacity}
use Rattle.gm_defs.specs.declared.message.Message.{Message}
use Rattle.gm_conn.specs.declared.message_list.MessageList.{MessageList}
use Rattle.gm_conn.specs.declared.message_list.MessageList.TheVariants.{None, One, Many}

-- none, the one alone, or those of the list
abbrev pub messages_in : MessageList → List Message
messages_in None = []
messages_in (One one) = one
messages_in (Many list) = list.items

-- there is room for one more
abbrev pub HasRoom : MessageList → Type 0
HasRoom None = Unit {0}
HasRoom (One one) = ⊥
HasRoom (Many list) = vec_len list < vec_capacity list

-- one stands alone
abbrev pub IsOne : MessageList → Type 0
IsOne None = ⊥
IsOne (One one) = Unit {0}
IsOne (Many list) = ⊥
