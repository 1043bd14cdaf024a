-- What an entry tells by its words: whether its step cleans a thread, makes a server, or is the second of a `send`, and whether a holder is a handle.
use Rattle.std.specs.Prelude.{Bool, true, false, ◌&&◌}
use Rattle.sym_base.specs.declared.word.Word.{Word}
use Rattle.sym_base.specs.declared.word.Word.TheVariants as word
use Rattle.entry_log.specs.declared.effect.Holder.{Holder}
use Rattle.entry_log.specs.declared.effect.Holder.TheVariants.{InProcess, InThread}
use Rattle.entry_log.specs.declared.step.Part.{Part}
use Rattle.entry_log.specs.declared.step.Part.TheVariants as part
use Rattle.entry_log.specs.declared.step.Step.{Step}
use Rattle.entry_log.specs.declared.step.Step.TheVariants as step

-- a thread is cleaned in a step of its own
abbrev pub is_clean : Step → Bool
is_clean step.Clean = true
is_clean _ = false

-- whether a part is the second
abbrev pub is_do : Part → Bool
is_do part.Do = true
is_do _ = false

abbrev pub is_server_word : Word → Bool
is_server_word word.Server = true
is_server_word _ = false

abbrev pub is_send_word : Word → Bool
is_send_word word.Send = true
is_send_word _ = false

-- whether a step makes a server
abbrev pub makes_server : Step → Bool
makes_server (step.Of word part) = is_do part && is_server_word word
makes_server _ = false

-- whether a step is the second of a `send`
abbrev pub is_send : Step → Bool
is_send (step.Of word part) = is_do part && is_send_word word
is_send _ = false

-- whether a holder is a place in the table of a process or of a thread
abbrev pub is_handle : Holder → Bool
is_handle (InProcess p i) = true
is_handle (InThread t i) = true
is_handle _ = false
